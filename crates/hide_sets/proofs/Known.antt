-- A name that no set has, since it isn't known.
use Rattle.std.proofs.Common.{◌≡◌, ◌∙◌, sym, ap, subst, ℕ, zero, suc, ◌<◌, Bool, true, false, List, [], ◌∷◌, ◌++◌, length, get_or, ⊎_elim, arith, refl}
use Rattle.std.specs.List.{All}
use Rattle.std.specs.Cmp.Lexicographic.{bytes_decides}
use Rattle.std.proofs.lemmas.List.Elements.{All-nil, All-head, All-tail, All-get_or, All-push, All-weaker}
use Rattle.std.proofs.lemmas.Bool.{or_left, or_right, or_cases}
use Rattle.scan_model.specs.TokenTests.{same, is_among}
use Rattle.scan_model.specs.Expansion.{also}
use Rattle.scan_model.proofs.LongestLemmas.{pointwise_same}
use Rattle.hide_sets.specs.declared.table.Node.{Node}
use Rattle.hide_sets.specs.Sets.{Sets, names_of, has_name, hides_of}
use Rattle.hide_sets.specs.Nodes.{names_with, sets_from, IsTree, AreKnown}

-- ## A name more

pub known_still : (known now names : List (List ℕ)) (name : List ℕ) → is_among now ≡ also name (is_among known) → AreKnown known names → AreKnown now names
known_still known now names name put are =
    All-weaker (λ n. is_among known n ≡ true) (λ n. is_among now n ≡ true) (λ n h. ap (λ (f : List ℕ → Bool). f n) put ∙ or_left (is_among known n) (same name n) h) names are

pub known_put : (known now names : List (List ℕ)) (name : List ℕ) → is_among now ≡ also name (is_among known) → AreKnown known names → AreKnown now (names ++ name ∷ [])
known_put known now names name put are =
    All-push (λ n. is_among now n ≡ true) names name (known_still known now names name put are)
    (ap (λ (f : List ℕ → Bool). f name) put ∙ or_right (is_among known name) (same name name) ((bytes_decides name name).1 refl))

-- ## The names of sets

module _ (known : List (List ℕ)) where
  -- each name of the set is known
  abbrev HasKnown : List (List ℕ) → Type 0
  HasKnown set = (name : List ℕ) → has_name set name ≡ true → is_among known name ≡ true

  none_known : HasKnown []
  none_known name h = cc

  at_or : (sets : Sets) (k : ℕ) → All HasKnown sets → HasKnown (get_or sets k [])
  at_or [] k all = none_known
  at_or (set ∷ sets) zero all = All-head HasKnown set sets all
  at_or (set ∷ sets) (suc k) all = at_or sets k (All-tail HasKnown set sets all)

  set_known : (sets : Sets) (set : ℕ) → All HasKnown sets → HasKnown (names_of sets set)
  set_known sets zero all = none_known
  set_known sets (suc k) all = at_or sets k all

  one_more : (first : List ℕ) (rest : List (List ℕ)) → is_among known first ≡ true → HasKnown rest → HasKnown (first ∷ rest)
  one_more first rest is all name h = ⊎_elim (all name) (λ e. subst (λ n. is_among known n ≡ true) (pointwise_same first name e) is) (or_cases (has_name rest name) (same first name) h)

  sets_known : (names : List (List ℕ)) (sets : Sets) (nodes : List Node) → AreKnown known names → ((k : ℕ) (d : Node) → k < length nodes → (get_or nodes k d).name < length names) → All HasKnown sets → All HasKnown (sets_from names sets nodes)
  sets_known names sets [] are named all = all
  sets_known names sets (node ∷ nodes) are named all =
      let here : node.name < length names = named 0 node (omega arith) in
      let first = All-get_or (λ n. is_among known n ≡ true) names node.name [] here are in
      sets_known names (sets ++ names_with names sets node ∷ []) nodes are (λ k d l. named (suc k) d (omega arith))
      (All-push HasKnown sets (names_with names sets node) all (one_more (get_or names node.name []) (names_of sets node.parent) first (set_known sets node.parent all)))

unknown_by : (b : Bool) → (b ≡ true → false ≡ true) → b ≡ false
unknown_by true h = sym (h refl)
unknown_by false h = refl

pub unknown_is_hidden_nowhere : (known names : List (List ℕ)) (nodes : List Node) (sets : Sets) (set : ℕ) (name : List ℕ) → IsTree names nodes → AreKnown known names → sets_from names [] nodes ≡ sets → is_among known name ≡ false → hides_of sets set name ≡ false
unknown_is_hidden_nowhere known names nodes sets set name tree are is unknown =
    let all = sets_known known names [] nodes are tree.named (All-nil (HasKnown known)) in
    let has = set_known known (sets_from names [] nodes) set all name in
    unknown_by (hides_of sets set name) (λ h. sym unknown ∙ has (ap (λ (s : Sets). hides_of s set name) is ∙ h))
