-- Lists of tokens with their hide sets, put together and taken apart.
use Rattle.std.proofs.Common.{◌≡◌, sym, ◌∙◌, ap, subst, refl, ℕ, ◌≤◌, Bool, ◌||◌, List, [], ◌∷◌, ◌++◌, map, length, append_assoc}
use Rattle.std.specs.Prelude.{Some}
use Rattle.std.proofs.lemmas.List.{map-append}
use Rattle.std.proofs.lemmas.List.Elements.{All-nil, All-cons, All-append, All-pop}
use Rattle.hide_sets.specs.Sets.{Sets, IsSet, hides_of, Extends, Makes}
use Rattle.hide_sets.proofs.Growing.{Extends-itself, Extends-on, hides_of-Extends}
use Rattle.scan_model.specs.Substitution as spec
use Rattle.scan_model.specs.Expansion.{hidden_by}
use Rattle.substitution.specs.declared.marked.Marked.{Marked}
use Rattle.substitution.specs.Meaning.{marked_of, all_marked_of, IsMarked, AreMarked}
use Rattle.substitution.proofs.MeaningLemmas.{all_marked_of-Extends, AreMarked-Extends}
use Rattle.list_stack.specs.declared.entry.Entry.{Entry}
use Rattle.list_stack.specs.Places.{part, AreLinked, Adds, AddsHidden}
use Rattle.list_stack.specs.Stacks.{PutsBefore}
use Rattle.list_stack.proofs.EntryLemmas.{Adds-none, Adds-on, Adds-part}

-- ## A list put before another, token by token from its end

pub record Putting (sets sets' : Sets) (added : ℕ) (list old rest now : List Marked) : Type 0 where
  pub extended : Extends sets sets'
  pub rest_known : AreMarked sets rest
  pub known : AreMarked sets' now
  pub whole : map (hidden_by (hides_of sets added)) (all_marked_of sets rest) ++ all_marked_of sets' now
      ≡ map (hidden_by (hides_of sets added)) (all_marked_of sets list) ++ all_marked_of sets old

pub putting-start : (sets : Sets) (added : ℕ) (list rest old now : List Marked) → AreMarked sets list → AreMarked sets old → rest ≡ list → now ≡ old → Putting sets sets added list old rest now
putting-start sets added list rest old now l o e n = record {
  extended = Extends-itself sets;
  rest_known = subst (AreMarked sets) (sym e) l;
  known = subst (AreMarked sets) (sym n) o;
  whole = ap (λ (x : List Marked). map (hidden_by (hides_of sets added)) (all_marked_of sets x) ++ all_marked_of sets now) e
      ∙ ap (λ (x : List Marked). map (hidden_by (hides_of sets added)) (all_marked_of sets list) ++ all_marked_of sets x) n;
}

hidden-push : (sets : Sets) (added : ℕ) (rest : List Marked) (m : Marked) →
    map (hidden_by (hides_of sets added)) (all_marked_of sets (rest ++ m ∷ [])) ≡ map (hidden_by (hides_of sets added)) (all_marked_of sets rest) ++ hidden_by (hides_of sets added) (marked_of sets m) ∷ []
hidden-push sets added rest m =
    ap (map (hidden_by (hides_of sets added))) (map-append (marked_of sets) rest (m ∷ []))
    ∙ map-append (hidden_by (hides_of sets added)) (all_marked_of sets rest) (marked_of sets m ∷ [])

-- the names that the token hides with the added ones
hidden-made : (sets sets' sets'' : Sets) (added set : ℕ) (m : Marked) → Extends sets sets' → IsSet sets added → IsMarked sets m →
    Makes sets' sets'' (λ name. hides_of sets' m.hides name || hides_of sets' added name) set →
    marked_of sets'' (record m { hides = set }) ≡ hidden_by (hides_of sets added) (marked_of sets m)
hidden-made sets sets' sets'' added set m x a k made =
    let with_hides : (List ℕ → Bool) → spec.Marked = λ (h : List ℕ → Bool). record { tok = m.tok; hides = h } in
    ap with_hides (made.meant
    ∙ ap (λ (f : List ℕ → Bool). λ (name : List ℕ). f name || hides_of sets' added name) (hides_of-Extends sets sets' m.hides x k)
    ∙ ap (λ (f : List ℕ → Bool). λ (name : List ℕ). hides_of sets m.hides name || f name) (hides_of-Extends sets sets' added x a))

pub putting-next : (sets sets' sets'' : Sets) (added set : ℕ) (list old rest rest' now now' : List Marked) (m : Marked) →
    rest ≡ rest' ++ m ∷ [] → now' ≡ record m { hides = set } ∷ now → IsSet sets added →
    Makes sets' sets'' (λ name. hides_of sets' m.hides name || hides_of sets' added name) set →
    Putting sets sets' added list old rest now → Putting sets sets'' added list old rest' now'
putting-next sets sets' sets'' added set list old rest rest' now now' m e n a made p =
    let split = All-pop (IsMarked sets) rest rest' (Some m) e p.rest_known in
    let hides = hides_of sets added in
    record {
      extended = Extends-on sets sets' sets'' p.extended made.extended;
      rest_known = split.0;
      known = subst (AreMarked sets'') (sym n) (All-cons (IsMarked sets'') (record m { hides = set }) now made.is_set (AreMarked-Extends sets' sets'' now made.extended p.known));
      whole = ap (λ (x : List Marked). map (hidden_by hides) (all_marked_of sets rest') ++ all_marked_of sets'' x) n
          ∙ ap (λ (x : spec.Marked). map (hidden_by hides) (all_marked_of sets rest') ++ x ∷ all_marked_of sets'' now) (hidden-made sets sets' sets'' added set m p.extended a split.1 made)
          ∙ ap (λ (x : List spec.Marked). map (hidden_by hides) (all_marked_of sets rest') ++ hidden_by hides (marked_of sets m) ∷ x) (all_marked_of-Extends sets' sets'' now made.extended p.known)
          ∙ sym (append_assoc (map (hidden_by hides) (all_marked_of sets rest')) (hidden_by hides (marked_of sets m) ∷ []) (all_marked_of sets' now))
          ∙ ap (λ (x : List spec.Marked). x ++ all_marked_of sets' now) (sym (hidden-push sets added rest' m))
          ∙ ap (λ (x : List Marked). map (hidden_by hides) (all_marked_of sets x) ++ all_marked_of sets' now) (sym e)
          ∙ p.whole;
    }

-- ## The same on top of a stack's entries

pub record Topping (sets sets' : Sets) (added : ℕ) (list rest : List Marked) (old now : List Entry) : Type 0 where
  pub front : List Marked
  pub linked : AreLinked now
  pub adds : Adds old now front
  pub put : Putting sets sets' added list [] rest front

pub topping-start : (sets : Sets) (added : ℕ) (list rest : List Marked) (entries : List Entry) → AreLinked entries → AreMarked sets list → rest ≡ list → Topping sets sets added list rest entries entries
topping-start sets added list rest entries linked known e = record {
  front = [];
  linked = linked;
  adds = Adds-none entries;
  put = putting-start sets added list rest [] [] known (All-nil (IsMarked sets)) e refl;
}

pub topping-next : (sets sets' sets'' : Sets) (added set : ℕ) (list rest rest' : List Marked) (old now now' : List Entry) (m : Marked) →
    rest ≡ rest' ++ m ∷ [] → Adds now now' (record m { hides = set } ∷ []) → AreLinked now' → IsSet sets added →
    Makes sets' sets'' (λ name. hides_of sets' m.hides name || hides_of sets' added name) set →
    Topping sets sets' added list rest old now → Topping sets sets'' added list rest' old now'
topping-next sets sets' sets'' added set list rest rest' old now now' m e adds linked a made t = record {
  front = record m { hides = set } ∷ t.front;
  linked = linked;
  adds = Adds-on old now now' t.front (record m { hides = set }) adds t.adds;
  put = putting-next sets sets' sets'' added set list [] rest rest' t.front (record m { hides = set } ∷ t.front) m e refl a made t.put;
}

pub puts-before : (sets sets' : Sets) (added : List ℕ → Bool) (list : List Marked) (old new : List Entry) (from : ℕ) → from ≤ length old → Extends sets sets' → AreMarked sets (part from (length old) old) → AddsHidden sets sets' added list old new →
    PutsBefore sets sets' added list (part from (length old) old) (part from (length new) new)
puts-before sets sets' added list old new from l x k a =
    let rest = part from (length old) old in
    let parts = Adds-part old new a.front from l a.adds in
    record {
      known = subst (AreMarked sets') (sym parts) (All-append (IsMarked sets') a.front rest a.known (AreMarked-Extends sets sets' rest x k));
      meant = ap (all_marked_of sets') parts ∙ map-append (marked_of sets') a.front rest
          ∙ ap (λ (xs : List spec.Marked). xs ++ all_marked_of sets' rest) a.meant
          ∙ ap (λ (xs : List spec.Marked). map (hidden_by added) (all_marked_of sets list) ++ xs) (all_marked_of-Extends sets sets' rest x k);
    }
