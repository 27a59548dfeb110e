-- Distinct names, one after another.
use Rattle.std.proofs.Common.{◌≡◌, ℕ, Bool, true, false, cond, List, [], ◌∷◌, ◌++◌, refl, sym, ap, ◌∙◌, inl, inr, ◌||◌, ◌+◌, ◌<◌, zero, suc, length, take, get_or, arith}
use Rattle.std.specs.Prelude.{not, ◌&&◌}
use Rattle.std.specs.Borrow.{Bor}
use Rattle.std.specs.Cmp.Lexicographic.{nat_list_eq_equiv}
use Rattle.std.proofs.Math.Bool.{or-true, and-false}
use Rattle.std.proofs.lemmas.Bool.{cases_Bool, true≢false}
use Rattle.std.proofs.lemmas.List.{take_more}
use Rattle.scan_model.specs.MacroDefinition.{are_distinct}
use Rattle.scan_model.specs.TokenTests.{same, is_among}
use Rattle.macro_table.specs.Heads.{texts}
use Rattle.macro_table.proofs.HeadLemmas.{texts-push}

-- a name is found where it stands
is_among-here : (ss : List (List ℕ)) (x : List ℕ) (ys : List (List ℕ)) (q : List ℕ) → same x q ≡ true → is_among (ss ++ x ∷ ys) q ≡ true
is_among-here [] x ys q e = rw e refl
is_among-here (s ∷ ss) x ys q e = rw (is_among-here ss x ys q e) (or-true (same s q))

pub is_among-push : (ss : List (List ℕ)) (x q : List ℕ) → is_among (ss ++ x ∷ []) q ≡ cond (same x q) true (is_among ss q)
is_among-push [] x q = last_one (same x q) where
  last_one : (b : Bool) → (b || false) ≡ cond b true false
  last_one true = refl
  last_one false = refl
is_among-push (s ∷ ss) x q = ap (λ b. same s q || b) (is_among-push ss x q) ∙ either (same s q) (same x q) (is_among ss q) where
  either : (a b d : Bool) → (a || cond b true d) ≡ cond b true (a || d)
  either true true d = refl
  either true false d = refl
  either false true d = refl
  either false false d = refl

pub are_distinct-push : (ss : List (List ℕ)) (x : List ℕ) → are_distinct (ss ++ x ∷ []) ≡ (are_distinct ss && not (is_among ss x))
are_distinct-push [] x = refl
are_distinct-push (s ∷ ss) x =
    ap (λ b. not b && are_distinct (ss ++ x ∷ [])) (is_among-push ss x s ∙ ap (λ b. cond b true (is_among ss s)) (nat_list_eq_equiv.symm x s))
    ∙ ap (λ b. not (cond (same s x) true (is_among ss s)) && b) (are_distinct-push ss x)
    ∙ apart (same s x) (is_among ss s) (are_distinct ss) (is_among ss x)
  where
    apart : (a b d e : Bool) → (not (cond a true b) && (d && not e)) ≡ ((not b && d) && not (a || e))
    apart true true d e = refl
    apart true false true e = refl
    apart true false false e = refl
    apart false true d e = refl
    apart false false true e = refl
    apart false false false e = refl

-- a name that stands twice
pub are_distinct-twice : (ss : List (List ℕ)) (x : List ℕ) (ys : List (List ℕ)) → is_among ss x ≡ true → are_distinct (ss ++ x ∷ ys) ≡ false
are_distinct-twice [] x ys e = absurd (true≢false (sym e))
are_distinct-twice (s ∷ ss) x ys e =
    elim (cases_Bool (same s x)) [
      | inl y ↦ rw (is_among-here ss x ys s (nat_list_eq_equiv.symm x s ∙ y)) refl
      | inr n ↦ rw (are_distinct-twice ss x ys (ap (λ b. b || is_among ss x) (sym n) ∙ e)) (and-false (not (is_among (ss ++ x ∷ ys) s)))
    ]

-- ## As a loop goes over them

pub texts-split : (names : List (Bor (List ℕ))) (i : ℕ) (d : Bor (List ℕ)) → i < length names → (rest : List (List ℕ)) × (texts names ≡ texts (take i names) ++ (get_or names i d).now ∷ rest)
texts-split [] i d h = absurd (omega arith)
texts-split (n ∷ ns) zero d h = (texts ns, refl)
texts-split (n ∷ ns) (suc i) d h = let more = texts-split ns i d (omega arith) in (more.0, ap (λ ts. n.now ∷ ts) more.1)

pub texts-more : (names : List (Bor (List ℕ))) (i : ℕ) (d : Bor (List ℕ)) → i < length names → texts (take (i + 1) names) ≡ texts (take i names) ++ (get_or names i d).now ∷ []
texts-more names i d h = ap texts (take_more names i d h) ∙ texts-push (take i names) (get_or names i d)
