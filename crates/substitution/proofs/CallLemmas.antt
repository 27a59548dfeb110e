-- The argument of a name, by the place of its parameter.
use Rattle.std.proofs.Common.{◌≡◌, sym, ◌∙◌, ap, refl, ℕ, zero, suc, ◌<◌, ◌≤◌, Bool, true, false, if◌then◌else◌, List, [], ◌∷◌, map, length, get_or, Some, None, arith}
use Rattle.std.specs.Prelude.{Option}
use Rattle.std.specs.Option.{option_map, option_and_then}
use Rattle.hide_sets.specs.Sets.{Sets}
use Rattle.scan_model.specs.TokenTests.{same}
use Rattle.scan_model.specs.Expansion.{arg_named}
use Rattle.scan_model.specs.Substitution as subst
use Rattle.substitution.specs.declared.marked.Arg.{Arg}
use Rattle.substitution.specs.Meaning.{arg_of}
use Rattle.substitution.specs.Places.{place_of}

abbrev nth : List subst.Arg → ℕ → Option subst.Arg
nth [] k = None
nth (a ∷ args) zero = Some a
nth (a ∷ args) (suc k) = nth args k

nth-nothing : (o : Option ℕ) → None ≡ option_and_then (nth []) o
nth-nothing None = refl
nth-nothing (Some k) = refl

nth-if : (a : subst.Arg) (args : List subst.Arg) (b : Bool) (o : Option ℕ) → (if b then Some a else option_and_then (nth args) o) ≡ option_and_then (nth (a ∷ args)) (if b then Some 0 else option_map suc o)
nth-if a args true o = refl
nth-if a args false None = refl
nth-if a args false (Some k) = refl

named-nth : (names : List (List ℕ)) (args : List subst.Arg) (name : List ℕ) → arg_named names args name ≡ option_and_then (nth args) (place_of names name)
named-nth [] args name = refl
named-nth (p ∷ ps) [] name = nth-nothing (place_of (p ∷ ps) name)
named-nth (p ∷ ps) (a ∷ args) name =
    ap (λ (o : Option subst.Arg). if same p name then Some a else o) (named-nth ps args name) ∙ nth-if a args (same p name) (place_of ps name)

nth-at : (sets : Sets) (args : List Arg) (k : ℕ) (a : Arg) → k < length args → a ≡ get_or args k a → Some (arg_of sets a) ≡ nth (map (arg_of sets) args) k
nth-at sets [] k a h e = absurd (omega arith)
nth-at sets (b ∷ args) zero a h e = ap (λ (x : Arg). Some (arg_of sets x)) e
nth-at sets (b ∷ args) (suc k) a h e = nth-at sets args k a (omega arith) e

nth-beyond : (sets : Sets) (args : List Arg) (k : ℕ) → length args ≤ k → None ≡ nth (map (arg_of sets) args) k
nth-beyond sets [] k h = refl
nth-beyond sets (b ∷ args) zero h = absurd (omega arith)
nth-beyond sets (b ∷ args) (suc k) h = nth-beyond sets args k (omega arith)

by-place : (sets : Sets) (names : List (List ℕ)) (args : List Arg) (name : List ℕ) (o : Option ℕ) → o ≡ place_of names name →
    option_and_then (nth (map (arg_of sets) args)) o ≡ arg_named names (map (arg_of sets) args) name
by-place sets names args name o h = ap (option_and_then (nth (map (arg_of sets) args))) h ∙ sym (named-nth names (map (arg_of sets) args) name)

-- the parameter of the name has an argument
pub named-at : (sets : Sets) (names : List (List ℕ)) (args : List Arg) (name : List ℕ) (k : ℕ) (a : Arg) → Some k ≡ place_of names name → k < length args → a ≡ get_or args k a →
    Some (arg_of sets a) ≡ arg_named names (map (arg_of sets) args) name
named-at sets names args name k a h l e = nth-at sets args k a l e ∙ by-place sets names args name (Some k) h

-- it has none
pub named-beyond : (sets : Sets) (names : List (List ℕ)) (args : List Arg) (name : List ℕ) (k : ℕ) → Some k ≡ place_of names name → length args ≤ k →
    None ≡ arg_named names (map (arg_of sets) args) name
named-beyond sets names args name k h l = nth-beyond sets args k l ∙ by-place sets names args name (Some k) h

-- no parameter has the name
pub named-none : (sets : Sets) (names : List (List ℕ)) (args : List Arg) (name : List ℕ) → None ≡ place_of names name → None ≡ arg_named names (map (arg_of sets) args) name
named-none sets names args name h = by-place sets names args name None h
