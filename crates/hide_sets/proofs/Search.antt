-- A search among the names of a set.
use Rattle.std.proofs.Common.{◌≡◌, sym, ◌∙◌, ap, refl, ℕ, Bool, true, false, ◌||◌, List}
use Rattle.scan_model.specs.TokenTests.{same}
use Rattle.scan_model.specs.Expansion.{also}

or_true : (b : Bool) → (b || true) ≡ true
or_true true = refl
or_true false = refl

or_false : (b : Bool) → (b || false) ≡ b
or_false true = refl
or_false false = refl

-- the latest name is the one
pub hides-latest : (whole rest : List ℕ → Bool) (latest name : List ℕ) → whole ≡ also latest rest → true ≡ same latest name → true ≡ whole name
hides-latest whole rest latest name e h = sym (ap (λ (f : List ℕ → Bool). f name) e ∙ ap (λ b. rest name || b) (sym h) ∙ or_true (rest name))

-- the latest name is another
pub hides-rest : (whole rest : List ℕ → Bool) (latest name : List ℕ) → whole ≡ also latest rest → false ≡ same latest name → rest name ≡ whole name
hides-rest whole rest latest name e h = sym (ap (λ (f : List ℕ → Bool). f name) e ∙ ap (λ b. rest name || b) (sym h) ∙ or_false (rest name))
