-- The last of a chain of choices.
use Rattle.std.proofs.Common.{◌≡◌, ℕ, Bool, false, cond, List, ap, sym, ◌∙◌}
use Rattle.std.specs.Cmp.Lexicographic.{nat_list_eq_equiv}
use Rattle.scan_model.specs.TokenTests.{same}

pub last_of_3 : {X : Type 0} (a b c : Bool) (x y z w v : X) → a ≡ false → b ≡ false → c ≡ false → v ≡ w → v ≡ cond a x (cond b y (cond c z w))
last_of_3 a b c x y z w v e f g h = rw (e, f, g) h

-- by the code's test, whose literal is shown as the name
pub unlike : (word name shown : List ℕ) → shown ≡ name → false ≡ same word shown → same name word ≡ false
unlike word name shown is e = nat_list_eq_equiv.symm name word ∙ ap (same word) (sym is) ∙ sym e
