-- A test on characters, of bytes that are text and of bytes that are none.
use Rattle.std.proofs.Common.{◌≡◌, ℕ, Bool, true, false, ◌&&◌, List, [], ◌∷◌, inl, inr, length, arith}
use Rattle.std.proofs.lemmas.Bool.{cases_Bool, and_left}
use Rattle.std.proofs.lemmas.Str.{IsUtf8-from_is_utf8, is_utf8-from_IsUtf8, chars-nil}
use Rattle.std.specs.Str.{is_utf8, IsUtf8, chars}

pub text_test : (s : List ℕ) (b : Bool) → IsUtf8 s → b ≡ (is_utf8 s && b)
text_test s b h = let t : is_utf8 s ≡ true = is_utf8-from_IsUtf8 s h in rw t

pub other_test : (s : List ℕ) (b : Bool) → ¬ (IsUtf8 s) → (is_utf8 s && b) ≡ false
other_test s b h = elim (cases_Bool (is_utf8 s)) [
  | inl e ↦ absurd (h (IsUtf8-from_is_utf8 s e))
  | inr e ↦ and_left (is_utf8 s) b e
]

pub no_chars : (s : List ℕ) → length s ≡ 0 → chars s ≡ []
no_chars [] h = chars-nil
no_chars (c ∷ s) h = absurd (omega arith)
