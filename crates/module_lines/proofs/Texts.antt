-- Well-formed texts joined by an ASCII sign.
use Rattle.std.proofs.Common.{◌≡◌, ℕ, ◌<◌, List, [], ◌∷◌, ◌++◌, zero, suc, lit<}
use Rattle.std.specs.Str.{IsUtf8, IsAscii}
use Rattle.std.proofs.lemmas.Str.{IsUtf8-append, IsUtf8-from_ascii}

IsAscii-one : (c : ℕ) → c < 128 → IsAscii (c ∷ [])
IsAscii-one c h zero = h
IsAscii-one c h (suc i) = lit< tt

pub IsUtf8-joined : (whole s : List ℕ) (c : ℕ) (t : List ℕ) → whole ≡ (s ++ c ∷ []) ++ t → c < 128 → IsUtf8 s → IsUtf8 t → IsUtf8 whole
IsUtf8-joined whole s c t e h p q =
    rw e (IsUtf8-append (s ++ c ∷ []) t (IsUtf8-append s (c ∷ []) p (IsUtf8-from_ascii (c ∷ []) (IsAscii-one c h))) q)
