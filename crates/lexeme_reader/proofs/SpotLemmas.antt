-- The bytes of spots, one by one.
use Rattle.std.proofs.Common.{◌≡◌, ◌≢◌, ℕ, zero, suc, ◌+◌, ◌<◌, List, [], ◌∷◌, ◌++◌, refl, ap, ◌∙◌, drop, take, length, length-drop, arith, Some, None}
use Rattle.std.specs.List.{take-map}
use Rattle.scan_model.specs.Spliced.{Spot, byte_at}
use Rattle.scan_model.specs.Tokens.{bytes}

pub bytes-take_more : (s : List Spot) (k : ℕ) → bytes (take (k + 1) s) ≡ bytes (take k s) ++ bytes (take 1 (drop k s))
bytes-take_more s k = let e : k + 1 ≡ suc k = omega arith in ap (λ j. bytes (take j s)) e ∙ suc_more s k where
  suc_more : (s : List Spot) (k : ℕ) → bytes (take (suc k) s) ≡ bytes (take k s) ++ bytes (take 1 (drop k s))
  suc_more [] zero = refl
  suc_more [] (suc k) = refl
  suc_more (x ∷ s) zero = refl
  suc_more (x ∷ s) (suc k) = ap (λ t. x.byte ∷ t) (suc_more s k)

pub drop_some : (s : List Spot) (k : ℕ) → k < length s → drop k s ≢ []
drop_some s k h e = let z : length (drop k s) ≡ 0 = ap length e in omega (arith, z, length-drop k s)

pub bytes-first : (s : List Spot) (c : ℕ) → byte_at s ≡ Some c → bytes (take 1 s) ≡ c ∷ []
bytes-first [] c e = cc
bytes-first (x ∷ s) c e = let same : x.byte ≡ c = cc in ap (λ b. b ∷ []) same

pub bytes-cons : (s : List Spot) (c : ℕ) → byte_at s ≡ Some c → bytes s ≡ c ∷ bytes (drop 1 s)
bytes-cons [] c e = cc
bytes-cons (x ∷ s) c e = let same : x.byte ≡ c = cc in ap (λ b. b ∷ bytes s) same

pub byte_at-none : (s : List Spot) → byte_at s ≡ None → s ≡ []
byte_at-none [] e = refl
byte_at-none (x ∷ s) e = cc

pub bytes-take : (s : List Spot) (n : ℕ) → take n (bytes s) ≡ bytes (take n s)
bytes-take s n = take-map (λ spot. spot.byte) n s

pub bytes-drop : (s : List Spot) (n : ℕ) → bytes (drop n s) ≡ drop n (bytes s)
bytes-drop s zero = refl
bytes-drop [] (suc n) = refl
bytes-drop (x ∷ s) (suc n) = bytes-drop s n

pub length-bytes : (s : List Spot) → length (bytes s) ≡ length s
length-bytes [] = refl
length-bytes (x ∷ s) = let k = length-bytes s in omega arith
