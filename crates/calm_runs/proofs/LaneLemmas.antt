-- What the lanes tell of the bytes.
use Rattle.std.proofs.Common.{◌≡◌, ℕ, zero, suc, ◌<◌, ◌≤◌, Bool, true, false, not, ◌==◌, cond, leb, eqb, List, [], ◌∷◌, refl, ap, sym, ◌∙◌, take, length, map, slice_index, replicate, bit_or, arith, w8, ◌%◌, ◌^◌}
use Rattle.std.proofs.lemmas.Bool.{leb-false, lt-ltb, and_from, and_parts}
use Rattle.std.proofs.lemmas.Nat.{le_or_l, le_or_r}
use Rattle.std.proofs.lemmas.Simd.{tops_compared, mask_l-mod, trailing_mask_l}
use Rattle.std.proofs.lemmas.List.{length-map}
use lib.Count.{count_trailing_zeros}
use Rattle.std.specs.List.{list_all, prefix_len}
use Rattle.std.specs.Simd.Lanes.{zip2, sel_l, mask_l, top}
use Rattle.calm_runs.specs.Runs.{is_calm}
use Rattle.calm_runs.specs.Lanes.{equal_to, marked}

-- ## Lane by lane

pub map_same : (s : List ℕ) → s ≡ map (λ c. c) s
map_same [] = refl
map_same (c ∷ s) = ap (λ t. c ∷ t) (map_same s)

selected : (t : ℕ → ℕ → Bool) (v : List ℕ) (x y z : ℕ) → sel_l (zip2 t v (replicate (length v) x)) (replicate (length v) y) (replicate (length v) z) ≡ map (λ c. cond (t c x) y z) v
selected t [] x y z = refl
selected t (c ∷ v) x y z = ap (λ r. cond (t c x) y z ∷ r) (selected t v x y z)

pub selected_equal : (v : List ℕ) (n x : ℕ) → length v ≡ n
    → sel_l (map (top 7) (zip2 (λ a b. cond (eqb a b) 255 0) v (replicate n x))) (replicate n 255) (replicate n 0) ≡ map (equal_to x) v
selected_equal v n x long =
    ap (λ ms. sel_l ms (replicate n 255) (replicate n 0)) (tops_compared w8 eqb v (replicate n x))
    ∙ ap (λ m. sel_l (zip2 eqb v (replicate m x)) (replicate m 255) (replicate m 0)) (sym long) ∙ selected eqb v x 255 0

-- ## One byte

unmarked : (b : Bool) (x : ℕ) → bit_or x (cond b 255 0) < 128 → (b ≡ false) × (x < 128)
unmarked true x h = absurd (omega (arith, h, le_or_r x 255))
unmarked false x h = (refl, omega (arith, h, le_or_l x 0))

pub unmarked_calm : (c : ℕ) → leb 128 (marked c) ≡ false → is_calm c ≡ true
unmarked_calm c h =
    let f = unmarked (c == 92) _ (leb-false 128 (marked c) h) in
    let e = unmarked (c == 47) _ f.1 in
    let d = unmarked (c == 39) _ e.1 in
    let g = unmarked (c == 34) _ d.1 in
    let b = unmarked (c == 13) _ g.1 in
    let a = unmarked (c == 10) _ b.1 in
    rw (lt-ltb c 128 a.1, a.0, b.0, g.0, d.0, e.0, f.0) refl

-- ## The mask

pub marks_of : (v u : List ℕ) (n : ℕ) → length v ≡ n → n ≤ 64 → u ≡ map marked v
    → mask_l (map (top 7) (zip2 (λ a b. cond (leb a b) 255 0) (replicate n 128) u)) % 2 ^ 64 ≡ mask_l (map (λ c. leb 128 (marked c)) v)
marks_of v u n long small is =
    ap (λ u. mask_l (map (top 7) (zip2 (λ a b. cond (leb a b) 255 0) (replicate n 128) u)) % 2 ^ 64) is
    ∙ ap (λ ms. mask_l ms % 2 ^ 64) (tops_compared w8 leb (replicate n 128) (map marked v) ∙ ap (λ m. zip2 leb (replicate m 128) (map marked v)) (sym long) ∙ splat_left v)
    ∙ mask_l-mod (map (λ c. leb 128 (marked c)) v) 64 (omega (arith, length-map v (λ c. leb 128 (marked c))))
  where
    splat_left : (v : List ℕ) → zip2 leb (replicate (length v) 128) (map marked v) ≡ map (λ c. leb 128 (marked c)) v
    splat_left [] = refl
    splat_left (c ∷ v) = ap (λ r. leb 128 (marked c) ∷ r) (splat_left v)

-- the lowest mark
pub trailing_marks : (v u : List ℕ) (m : ℕ) → length v ≡ 16 → u ≡ map marked v → (m ≡ 0 → ⊥)
    → m ≡ mask_l (map (top 7) (zip2 (λ a b. cond (leb a b) 255 0) (replicate 16 128) u)) % 2 ^ 64
    → count_trailing_zeros 64 m ≡ prefix_len (λ c. not (leb 128 (marked c))) v
trailing_marks v u m long is some at =
    let same = at ∙ marks_of v u 16 long (omega arith) is in
    ap (count_trailing_zeros 64) same ∙ trailing_mask_l (λ c. leb 128 (marked c)) 64 v (omega arith) (omega (arith, positive m some, same))
  where
    positive : (m : ℕ) → (m ≡ 0 → ⊥) → 0 < m
    positive zero some = absurd (some refl)
    positive (suc m) some = omega arith

-- ## The bytes from the front on

pub calm_more : (s : List ℕ) (i m : ℕ) → list_all is_calm (take i s) ≡ true → i ≤ m → m ≤ length s → ((k : ℕ) → i ≤ k → k < m → is_calm (slice_index s k) ≡ true)
    → list_all is_calm (take m s) ≡ true
calm_more s i zero before ordered within each = refl
calm_more [] i (suc m) before ordered within each = absurd (omega arith)
calm_more (c ∷ s) zero (suc m) before ordered within each = and_from (is_calm c) (list_all is_calm (take m s)) (each 0 (omega arith) (omega arith))
    (calm_more s 0 m refl (omega arith) (omega arith) (λ k low high. each (suc k) (omega arith) (omega arith)))
calm_more (c ∷ s) (suc i) (suc m) before ordered within each = let both = and_parts (is_calm c) (list_all is_calm (take i s)) before in
    and_from (is_calm c) (list_all is_calm (take m s)) both.0 (calm_more s i m both.1 (omega arith) (omega arith) (λ k low high. each (suc k) (omega arith) (omega arith)))
