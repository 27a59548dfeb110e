-- Where the quote that closes a literal stands.
use Rattle.std.proofs.Common.{◌≡◌, ℕ, zero, suc, ◌+◌, ◌<◌, Bool, true, false, not, cond, ◌==◌, ◌&&◌, List, [], ◌∷◌, refl, ap, ◌∙◌, take, length, arith, Option, Some, None}
use Rattle.scan_model.specs.Spelling.{after_items}

-- a closing quote is found in a front exactly where it is in the front
pub record Closes (quote : ℕ) (escaped : Bool) (s r : List ℕ) : Type 0 where
  pub len : ℕ
  pub whole : length s ≡ len + length r
  pub short : (m : ℕ) → m < len → after_items quote escaped (take m s) ≡ None
  pub long : (m i : ℕ) → m ≡ len + i → after_items quote escaped (take m s) ≡ Some (take i r)

three : (a b : Bool) (x n r : Option (List ℕ)) (P : Type 0) → cond a None (cond b x n) ≡ r → (a ≡ true → None ≡ r → P) → (a ≡ false → b ≡ true → x ≡ r → P) → (a ≡ false → b ≡ false → n ≡ r → P) → P
three true b x n r P e f g h = f refl e
three false true x n r P e f g h = g refl refl e
three false false x n r P e f g h = h refl refl e

pub closes : (quote : ℕ) (escaped : Bool) (s r : List ℕ) → after_items quote escaped s ≡ Some r → Closes quote escaped s r
unfolding after_items
closes quote escaped [] r e = cc
closes quote escaped (c ∷ s) r e =
    three (c == 10) (not escaped && c == quote) (Some s) (after_items quote (not escaped && c == 92) s) (Some r) (Closes quote escaped (c ∷ s) r) e
    (λ a z. cc)
    (λ a b z. let same : s ≡ r = cc in record {
      len = 1;
      whole = let l : length s ≡ length r = ap length same in omega arith;
      short = here_short quote escaped c s;
      long = here_long quote escaped c s r a b same;
    })
    (λ a b z. let more = closes quote (not escaped && c == 92) s r z in record {
      len = suc more.len;
      whole = let l = more.whole in omega arith;
      short = there_short quote escaped c s r a b more;
      long = there_long quote escaped c s r a b more;
    })
  where
    here_short : (quote : ℕ) (escaped : Bool) (c : ℕ) (s : List ℕ) (m : ℕ) → m < 1 → after_items quote escaped (take m (c ∷ s)) ≡ None
    here_short quote escaped c s zero lt = refl
    here_short quote escaped c s (suc m) lt = absurd (omega arith)

    here_long : (quote : ℕ) (escaped : Bool) (c : ℕ) (s r : List ℕ) → (c == 10) ≡ false → (not escaped && c == quote) ≡ true → s ≡ r → (m i : ℕ) → m ≡ 1 + i → after_items quote escaped (take m (c ∷ s)) ≡ Some (take i r)
    here_long quote escaped c s r a b same zero i e = absurd (omega arith)
    here_long quote escaped c s r a b same (suc m) i e = let k : m ≡ i = omega arith in rw (a, b) (ap (λ t. Some (take m t)) same ∙ ap (λ j. Some (take j r)) k)

    there_short : (quote : ℕ) (escaped : Bool) (c : ℕ) (s r : List ℕ) → (c == 10) ≡ false → (not escaped && c == quote) ≡ false → (more : Closes quote (not escaped && c == 92) s r) → (m : ℕ) → m < suc more.len → after_items quote escaped (take m (c ∷ s)) ≡ None
    there_short quote escaped c s r a b more zero lt = refl
    there_short quote escaped c s r a b more (suc m) lt = rw (a, b) (more.short m (omega arith))

    there_long : (quote : ℕ) (escaped : Bool) (c : ℕ) (s r : List ℕ) → (c == 10) ≡ false → (not escaped && c == quote) ≡ false → (more : Closes quote (not escaped && c == 92) s r) → (m i : ℕ) → m ≡ suc more.len + i → after_items quote escaped (take m (c ∷ s)) ≡ Some (take i r)
    there_long quote escaped c s r a b more zero i e = absurd (omega arith)
    there_long quote escaped c s r a b more (suc m) i e = rw (a, b) (more.long m i (omega arith))
