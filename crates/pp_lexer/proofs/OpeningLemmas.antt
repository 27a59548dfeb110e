-- Opening quotes, in a front of the text.
use Rattle.std.proofs.Common.{◌≡◌, ℕ, zero, suc, ◌<◌, ◌≤◌, Bool, true, false, cond, ◌==◌, ◌&&◌, ◌||◌, nat_eq, List, [], ◌∷◌, refl, ap, sym, ◌∙◌, inl, inr, take, length, length-take, slice_index, arith, codes}
use Rattle.std.proofs.lemmas.Bool.{and_parts, and_right, ne_eqb, cases_lt, eqb-true, true≢false}
use Rattle.std.specs.List.{starts_with}
use Rattle.scan_model.specs.Spelling.{encoding_len, opens}
use Rattle.lexeme_reader.proofs.QuotedLemmas.{encoding_len-take}

-- what a front has at a place is what the text has there
pub index-take : (s : List ℕ) (m i : ℕ) → i < m → slice_index (take m s) i ≡ slice_index s i
index-take s zero i h = absurd (omega arith)
index-take [] (suc m) i h = refl
index-take (c ∷ s) (suc m) zero h = refl
index-take (c ∷ s) (suc m) (suc i) h = index-take s m i (omega arith)

pub index_some : (s : List ℕ) (i : ℕ) → (slice_index s i ≡ 0 → ⊥) → i < length s
index_some [] i h = absurd (h refl)
index_some (c ∷ s) zero h = omega arith
index_some (c ∷ s) (suc i) h = let k = index_some s i h in omega arith

-- how long a prefix is, by two tests
abbrev prefix : Bool → Bool → ℕ
prefix long short = cond long 2 (cond short 1 0)

one_byte : (a : ℕ) → encoding_len (a ∷ []) ≡ prefix false (a == 117 || a == 85 || a == 76)
one_byte a = ap (λ b. prefix b (a == 117 || a == 85 || a == 76)) (and_right (117 == a) false refl)

no_prefix : (long short : Bool) → prefix long short < 1 → prefix false short ≡ prefix long short
no_prefix true short h = absurd (omega arith)
no_prefix false short h = refl

-- the quote is there in a front exactly where the front reaches it
pub opens-take : (q : ℕ) (s : List ℕ) (m : ℕ) → encoding_len s < m → opens q (take m s) ≡ opens q s
opens-take q s m h =
    ap (λ i. slice_index (take m s) i == q) (encoding_len-take s m h) ∙ ap (λ c. c == q) (index-take s m (encoding_len s) h)

long_short : (a b : ℕ) (s : List ℕ) → starts_with nat_eq (a ∷ b ∷ s) (codes "u8") ≡ true → (a == 117 || a == 85 || a == 76) ≡ true
long_short a b s h =
    let u : 117 ≡ a = eqb-true 117 a (and_parts (117 == a) (56 == b && true) h).0 in
    ap (λ c. c == 117 || c == 85 || c == 76) (sym u)

short_prefix : (long short : Bool) → (long ≡ true → short ≡ true) → 1 ≤ prefix long short → 1 ≤ prefix false short
short_prefix true short f h = rw (f refl) (omega arith)
short_prefix false short f h = h

-- a front that the prefix fills
encoding_fills : (s : List ℕ) (m : ℕ) → m ≤ encoding_len s → length (take m s) ≤ encoding_len (take m s)
encoding_fills s zero h = omega arith
encoding_fills [] (suc m) h = omega arith
encoding_fills (a ∷ []) (suc zero) h = h
encoding_fills (a ∷ []) (suc (suc m)) h = omega (arith, h)
encoding_fills (a ∷ b ∷ s) (suc zero) h =
    let some = short_prefix (starts_with nat_eq (a ∷ b ∷ s) (codes "u8")) (a == 117 || a == 85 || a == 76) (long_short a b s) h in
    omega (arith, some, one_byte a)
encoding_fills (a ∷ b ∷ s) (suc (suc m)) h = omega (arith, h, length-take m s)

past_end : (q : ℕ) → (q ≡ 0 → ⊥) → (s : List ℕ) (i : ℕ) → length s ≤ i → (slice_index s i == q) ≡ false
past_end q some [] i h = ne_eqb 0 q (λ e. some (sym e))
past_end q some (c ∷ s) zero h = absurd (omega arith)
past_end q some (c ∷ s) (suc i) h = past_end q some s i (omega arith)

pub no_opens-take : (q : ℕ) → (q ≡ 0 → ⊥) → (s : List ℕ) → opens q s ≡ false → (m : ℕ) → opens q (take m s) ≡ false
no_opens-take q some s h m = elim (cases_lt (encoding_len s) m) [
  | inl lt ↦ opens-take q s m lt ∙ h
  | inr le ↦ past_end q some (take m s) (encoding_len (take m s)) (encoding_fills s m le)
]

-- where a front opens, it reaches past its prefix
pub opens_reaches : (q : ℕ) → (q ≡ 0 → ⊥) → (s : List ℕ) (m : ℕ) → opens q (take m s) ≡ true → encoding_len s < m
opens_reaches q some s m h = elim (cases_lt (encoding_len s) m) [
  | inl lt ↦ lt
  | inr le ↦ absurd (true≢false (sym h ∙ past_end q some (take m s) (encoding_len (take m s)) (encoding_fills s m le)))
]
