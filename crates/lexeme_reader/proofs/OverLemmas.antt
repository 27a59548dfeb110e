-- Bytes that are passed at once up to a byte, newlines among them.
use Rattle.std.proofs.Common.{◌≡◌, ℕ, zero, suc, ◌-◌, ◌<◌, ◌≤◌, Bool, true, false, not, ◌==◌, ◌||◌, List, [], ◌∷◌, refl, ap, take, length, slice_index, arith}
use Rattle.std.proofs.lemmas.Bool.{and_from, or_parts, not-true, eq-eqb, both_ways, false_from_ne_true}
use Rattle.std.specs.List.{list_all}
use Rattle.memchr.specs.Find.{Nowhere, Passes, is_byte3}
use Rattle.line_splice.specs.Plain.{shows_or_ends}
use Rattle.scan_model.specs.Spliced.{Spot}
use Rattle.lexeme_reader.specs.Passes.{goes_over, PassesRun}

pub record GoesOver (stop c : ℕ) : Type 0 where
  pub other : (c == stop) ≡ false
  pub backslash : (c == 92) ≡ false
  pub cr : (c == 13) ≡ false

pub over : (stop c : ℕ) → goes_over stop c ≡ true → GoesOver stop c
over stop c h =
    let all = or_parts (c == stop || c == 92) (c == 13) (not-true (c == stop || c == 92 || c == 13) h) in
    let two = or_parts (c == stop) (c == 92) all.0 in
    record { other = two.0; backslash = two.1; cr = all.1 }

pub over_shows : (stop c : ℕ) → goes_over stop c ≡ true → shows_or_ends c ≡ true
over_shows stop c h = let g = over stop c h in rw (g.backslash, g.cr) refl

pub no_backslash : (stop c : ℕ) → goes_over stop c ≡ true → c ≡ 92 → ⊥
no_backslash stop c h e = both_ways (c == 92) (over stop c h).backslash (eq-eqb c 92 e)

-- what a search tells of the bytes before its answer
pub over_before : (stop : ℕ) (hay : List ℕ) (n : ℕ) → Nowhere (Passes (is_byte3 stop 92 13) hay) 0 n → (k : ℕ) → k < n → goes_over stop (slice_index hay k) ≡ true
over_before stop hay n none k lt = ap not (false_from_ne_true (is_byte3 stop 92 13 (slice_index hay k)) (none k (omega arith) lt))

pub over_all : (p : ℕ → Bool) (n : ℕ) (t : List ℕ) → n ≤ length t → ((k : ℕ) → k < n → p (slice_index t k) ≡ true) → list_all p (take n t) ≡ true
over_all p zero t le h = refl
over_all p (suc n) [] le h = absurd (omega arith)
over_all p (suc n) (c ∷ t) le h = and_from (p c) (list_all p (take n t)) (h 0 (omega arith)) (over_all p n t (omega arith) (λ k lt. h (suc k) (omega arith)))

-- the last of them is no backslash
pub before_last : (stop : ℕ) (t : List ℕ) (n m : ℕ) → ((k : ℕ) → k < n → goes_over stop (slice_index t k) ≡ true) → m ≡ n - 1 → (m ≡ 0 → ⊥) → slice_index t m ≡ 92 → ⊥
before_last stop t n m all e some = no_backslash stop (slice_index t m) (all m (omega (arith, e, some)))

-- none of them are passed
pub over_none : (p : ℕ → Bool) (s : List Spot) → PassesRun p s s
over_none p s = record { count = 0; within = omega arith; all = refl; left = refl }
