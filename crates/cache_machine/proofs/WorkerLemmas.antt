-- Lists of workers, and the numbers that they are at.
use Rattle.std.proofs.Common.{◌≡◌, ◌≢◌, ℕ, zero, suc, ◌+◌, ◌<◌, ◌≤◌, true, List, [], ◌∷◌, length, slice_get, refl, ap, Option, Some, None, arith}
use Rattle.std.specs.Prelude.{slice_index_or, slice_set, replicate, map}
use Rattle.std.specs.List.{AllByRecursion}
use Rattle.scan_model.specs.declared.unit_end.UnitEnd.{UnitEnd}
use Rattle.cache_machine.specs.Machine.{Worker, Idle, Over}
use Rattle.cache_machine.specs.Numbers.{has_number, one_if, workers_in, ended, is_over, overs}

-- what holds of the new state of worker w, and of every other worker
pub set_fits : (ws : List Worker) (w : ℕ) (s : Worker) (P : ℕ → Worker → Type 0) → (slice_index_or ws w Over ≡ Over → ⊥) →
    ((v : ℕ) → v ≢ w → P v (slice_index_or ws v Over)) → P w s → (v : ℕ) → P v (slice_index_or (slice_set ws w s) v Over)
set_fits [] w s P there others here v = absurd (there refl)
set_fits (x ∷ ws) zero s P there others here zero = here
set_fits (x ∷ ws) zero s P there others here (suc v) = others (suc v) (λ e. cc)
set_fits (x ∷ ws) (suc w) s P there others here zero = others zero (λ e. cc)
set_fits (x ∷ ws) (suc w) s P there others here (suc v) =
    set_fits ws w s (λ u z. P (suc u) z) there (λ u differ. others (suc u) (λ e. differ (omega arith))) here v

-- the worker's state counts in place of the one before
pub count_set : (n : ℕ) (ws : List Worker) (w : ℕ) (s : Worker) → (slice_index_or ws w Over ≡ Over → ⊥) →
    workers_in n (slice_set ws w s) + one_if (has_number n (slice_index_or ws w Over)) ≡ workers_in n ws + one_if (has_number n s)
count_set n [] w s there = absurd (there refl)
count_set n (x ∷ ws) zero s there = omega arith
count_set n (x ∷ ws) (suc w) s there = let k = count_set n ws w s there in omega arith

-- a worker in the command counts
pub count_at : (n : ℕ) (ws : List Worker) (w : ℕ) → has_number n (slice_index_or ws w Over) ≡ true → 1 ≤ workers_in n ws
count_at n [] w h = cc
count_at n (x ∷ ws) zero h = let k : one_if (has_number n x) ≡ 1 = ap one_if h in omega arith
count_at n (x ∷ ws) (suc w) h = let k = count_at n ws w h in omega arith

-- and as one that is over or not
pub over_set : (ws : List Worker) (w : ℕ) (s : Worker) → (slice_index_or ws w Over ≡ Over → ⊥) →
    overs (slice_set ws w s) + one_if (is_over (slice_index_or ws w Over)) ≡ overs ws + one_if (is_over s)
over_set [] w s there = absurd (there refl)
over_set (x ∷ ws) zero s there = omega arith
over_set (x ∷ ws) (suc w) s there = let k = over_set ws w s there in omega arith

pub none_over : (count : ℕ) → overs (replicate count Idle) ≡ 0
none_over zero = refl
none_over (suc count) = let k = none_over count in omega arith

pub none_idle : (n count : ℕ) → workers_in n (replicate count Idle) ≡ 0
none_idle n zero = refl
none_idle n (suc count) = let k = none_idle n count in omega arith

-- workers that are all over are in no job
pub all_over : (n : ℕ) (ws : List Worker) → AllByRecursion (λ worker. worker ≡ Over) ws → (overs ws ≡ length ws) × (workers_in n ws ≡ 0)
all_over n [] h = (refl, refl)
all_over n (x ∷ ws) h =
    let k = all_over n ws h.1 in
    let one : one_if (is_over x) ≡ 1 = ap (λ z. one_if (is_over z)) h.0 in
    let none : one_if (has_number n x) ≡ 0 = ap (λ z. one_if (has_number n z)) h.0 in
    let a = k.0 in let b = k.1 in (omega arith, omega arith)

-- ## Ends

pub end_there : (slot : Option (Option UnitEnd)) → ended slot ≡ 1 → (end : UnitEnd) × (slot ≡ Some (Some end))
end_there None h = cc
end_there (Some None) h = cc
end_there (Some (Some end)) h = (end, refl)

pub set_get_same : {A : Type 0} (xs : List A) (n : ℕ) (x : A) → n < length xs → slice_get (slice_set xs n x) n ≡ Some x
set_get_same [] n x h = absurd (omega arith)
set_get_same (y ∷ xs) zero x h = refl
set_get_same (y ∷ xs) (suc n) x h = set_get_same xs n x (omega arith)

pub set_get_other : {A : Type 0} (xs : List A) (n m : ℕ) (x : A) → m ≢ n → slice_get (slice_set xs n x) m ≡ slice_get xs m
set_get_other [] n m x differ = refl
set_get_other (y ∷ xs) zero zero x differ = absurd (differ refl)
set_get_other (y ∷ xs) zero (suc m) x differ = refl
set_get_other (y ∷ xs) (suc n) zero x differ = refl
set_get_other (y ∷ xs) (suc n) (suc m) x differ = set_get_other xs n m x (λ e. differ (omega arith))

pub get_there : {A : Type 0} (xs : List A) (n : ℕ) → n < length xs → (x : A) × (slice_get xs n ≡ Some x)
get_there [] n h = absurd (omega arith)
get_there (y ∷ xs) zero h = (y, refl)
get_there (y ∷ xs) (suc n) h = get_there xs n (omega arith)

-- no end is there at the start
pub none_ended : {A : Type 0} (xs : List A) (n : ℕ) → ended (slice_get (map (λ x. None) xs) n) ≡ 0
none_ended [] n = refl
none_ended (x ∷ xs) zero = refl
none_ended (x ∷ xs) (suc n) = none_ended xs n
