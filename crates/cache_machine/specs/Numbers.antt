-- Where each job's number is: not drawn, at a worker, or ended.
use Rattle.std.specs.Prelude.{ℕ, ◌+◌, ◌==◌, ◌&&◌, nat_lt, if◌then◌else◌, Bool, true, false, List, [], ◌∷◌, length, Option, Some}
use Rattle.scan_model.specs.declared.command.Job.{Job}
use Rattle.scan_model.specs.declared.unit_end.UnitEnd.{UnitEnd}
use Rattle.cache_machine.specs.Machine.{Worker, Idle, At, Claiming, Holding, Spent, Over}

abbrev pub one_if : Bool → ℕ
one_if b = if b then 1 else 0

-- the worker is in this job
abbrev pub has_number : ℕ → Worker → Bool
has_number n Idle = false
has_number n (At m k) = m == n
has_number n (Claiming m k) = m == n
has_number n (Holding m k content) = m == n
has_number n (Spent m) = m == n
has_number n Over = false

-- how many workers are in this job
abbrev pub workers_in : ℕ → List Worker → ℕ
workers_in n [] = 0
workers_in n (worker ∷ workers) = one_if (has_number n worker) + workers_in n workers

-- 1 where it is ended
abbrev pub ended : Option (Option UnitEnd) → ℕ
ended (Some (Some end)) = 1
ended end = 0

-- 1 where it is a job's number that was drawn
abbrev pub drawn_once : List Job → ℕ → ℕ → ℕ
drawn_once jobs next n = one_if (nat_lt n next && nat_lt n (length jobs))

abbrev pub is_over : Worker → Bool
is_over Over = true
is_over worker = false

-- how many workers are past the last job
abbrev pub overs : List Worker → ℕ
overs [] = 0
overs (worker ∷ workers) = one_if (is_over worker) + overs workers
