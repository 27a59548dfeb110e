-- The cache machine: workers that scan jobs over one list of rows.
use Rattle.std.specs.Prelude.{ℕ, List, slice_index_or, slice_set, Option}
use Rattle.scan_model.specs.declared.unit_end.UnitEnd.{UnitEnd}
use Rattle.scan_model.specs.Files.{Content}
use Rattle.cache_machine.specs.Rows.{Row}

-- Idle; in job n with k of its looks answered: between two looks, with the claim of the k-th path, or with what was read
-- for it; out of memory in job n; or past the last job.
pub data Worker : Type 0 where
  Idle : Worker
  At : (n k : ℕ) → Worker
  Claiming : (n k : ℕ) → Worker
  Holding : (n k : ℕ) → Content (List ℕ) → Worker
  Spent : (n : ℕ) → Worker
  Over : Worker

-- the rows in order of claiming, the next job's number, the workers, and each job's end once it is recorded
pub record Machine : Type 0 where
  pub rows : List Row
  pub next : ℕ
  pub workers : List Worker
  pub ends : List (Option UnitEnd)

-- a worker that there isn't does nothing
abbrev pub worker_at : Machine → ℕ → Worker
worker_at m w = slice_index_or m.workers w Over

abbrev pub with_worker : Machine → ℕ → Worker → Machine
with_worker m w worker = record m { workers = slice_set m.workers w worker }
