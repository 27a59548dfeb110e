-- What the rows have of a worker's looks, and of its claim.
use Rattle.std.specs.Prelude.{◌≡◌, ⊤, ℕ, List, length, Some, IsTrue, is_some}
use Rattle.std.specs.List.{AllByRecursion}
use Rattle.scan_model.specs.declared.command.Settings.{Settings}
use Rattle.scan_model.specs.declared.command.Job.{Job}
use Rattle.unit_laws.specs.Growth.{Begins}
use Rattle.cache_machine.specs.Rows.{Claimed, Row, held_at, map_of}
use Rattle.cache_machine.specs.Machine.{Worker, At, Claiming, Holding}
use Rattle.cache_machine.specs.JobLooks.{looks_of, path_at}

module _ (jobs : List Job) (settings : Settings) where
  -- job n had k looks answered: their paths begin what it looks at, and each has a row that is done
  pub record IsAnswered (rows : List Row) (n k : ℕ) : Type 0 where
    pub paths : List (List ℕ)
    pub number : length paths ≡ k
    pub begin : Begins paths (looks_of jobs settings rows n)
    pub done : AllByRecursion (λ path. IsTrue (is_some (map_of rows path))) paths

  -- worker w claimed the k-th path of job n
  pub record HasClaim (rows : List Row) (w n k : ℕ) : Type 0 where
    pub path : List ℕ
    pub kth : path_at jobs settings rows n k ≡ Some path
    pub claimed : held_at rows path ≡ Some (Claimed w)

  abbrev pub WorkerFits : List Row → ℕ → Worker → Type 0
  WorkerFits rows w (At n k) = IsAnswered rows n k
  WorkerFits rows w (Claiming n k) = IsAnswered rows n k × HasClaim rows w n k
  WorkerFits rows w (Holding n k content) = IsAnswered rows n k × HasClaim rows w n k
  WorkerFits rows w worker = ⊤

  -- the worker is to read the path, or has read it
  abbrev pub IsClaimant : List Row → List ℕ → Worker → Type 0
  IsClaimant rows path (Claiming n k) = path_at jobs settings rows n k ≡ Some path
  IsClaimant rows path (Holding n k content) = path_at jobs settings rows n k ≡ Some path
  IsClaimant rows path worker = ⊥
