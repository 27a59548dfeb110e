-- What holds at every moment of every run.
use Rattle.std.specs.Prelude.{◌≡◌, ◌⊎◌, ℕ, ◌+◌, ◌<◌, ◌≤◌, min, List, length, slice_get, Some, None}
use Rattle.std.specs.List.{AllByRecursion}
use Rattle.scan_model.specs.declared.command.Settings.{Settings}
use Rattle.scan_model.specs.declared.command.Job.{Job}
use Rattle.scan_model.specs.declared.unit_end.UnitEnd.{UnitEnd}
use Rattle.scan_model.specs.declared.unit_end.UnitEnd.TheVariants as Ends
use Rattle.scan_model.specs.Answer.{Known, Unread}
use Rattle.cache_machine.specs.Rows.{Claimed, Row, held_at, map_of}
use Rattle.cache_machine.specs.Machine.{Machine, At, Over, worker_at}
use Rattle.cache_machine.specs.JobLooks.{path_at, answer_at}
use Rattle.cache_machine.specs.Runs.{Move, run, IsReached}
use Rattle.cache_machine.specs.RowGrowth.{RowsDiffer, RowsGrow}
use Rattle.cache_machine.specs.WorkerRows.{WorkerFits, IsClaimant}
use Rattle.cache_machine.specs.Numbers.{workers_in, ended, drawn_once, overs}

-- the moves of a run, from any moment on, keep the rows' paths and what is done
abbrev pub RowsOnlyGrow : Type 0
RowsOnlyGrow = (jobs : List Job) (settings : Settings) (moves : List Move) (m : Machine) → RowsGrow m.rows (run jobs settings moves m).rows

-- as rows grow, the k-th path that a job looks at stays the k-th
abbrev pub LooksStay : Type 0
LooksStay = (jobs : List Job) (settings : Settings) (rows more : List Row) (n k : ℕ) (path : List ℕ) → RowsGrow rows more →
    path_at jobs settings rows n k ≡ Some path → path_at jobs settings more n k ≡ Some path

-- and where the answer is an end it stays
abbrev pub AnswersStay : Type 0
AnswersStay = (jobs : List Job) (settings : Settings) (rows more : List Row) (n : ℕ) (end : UnitEnd) → RowsGrow rows more →
    answer_at jobs settings rows n ≡ Known end → answer_at jobs settings more n ≡ Known end

-- a recorded end is want of memory, or the job's answer over the rows
abbrev pub IsEndAt : List Job → Settings → List Row → ℕ → UnitEnd → Type 0
IsEndAt jobs settings rows n end = (end ≡ Ends.NoMemory) ⊎ (answer_at jobs settings rows n ≡ Known end)

-- what holds of each machine that is reached
abbrev pub AtEachMoment : (List Job → Settings → Machine → Type 0) → Type 0
AtEachMoment P = (jobs : List Job) (settings : Settings) (workers : ℕ) (m : Machine) → IsReached jobs settings workers m → P jobs settings m

abbrev pub PathsDiffer : Type 0
PathsDiffer = AtEachMoment (λ jobs settings m. RowsDiffer m.rows)

-- the looks that a worker had answered are done, and what it reads or holds it has claimed
abbrev pub WorkersFit : Type 0
WorkersFit = AtEachMoment (λ jobs settings m. (w : ℕ) → WorkerFits jobs settings m.rows w (worker_at m w))

-- the worker that claimed a path is reading it, or holds what was read
abbrev pub ClaimsHaveWorkers : Type 0
ClaimsHaveWorkers = AtEachMoment (λ jobs settings m. (path : List ℕ) (w : ℕ) → held_at m.rows path ≡ Some (Claimed w) →
    IsClaimant jobs settings m.rows path (worker_at m w))

-- the number of each job that was drawn is at one worker or ended, once; no other is
abbrev pub NumbersOnce : Type 0
NumbersOnce = AtEachMoment (λ jobs settings m. (n : ℕ) → workers_in n m.workers + ended (slice_get m.ends n) ≡ drawn_once jobs m.next n)

-- a worker is over for each number that was drawn past the last job
abbrev pub OversDrewPast : Type 0
OversDrewPast = AtEachMoment (λ jobs settings m. min m.next (length jobs) + overs m.workers ≡ m.next)

abbrev pub EndsAreAnswers : Type 0
EndsAreAnswers = AtEachMoment (λ jobs settings m. (n : ℕ) (end : UnitEnd) → slice_get m.ends n ≡ Some (Some end) → IsEndAt jobs settings m.rows n end)

-- while a job's answer needs a path, its worker has a look to come, and that path is looked at then or later
abbrev pub NeededIsToCome : Type 0
NeededIsToCome = AtEachMoment (λ jobs settings m. (w n k : ℕ) (path : List ℕ) → worker_at m w ≡ At n k → answer_at jobs settings m.rows n ≡ Unread path →
    (later : ℕ) × ((k ≤ later) × ((path_at jobs settings m.rows n later ≡ Some path) × (map_of m.rows path ≡ None))))

-- where its worker has no look to come, the job has its answer
abbrev pub LookedAllIsKnown : Type 0
LookedAllIsKnown = AtEachMoment (λ jobs settings m. (w n k : ℕ) → worker_at m w ≡ At n k → path_at jobs settings m.rows n k ≡ None →
    (end : UnitEnd) × (answer_at jobs settings m.rows n ≡ Known end))

-- where all workers are over, and there is one, each job has its end
abbrev pub OverHasEnds : Type 0
OverHasEnds = AtEachMoment (λ jobs settings m. 1 ≤ length m.workers → AllByRecursion (λ worker. worker ≡ Over) m.workers → (n : ℕ) → n < length jobs →
    (end : UnitEnd) × ((slice_get m.ends n ≡ Some (Some end)) × IsEndAt jobs settings m.rows n end))
