-- What a run has to do, by its words and by what the one read of the database gave.
use Rattle.std.specs.Prelude.{◌≤◌, ⊤, ℕ, List, length, map, All, Option, Some, None, option_map, Result, Ok, Err}
use Rattle.scan_model.specs.Fits.{JobFits, SettingsFit}
use Rattle.scan_model.specs.declared.outcome.Outcome.{Outcome}
use Rattle.scan_model.specs.declared.outcome.Outcome.TheVariants.{Present, Absent, Failed, Big, NoMemory}
use Rattle.program_words.specs.declared.reading.Words.{Words}
use Rattle.program_words.specs.declared.reading.Input.{Input}
use Rattle.program_words.specs.declared.reading.Input.TheVariants as InputIs
use Rattle.program_words.specs.declared.reading.Usage.{Usage}
use Rattle.compile_db.specs.declared.entry.Entry.{Entry}
use Rattle.compile_db.specs.declared.database.DbFault.{DbFault}
use Rattle.compile_db.specs.declared.database.DbFault.TheVariants as FaultIs
use Rattle.compile_db.specs.Database.{database, max_entries}
use Rattle.command_words.specs.Jobs.{job_of}
use Rattle.scanner.specs.declared.verdict.Manner.{Manner}
use Rattle.scanner.specs.declared.verdict.Plan.{Plan}
use Rattle.scanner.specs.declared.verdict.MadePlan.{MadePlan}
use Rattle.scanner.specs.declared.verdict.Verdict.{Verdict}
use Rattle.scanner.specs.declared.verdict.Verdict.TheVariants.{Refuse, Scan, Make}
use Rattle.scanner.specs.declared.refusal.Refusal.{Refusal}
use Rattle.scanner.specs.declared.refusal.Refusal.TheVariants as RefusalIs

-- ## What the words and the read say

abbrev pub path_in : Input → Option (List ℕ)
path_in (InputIs.Database path) = Some path
path_in (InputIs.Made units) = None

-- the database's path, where the words name one
abbrev pub database_path : Result Words Usage → Option (List ℕ)
database_path (Ok words) = path_in words.input
database_path (Err usage) = None

-- what a read gave: its outcome, and its bytes
pub record Read : Type 0 where
  pub outcome : Outcome
  pub bytes : List ℕ

-- of what a source gave, where there was a read
abbrev pub read_of : {G : Type 0} → (G → Outcome) → (G → List ℕ) → Option G → Option Read
read_of outcome bytes given = option_map (λ g. record { outcome = outcome g; bytes = bytes g }) given

-- ## The verdict

-- what the words say of all commands
abbrev pub manner_of : Words → Manner
manner_of words = record { settings = words.settings; workers = words.workers; schedule = words.schedule }

-- a command for each entry, in order
abbrev pub plan_of : Manner → List Entry → Plan
plan_of manner entries = record { jobs = map (λ entry. job_of entry) entries; manner = manner }

abbrev pub of_fault : DbFault → Refusal
of_fault FaultIs.NotJson = RefusalIs.NotJson
of_fault FaultIs.NotArray = RefusalIs.NotArray
of_fault (FaultIs.BadEntry number) = RefusalIs.BadEntry number
of_fault (FaultIs.TooMany count) = RefusalIs.TooMany

abbrev pub of_database : Manner → Result (List Entry) DbFault → Verdict
of_database manner (Ok entries) = Scan (plan_of manner entries)
of_database manner (Err fault) = Refuse (of_fault fault)

-- none where the read found no memory
abbrev pub of_read : Manner → Outcome → List ℕ → Option Verdict
of_read manner Present bytes = Some (of_database manner (database bytes))
of_read manner Absent bytes = Some (Refuse RefusalIs.DbAbsent)
of_read manner Failed bytes = Some (Refuse RefusalIs.DbFailed)
of_read manner Big bytes = Some (Refuse RefusalIs.DbBig)
of_read manner NoMemory bytes = None

-- a database is read, and a made tree needs no read
abbrev pub of_input : Manner → Input → Option Read → Option Verdict
of_input manner (InputIs.Database path) None = None
of_input manner (InputIs.Database path) (Some read) = of_read manner read.outcome read.bytes
of_input manner (InputIs.Made units) None = Some (Make (record { units = units; manner = manner }))
of_input manner (InputIs.Made units) (Some read) = None

-- Of what the words ask for, and of what the database's read gave. None where memory was wanting before there was a
-- verdict.
abbrev pub verdict : Result Words Usage → Option Read → Option Verdict
verdict (Err usage) None = Some (Refuse RefusalIs.Usage)
verdict (Err usage) (Some read) = None
verdict (Ok words) read = of_input (manner_of words) words.input read

-- ## The size of a plan

-- a scan takes the settings, there are 1 to 64 workers, and the schedule's number is below 2 ^ 31
pub record MannerFits (manner : Manner) : Type 0 where
  pub settings : SettingsFit manner.settings
  pub some_worker : 1 ≤ manner.workers
  pub few_workers : manner.workers ≤ 64
  pub schedule : manner.schedule ≤ 2147483647

-- a scan takes the commands, of which there are no more than a database may have
pub record PlanFits (plan : Plan) : Type 0 where
  pub jobs : All JobFits plan.jobs
  pub few : length plan.jobs ≤ max_entries
  pub manner : MannerFits plan.manner

-- a made tree has 1 to 4096 units
pub record MadePlanFits (plan : MadePlan) : Type 0 where
  pub units : (1 ≤ plan.units) × (plan.units ≤ 4096)
  pub manner : MannerFits plan.manner

abbrev pub VerdictFits : Verdict → Type 0
VerdictFits (Refuse refusal) = ⊤
VerdictFits (Scan plan) = PlanFits plan
VerdictFits (Make plan) = MadePlanFits plan
