-- How jobs end over one file map, and what they look at.
use Rattle.std.specs.Prelude.{◌≡◌, ◌⊎◌, ℕ, List, Contains}
use Rattle.std.specs.List.{AllZip, Any}
use Rattle.scan_model.specs.declared.command.Settings.{Settings}
use Rattle.scan_model.specs.declared.command.Job.{Job}
use Rattle.scan_model.specs.declared.unit_end.UnitEnd.{UnitEnd}
use Rattle.scan_model.specs.declared.unit_end.UnitEnd.TheVariants as Ends
use Rattle.scan_model.specs.Files.{FileMap}
use Rattle.scan_model.specs.Answer.{Known, answer, looked}

module _ (files : FileMap (List ℕ)) (settings : Settings) where
  -- the end is the job's over these files, or memory was wanting
  abbrev pub IsEnd : Job → UnitEnd → Type 0
  IsEnd job end = (answer files settings job ≡ Known end) ⊎ (end ≡ Ends.NoMemory)

  -- each job has its end, in order
  abbrev pub AreEnds : List Job → List UnitEnd → Type 0
  AreEnds jobs ends = AllZip IsEnd jobs ends

  -- one of the jobs looks at the path
  abbrev pub IsLookedAt : List Job → List ℕ → Type 0
  IsLookedAt jobs path = Any (λ job. Contains (looked files settings job) path) jobs
