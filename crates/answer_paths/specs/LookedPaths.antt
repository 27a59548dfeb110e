-- What a file map has of the paths that were looked at for an end.
use Rattle.std.specs.Prelude.{◌≡◌, ◌≢◌, ℕ, List, Contains, Some, IsSome}
use Rattle.scan_model.specs.declared.command.Settings.{Settings}
use Rattle.scan_model.specs.declared.command.Job.{Job}
use Rattle.scan_model.specs.declared.unit_end.UnitEnd.{UnitEnd}
use Rattle.scan_model.specs.declared.unit_end.UnitEnd.TheVariants as Ends
use Rattle.scan_model.specs.Files.{Content, FileMap, NoMemory}
use Rattle.scan_model.specs.WholeFile.{View}
use Rattle.scan_model.specs.Answer.{Known, answer_by, looked_by}

-- the second map has all that the first one has, but where memory was wanting for that
abbrev pub HasTextsOf : (X : Type 0) → FileMap X → FileMap X → Type 0
HasTextsOf X files other = (path : List ℕ) (content : Content X) → files path ≡ Some content → content ≢ NoMemory → other path ≡ Some content

-- files seen in any way
module _ (X : Type 0) (view : View X) where
  -- where there is an end, the map has each path that was looked at
  abbrev pub EndHasPaths : Type 0
  EndHasPaths = (files : FileMap X) (settings : Settings) (job : Job) (end : UnitEnd) → answer_by view files settings job ≡ Known end →
      (path : List ℕ) → Contains (looked_by view files settings job) path → IsSome (files path)

  -- and where that isn't want of memory, memory was wanting for none of them
  abbrev pub EndHasTexts : Type 0
  EndHasTexts = (files : FileMap X) (settings : Settings) (job : Job) (end : UnitEnd) → answer_by view files settings job ≡ Known end → end ≢ Ends.NoMemory →
      (path : List ℕ) → Contains (looked_by view files settings job) path → files path ≢ Some NoMemory

  -- such an end is that of each map that has all texts, and so are the paths
  abbrev pub EndIsOfTexts : Type 0
  EndIsOfTexts = (files other : FileMap X) (settings : Settings) (job : Job) (end : UnitEnd) → HasTextsOf X files other →
      answer_by view files settings job ≡ Known end → end ≢ Ends.NoMemory →
      (answer_by view other settings job ≡ Known end) × (looked_by view other settings job ≡ looked_by view files settings job)
