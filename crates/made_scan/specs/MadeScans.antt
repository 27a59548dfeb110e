-- What a scan of a made tree gives.
use Rattle.std.specs.Prelude.{◌≡◌, ◌↔◌, ℕ, List, length, Contains, Option, Some, None}
use Rattle.scan_model.specs.declared.command.Settings.{Settings}
use Rattle.scan_model.specs.declared.unit_end.UnitEnd.{UnitEnd}
use Rattle.scan_model.specs.Files.{Content, Present, Absent, FileMap}
use Rattle.file_source.specs.Made.{text_at}
use Rattle.big_gen.specs.MadeTexts.{made_files}
use Rattle.shard_cache.specs.Rows.{AllDiffer}
use Rattle.shard_cache.specs.Ends.{AreEnds, IsLookedAt}
use Rattle.made_scan.specs.MadeJobs.{made_jobs}

-- a text that is listed is there, and no other is
abbrev pub content_of : Option (List ℕ) → Content (List ℕ)
content_of None = Absent
content_of (Some text) = Present text

-- the tree of n units as a file map
unfoldable pub made_map : ℕ → FileMap (List ℕ)
made_map n path = Some (content_of (text_at (made_files n) path))

-- each unit has its end over the tree, in order, or memory was wanting for it
abbrev pub AreMadeEnds : ℕ → Settings → List UnitEnd → Type 0
AreMadeEnds n settings ends = AreEnds (made_map n) settings (made_jobs n) ends

-- so many different paths are looked at over the tree
pub record IsPathCount (n : ℕ) (settings : Settings) (count : ℕ) : Type 0 where
  pub paths : List (List ℕ)
  pub differ : AllDiffer paths
  pub length_is : length paths ≡ count
  pub each : (path : List ℕ) → Contains paths path ↔ IsLookedAt (made_map n) settings (made_jobs n) path
