-- The jobs of a made tree.
use Rattle.std.specs.Prelude.{ℕ, List, [], ◌∷◌, ◌++◌, map, codes, decimal, None}
use Rattle.std.specs.List.{range_with_len}
use Rattle.scan_model.specs.declared.command.Job.{Job}
use Rattle.compile_db.specs.declared.Entry.{Entry}
use Rattle.compile_db.specs.declared.EntryWords.TheVariants.{Arguments}
use Rattle.command_words.specs.Jobs.{job_of}

-- the name of a unit's file in the tree's folder
abbrev pub unit_name : ℕ → List ℕ
unit_name unit = codes "u" ++ decimal unit ++ codes ".cppm"

abbrev pub made_words : ℕ → List (List ℕ)
made_words unit = codes "c++" ∷ codes "-c" ∷ unit_name unit ∷ []

-- what the database of the tree says of a unit
abbrev pub made_entry : ℕ → Entry
made_entry unit = record { directory = codes "/m"; file = unit_name unit; words = Arguments (made_words unit); output = None }

unfoldable pub made_job : ℕ → Job
made_job unit = job_of (made_entry unit)

-- one for each unit, in order
abbrev pub made_jobs : ℕ → List Job
made_jobs n = map made_job (range_with_len 1 n)
