-- A larger file map gives what a smaller one gave.
use Rattle.std.specs.Prelude.{◌≡◌, ℕ, List, [], ◌∷◌, ◌++◌, take, length, Some, None}
use Rattle.scan_model.specs.declared.command.Settings.{Settings}
use Rattle.scan_model.specs.declared.command.Job.{Job}
use Rattle.scan_model.specs.declared.unit_end.UnitEnd.{UnitEnd}
use Rattle.scan_model.specs.Files.{FileMap, Content}
use Rattle.scan_model.specs.WholeFile.{View}
use Rattle.scan_model.specs.Answer.{Answer, Known, answer_by, looked_by}

-- the larger map has all that the smaller one has
abbrev pub Extends : (X : Type 0) → FileMap X → FileMap X → Type 0
Extends X files more = (path : List ℕ) (content : Content X) → files path ≡ Some content → more path ≡ Some content

-- these paths, in this order, begin the others
abbrev pub Begins : List (List ℕ) → List (List ℕ) → Type 0
Begins paths others = take (length paths) others ≡ paths

-- files seen in any way
module _ (X : Type 0) (view : View X) where
  -- where the answer doesn't need another path, it stays
  abbrev pub AnswerStays : Type 0
  AnswerStays = (files more : FileMap X) (settings : Settings) (job : Job) (end : UnitEnd) → Extends X files more →
      answer_by view files settings job ≡ Known end →
      (answer_by view more settings job ≡ Known end) × (looked_by view more settings job ≡ looked_by view files settings job)

  -- what was looked at stays, whatever the answer
  abbrev pub LookedGrows : Type 0
  LookedGrows = (files more : FileMap X) (settings : Settings) (job : Job) → Extends X files more →
      Begins (looked_by view files settings job) (looked_by view more settings job)

  -- the path that is needed is the last that was looked at, and the map lacks it
  abbrev pub NeedsLast : Type 0
  NeedsLast = (files : FileMap X) (settings : Settings) (job : Job) (path : List ℕ) →
      answer_by view files settings job ≡ Answer.Unread path →
      (files path ≡ None) × ((before : List (List ℕ)) × (looked_by view files settings job ≡ before ++ path ∷ []))
