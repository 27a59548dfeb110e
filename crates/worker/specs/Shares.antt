-- What callers know of a worker's share.
use Rattle.std.specs.Prelude.{ℕ, List, vec_capacity}
use Rattle.scan_model.specs.declared.UnitEnd.{UnitEnd}
use Rattle.worker.specs.declared.share.Share.{Share}

-- the numbers of jobs with their ends, in order of drawing
abbrev pub ends_in : Share → List (ℕ × UnitEnd)
ends_in share = share.ends.items

-- for how many ends there is room
abbrev pub room_of : Share → ℕ
room_of share = vec_capacity share.ends
