-- What a turn of a unit does.
use Rattle.std.specs.Prelude.{◌≡◌, ◌<◌}
use Rattle.std.specs.declared.result.Result.{Result}
use Rattle.std.specs.declared.result.Result.TheVariants.{Ok, Err}
use Rattle.scan_model.specs.declared.memory.NoMemory.{NoMemory}
use Rattle.unit_steps.specs.Work.{rank}
use Rattle.unit_steps.specs.UnitView.{UnitView, IsAsking, IsOver, Spent}
use Rattle.unit_scan.specs.declared.turn.Turn.{Turn}
use Rattle.unit_scan.specs.declared.turn.Turn.TheVariants.{Ask, Done}

-- a path is waiting, and less is left than before; or the unit is over, and without memory only where it was so before;
-- or it found no memory
abbrev pub Turns : UnitView → UnitView → Result Turn NoMemory → Type 0
Turns old new (Ok Ask) = IsAsking new.phase × (rank new.work < rank old.work)
Turns old new (Ok Done) = IsOver new.phase × (new.phase ≡ Spent → old.phase ≡ Spent)
Turns old new (Err _) = new.phase ≡ Spent
