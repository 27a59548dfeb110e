use Rattle.unit_laws.proofs.PlainStreams.{units_in_place}
use Rattle.unit_laws.proofs.streams.keywords_stand_in_module_lines_alone.Goals as goal

pub returns : goal.returns
returns c = units_in_place
