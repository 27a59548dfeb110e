use Rattle.unit_laws.proofs.SplicedLaws.{shown_stands}
use Rattle.unit_laws.proofs.splicing.shown_bytes_stand_in_the_text.Goals as goal

pub returns : goal.returns
returns c = shown_stands
