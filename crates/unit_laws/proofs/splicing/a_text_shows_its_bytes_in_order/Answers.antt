use Rattle.unit_laws.proofs.SplicedLaws.{spliced_stands}
use Rattle.unit_laws.proofs.splicing.a_text_shows_its_bytes_in_order.Goals as goal

pub returns : goal.returns
returns c = spliced_stands
