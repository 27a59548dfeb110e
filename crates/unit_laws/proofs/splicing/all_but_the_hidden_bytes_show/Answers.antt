use Rattle.unit_laws.proofs.SplicedLaws.{others_show}
use Rattle.unit_laws.proofs.splicing.all_but_the_hidden_bytes_show.Goals as goal

pub returns : goal.returns
returns c = others_show
