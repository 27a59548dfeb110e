use Rattle.unit_laws.proofs.ChainLemmas.{found_place}
use Rattle.unit_laws.proofs.chain.a_found_file_has_its_candidates_place.Goals as goal

pub returns : goal.returns
returns g c = found_place _
