use Rattle.unit_steps.proofs.Places.{found_has_place}
use Rattle.unit_steps.proofs.standing.a_found_file_has_the_place_of_its_candidate.Goals as goal

pub returns : goal.returns
returns c = found_has_place
