use Rattle.byte_keys.proofs.MapLemmas.{entries_find_alike}
use Rattle.byte_keys.proofs.maps.entries_find_alike.Goals as goal

pub returns : goal.returns
returns g c = entries_find_alike
