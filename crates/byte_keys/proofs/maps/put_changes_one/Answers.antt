use Rattle.byte_keys.proofs.MapLemmas.{put_changes_one}
use Rattle.byte_keys.proofs.maps.put_changes_one.Goals as goal

pub returns : goal.returns
returns g c = put_changes_one
