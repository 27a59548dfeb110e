use Rattle.unit_laws.proofs.PlainStreams.{units_read_by_tokens}
use Rattle.unit_laws.proofs.streams.units_read_by_tokens_alike.Goals as goal

pub returns : goal.returns
returns c = units_read_by_tokens
