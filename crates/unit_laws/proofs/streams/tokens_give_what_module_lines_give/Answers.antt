use Rattle.unit_laws.proofs.StreamLemmas.{read_by_tokens}
use Rattle.unit_laws.proofs.streams.tokens_give_what_module_lines_give.Goals as goal

pub returns : goal.returns
returns c = read_by_tokens
