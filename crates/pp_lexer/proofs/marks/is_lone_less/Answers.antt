use Rattle.std.proofs.Common.{rules}
use Rattle.scan_model.specs.Tokens.{is_lone_less}
use Rattle.pp_lexer.proofs.marks.is_lone_less.Goals as goal

pub returns : goal.returns
unfolding is_lone_less
returns c = search rules
