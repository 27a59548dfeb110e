use Rattle.std.proofs.Common.{length}
use Rattle.lexeme_reader.proofs.OverLemmas.{over_before}
use Rattle.lexeme_reader.proofs.steps.over_len.Goals as goal

pub returns-in-Some-clause-all : goal.returns-in-Some-clause-all
returns-in-Some-clause-all c = over_before c.args.stop c.args.written.now c.in-Some.found c.in-Some.ensures.0.before

pub returns-in-None-clause-all : goal.returns-in-None-clause-all
returns-in-None-clause-all c = over_before c.args.stop c.args.written.now (length c.args.written.now) c.in-None.ensures
