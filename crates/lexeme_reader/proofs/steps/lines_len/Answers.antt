use Rattle.lexeme_reader.proofs.OverLemmas.{before_last}
use Rattle.lexeme_reader.proofs.steps.lines_len.Goals as goal

pub returns-then-len-written-clause-next : goal.returns-then-len-written-clause-next
returns-then-len-written-clause-next c some =
    before_last c.args.stop c.args.written.now c.over_len-len.result c.saturating_sub.result c.over_len-len.ensures.all c.saturating_sub.ensures some

pub returns-then-written-len-eq92-clause-next : goal.returns-then-written-len-eq92-clause-next
returns-then-written-len-eq92-clause-next c some =
    before_last c.args.stop c.args.written.now c.over_len-len.result c.saturating_sub-then-written-len-eq92.result c.over_len-len.ensures.all
    c.saturating_sub-then-written-len-eq92.ensures some
