use Rattle.std.proofs.Common.{sym, ◌∙◌, arith}
use Rattle.line_splice.proofs.ShownLemmas.{front_newline, front_byte, front_added, front_end}
use Rattle.line_splice.proofs.PlainLemmas.{front_plain}
use Rattle.line_splice.proofs.splices.front.Goals as goal

pub returns-then-newline-gt0 : goal.returns-then-newline-gt0
returns-then-newline-gt0 c = front_newline c.args.last c.args.text.now _ c.newline_len-newline.ensures.len c.if-newline-gt0.true c.newline_len-newline.ensures.within

pub returns-then-text-gt0-2 : goal.returns-then-text-gt0-2
returns-then-text-gt0-2 c = front_byte c.args.last c.args.text.now c.requires (omega arith) c.if-text-gt0-2.true

pub returns-then-last-eq10 : goal.returns-then-last-eq10
returns-then-last-eq10 c = front_end c.args.last c.args.text.now c.if-last-eq10.true (omega arith)

pub returns-else-last-eq10 : goal.returns-else-last-eq10
returns-else-last-eq10 c = front_added c.args.last c.args.text.now c.if-last-eq10.false (omega arith)

pub returns-then-shows_itself : goal.returns-then-shows_itself
returns-then-shows_itself c = front_plain c.args.last c.args.text.now c.if-text-gt0.true (sym c.shows_itself.ensures ∙ c.if-shows_itself.true)
