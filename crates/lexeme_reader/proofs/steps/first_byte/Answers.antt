use Rattle.std.proofs.Common.{◌∙◌, ap, sym, slice_index}
use Rattle.line_splice.specs.Cursor.{rest}
use Rattle.lexeme_reader.proofs.AlongLemmas.{line-cons, line-newline, line-none}
use Rattle.lexeme_reader.proofs.steps.first_byte.Goals as goal

pub returns-then-byte-eq10 : goal.returns-then-byte-eq10
returns-then-byte-eq10 c = sym (ap (λ s. slice_index s 0) (line-newline (rest c.args.at.now) c.in-Some.byte (sym c.peek.ensures.value ∙ c.in-Some.is) c.if-byte-eq10.true))

pub returns-else-byte-eq10 : goal.returns-else-byte-eq10
returns-else-byte-eq10 c = sym (ap (λ s. slice_index s 0) (line-cons (rest c.args.at.now) c.in-Some.byte (sym c.peek.ensures.value ∙ c.in-Some.is) c.if-byte-eq10.false))

pub returns-in-None : goal.returns-in-None
returns-in-None c = sym (ap (λ s. slice_index s 0) (line-none (rest c.args.at.now) (sym c.peek.ensures.value ∙ c.in-None.is)))
