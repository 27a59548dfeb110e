use Rattle.std.proofs.Common.{◌∙◌, sym, arith}
use Rattle.lexeme_reader.proofs.DelimiterLemmas.{delimiter_found, delimiter_bad, delimiter_long}
use Rattle.lexeme_reader.proofs.raw_text.delimiter_len.Goals as goal

pub returns-then-byte-eq40 : goal.returns-then-byte-eq40
returns-then-byte-eq40 c = delimiter_found c.args.written.now c.delimiter.i (omega arith) (omega arith) c.delimiter.invariant.good c.delimiter.invariant.before c.if-byte-eq40.true

pub returns-then-not-in_delimiter : goal.returns-then-not-in_delimiter
returns-then-not-in_delimiter c = delimiter_bad c.args.written.now c.delimiter.i (omega arith) c.delimiter.invariant.before c.if-byte-eq40.false (sym c.in_delimiter.ensures ∙ c.if-not-in_delimiter.true)

pub returns : goal.returns
returns c = delimiter_long c.args.written.now c.delimiter.i (omega arith) (λ lt. omega arith) c.delimiter.invariant.before
