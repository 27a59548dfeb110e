use Rattle.std.proofs.Common.{◌∙◌, sym, refl}
use Rattle.line_splice.specs.Cursor.{rest}
use Rattle.lexeme_reader.proofs.AlongLemmas.{along_none, along_more, along_end, line-newline, line-none}
use Rattle.lexeme_reader.proofs.steps.pass_line.Goals as goal

pub line-init : goal.line-init
line-init c = record { same = refl; along = along_none (rest c.args.at.now) }

pub line-preserved : goal.line-preserved
line-preserved c = record {
  same = c.advance.ensures.text ∙ c.line.invariant.same;
  along = along_more (rest c.args.at.now) (rest c.line.at) (rest c.advance.new.self) c.in-Some.byte c.line.invariant.along (sym c.peek.ensures.value ∙ c.in-Some.is) c.if-byte-eq10.false c.advance.ensures.rest;
}

pub returns-then-byte-eq10-clause-rest : goal.returns-then-byte-eq10-clause-rest
returns-then-byte-eq10-clause-rest c =
    along_end (rest c.args.at.now) (rest c.line.at) c.line.invariant.along (line-newline (rest c.line.at) c.in-Some.byte (sym c.peek.ensures.value ∙ c.in-Some.is) c.if-byte-eq10.true)

pub returns-in_default-clause-rest : goal.returns-in_default-clause-rest
returns-in_default-clause-rest c =
    along_end (rest c.args.at.now) (rest c.line.at) c.line.invariant.along (line-none (rest c.line.at) (sym c.peek.ensures.value ∙ c.in_default.is))
