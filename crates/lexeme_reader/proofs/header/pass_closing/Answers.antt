use Rattle.std.proofs.Common.{◌∙◌, sym, refl}
use Rattle.std.proofs.lemmas.Bool.{eq-eqb, ne_eqb}
use Rattle.line_splice.specs.Cursor.{rest}
use Rattle.lexeme_reader.proofs.AlongLemmas.{line-newline, line-none}
use Rattle.lexeme_reader.proofs.HeaderLemmas.{before_none, before_more, before_found, before_end}
use Rattle.lexeme_reader.proofs.header.pass_closing.Goals as goal

pub closing-init : goal.closing-init
closing-init c = record { same = refl; before = before_none c.args.close (rest c.args.at.now) }

pub closing-preserved : goal.closing-preserved
closing-preserved c = record {
  same = c.advance.ensures.text ∙ c.closing.invariant.same;
  before = before_more c.args.close c.in-Some.byte (rest c.args.at.now) (rest c.closing.at) (rest c.advance.new.self) c.closing.invariant.before (sym c.peek.ensures.value ∙ c.in-Some.is)
      c.if-byte-eq10.false (ne_eqb c.in-Some.byte c.args.close c.if-byte-close.false) c.advance.ensures.rest;
}

pub returns-then-byte-eq10-clause-found : goal.returns-then-byte-eq10-clause-found
returns-then-byte-eq10-clause-found c =
    before_end c.args.close (rest c.args.at.now) (rest c.closing.at) c.closing.invariant.before (line-newline (rest c.closing.at) c.in-Some.byte (sym c.peek.ensures.value ∙ c.in-Some.is) c.if-byte-eq10.true)

pub returns-then-byte-close-clause-found : goal.returns-then-byte-close-clause-found
returns-then-byte-close-clause-found c =
    before_found c.args.close c.in-Some.byte (rest c.args.at.now) (rest c.closing.at) (rest c.advance.new.self) c.closing.invariant.before (sym c.peek.ensures.value ∙ c.in-Some.is)
    c.if-byte-eq10.false (eq-eqb c.in-Some.byte c.args.close c.if-byte-close.true) c.advance.ensures.rest

pub returns-clause-found : goal.returns-clause-found
returns-clause-found c = before_end c.args.close (rest c.args.at.now) (rest c.closing.at) c.closing.invariant.before (line-none (rest c.closing.at) (sym c.peek.ensures.value ∙ c.in_default.is))
