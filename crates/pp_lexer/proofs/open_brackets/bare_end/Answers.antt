use Rattle.std.proofs.Common.{◌≡◌, ◌∙◌, ap, sym, refl, subst}
use Rattle.std.proofs.lemmas.Bool.{ne_eqb}
use Rattle.line_splice.specs.Cursor.{rest}
use Rattle.scan_model.specs.Spliced.{place_at}
use Rattle.lexeme_reader.proofs.AlongLemmas.{line-newline}
use Rattle.lexeme_reader.proofs.HeaderLemmas.{before_none, before_more, before_end}
use Rattle.pp_lexer.specs.Brackets.{IsBare}
use Rattle.pp_lexer.proofs.BracketLemmas.{bare_line}
use Rattle.pp_lexer.proofs.open_brackets.bare_end.Goals as goal

pub bare-init : goal.bare-init
bare-init c = record { same = refl; before = before_none 62 (rest c.args.at.now) }

pub bare-preserved : goal.bare-preserved
bare-preserved c = record {
  same = c.advance.ensures.text ∙ c.bare.invariant.same;
  before = before_more 62 c.in-Some.byte (rest c.args.at.now) (rest c.bare.next) (rest c.advance.new.self) c.bare.invariant.before (sym c.peek.ensures.value ∙ c.in-Some.is)
      c.if-byte-eq10.false (ne_eqb c.in-Some.byte 62 c.if-byte-eq62.false) c.advance.ensures.rest;
}

pub returns-then-byte-eq10-clause-closing : goal.returns-then-byte-eq10-clause-closing
returns-then-byte-eq10-clause-closing c =
    before_end 62 (rest c.args.at.now) (rest c.bare.next) c.bare.invariant.before (line-newline (rest c.bare.next) c.in-Some.byte (sym c.peek.ensures.value ∙ c.in-Some.is) c.if-byte-eq10.true)

pub returns-then-byte-eq10-clause-bare : goal.returns-then-byte-eq10-clause-bare
returns-then-byte-eq10-clause-bare c =
    let at = c.args.at.now in
    let now = rest c.bare.next in
    let none = line-newline now c.in-Some.byte (sym c.peek.ensures.value ∙ c.in-Some.is) c.if-byte-eq10.true in
    let place : c.raw_from.result ≡ place_at at.text.now now = c.raw_from.ensures ∙ ap (λ t. place_at t now) c.bare.invariant.same in
    subst (λ end. IsBare end at.text.now (rest at)) (sym place)
    (bare_line at at.text.now now c.bare.invariant.before none (before_end 62 (rest at) now c.bare.invariant.before none))
