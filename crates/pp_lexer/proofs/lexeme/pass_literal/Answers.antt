use Rattle.std.proofs.Common.{◌∙◌, ap, sym}
use Rattle.line_splice.specs.Cursor.{rest}
use Rattle.scan_model.specs.Tokens.{bytes}
use Rattle.pp_lexer.specs.Reads.{passed}
use Rattle.pp_lexer.proofs.RuleLemmas.{Literal, literal_given}
use Rattle.pp_lexer.proofs.lexeme.pass_literal.Goals as goal

pub returns-clause-ahead : goal.returns-clause-ahead
returns-clause-ahead c =
    let l : Literal c.args.at.now c.args.quote c.pass_quoted-closed.result (rest c.pass_quoted-closed.new.at) = record {
      some = c.requires.some;
      opening = c.requires.opens;
      other = c.requires.other;
      value = c.pass_quoted-closed.ensures.value;
      whole = c.pass_quoted-closed.ensures.closed;
      cut_off = c.pass_quoted-closed.ensures.unclosed;
    } in
    (literal_given c.args.at.now c.args.quote c.pass_quoted-closed.result (rest c.pass_quoted-closed.new.at) l).0

pub returns-clause-lexeme : goal.returns-clause-lexeme
returns-clause-lexeme c =
    let l : Literal c.args.at.now c.args.quote c.pass_quoted-closed.result (rest c.pass_quoted-closed.new.at) = record {
      some = c.requires.some;
      opening = c.requires.opens;
      other = c.requires.other;
      value = c.pass_quoted-closed.ensures.value;
      whole = c.pass_quoted-closed.ensures.closed;
      cut_off = c.pass_quoted-closed.ensures.unclosed;
    } in
    (literal_given c.args.at.now c.args.quote c.pass_quoted-closed.result (rest c.pass_quoted-closed.new.at) l).1
    ∙ ap (λ k. record { kind = k; text = bytes (passed (rest c.args.at.now) (rest c.pass_quoted-closed.new.at)); left = rest c.pass_quoted-closed.new.at }) (sym c.literal_kind.ensures)
