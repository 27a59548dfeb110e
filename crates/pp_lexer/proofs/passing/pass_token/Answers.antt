use Rattle.std.proofs.Common.{◌∙◌, [], ap, sym, refl}
use Rattle.line_splice.specs.Cursor.{text_of, rest}
use Rattle.scan_model.specs.Tokens.{lexeme}
use Rattle.pp_lexer.proofs.PassingLemmas.{no_header, passes_end, passes_none, passes_some}
use Rattle.pp_lexer.proofs.passing.pass_token.Goals as goal

pub returns-then-not-is_on_line-clause-passed : goal.returns-then-not-is_on_line-clause-passed
returns-then-not-is_on_line-clause-passed c = passes_end (text_of c.args.at.now) (rest c.args.at.now) (sym c.is_on_line.ensures ∙ c.if-not-is_on_line.true)

pub returns-then-not-is_on_line-2-clause-passed : goal.returns-then-not-is_on_line-2-clause-passed
returns-then-not-is_on_line-2-clause-passed c =
    passes_none c.args.at.now.text.now (rest c.args.at.now) (rest c.pass_blanks.new.at) c.pass_blanks.ensures.rest (sym c.is_on_line-2.ensures ∙ c.if-not-is_on_line-2.true)

pub returns-clause-passed : goal.returns-clause-passed
returns-clause-passed c =
    let at = rest c.pass_blanks.new.at in
    passes_some c.args.at.now.text.now (rest c.args.at.now) at (rest c.pass_any.new.at) _ c.pass_blanks.ensures.rest (sym c.is_on_line-2.ensures ∙ c.if-not-is_on_line-2.false)
    refl (sym (ap (λ l. l.left) (c.pass_any.ensures.lexeme [] (no_header at))) ∙ ap (λ t. (lexeme t [] at).left) c.pass_blanks.ensures.text)
