use Rattle.std.proofs.Common.{◌∙◌, sym}
use Rattle.line_splice.specs.Cursor.{text_of, rest}
use Rattle.pp_lexer.specs.Classes.{told_kind}
use Rattle.pp_lexer.proofs.FoundLemmas.{raw_found, not_raw_found}
use Rattle.pp_lexer.proofs.lexeme.pass_any.Goals as goal

pub returns-then-is_raw-clause-lexeme : goal.returns-then-is_raw-clause-lexeme
returns-then-is_raw-clause-lexeme c before header =
    let at = c.args.at.now in
    raw_found (text_of at) before (rest at) (rest c.pass_raw_string-found.new.at) c.literal_at-opening.result c.pass_raw_string-found.result header c.literal_at-opening.ensures
    (sym c.is_raw.ensures ∙ c.if-is_raw.true) c.pass_raw_string-found.ensures.lexeme

pub returns-clause-lexeme : goal.returns-clause-lexeme
returns-clause-lexeme c before header =
    let at = c.args.at.now in
    let new = rest c.pass_not_raw.new.at in
    not_raw_found (text_of at) before (rest at) new c.literal_at-opening.result (told_kind c.pass_not_raw.result (rest at) new) header c.literal_at-opening.ensures
    (sym c.is_raw.ensures ∙ c.if-is_raw.false) c.pass_not_raw.ensures.lexeme
