use Rattle.std.proofs.Common.{◌≡◌, ◌∙◌, ap, length, drop, arith}
use Rattle.line_splice.specs.Cursor.{text_of, rest}
use Rattle.lexeme_reader.specs.Fronts.{line}
use Rattle.lexeme_reader.specs.Raws.{read_raw}
use Rattle.scan_model.specs.declared.token.Kind.TheVariants.{Stray}
use Rattle.scan_model.specs.Tokens.{raw_lexeme, cut}
use Rattle.pp_lexer.proofs.FoundLemmas.{shown_spelled, shown_given}
use Rattle.pp_lexer.proofs.UnquotedLemmas.{line_ahead, shown_cut}
use Rattle.pp_lexer.proofs.lexeme.pass_raw_string.Goals as goal

pub returns-in-Shown-clause-spelling : goal.returns-in-Shown-clause-spelling
returns-in-Shown-clause-spelling c =
    let at = c.args.at.now in
    let n = length (line (rest at)) in
    let is : raw_lexeme (text_of at) (rest at) ≡ cut Stray n (rest at) = c.pass_raw.ensures.lexeme ∙ ap (λ r. read_raw r (text_of at) (rest at)) c.in-Shown.is in
    let left : rest c.pass_raw.new.at ≡ drop n (rest at) = c.pass_raw.ensures.rest ∙ ap (λ l. l.left) is in
    shown_spelled (text_of at) c.shown.result (rest at) (rest c.pass_raw.new.at) c.shown.ensures.spelling (line_ahead at n (rest c.pass_raw.new.at) c.requires.some (omega arith) left).0

pub returns-in-Shown-clause-lexeme : goal.returns-in-Shown-clause-lexeme
returns-in-Shown-clause-lexeme c =
    let at = c.args.at.now in
    let n = length (line (rest at)) in
    let is : raw_lexeme (text_of at) (rest at) ≡ cut Stray n (rest at) = c.pass_raw.ensures.lexeme ∙ ap (λ r. read_raw r (text_of at) (rest at)) c.in-Shown.is in
    let left : rest c.pass_raw.new.at ≡ drop n (rest at) = c.pass_raw.ensures.rest ∙ ap (λ l. l.left) is in
    shown_given (text_of at) (raw_lexeme (text_of at) (rest at)) c.shown.result Stray (rest at) (rest c.pass_raw.new.at) c.shown.ensures.kind c.shown.ensures.spelling
    (shown_cut at n (rest c.pass_raw.new.at) (raw_lexeme (text_of at) (rest at)) Stray c.requires.some (omega arith) left is)
