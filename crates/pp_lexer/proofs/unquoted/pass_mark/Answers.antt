use Rattle.std.proofs.Common.{◌≡◌, ◌≤◌, ◌∙◌, ap, sym, length, arith}
use Rattle.line_splice.specs.Cursor.{rest}
use Rattle.lexeme_reader.specs.Fronts.{line, character_len}
use Rattle.scan_model.specs.declared.token.Kind.TheVariants.{Punct, Stray}
use Rattle.scan_model.specs.Tokens.{cut}
use Rattle.pp_lexer.specs.Reads.{mark_len, unquoted}
use Rattle.pp_lexer.proofs.ChoiceLemmas.{Unquoted}
use Rattle.pp_lexer.proofs.MarkLemmas.{mark_le}
use Rattle.pp_lexer.proofs.UnquotedLemmas.{line_ahead, shown_cut, mark_chosen, stray_chosen, character_le}
use Rattle.pp_lexer.proofs.unquoted.pass_mark.Goals as goal

pub returns-then-len-gt0-clause-ahead : goal.returns-then-len-gt0-clause-ahead
returns-then-len-gt0-clause-ahead c = let s = line (rest c.args.at.now) in
    let le : c.mark_len-len.result ≤ length s = omega (arith, c.mark_len-len.ensures.len, mark_le s) in
    (line_ahead c.args.at.now c.mark_len-len.result (rest c.pass_bytes.new.at) c.requires.some le c.pass_bytes.ensures.rest).0

pub returns-then-len-gt0-clause-lexeme : goal.returns-then-len-gt0-clause-lexeme
returns-then-len-gt0-clause-lexeme c =
    let spots = rest c.args.at.now in
    let s = line spots in
    let u : Unquoted s = record { single = c.requires.single; double = c.requires.double } in
    let len : c.mark_len-len.result ≡ mark_len s = c.mark_len-len.ensures.len in
    let le : c.mark_len-len.result ≤ length s = omega (arith, len, mark_le s) in
    shown_cut c.args.at.now c.mark_len-len.result (rest c.pass_bytes.new.at) (unquoted spots) Punct c.requires.some le c.pass_bytes.ensures.rest
    (mark_chosen spots u c.requires.names c.requires.numbers (omega (arith, len, c.if-len-gt0.true)) ∙ ap (λ k. cut Punct k spots) (sym len))

pub returns-clause-ahead : goal.returns-clause-ahead
returns-clause-ahead c = let s = line (rest c.args.at.now) in
    (line_ahead c.args.at.now (character_len s) (rest c.pass_character.new.at) c.requires.some (character_le s c.requires.some) c.pass_character.ensures.rest).0

pub returns-clause-lexeme : goal.returns-clause-lexeme
returns-clause-lexeme c =
    let spots = rest c.args.at.now in
    let s = line spots in
    let u : Unquoted s = record { single = c.requires.single; double = c.requires.double } in
    let len : c.mark_len-len.result ≡ mark_len s = c.mark_len-len.ensures.len in
    shown_cut c.args.at.now (character_len s) (rest c.pass_character.new.at) (unquoted spots) Stray c.requires.some (character_le s c.requires.some) c.pass_character.ensures.rest
    (stray_chosen spots u c.requires.names c.requires.numbers (omega (arith, len, c.if-len-gt0.false)))
