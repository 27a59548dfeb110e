use Rattle.std.proofs.Common.{◌≡◌, Bool, ◌&&◌, nat_lt, List, ◌∙◌, ap, sym}
use Rattle.line_splice.specs.Cursor.{text_of, rest}
use Rattle.lexeme_reader.specs.Fronts.{line}
use Rattle.scan_model.specs.declared.token.Kind.TheVariants.{Header}
use Rattle.scan_model.specs.declared.token.Tok.{Tok}
use Rattle.scan_model.specs.Spliced.{Spot}
use Rattle.scan_model.specs.Spelling.{is_header, longest}
use Rattle.scan_model.specs.Tokens.{wants_header, lexeme}
use Rattle.pp_lexer.proofs.FoundLemmas.{WantedHeader, header_ahead, header_given, shown_spelled, shown_given, told, told_spelled}
use Rattle.pp_lexer.proofs.lexeme.pass_lexeme.Goals as goal

-- whether a header name stands here that is wanted, of the tokens before
tested : (before : List Tok) (wants answer : Bool) (s : List Spot) → wants_header before ≡ wants → answer ≡ (wants && nat_lt 0 (longest is_header (line s)))
    → (wants_header before && nat_lt 0 (longest is_header (line s))) ≡ answer
tested before wants answer s e h = ap (λ b. b && nat_lt 0 (longest is_header (line s))) e ∙ sym h

pub returns-then-pass_wanted_header-clause-spelling : goal.returns-then-pass_wanted_header-clause-spelling
returns-then-pass_wanted_header-clause-spelling c =
    let at = c.args.at.now in
    let new = rest c.pass_wanted_header.new.at in
    shown_spelled (text_of at) c.shown.result (rest at) new c.shown.ensures.spelling (header_ahead at new c.requires (c.pass_wanted_header.ensures.header c.if-pass_wanted_header.true))

pub returns-then-pass_wanted_header-clause-lexeme : goal.returns-then-pass_wanted_header-clause-lexeme
returns-then-pass_wanted_header-clause-lexeme c before wants =
    let at = c.args.at.now in
    let new = rest c.pass_wanted_header.new.at in
    let w : WantedHeader at before new = record {
      some = c.requires;
      test = tested before c.args.wants c.pass_wanted_header.result (rest at) wants c.pass_wanted_header.ensures.value ∙ c.if-pass_wanted_header.true;
      left = c.pass_wanted_header.ensures.header c.if-pass_wanted_header.true;
    } in
    shown_given (text_of at) (lexeme (text_of at) before (rest at)) c.shown.result Header (rest at) new c.shown.ensures.kind c.shown.ensures.spelling (header_given (text_of at) at before new w)

pub returns-clause-lexeme : goal.returns-clause-lexeme
returns-clause-lexeme c before wants =
    let at = c.args.at.now in
    told (text_of at) (text_of c.pass_wanted_header.new.at) before (rest at) (rest c.pass_wanted_header.new.at) (rest c.pass_any-passed.new.at) c.pass_any-passed.result c.told_kind.result
    c.pass_wanted_header.ensures.text (c.pass_wanted_header.ensures.none c.if-pass_wanted_header.false)
    (tested before c.args.wants c.pass_wanted_header.result (rest at) wants c.pass_wanted_header.ensures.value ∙ c.if-pass_wanted_header.false)
    (c.pass_any-passed.ensures.lexeme before) c.told_kind.ensures

pub returns-clause-spelling : goal.returns-clause-spelling
returns-clause-spelling c =
    let at = c.args.at.now in
    told_spelled (text_of at) (text_of c.pass_wanted_header.new.at) (rest at) (rest c.pass_wanted_header.new.at) (rest c.pass_any-passed.new.at) c.pass_any-passed.result
    c.pass_wanted_header.ensures.text (c.pass_wanted_header.ensures.none c.if-pass_wanted_header.false) c.pass_any-passed.ensures.spelling
