use Rattle.std.proofs.Common.{◌≡◌, ◌∙◌, ap, sym, refl, ◌||◌, nat_lt, length, subst}
use Rattle.line_splice.specs.Cursor.{rest, text_of}
use Rattle.scan_model.specs.Spliced.{line_at}
use Rattle.scan_model.specs.Tokens.{after_blanks}
use Rattle.pp_lexer.specs.Brackets.{IsBare}
use Rattle.pp_lexer.specs.Lexemes.{spelling_of}
use Rattle.pp_lexer.specs.Reads.{line_here}
use Rattle.pp_lexer.proofs.TokenLemmas.{token_none, tok_is}
use Rattle.pp_lexer.proofs.ReadLemmas.{token_read, bare_blanks, bare_left}
use Rattle.reducer.specs.Building.{open_toks}
use Rattle.reducer.proofs.RoomLemmas.{room_later, further_blanks, token_takes}
use Rattle.reducer.proofs.reduction.read_token.Goals as goal

pub returns-then-not-is_on_line-clause-bare : goal.returns-then-not-is_on_line-clause-bare
returns-then-not-is_on_line-clause-bare c = bare_blanks c.args.bare_to.now c.args.text.now (rest c.args.at.now) (rest c.pass_blanks.new.at) c.pass_blanks.ensures.rest c.requires.bare

pub returns-then-not-is_on_line-clause-read : goal.returns-then-not-is_on_line-clause-read
returns-then-not-is_on_line-clause-read c =
    let before = open_toks c.args.lines.now in
    let at = rest c.pass_blanks.new.at in
    let blanks = c.pass_blanks.ensures.rest in
    ((token_none c.args.text.now before (rest c.args.at.now) at blanks (sym c.is_on_line.ensures ∙ c.if-not-is_on_line.true), blanks), refl, c.requires.sound)

pub returns-then-not-is_on_line-clause-room : goal.returns-then-not-is_on_line-clause-room
returns-then-not-is_on_line-clause-room c =
    let at = rest c.pass_blanks.new.at in
    room_later c.args.lines.now c.args.text.now (rest c.args.at.now) at c.requires.room (further_blanks c.args.text.now c.args.at.now at c.requires.text c.pass_blanks.ensures.rest)

pub push-requires-clause-room : goal.push-requires-clause-room
push-requires-clause-room c =
    let at = rest c.pass_blanks.new.at in
    room_later c.args.lines.now c.args.text.now (rest c.args.at.now) at c.requires.room (further_blanks c.args.text.now c.args.at.now at c.requires.text c.pass_blanks.ensures.rest)

pub push-requires-clause-taken : goal.push-requires-clause-taken
push-requires-clause-taken c =
    let s = rest c.args.at.now in
    let at = rest c.pass_blanks.new.at in
    let text = c.args.text.now in
    let before = open_toks c.args.lines.now in
    let found = c.pass_next_lexeme-found.result in
    let left = rest c.pass_next_lexeme-found.new.at in
    let text' = text_of c.pass_blanks.new.at in
    let whole : text' ≡ text = c.pass_blanks.ensures.text ∙ c.requires.text in
    let blanks = c.pass_blanks.ensures.rest in
    let token = token_read text text' before s at left found whole blanks (sym c.is_on_line.ensures ∙ c.if-not-is_on_line.false) (c.pass_next_lexeme-found.ensures.lexeme before (sym c.wants_header.ensures)) in
    token_takes text before s left (record { kind = found.kind; text = spelling_of text found.spelling at left; left = left }) c.pass_blanks.new.at whole blanks token refl

pub pass_next_lexeme-found-requires-clause-bare : goal.pass_next_lexeme-found-requires-clause-bare
pass_next_lexeme-found-requires-clause-bare c =
    let at = rest c.pass_blanks.new.at in
    let whole : text_of c.pass_blanks.new.at ≡ c.args.text.now = c.pass_blanks.ensures.text ∙ c.requires.text in
    subst (λ t. IsBare c.args.bare_to.now t at) (sym whole) (bare_blanks c.args.bare_to.now c.args.text.now (rest c.args.at.now) at c.pass_blanks.ensures.rest c.requires.bare)

pub returns-clause-room : goal.returns-clause-room
returns-clause-room c = c.in_ok-push.ensures.room

pub returns-clause-bare : goal.returns-clause-bare
returns-clause-bare c =
    let s = rest c.args.at.now in
    let at = rest c.pass_blanks.new.at in
    let text = c.args.text.now in
    let before = open_toks c.args.lines.now in
    let found = c.pass_next_lexeme-found.result in
    let left = rest c.pass_next_lexeme-found.new.at in
    let text' = text_of c.pass_blanks.new.at in
    let whole : text' ≡ text = c.pass_blanks.ensures.text ∙ c.requires.text in
    let blanks = c.pass_blanks.ensures.rest in
    let token = token_read text text' before s at left found whole blanks (sym c.is_on_line.ensures ∙ c.if-not-is_on_line.false) (c.pass_next_lexeme-found.ensures.lexeme before (sym c.wants_header.ensures)) in
    bare_left c.pass_next_lexeme-found.new.bare_to text text' before s at left found whole blanks token c.pass_next_lexeme-found.ensures.bare

pub returns-clause-read : goal.returns-clause-read
returns-clause-read c =
    let s = rest c.args.at.now in
    let at = rest c.pass_blanks.new.at in
    let text = c.args.text.now in
    let before = open_toks c.args.lines.now in
    let found = c.pass_next_lexeme-found.result in
    let left = rest c.pass_next_lexeme-found.new.at in
    let bytes = spelling_of text found.spelling at left in
    let text' = text_of c.pass_blanks.new.at in
    let whole : text' ≡ text = c.pass_blanks.ensures.text ∙ c.requires.text in
    let blanks = c.pass_blanks.ensures.rest in (
      _,
      (
        record { kind = found.kind; text = bytes; left = left },
        token_read text text' before s at left found whole blanks (sym c.is_on_line.ensures ∙ c.if-not-is_on_line.false) (c.pass_next_lexeme-found.ensures.lexeme before (sym c.wants_header.ensures)),
        tok_is text before s at left found.kind bytes _ (line_here before (line_at text at)) blanks
            (ap (λ b. b || c.is_empty.result) c.pass_blanks.ensures.passed ∙ ap (λ b. nat_lt (length (after_blanks s)) (length s) || b) c.is_empty.ensures) refl,
        refl,
      ),
      c.in_ok-push.ensures.token,
    )
