use Rattle.std.proofs.Common.{◌≡◌, ◌∙◌, ap, sym, refl, subst, ◌||◌, nat_lt, length}
use Rattle.line_splice.specs.Cursor.{rest, text_of}
use Rattle.scan_model.specs.Spliced.{line_at}
use Rattle.scan_model.specs.Tokens.{after_blanks}
use Rattle.pp_lexer.specs.Brackets.{IsBare}
use Rattle.pp_lexer.specs.Lexemes.{spelling_of}
use Rattle.pp_lexer.specs.Reads.{line_here}
use Rattle.pp_lexer.proofs.TokenLemmas.{token_none, tok_is}
use Rattle.pp_lexer.proofs.ReadLemmas.{token_read, bare_blanks, bare_left}
use Rattle.pp_lexer.proofs.tokens.next_token.Goals as goal

pub returns-then-not-is_on_line-clause-token : goal.returns-then-not-is_on_line-clause-token
returns-then-not-is_on_line-clause-token c = (
  token_none c.args.text.now c.args.before.now (rest c.args.at.now) (rest c.pass_blanks.new.at) c.pass_blanks.ensures.rest (sym c.is_on_line.ensures ∙ c.if-not-is_on_line.true),
  c.pass_blanks.ensures.rest,
)

pub returns-then-not-is_on_line-clause-bare : goal.returns-then-not-is_on_line-clause-bare
returns-then-not-is_on_line-clause-bare c = bare_blanks c.args.bare_to.now c.args.text.now (rest c.args.at.now) (rest c.pass_blanks.new.at) c.pass_blanks.ensures.rest c.requires.bare

pub pass_next_lexeme-found-requires-clause-bare : goal.pass_next_lexeme-found-requires-clause-bare
pass_next_lexeme-found-requires-clause-bare c =
    let at = rest c.pass_blanks.new.at in
    let whole : text_of c.pass_blanks.new.at ≡ c.args.text.now = c.pass_blanks.ensures.text ∙ c.requires.text in
    subst (λ t. IsBare c.args.bare_to.now t at) (sym whole) (bare_blanks c.args.bare_to.now c.args.text.now (rest c.args.at.now) at c.pass_blanks.ensures.rest c.requires.bare)

pub returns-clause-token : goal.returns-clause-token
returns-clause-token c =
    let s = rest c.args.at.now in
    let at = rest c.pass_blanks.new.at in
    let text = c.args.text.now in
    let before = c.args.before.now in
    let found = c.pass_next_lexeme-found.result in
    let left = rest c.pass_next_lexeme-found.new.at in
    let bytes = spelling_of text found.spelling at left in
    let blanks = c.pass_blanks.ensures.rest in
    let text' = text_of c.pass_blanks.new.at in
    let whole : text' ≡ text = c.pass_blanks.ensures.text ∙ c.requires.text in (
      record { kind = found.kind; text = bytes; left = left },
      token_read text text' before s at left found whole blanks (sym c.is_on_line.ensures ∙ c.if-not-is_on_line.false) (c.pass_next_lexeme-found.ensures.lexeme before (sym c.wants_header.ensures)),
      ap (λ b. record { kind = found.kind; text = b; space = c.pass_blanks.result || c.is_nil.result; line = c.line_here-line.result }) (c.of_vec.ensures ∙ c.in_ok-spelling.ensures)
          ∙ tok_is text before s at left found.kind bytes _ _ blanks
          (ap (λ b. b || c.is_nil.result) c.pass_blanks.ensures.passed ∙ ap (λ b. nat_lt (length (after_blanks s)) (length s) || b) c.is_nil.ensures)
          (c.line_here-line.ensures ∙ ap (line_here before) (c.line.ensures.value ∙ ap (λ t. line_at t at) whole)),
      refl,
    )

pub returns-clause-bare : goal.returns-clause-bare
returns-clause-bare c =
    let s = rest c.args.at.now in
    let at = rest c.pass_blanks.new.at in
    let text = c.args.text.now in
    let before = c.args.before.now in
    let found = c.pass_next_lexeme-found.result in
    let left = rest c.pass_next_lexeme-found.new.at in
    let blanks = c.pass_blanks.ensures.rest in
    let text' = text_of c.pass_blanks.new.at in
    let whole : text' ≡ text = c.pass_blanks.ensures.text ∙ c.requires.text in
    let token = token_read text text' before s at left found whole blanks (sym c.is_on_line.ensures ∙ c.if-not-is_on_line.false) (c.pass_next_lexeme-found.ensures.lexeme before (sym c.wants_header.ensures)) in
    bare_left c.pass_next_lexeme-found.new.bare_to text text' before s at left found whole blanks token c.pass_next_lexeme-found.ensures.bare
