use Rattle.std.proofs.Common.{◌≡◌, ◌+◌, ◌∙◌, ap, subst, length, length-drop, drop, arith}
use Rattle.std.proofs.lemmas.Bool.{MatchBool-at_true, MatchBool-at_false, OnTrue_from, OnFalse_from}
use Rattle.std.proofs.lemmas.List.{drop-drop}
use Rattle.line_splice.specs.Cursor.{rest}
use Rattle.scan_model.specs.Spelling.{encoding_len}
use Rattle.scan_model.specs.Tokens.{bytes}
use Rattle.lexeme_reader.specs.Fronts.{line}
use Rattle.lexeme_reader.specs.Quotes.{quote_byte, PassesItems}
use Rattle.lexeme_reader.proofs.SpotLemmas.{length-bytes}
use Rattle.lexeme_reader.proofs.LineLemmas.{length-rest_of_line}
use Rattle.lexeme_reader.proofs.QuotedLemmas.{quote_some, opens_within, closed_is, quoted_passed, unclosed_passed}
use Rattle.lexeme_reader.proofs.quoted.pass_quoted.Goals as goal

pub pass_bytes-requires : goal.pass_bytes-requires
pass_bytes-requires c = let s = rest c.args.at.now in let p = encoding_len (line s) in
    let e : length (rest c.pass_encoding.new.at) ≡ length (drop p s) = ap length c.pass_encoding.ensures.rest in
    omega (arith, e, length-drop p s, opens_within (quote_byte c.args.quote) (line s) (quote_some c.args.quote) c.requires, length-rest_of_line (bytes s), length-bytes s)

pub returns-then-closed-clause-value : goal.returns-then-closed-clause-value
returns-then-closed-clause-value c = let s = rest c.args.at.now in let p = encoding_len (line s) in
    let opened : rest c.pass_bytes.new.at ≡ drop (p + 1) s = c.pass_bytes.ensures.rest ∙ ap (drop 1) c.pass_encoding.ensures.rest ∙ drop-drop 1 p s in
    closed_is c.pass_items-closed.result (quote_byte c.args.quote) s (rest c.pass_bytes.new.at) (rest c.pass_items-closed.new.at) (quote_some c.args.quote) c.requires opened
    (subst (λ q. PassesItems c.pass_items-closed.result q (rest c.pass_bytes.new.at) (rest c.pass_items-closed.new.at)) c.quote_byte.ensures c.pass_items-closed.ensures.items)

pub returns-else-closed-clause-value : goal.returns-else-closed-clause-value
returns-else-closed-clause-value c = let s = rest c.args.at.now in let p = encoding_len (line s) in
    let opened : rest c.pass_bytes.new.at ≡ drop (p + 1) s = c.pass_bytes.ensures.rest ∙ ap (drop 1) c.pass_encoding.ensures.rest ∙ drop-drop 1 p s in
    closed_is c.pass_items-closed.result (quote_byte c.args.quote) s (rest c.pass_bytes.new.at) (rest c.pass_items-closed.new.at) (quote_some c.args.quote) c.requires opened
    (subst (λ q. PassesItems c.pass_items-closed.result q (rest c.pass_bytes.new.at) (rest c.pass_items-closed.new.at)) c.quote_byte.ensures c.pass_items-closed.ensures.items)

pub returns-then-closed-clause-closed : goal.returns-then-closed-clause-closed
returns-then-closed-clause-closed c = let s = rest c.args.at.now in let p = encoding_len (line s) in let q = quote_byte c.args.quote in
    let b = rest c.pass_bytes.new.at in let d = rest c.pass_items-closed.new.at in
    let opened : b ≡ drop (p + 1) s = c.pass_bytes.ensures.rest ∙ ap (drop 1) c.pass_encoding.ensures.rest ∙ drop-drop 1 p s in
    let items : PassesItems c.pass_items-closed.result q b d = subst (λ q. PassesItems c.pass_items-closed.result q b d) c.quote_byte.ensures c.pass_items-closed.ensures.items in
    let found = MatchBool-at_true _ _ c.if-closed.true items in
    OnTrue_from _ _ (λ z. quoted_passed q s b d (rest c.pass_name.new.at) (quote_some c.args.quote) c.requires opened found.0 found.1 c.pass_name.ensures.rest)

pub returns-else-closed-clause-unclosed : goal.returns-else-closed-clause-unclosed
returns-else-closed-clause-unclosed c = let s = rest c.args.at.now in let p = encoding_len (line s) in let q = quote_byte c.args.quote in
    let b = rest c.pass_bytes.new.at in let d = rest c.pass_items-closed.new.at in
    let opened : b ≡ drop (p + 1) s = c.pass_bytes.ensures.rest ∙ ap (drop 1) c.pass_encoding.ensures.rest ∙ drop-drop 1 p s in
    let items : PassesItems c.pass_items-closed.result q b d = subst (λ q. PassesItems c.pass_items-closed.result q b d) c.quote_byte.ensures c.pass_items-closed.ensures.items in
    let found = MatchBool-at_false _ _ c.if-closed.false items in
    OnFalse_from _ _ (λ z. unclosed_passed q s b d (quote_some c.args.quote) c.requires opened found.1)
