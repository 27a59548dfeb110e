use Rattle.std.proofs.Common.{◌≡◌, ◌+◌, ◌∙◌, ap, sym, drop, length, length-drop, Some, arith}
use Rattle.std.proofs.lemmas.List.{drop-drop}
use Rattle.line_splice.specs.Cursor.{text_of, rest}
use Rattle.scan_model.specs.Spliced.{byte_at, place_at}
use Rattle.scan_model.specs.Spelling.{encoding_len}
use Rattle.scan_model.specs.Tokens.{bytes, written_after}
use Rattle.lexeme_reader.proofs.SpotLemmas.{length-bytes}
use Rattle.lexeme_reader.proofs.LineLemmas.{length-rest_of_line}
use Rattle.lexeme_reader.proofs.PlaceLemmas.{place_inside, written_is}
use Rattle.lexeme_reader.proofs.RawStringLemmas.{raw_front}
use Rattle.lexeme_reader.proofs.raw.pass_raw_quote.Goals as goal

pub pass_bytes-requires : goal.pass_bytes-requires
pass_bytes-requires c = let s = rest c.args.at.now in let f = raw_front s c.requires in
    omega (arith, c.encoding_len-len.ensures.len, f.within, length-rest_of_line (bytes s), length-bytes s)

pub pass_bytes-requires-2 : goal.pass_bytes-requires-2
pass_bytes-requires-2 c = let s = rest c.args.at.now in let f = raw_front s c.requires in let n = c.encoding_len-len.result + 1 in
    omega (arith, c.encoding_len-len.ensures.len, f.within, length-rest_of_line (bytes s), length-bytes s, ap length c.pass_bytes.ensures.rest, length-drop n s)

pub overflow_add-result : goal.overflow_add-result
overflow_add-result c = let s = rest c.args.at.now in let f = raw_front s c.requires in let q = c.pass_bytes.new.at in
    let here : byte_at (rest q) ≡ Some 34 = ap byte_at (c.pass_bytes.ensures.rest ∙ ap (λ k. drop (k + 1) s) c.encoding_len-len.ensures.len) ∙ f.quote in
    let inside = place_inside q 34 here (λ e. omega (arith, e)) in
    record { fits = omega (arith, inside, c.raw_from-place.ensures, q.small) }

pub returns-clause-start : goal.returns-clause-start
returns-clause-start c = let s = rest c.args.at.now in let f = raw_front s c.requires in let q = c.pass_bytes.new.at in
    let here : byte_at (rest q) ≡ Some 34 = ap byte_at (c.pass_bytes.ensures.rest ∙ ap (λ k. drop (k + 1) s) c.encoding_len-len.ensures.len) ∙ f.quote in
    let inside = place_inside q 34 here (λ e. omega (arith, e)) in
    omega (arith, inside, c.raw_from-place.ensures, ap length c.pass_bytes.ensures.text)

pub returns-clause-written : goal.returns-clause-written
returns-clause-written c = let s = rest c.args.at.now in let f = raw_front s c.requires in let q = c.pass_bytes.new.at in let text = text_of c.args.at.now in
    let there : rest q ≡ drop (encoding_len (bytes s) + 1) s = c.pass_bytes.ensures.rest ∙ ap (λ k. drop (k + 1) s) (c.encoding_len-len.ensures.len ∙ sym f.same) in
    let here : byte_at (rest q) ≡ Some 34 = ap byte_at (c.pass_bytes.ensures.rest ∙ ap (λ k. drop (k + 1) s) c.encoding_len-len.ensures.len) ∙ f.quote in
    ap (written_after text) (sym there) ∙ written_is text (rest q) 34 c.raw_from-place.result here (c.raw_from-place.ensures ∙ ap (λ t. place_at t (rest q)) c.pass_bytes.ensures.text)

pub returns-clause-within : goal.returns-clause-within
returns-clause-within c = let s = rest c.args.at.now in let f = raw_front s c.requires in
    omega (arith, f.same, f.within, length-rest_of_line (bytes s), length-bytes s)

pub returns-clause-rest : goal.returns-clause-rest
returns-clause-rest c = let s = rest c.args.at.now in let f = raw_front s c.requires in let n = c.encoding_len-len.result in
    let total : n + 1 + 1 ≡ encoding_len (bytes s) + 2 = omega (arith, c.encoding_len-len.ensures.len, f.same) in
    c.pass_bytes-2.ensures.rest ∙ ap (drop 1) c.pass_bytes.ensures.rest ∙ drop-drop 1 (n + 1) s ∙ ap (λ k. drop k s) total
