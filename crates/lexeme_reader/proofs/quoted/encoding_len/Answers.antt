use Rattle.std.proofs.Common.{◌≡◌, ◌∙◌, ap, sym, slice_index, arith}
use Rattle.line_splice.specs.Cursor.{rest}
use Rattle.scan_model.specs.Spelling.{encoding_len}
use Rattle.scan_model.specs.Tokens.{bytes}
use Rattle.lexeme_reader.specs.Fronts.{line}
use Rattle.lexeme_reader.specs.Quotes.{encoding_of}
use Rattle.lexeme_reader.proofs.SpotLemmas.{length-bytes}
use Rattle.lexeme_reader.proofs.LineLemmas.{length-rest_of_line}
use Rattle.lexeme_reader.proofs.QuotedLemmas.{encoding_len-bytes, encoding_len-le, encoding_of-first}
use Rattle.lexeme_reader.proofs.quoted.encoding_len.Goals as goal

pub returns-clause-len : goal.returns-clause-len
returns-clause-len c = let s = rest c.args.at.now in
    let e : c.encoding_of.result ≡ encoding_len (line s) =
    c.encoding_of.ensures ∙ encoding_of-first c.first_byte-first.result c.second_if.result (slice_index (line s) 1) (λ u. c.second_if.ensures u)
    ∙ ap (λ a. encoding_of a (slice_index (line s) 1)) c.first_byte-first.ensures ∙ sym (encoding_len-bytes (line s)) in
    e

pub returns-clause-within : goal.returns-clause-within
returns-clause-within c = let s = rest c.args.at.now in
    let e : c.encoding_of.result ≡ encoding_len (line s) =
    c.encoding_of.ensures ∙ encoding_of-first c.first_byte-first.result c.second_if.result (slice_index (line s) 1) (λ u. c.second_if.ensures u)
    ∙ ap (λ a. encoding_of a (slice_index (line s) 1)) c.first_byte-first.ensures ∙ sym (encoding_len-bytes (line s)) in
    omega (arith, e, encoding_len-le (line s), length-rest_of_line (bytes s), length-bytes s)
