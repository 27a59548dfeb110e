use Rattle.std.proofs.Common.{◌≡◌, ◌+◌, ◌∙◌, ap, sym, subst, refl, slice_index, drop, add-zero}
use Rattle.std.proofs.lemmas.List.{get_or-drop}
use Rattle.line_splice.specs.Cursor.{rest}
use Rattle.scan_model.specs.Spelling.{encoding_len}
use Rattle.lexeme_reader.specs.Fronts.{line}
use Rattle.lexeme_reader.specs.Quotes.{IsOpening, opening_of}
use Rattle.lexeme_reader.proofs.AlongLemmas.{line-drop}
use Rattle.lexeme_reader.proofs.QuotedLemmas.{encoding_len-le, opening_is, opening_of-first}
use Rattle.lexeme_reader.proofs.quoted.prefixed_literal_at.Goals as goal

pub returns : goal.returns
returns c = let s = rest c.args.at.now in let p = encoding_len (line s) in
    let there : line (rest c.pass_encoding.new.at) ≡ drop p (line s) = ap line c.pass_encoding.ensures.rest ∙ line-drop s p (encoding_len-le (line s)) in
    let f = c.first_byte-first.result in
    let y = slice_index (line s) (p + 1) in
    let first : f ≡ slice_index (line s) p = c.first_byte-first.ensures ∙ ap (λ t. slice_index t 0) there ∙ get_or-drop p (line s) 0 0 ∙ ap (λ k. slice_index (line s) k) (add-zero p) in
    let same : c.opening_of.result ≡ opening_of f y = c.opening_of.ensures ∙ opening_of-first f c.second_if.result y
    (λ r. c.second_if.ensures r ∙ ap (λ t. slice_index t 1) there ∙ get_or-drop p (line s) 1 0) in
    subst (λ o. IsOpening o (line s)) (sym same) (opening_is (line s) f y first refl)
