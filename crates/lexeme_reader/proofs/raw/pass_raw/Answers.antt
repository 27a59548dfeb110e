use Rattle.std.proofs.Common.{◌≡◌, ◌+◌, ◌∙◌, ap, sym, subst, drop, length, true, false, arith}
use Rattle.std.proofs.lemmas.List.{take_rest}
use Rattle.line_splice.specs.Cursor.{text_of, rest}
use Rattle.scan_model.specs.Spelling.{encoding_len, is_delimited}
use Rattle.scan_model.specs.Tokens.{Lexeme, bytes}
use Rattle.lexeme_reader.specs.Raws.{ContinuesRaw}
use Rattle.lexeme_reader.proofs.RawStringLemmas.{raw_front, raw_bad, raw_parts}
use Rattle.lexeme_reader.proofs.raw.pass_raw.Goals as goal

pub returns-in-Some-clause-lexeme : goal.returns-in-Some-clause-lexeme
returns-in-Some-clause-lexeme c = let s = rest c.args.at.now in let text = text_of c.args.at.now in let q = c.pass_raw_quote-start in let start = q.result in let p = c.pass_inside-parts in
    let e = c.text-text.ensures in
    let good : is_delimited (drop start text) ≡ true = ap (λ t. is_delimited (drop start t)) (sym e) ∙ ap is_delimited (sym (take_rest c.text-text.result.now start)) ∙ c.in-Some.ensures.good in
    let intro : p.result.intro ≡ encoding_len (bytes s) + 2 = omega (arith, p.ensures.intro, c.encoding_len-intro.ensures.len, (raw_front s c.requires).same) in
    let more : ContinuesRaw p.result start text (rest q.new.at) (rest p.new.at) = subst (λ t. ContinuesRaw p.result start t (rest q.new.at) (rest p.new.at)) q.ensures.text p.ensures.raw in
    raw_parts text s (rest q.new.at) (rest p.new.at) start p.result q.ensures.written good q.ensures.rest intro more

pub returns-in-Some-clause-rest : goal.returns-in-Some-clause-rest
returns-in-Some-clause-rest c = c.pass_inside-parts.ensures.raw.left ∙ ap (λ (l : Lexeme). l.left) (sym (returns-in-Some-clause-lexeme c))

pub returns-in-Some-clause-fits : goal.returns-in-Some-clause-fits
returns-in-Some-clause-fits c = let p = c.pass_inside-parts in let q = c.pass_raw_quote-start in let f = p.ensures.raw.fits in
    let s = rest c.args.at.now in
    record {
      intro = omega (arith, p.ensures.intro, c.encoding_len-intro.ensures.len, (raw_front s c.requires).same, q.ensures.within);
      start = f.0;
      «end» = omega (arith, f.1, ap length q.ensures.text);
      suffix = f.2 ∙ q.ensures.text;
    }

pub returns-in-None-clause-lexeme : goal.returns-in-None-clause-lexeme
returns-in-None-clause-lexeme c = let s = rest c.args.at.now in let text = text_of c.args.at.now in let q = c.pass_raw_quote-start in let start = q.result in
    let bad : is_delimited (drop start text) ≡ false = ap (λ t. is_delimited (drop start t)) (sym c.text-text.ensures) ∙ ap is_delimited (sym (take_rest c.text-text.result.now start)) ∙ c.in-None.ensures in
    raw_bad text s start q.ensures.written bad

pub returns-in-None-clause-rest : goal.returns-in-None-clause-rest
returns-in-None-clause-rest c = c.pass_line.ensures.rest ∙ ap (λ (l : Lexeme). l.left) (sym (returns-in-None-clause-lexeme c))
