use Rattle.std.proofs.Common.{◌≡◌, ◌≤◌, ◌∙◌, ap, sym, refl, drop, length, Some, arith}
use Rattle.line_splice.specs.Cursor.{text_of, rest}
use Rattle.scan_model.specs.Spelling.{after_raw}
use Rattle.lexeme_reader.proofs.RawStringLemmas.{suffix_is, closed_raw}
use Rattle.lexeme_reader.proofs.raw.pass_inside.Goals as goal

pub returns-in-Some-clause-raw : goal.returns-in-Some-clause-raw
returns-in-Some-clause-raw c = let a = c.args.at.now in let text = text_of a in let start = c.args.start in let stop = c.in-Some.end in let e = c.text-text.ensures in
    let within : stop ≤ length text = omega (arith, c.in-Some.ensures.1, ap length e) in
    let found : after_raw (drop start text) ≡ Some (drop stop text) = ap (λ t. after_raw (drop start t)) (sym e) ∙ c.in-Some.ensures.2 ∙ ap (λ t. Some (drop stop t)) e in
    record {
      begins = refl;
      fits = (c.in-Some.ensures.0, within, c.pass_to.ensures.text);
      left = c.pass_name.ensures.rest;
      lexeme = λ front. closed_raw text front start stop (rest a) (rest c.pass_to.new.self) (rest c.pass_name.new.at) c.in-Some.ensures.0 within found c.pass_to.ensures.rest
          (suffix_is (rest c.pass_to.new.self) (rest c.pass_name.new.at) c.pass_name.ensures.rest c.pass_name.ensures.whole) c.pass_name.ensures.rest;
    }
