use Rattle.std.proofs.Common.{◌≡◌, ◌<◌, ◌∙◌, ap, sym, length, length-drop, drop, arith}
use Rattle.std.specs.Prelude.{unwrap_or}
use Rattle.std.proofs.lemmas.Grind.{common_steps}
use Rattle.line_splice.specs.Cursor.{rest}
use Rattle.scan_model.specs.Spliced.{byte_at, place_at}
use Rattle.scan_model.specs.Spelling.{is_alternative}
use Rattle.scan_model.specs.Tokens.{bytes}
use Rattle.pp_lexer.specs.Reads.{passed}
use Rattle.pp_lexer.proofs.PassedLemmas.{goes_on, stops, along_more, buffer_more, too_long}
use Rattle.pp_lexer.proofs.passed.passed_alternative.Goals as goal

pub returns-then-raw_from : goal.returns-then-raw_from
returns-then-raw_from c =
    let t = rest c.args.to.now in
    let u = rest c.word.next in
    let text = c.args.from.now.text.now in
    let i = c.word.invariant in
    let here : c.raw_from.result ≡ place_at text u = c.raw_from.ensures ∙ ap (λ x. place_at x u) i.same in
    let there : c.raw_from-in-word.result ≡ place_at text t = c.raw_from-in-word.ensures ∙ ap (λ x. place_at x t) c.requires.text in
    c.is_alternative.ensures ∙ ap is_alternative i.whole
    ∙ ap (λ r. is_alternative (bytes (passed (rest c.args.from.now) r))) (stops c.args.from.now t u text c.requires.ahead i.along i.before (omega arith))

pub word-preserved : goal.word-preserved
word-preserved c =
    let s = rest c.args.from.now in
    let t = rest c.args.to.now in
    let u = rest c.word.next in
    let v = rest c.advance.new.self in
    let text = c.args.from.now.text.now in
    let i = c.word.invariant in
    let here : c.raw_from.result ≡ place_at text u = c.raw_from.ensures ∙ ap (λ x. place_at x u) i.same in
    let there : c.raw_from-in-word.result ≡ place_at text t = c.raw_from-in-word.ensures ∙ ap (λ x. place_at x t) c.requires.text in
    let lt : length t < length u = goes_on s t u text c.requires.ahead i.along i.before (omega arith) in
    let more = along_more s u v i.along c.advance.ensures.rest (omega arith) in
    let left : length v ≡ length (drop 1 u) = ap length c.advance.ensures.rest in
    let byte : c.unwrap_or.result ≡ unwrap_or (byte_at u) 0 = c.unwrap_or.ensures ∙ ap (λ o. unwrap_or o 0) c.peek.ensures.value in
    record {
      same = c.advance.ensures.text ∙ i.same;
      along = more.0;
      count = omega (arith, more.1, i.count);
      size = grind (arith, common_steps);
      before = omega (arith, left, length-drop 1 u);
      whole = buffer_more s u v c.word.buffer c.word.len c.unwrap_or.result i.along c.advance.ensures.rest (omega arith) i.count (omega arith) byte i.whole;
    }

pub returns : goal.returns
returns c =
    let i = c.word.invariant in
    sym (too_long (rest c.args.from.now) (rest c.args.to.now) (rest c.word.next) c.word.len i.count (omega arith) i.before)
