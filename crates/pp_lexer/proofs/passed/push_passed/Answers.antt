use Rattle.std.proofs.Common.{◌≡◌, ◌<◌, ◌++◌, ◌∙◌, ap, length, length-drop, drop, arith}
use Rattle.line_splice.specs.Cursor.{rest}
use Rattle.scan_model.specs.Spliced.{place_at}
use Rattle.scan_model.specs.Tokens.{bytes}
use Rattle.pp_lexer.specs.Reads.{passed}
use Rattle.pp_lexer.proofs.PassedLemmas.{goes_on, stops, along_more, passed_more}
use Rattle.pp_lexer.proofs.passed.push_passed.Goals as goal

pub bytes-preserved : goal.bytes-preserved
bytes-preserved c =
    let s = rest c.args.from.now in
    let t = rest c.args.to.now in
    let u = rest c.bytes.next in
    let v = rest c.take_byte.new.at in
    let text = c.args.from.now.text.now in
    let i = c.bytes.invariant in
    let here : c.raw_from.result ≡ place_at text u = c.raw_from.ensures ∙ ap (λ x. place_at x u) i.same in
    let there : c.raw_from-in-bytes.result ≡ place_at text t = c.raw_from-in-bytes.ensures ∙ ap (λ x. place_at x t) c.requires.text in
    let lt : length t < length u = goes_on s t u text c.requires.ahead i.along i.before (omega arith) in
    let more = along_more s u v i.along c.take_byte.ensures.left (omega arith) in
    let left : length v ≡ length (drop 1 u) = ap length c.take_byte.ensures.left in
    record {
      same = c.take_byte.ensures.text ∙ i.same;
      along = more.0;
      before = omega (arith, left, length-drop 1 u);
      whole = c.in_ok-take_byte.ensures.bytes ∙ passed_more s u v c.args.text.now.items c.bytes.text.items (bytes u) i.along c.take_byte.ensures.left (omega arith) i.whole;
    }

pub returns : goal.returns
returns c =
    let t = rest c.args.to.now in
    let u = rest c.bytes.next in
    let text = c.args.from.now.text.now in
    let i = c.bytes.invariant in
    let here : c.raw_from.result ≡ place_at text u = c.raw_from.ensures ∙ ap (λ x. place_at x u) i.same in
    let there : c.raw_from-in-bytes.result ≡ place_at text t = c.raw_from-in-bytes.ensures ∙ ap (λ x. place_at x t) c.requires.text in
    i.whole ∙ ap (λ r. c.args.text.now.items ++ bytes (passed (rest c.args.from.now) r)) (stops c.args.from.now t u text c.requires.ahead i.along i.before (omega arith))
