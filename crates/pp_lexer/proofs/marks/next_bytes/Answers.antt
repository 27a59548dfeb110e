use Rattle.std.proofs.Common.{◌≡◌, ◌∷◌, ap, sym, ◌∙◌, drop, arith}
use Rattle.std.specs.Prelude.{unwrap_or}
use Rattle.std.proofs.lemmas.List.{drop-drop}
use Rattle.std.proofs.lemmas.Grind.{common_steps}
use Rattle.line_splice.specs.Cursor.{rest}
use Rattle.lexeme_reader.specs.Fronts.{line}
use Rattle.pp_lexer.proofs.MarkLemmas.{line_le, line_stop, line_more, all_taken, set_more, drop_within}
use Rattle.pp_lexer.proofs.marks.next_bytes.Goals as goal

pub returns-then-byte-eq10-clause-within : goal.returns-then-byte-eq10-clause-within
returns-then-byte-eq10-clause-within c = omega (arith, c.window.invariant.within, line_le (rest c.args.at.now))

pub returns-then-byte-eq10-clause-bytes : goal.returns-then-byte-eq10-clause-bytes
returns-then-byte-eq10-clause-bytes c = let whole = line (rest c.args.at.now) in
    c.window.invariant.same ∙ all_taken whole c.window.len 4 (omega arith) (sym c.window.invariant.left ∙ line_stop (rest c.window.next) c.unwrap_or-byte.result (c.unwrap_or-byte.ensures ∙ ap (λ o. unwrap_or o 10) c.peek.ensures.value) c.if-byte-eq10.true)

pub window-preserved : goal.window-preserved
window-preserved c =
    let s = rest c.window.next in
    let whole = line (rest c.args.at.now) in
    let k = c.window.len in
    let b = c.unwrap_or-byte.result in
    let more = line_more s b (c.unwrap_or-byte.ensures ∙ ap (λ o. unwrap_or o 10) c.peek.ensures.value) c.if-byte-eq10.false in
    let there : drop k whole ≡ b ∷ line (drop 1 s) = sym c.window.invariant.left ∙ more in
    record {
      along = c.advance.ensures.rest ∙ ap (drop 1) c.window.invariant.along ∙ drop-drop 1 k (rest c.args.at.now);
      size = grind (arith, common_steps);
      within = drop_within whole k b (line (drop 1 s)) there;
      same = set_more c.window.bytes whole k b (line (drop 1 s)) c.window.invariant.same (omega arith) there;
      left = ap line c.advance.ensures.rest ∙ sym (ap (drop 1) more) ∙ ap (drop 1) c.window.invariant.left ∙ drop-drop 1 k whole;
    }

pub returns-clause-within : goal.returns-clause-within
returns-clause-within c = omega (arith, c.window.invariant.within, line_le (rest c.args.at.now))
