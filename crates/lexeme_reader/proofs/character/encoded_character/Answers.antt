use Rattle.std.proofs.Common.{◌≡◌, ◌∙◌, ◌+◌, ◌≤◌, ◌<◌, ap, sym, subst, inl, inr, drop, length, length-drop, Some, arith, ℕ}
use Rattle.std.proofs.lemmas.List.{drop-drop}
use Rattle.std.proofs.Math.ListN.{length-set}
use Rattle.std.specs.Str.{IsUtf8}
use Rattle.line_splice.specs.Cursor.{rest}
use Rattle.scan_model.specs.Spliced.{byte_at}
use Rattle.lexeme_reader.proofs.SpotLemmas.{byte_at-none}
use Rattle.lexeme_reader.proofs.CharacterLemmas.{no_character, character_here, front_more, none_more}
use Rattle.lexeme_reader.proofs.character.encoded_character.Goals as goal

pub returns-in_default : goal.returns-in_default
returns-in_default c = let s = rest c.args.at.now in let n = c.loop-len.len in
    let end = byte_at-none (rest c.loop-len.next) (sym c.peek.ensures.value ∙ c.in_default.is) in
    let none : length (drop n s) ≡ 0 = ap length (sym c.loop-len.invariant.left ∙ end) in
    let short : length s ≤ n = omega (arith, none, length-drop n s) in
    no_character s n (inl short) c.loop-len.invariant.none

pub returns-in-Some-first_of : goal.returns-in-Some-first_of
returns-in-Some-first_of c = let s = rest c.args.at.now in let n = c.loop-len.len in
    let here : byte_at (drop n s) ≡ Some c.in-Some.byte = ap byte_at (sym c.loop-len.invariant.left) ∙ sym c.peek.ensures.value ∙ c.in-Some.is in
    let long : n < length c.loop-len.buffer = omega (arith, c.advance.array_long, length-set {A = ℕ}) in
    character_here s (n + 1) c.in-Some-first_of.found _ (front_more s n c.in-Some.byte c.loop-len.buffer long c.loop-len.invariant.front here) c.in-Some-first_of.ensures

pub loop-len-preserved : goal.loop-len-preserved
loop-len-preserved c = let s = rest c.args.at.now in let n = c.loop-len.len in
    let here : byte_at (drop n s) ≡ Some c.in-Some.byte = ap byte_at (sym c.loop-len.invariant.left) ∙ sym c.peek.ensures.value ∙ c.in-Some.is in
    let long : n < length c.loop-len.buffer = omega (arith, c.advance.array_long, length-set {A = ℕ}) in
    let front = front_more s n c.in-Some.byte c.loop-len.buffer long c.loop-len.invariant.front here in
    record {
      left = c.advance.ensures.rest ∙ ap (drop 1) c.loop-len.invariant.left ∙ drop-drop 1 n s;
      front = front;
      none = none_more s n c.loop-len.invariant.none (λ text. c.in_default-first_of.ensures (subst IsUtf8 (sym front) text));
    }

pub returns : goal.returns
returns c = no_character (rest c.args.at.now) c.loop-len.len (inr (omega arith)) c.loop-len.invariant.none
