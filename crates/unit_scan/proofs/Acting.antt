-- The next line of a file, as the code reads it.
use Rattle.std.proofs.Common.{◌≡◌, ℕ, ◌+◌, ◌≤◌, List, [], ◌∷◌, length, slice_get, ap, sym, ◌∙◌, arith}
use Rattle.std.specs.Prelude.{Option, Some, None}
use Rattle.std.specs.Option.{option_map, option_map_or}
use Rattle.scan_model.specs.declared.token.Line.{Line}
use Rattle.reducer.specs.ReducedLines.{AreOrdered, toks_of}
use Rattle.reducer.specs.declared.reduced.LineHead.{LineHead}
use Rattle.reducer.specs.Views.{head}

-- numbers that rise, each at most 2 ^ 25 + 2, are few
pub ordered_few : (from : ℕ) (ls : List Line) → AreOrdered from ls → from ≤ 33554434 → from + length ls ≤ 33554434
ordered_few from [] h small = omega (arith, small)
ordered_few from (l ∷ ls) h small = let more = ordered_few l.next ls h.3 h.2 in omega (arith, h.0, h.1, more)

of_head : (o : Option Line) (h : LineHead) → option_map head o ≡ Some h → o ≡ Some (record { toks = option_map_or (λ line. line.toks) o []; line = h.line; next = h.next })
of_head None h is = cc
of_head (Some l) h is =
    let line : l.line ≡ h.line = ap (λ o. option_map_or (λ (z : LineHead). z.line) o 0) is in
    let next : l.next ≡ h.next = ap (λ o. option_map_or (λ (z : LineHead). z.next) o 0) is in
    λ i. Some (record { toks = l.toks; line = line i; next = next i })

-- the line at a place, by its tokens and numbers
pub next_line : (ls : List Line) (k : ℕ) (lines : List Line) (h : LineHead) → lines ≡ ls → option_map head (slice_get lines k) ≡ Some h →
    slice_get ls k ≡ Some (record { toks = toks_of lines k; line = h.line; next = h.next })
next_line ls k lines h same is = ap (λ z. slice_get z k) (sym same) ∙ of_head (slice_get lines k) h is
