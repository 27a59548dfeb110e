use Rattle.std.proofs.Common.{◌+◌, refl}
use Rattle.line_splice.specs.Cursor.{rest}
use Rattle.line_splice.proofs.ShownLemmas.{Step, step, step_within, ends_is, advanced}
use Rattle.line_splice.proofs.cursor.Cursor.advance_any.Goals as goal

pub invariant_of-self-clause-shows : goal.invariant_of-self-clause-shows
invariant_of-self-clause-shows c = let s = c.args.self.now in let f = c.in-Some in let h = c.splices_len-hidden in
    (step s.text.now _ _ s.place s.line s.last f.byte f.taken f.below h.result.0 h.result.1 refl refl f.ensures h.ensures.same h.ensures.all).shows

pub invariant_of-self-clause-ends : goal.invariant_of-self-clause-ends
invariant_of-self-clause-ends c = let s = c.args.self.now in let f = c.in-Some in let h = c.splices_len-hidden in
    let next : Step s.text.now s.place s.line s.last f.byte (s.place + f.taken + h.result.0) (s.line + f.below + h.result.1) =
    step s.text.now _ _ s.place s.line s.last f.byte f.taken f.below h.result.0 h.result.1 refl refl f.ensures h.ensures.same h.ensures.all in
    rw c.line_after-line.ensures (ends_is s.text.now s.place s.line s.last f.byte _ _ _ refl next
    (step_within s.text.now _ _ s.place s.last f.byte f.taken f.below h.result.0 refl refl f.ensures h.ensures.within s.within) s.ends)

pub returns-in-Some-clause-rest : goal.returns-in-Some-clause-rest
unfolding rest
returns-in-Some-clause-rest c = let s = c.args.self.now in let f = c.in-Some in let h = c.splices_len-hidden in
    let next : Step s.text.now s.place s.line s.last f.byte (s.place + f.taken + h.result.0) (s.line + f.below + h.result.1) =
    step s.text.now _ _ s.place s.line s.last f.byte f.taken f.below h.result.0 h.result.1 refl refl f.ensures h.ensures.same h.ensures.all in
    advanced s.text.now s.place s.line s.last f.byte _ _ c.line_after-line.result _ refl c.line_after-line.ensures next
