use Rattle.std.proofs.Common.{◌+◌, refl}
use Rattle.line_splice.specs.Cursor.{rest}
use Rattle.line_splice.proofs.ShownLemmas.{spliced_is, new_ends, new_shows}
use Rattle.line_splice.proofs.cursor.Cursor.new.Goals as goal

pub invariant_of-result-clause-shows : goal.invariant_of-result-clause-shows
invariant_of-result-clause-shows c = new_shows c.args.text.now _ c.mark_len-mark.result c.splices_len-hidden.result.0 refl c.splices_len-hidden.ensures.all

pub invariant_of-result-clause-ends : goal.invariant_of-result-clause-ends
invariant_of-result-clause-ends c = let m = c.mark_len-mark in let h = c.splices_len-hidden in let t = c.args.text.now in
    new_ends t (m.result + h.result.0) (1 + h.result.1) (new_shows t _ m.result h.result.0 refl h.ensures.all)
    (spliced_is t _ m.result h.result.0 h.result.1 m.ensures.len refl h.ensures.same)

pub returns-clause-rest : goal.returns-clause-rest
unfolding rest
returns-clause-rest c = let m = c.mark_len-mark in let h = c.splices_len-hidden in
    spliced_is c.args.text.now _ m.result h.result.0 h.result.1 m.ensures.len refl h.ensures.same
