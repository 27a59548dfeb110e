use Rattle.std.proofs.Common.{ℕ, length-take, length-drop, arith, refl}
use Rattle.line_splice.specs.Cursor.{rest}
use Rattle.line_splice.proofs.PlainLemmas.{passed_shows}
use Rattle.line_splice.proofs.PlaceLemmas.{written_ready, written_len, passed_none, passed_written, written_ends}
use Rattle.line_splice.proofs.cursor.Cursor.pass_written.Goals as goal

pub returns-then-count-eq0-clause-rest : goal.returns-then-count-eq0-clause-rest
unfolding rest
returns-then-count-eq0-clause-rest c = let s = c.args.self.now in
    passed_none s.text.now s.last s.place s.line c.args.count s.shows s.within c.if-count-eq0.true

pub slice_bounds-newlines-end : goal.slice_bounds-newlines-end
unfolding rest
slice_bounds-newlines-end c = let s = c.args.self.now in
    let k = written_len s.text.now s.place c.args.count s.within
    (written_ready s.text.now s.last s.place s.line c.args.count s.shows s.within c.requires.within (c.requires.plain (omega (arith, c.if-count-eq0.false)))) in
    omega (arith, k)

pub returns-clause-rest : goal.returns-clause-rest
unfolding rest
returns-clause-rest c = let s = c.args.self.now in let h = c.splices_len-hidden in
    passed_written s.text.now _ _ s.last s.place s.line c.args.count c.newlines-ended.result h.result.0 h.result.1 s.shows s.within c.if-count-eq0.false
    (written_ready s.text.now s.last s.place s.line c.args.count s.shows s.within c.requires.within (c.requires.plain (omega (arith, c.if-count-eq0.false))))
    refl c.newlines-ended.ensures.count refl h.ensures.same

pub invariant_of-self-clause-within : goal.invariant_of-self-clause-within
unfolding rest
invariant_of-self-clause-within c = let s = c.args.self.now in let h = c.splices_len-hidden in
    let k = written_len s.text.now s.place c.args.count s.within
    (written_ready s.text.now s.last s.place s.line c.args.count s.shows s.within c.requires.within (c.requires.plain (omega (arith, c.if-count-eq0.false)))) in
    omega (arith, k, h.ensures.within, length-take {A = ℕ}, length-drop {A = ℕ})

pub invariant_of-self-clause-few_lines : goal.invariant_of-self-clause-few_lines
invariant_of-self-clause-few_lines c = let s = c.args.self.now in let h = c.splices_len-hidden in
    omega (arith, s.few_lines, c.newlines-ended.ensures.few, h.ensures.few, length-take {A = ℕ}, length-drop {A = ℕ})

pub invariant_of-self-clause-shows : goal.invariant_of-self-clause-shows
invariant_of-self-clause-shows c = let s = c.args.self.now in let h = c.splices_len-hidden in
    passed_shows s.text.now _ s.place c.args.count h.result.0 refl h.ensures.all

pub invariant_of-self-clause-ends : goal.invariant_of-self-clause-ends
unfolding rest
invariant_of-self-clause-ends c = let s = c.args.self.now in let h = c.splices_len-hidden in
    written_ends s.text.now _ _ s.last s.place s.line c.args.count c.newlines-ended.result h.result.0 h.result.1 c.if-count-eq0.false
    (written_ready s.text.now s.last s.place s.line c.args.count s.shows s.within c.requires.within (c.requires.plain (omega (arith, c.if-count-eq0.false))))
    refl c.newlines-ended.ensures.count refl h.ensures.same (passed_shows s.text.now _ s.place c.args.count h.result.0 refl h.ensures.all) s.ends
