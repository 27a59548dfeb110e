use Rattle.std.proofs.Common.{ℕ, length-take, length-drop, arith, refl}
use Rattle.line_splice.specs.Cursor.{rest}
use Rattle.line_splice.proofs.PlainLemmas.{ready, ready_len, written_here, passed_plain, passed_shows, passed_ends}
use Rattle.line_splice.proofs.cursor.Cursor.pass_plain.Goals as goal

pub slice_bounds-splices_len-count : goal.slice_bounds-splices_len-count
unfolding rest
slice_bounds-splices_len-count c = let s = c.args.self.now in
    ready_len s.text.now s.place c.args.count s.within (ready s.text.now s.last s.place s.line c.args.count s.shows s.within c.requires.within c.requires.plain)

pub returns-clause-rest : goal.returns-clause-rest
unfolding rest
returns-clause-rest c = let s = c.args.self.now in let h = c.splices_len-hidden in
    passed_plain s.text.now _ s.last s.place s.line c.args.count h.result.0 h.result.1 c.if-count-eq0.false
    (ready s.text.now s.last s.place s.line c.args.count s.shows s.within c.requires.within c.requires.plain) refl h.ensures.same

pub returns-clause-written : goal.returns-clause-written
unfolding rest
returns-clause-written c = let s = c.args.self.now in
    written_here s.text.now s.last s.place s.line c.args.count s.shows s.within
    (ready s.text.now s.last s.place s.line c.args.count s.shows s.within c.requires.within c.requires.plain)

pub slice_bounds-splices_len-start : goal.slice_bounds-splices_len-start
unfolding rest
slice_bounds-splices_len-start c = let s = c.args.self.now in
    let k = ready_len s.text.now s.place c.args.count s.within (ready s.text.now s.last s.place s.line c.args.count s.shows s.within c.requires.within c.requires.plain) in
    omega (arith, k)

pub bounds-self-end : goal.bounds-self-end
unfolding rest
bounds-self-end c = let s = c.args.self.now in
    let k = ready_len s.text.now s.place c.args.count s.within (ready s.text.now s.last s.place s.line c.args.count s.shows s.within c.requires.within c.requires.plain) in
    omega (arith, k, c.if-count-eq0.false)

pub invariant_of-self-clause-shows : goal.invariant_of-self-clause-shows
invariant_of-self-clause-shows c = let s = c.args.self.now in let h = c.splices_len-hidden in
    passed_shows s.text.now _ s.place c.args.count h.result.0 refl h.ensures.all

pub invariant_of-self-clause-ends : goal.invariant_of-self-clause-ends
unfolding rest
invariant_of-self-clause-ends c = let s = c.args.self.now in let h = c.splices_len-hidden in
    passed_ends s.text.now _ s.last s.place s.line c.args.count h.result.0 h.result.1 c.if-count-eq0.false
    (ready s.text.now s.last s.place s.line c.args.count s.shows s.within c.requires.within c.requires.plain) refl h.ensures.same h.ensures.all s.ends

pub invariant_of-self-clause-within : goal.invariant_of-self-clause-within
unfolding rest
invariant_of-self-clause-within c = let s = c.args.self.now in let h = c.splices_len-hidden in
    let k = ready_len s.text.now s.place c.args.count s.within (ready s.text.now s.last s.place s.line c.args.count s.shows s.within c.requires.within c.requires.plain) in
    omega (arith, k, h.ensures.within, length-take {A = ℕ}, length-drop {A = ℕ})
