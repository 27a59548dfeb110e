use Rattle.std.proofs.Common.{ℕ, length-take, length-drop, arith, refl}
use Rattle.line_splice.specs.Cursor.{rest}
use Rattle.line_splice.proofs.LinesLemmas.{lines_ready, lines_len, lines_here, passed_lines, lines_show, lines_end}
use Rattle.line_splice.proofs.cursor.Cursor.pass_lines.Goals as goal

pub slice_bounds-newlines-end : goal.slice_bounds-newlines-end
unfolding rest
slice_bounds-newlines-end c = let s = c.args.self.now in
    let k = lines_len s.text.now s.place c.args.count s.within
    (lines_ready s.text.now s.last s.place s.line c.args.count s.shows s.within c.requires.within c.requires.unspliced c.requires.next) in
    omega (arith, k)

pub returns-clause-rest : goal.returns-clause-rest
unfolding rest
returns-clause-rest c = let s = c.args.self.now in
    passed_lines s.text.now _ s.last s.place s.line c.args.count c.newlines-lines.result c.if-count-eq0.false
    (lines_ready s.text.now s.last s.place s.line c.args.count s.shows s.within c.requires.within c.requires.unspliced c.requires.next) refl c.newlines-lines.ensures.count

pub returns-clause-written : goal.returns-clause-written
unfolding rest
returns-clause-written c = let s = c.args.self.now in
    lines_here s.text.now s.last s.place s.line c.args.count s.shows s.within
    (lines_ready s.text.now s.last s.place s.line c.args.count s.shows s.within c.requires.within c.requires.unspliced c.requires.next)

pub invariant_of-self-clause-within : goal.invariant_of-self-clause-within
unfolding rest
invariant_of-self-clause-within c = let s = c.args.self.now in
    let k = lines_len s.text.now s.place c.args.count s.within
    (lines_ready s.text.now s.last s.place s.line c.args.count s.shows s.within c.requires.within c.requires.unspliced c.requires.next) in
    omega (arith, k)

pub invariant_of-self-clause-few_lines : goal.invariant_of-self-clause-few_lines
invariant_of-self-clause-few_lines c = let s = c.args.self.now in
    omega (arith, s.few_lines, c.newlines-lines.ensures.few, length-take {A = ℕ}, length-drop {A = ℕ})

pub invariant_of-self-clause-shows : goal.invariant_of-self-clause-shows
unfolding rest
invariant_of-self-clause-shows c = let s = c.args.self.now in
    lines_show s.text.now s.place c.args.count
    (lines_ready s.text.now s.last s.place s.line c.args.count s.shows s.within c.requires.within c.requires.unspliced c.requires.next)

pub invariant_of-self-clause-ends : goal.invariant_of-self-clause-ends
unfolding rest
invariant_of-self-clause-ends c = let s = c.args.self.now in
    lines_end s.text.now _ s.last s.place s.line c.args.count c.newlines-lines.result c.if-count-eq0.false s.within
    (lines_ready s.text.now s.last s.place s.line c.args.count s.shows s.within c.requires.within c.requires.unspliced c.requires.next) refl c.newlines-lines.ensures.count s.ends
