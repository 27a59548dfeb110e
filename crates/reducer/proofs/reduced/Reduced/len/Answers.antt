use Rattle.std.proofs.Common.{arith}
use Rattle.std.proofs.lemmas.List.{length-map}
use Rattle.reducer.specs.FlatLines.{line_of, lines_of}
use Rattle.reducer.proofs.ReducedLemmas.{length-ordered}
use Rattle.reducer.proofs.reduced.Reduced.len.Goals as goal

pub overflow_cast-result : goal.overflow_cast-result
overflow_cast-result c =
    let r = c.self.inside in
    let few = length-ordered 1 (lines_of r.spelled.items r.toks.items r.lines.items) (omega arith) c.self.invariant.kept.reduced.ordered in
    omega (arith, few, length-map r.lines.items (line_of r.spelled.items r.toks.items), c.len.ensures, r.lines.ok.0)
