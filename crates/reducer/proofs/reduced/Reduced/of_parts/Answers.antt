use Rattle.std.proofs.Common.{ap, subst, length, arith}
use Rattle.std.proofs.lemmas.List.{length-map}
use Rattle.reducer.specs.FlatLines.{line_of, lines_of, directives}
use Rattle.reducer.specs.SkipTable.{AreSkips}
use Rattle.reducer.specs.Definitions.{AreDefinitions}
use Rattle.reducer.specs.Indexed.{skips_in}
use Rattle.reducer.proofs.ReducedLemmas.{length-ordered}
use Rattle.reducer.proofs.reduced.Reduced.of_parts.Goals as goal

pub tables-requires : goal.tables-requires
tables-requires c =
    let xs = c.args.spelled.items in
    let ts = c.args.toks.items in
    let ls = c.args.lines.items in
    let few = length-ordered 1 (lines_of xs ts ls) (omega arith) c.requires.reduced.ordered in
    omega (arith, few, length-map ls (line_of xs ts), ap length c.deref-4.ensures.value)

pub invariant_of-result : goal.invariant_of-result
invariant_of-result c = record {
  kept = c.requires;
  defs_are = subst (λ ls. AreDefinitions c.args.spelled.items c.args.toks.items ls c.in_ok-definitions.definitions.items) c.deref-3.ensures.value
      (subst (λ ts. AreDefinitions c.args.spelled.items ts c.deref-3.result.now c.in_ok-definitions.definitions.items) c.deref-2.ensures.value
      (subst (λ xs. AreDefinitions xs c.deref-2.result.now c.deref-3.result.now c.in_ok-definitions.definitions.items) c.deref.ensures.value c.in_ok-definitions.ensures));
  skips_are = λ dialect. subst (λ ls. AreSkips (directives dialect ls) (skips_in dialect c.in_ok-skips.skips.items c.in_ok-skips.older_skips)) c.deref-4.ensures.value (c.in_ok-skips.ensures dialect);
}
