use Rattle.std.proofs.Common.{◌-◌, arith}
use Rattle.reducer.proofs.SkipLemmas.{table_start, table_later, table_more}
use Rattle.reducer.proofs.skip_table.all_skips.Goals as goal

pub lines-init : goal.lines-init
lines-init c = record { within = omega arith; entries = table_start c.args.directives.now c.in_ok-skips.skips.items (omega (arith, c.in_ok-skips.ensures.len, c.in_ok-skips.skips.ok.0)) }

pub skip_of-skip-requires-clause-later : goal.skip_of-skip-requires-clause-later
skip_of-skip-requires-clause-later c = table_later c.args.directives.now c.lines.skips.items c.deref.result.now c.lines.from _ c.deref.ensures.value c.lines.invariant.entries (omega arith)

pub lines-preserved : goal.lines-preserved
lines-preserved c = record {
  within = omega (arith, c.lines.invariant.within);
  entries = table_more c.args.directives.now c.lines.skips.items c.lines.from (c.lines.from - 1) c.skip_of-skip.result c.lines.invariant.entries (omega (arith, c.lines-test.true))
      (omega (arith, c.lines-test.true, c.lines.invariant.within)) c.skip_of-skip.ensures;
}
