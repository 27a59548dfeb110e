use Rattle.std.proofs.Common.{◌≡◌, map, subst, rules}
use Rattle.scan_model.specs.declared.command.Dialect.TheVariants.{Cxx20}
use Rattle.reducer.specs.DirectiveWords.{in_dialect}
use Rattle.reducer.specs.SkipTable.{AreSkips}
use Rattle.reducer.proofs.TableLemmas.{same_table, two_tables}
use Rattle.reducer.proofs.tables.tables.Goals as goal

pub returns-then-are_older : goal.returns-then-are_older
returns-then-are_older c =
    let newest = c.in_ok-newest.newest.items in
    let same : map (in_dialect Cxx20) c.deref-2.result.now ≡ c.deref-2.result.now = search rules in
    same_table c.args.lines.now newest c.in_ok-skips.skips.items c.in_ok-newest.ensures (subst (λ ds. map (in_dialect Cxx20) ds ≡ ds) c.deref-2.ensures.value same)
    (subst (λ ds. AreSkips ds c.in_ok-skips.skips.items) c.deref.ensures.value c.in_ok-skips.ensures)

pub returns : goal.returns
returns c =
    two_tables c.args.lines.now c.in_ok-newest.newest.items c.in_ok-older.older.items c.in_ok-skips.skips.items c.in_ok-older_skips.older_skips c.in_ok-newest.ensures c.in_ok-older.ensures
    (subst (λ ds. AreSkips ds c.in_ok-skips.skips.items) c.deref.ensures.value c.in_ok-skips.ensures)
    (subst (λ ds. AreSkips ds c.in_ok-older_skips.older_skips.items) c.deref-3.ensures.value c.in_ok-older_skips.ensures)
