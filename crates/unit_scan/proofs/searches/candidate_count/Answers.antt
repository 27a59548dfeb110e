use Rattle.std.proofs.Common.{length, ap, sym, ◌∙◌}
use Rattle.unit_scan.proofs.Counting.{absolute_count, quoted_form, angled_form, next_form}
use Rattle.unit_scan.proofs.searches.candidate_count.Goals as goal

pub returns-then-is_absolute-clause-count : goal.returns-then-is_absolute-clause-count
returns-then-is_absolute-clause-count c = λ from.
    absolute_count c.args.scan.now.command.now.search c.args.scan.now.settings.now.program c.args.form from c.args.name.now (sym c.if-is_absolute.ensures)

pub returns-in-Quoted-clause-count : goal.returns-in-Quoted-clause-count
returns-in-Quoted-clause-count c = λ from.
    quoted_form c.args.scan.now.command.now.search c.args.scan.now.settings.now.program c.args.form from c.args.name.now (sym c.if-is_absolute.ensures)
    (length c.as_slice-quote.result.now) (length c.as_slice.result.now) (length c.as_slice-2.result.now) (length c.as_slice-program.result.now) (length c.as_slice-3.result.now)
    (ap length c.as_slice-quote.ensures) (ap length c.as_slice.ensures) (ap length c.as_slice-2.ensures) (ap length c.as_slice-program.ensures) (ap length c.as_slice-3.ensures) c.in-Quoted.is

pub returns-in-Angled-clause-count : goal.returns-in-Angled-clause-count
returns-in-Angled-clause-count c = λ from.
    angled_form c.args.scan.now.command.now.search c.args.scan.now.settings.now.program c.args.form from c.args.name.now (sym c.if-is_absolute.ensures)
    (length c.as_slice-quote.result.now) (length c.as_slice.result.now) (length c.as_slice-2.result.now) (length c.as_slice-program.result.now) (length c.as_slice-3.result.now)
    (ap length c.as_slice-quote.ensures) (ap length c.as_slice.ensures) (ap length c.as_slice-2.ensures) (ap length c.as_slice-program.ensures) (ap length c.as_slice-3.ensures) c.in-Angled.is

pub returns-in-Next-clause-count : goal.returns-in-Next-clause-count
returns-in-Next-clause-count c = λ from. c.saturating_sub.ensures ∙
    next_form c.args.scan.now.command.now.search c.args.scan.now.settings.now.program c.args.form from c.args.name.now (sym c.if-is_absolute.ensures)
    (length c.as_slice-quote.result.now) (length c.as_slice.result.now) (length c.as_slice-2.result.now) (length c.as_slice-program.result.now) (length c.as_slice-3.result.now)
    (ap length c.as_slice-quote.ensures) (ap length c.as_slice.ensures) (ap length c.as_slice-2.ensures) (ap length c.as_slice-program.ensures) (ap length c.as_slice-3.ensures) c.in-Next.n c.in-Next.is
