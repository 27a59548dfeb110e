use Rattle.std.proofs.Common.{ap, sym, ◌∙◌, subst, length, None}
use Rattle.std.specs.Prelude.{replicate}
use Rattle.scan_core.specs.Inside.{machine_of, HoldsAt}
use Rattle.scan_core.proofs.StartLemmas.{begun, machine_begun, holds_begun}
use Rattle.scan_core.proofs.job_core.Core.new.Goals as goal

pub invariant_of-result : goal.invariant_of-result
invariant_of-result g c =
    let t = begun g.R.Reading.content c.args.jobs.now c.args.settings.now c.args.workers in
    subst (λ z. HoldsAt g.R.Reading.content z) (sym (ap (λ z. record t { entries = z; seats = c.in_ok-seats.seats.items; ends = c.in_ok-ends.ends.items }) c.new.ensures.empty
    ∙ ap (λ z. record t { seats = z; ends = c.in_ok-ends.ends.items }) c.in_ok-seats.ensures ∙ ap (λ z. record t { ends = z }) (c.in_ok-ends.ensures ∙ ap (λ z. replicate (length z) None) c.as_slice.ensures))) (holds_begun g.R.Reading.content c.args.jobs.now c.args.settings.now c.args.workers c.requires.high c.requires.few c.requires.jobs c.requires.settings)

pub returns-clause-start : goal.returns-clause-start
returns-clause-start g c =
    let t = begun g.R.Reading.content c.args.jobs.now c.args.settings.now c.args.workers in
    ap (λ z. machine_of g.R.Reading.content z) (ap (λ z. record t { entries = z; seats = c.in_ok-seats.seats.items; ends = c.in_ok-ends.ends.items }) c.new.ensures.empty
    ∙ ap (λ z. record t { seats = z; ends = c.in_ok-ends.ends.items }) c.in_ok-seats.ensures ∙ ap (λ z. record t { ends = z }) (c.in_ok-ends.ensures ∙ ap (λ z. replicate (length z) None) c.as_slice.ensures)) ∙ machine_begun g.R.Reading.content c.args.jobs.now c.args.settings.now c.args.workers
