use Rattle.std.proofs.Common.{ap, sym, ◌∙◌, subst}
use Rattle.std.specs.Prelude.{slice_set}
use Rattle.cache_machine.specs.Steps.{Read}
use Rattle.cache_machine.specs.Wants.{Read_wanted}
use Rattle.scan_core.specs.Inside.{state_of, HoldsAt}
use Rattle.scan_core.proofs.ListLemmas.{set_twice}
use Rattle.scan_core.proofs.WantingSeats.{reading_seat, found_seat}
use Rattle.scan_core.proofs.Changing.{went_told}
use Rattle.scan_core.proofs.ReadLemmas.{has_read, holds_read, steps_read}
use Rattle.scan_core.proofs.job_core.Core.read.Goals as goal

pub unreachable-requires : goal.unreachable-requires
unreachable-requires g c = reading_seat g.R.Reading.content (state_of c.self.inside) c.self.invariant c.args.self.now c.self.view_is c.args.worker c.index_mut.result.now c.index_mut.ensures.value c.requires (λ n u i is. c.in_default.not-Reads n u i (c.replace-seat.ensures.value ∙ is))

pub invariant_of-self : goal.invariant_of-self
invariant_of-self g c =
    let at = found_seat g.R.Reading.content (state_of c.self.inside) c.self.invariant c.args.self.now c.self.view_is c.args.worker c.index_mut.result.now c.index_mut.ensures.value Read_wanted c.requires (λ e. cc) c.replace-seat.result _ c.replace-seat.ensures.value c.in-Reads.is in
    let t = has_read g.R.Reading.content (state_of c.self.inside) c.self.invariant c.args.worker c.in-Reads.number c.in-Reads.unit c.in-Reads.row c.args.reading at in
    subst (λ z. HoldsAt g.R.Reading.content z) (sym (ap (λ z. record t { seats = z }) (set_twice (state_of c.self.inside).seats c.args.worker c.replace-seat.new.dest c.replace.new.dest ∙ ap (λ z. slice_set (state_of c.self.inside).seats c.args.worker z) c.replace.ensures.after))) (holds_read g.R.Reading.content (state_of c.self.inside) c.self.invariant c.args.worker c.in-Reads.number c.in-Reads.unit c.in-Reads.row c.args.reading at)

pub returns : goal.returns
returns g c =
    let at = found_seat g.R.Reading.content (state_of c.self.inside) c.self.invariant c.args.self.now c.self.view_is c.args.worker c.index_mut.result.now c.index_mut.ensures.value Read_wanted c.requires (λ e. cc) c.replace-seat.result _ c.replace-seat.ensures.value c.in-Reads.is in
    let t = has_read g.R.Reading.content (state_of c.self.inside) c.self.invariant c.args.worker c.in-Reads.number c.in-Reads.unit c.in-Reads.row c.args.reading at in
    went_told g.R.Reading.content (state_of c.self.inside) t _ c.args.self.now (Read c.args.worker (g.R.Reading.content c.args.reading)) c.self.view_is (ap (λ z. record t { seats = z }) (set_twice (state_of c.self.inside).seats c.args.worker c.replace-seat.new.dest c.replace.new.dest ∙ ap (λ z. slice_set (state_of c.self.inside).seats c.args.worker z) c.replace.ensures.after)) (steps_read g.R.Reading.content (state_of c.self.inside) c.self.invariant c.args.worker c.in-Reads.number c.in-Reads.unit c.in-Reads.row c.args.reading at)
