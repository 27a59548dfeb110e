use Rattle.std.proofs.Common.{ap, sym, ◌∙◌, Some, [], ◌∷◌}
use Rattle.std.specs.Option.{option_copied, option_map}
use Rattle.cache_machine.specs.Wants.{wants_held}
use Rattle.scan_core.specs.Inside.{state_of, held_of}
use Rattle.scan_core.proofs.SeatLemmas.{refused_wants, ends_wants, looks_asks, looks_wants}
use Rattle.scan_core.proofs.job_core.Core.wants.Goals as goal

pub asked-requires : goal.asked-requires
asked-requires g c =
    looks_asks g.R.Reading.content (state_of c.self.inside) c.self.invariant c.args.self.now c.self.view_is c.args.worker c.index.result.now c.requires c.index.ensures _ _ c.in-Looks.is

pub returns-in-Refused-clause-wants : goal.returns-in-Refused-clause-wants
returns-in-Refused-clause-wants g c =
    sym (refused_wants g.R.Reading.content (state_of c.self.inside) c.self.invariant c.args.self.now c.self.view_is c.args.worker c.index.result.now c.requires c.index.ensures _ _ c.in-Refused.is)

pub returns-in-Some-Claimed-clause-wants : goal.returns-in-Some-Claimed-clause-wants
returns-in-Some-Claimed-clause-wants g c =
    sym (looks_wants g.R.Reading.content (state_of c.self.inside) c.self.invariant c.args.self.now c.self.view_is c.args.worker c.index.result.now c.requires c.index.ensures _ _ c.as_slice.result.now
    (option_copied c.get.result) c.in-Looks.is (c.asked.ensures ∙ ap (λ z. z ∷ []) (sym c.as_slice.ensures.value)) c.get.ensures.value
    ∙ ap (λ z. wants_held (option_map (held_of g.R.Reading.content) z)) (ap option_copied c.in-Some-Claimed.is ∙ ap (λ z. Some z) c.in-Some-Claimed.field-0-is))

pub returns-in-Some-Done-clause-wants : goal.returns-in-Some-Done-clause-wants
returns-in-Some-Done-clause-wants g c =
    sym (looks_wants g.R.Reading.content (state_of c.self.inside) c.self.invariant c.args.self.now c.self.view_is c.args.worker c.index.result.now c.requires c.index.ensures _ _ c.as_slice.result.now
    (option_copied c.get.result) c.in-Looks.is (c.asked.ensures ∙ ap (λ z. z ∷ []) (sym c.as_slice.ensures.value)) c.get.ensures.value
    ∙ ap (λ z. wants_held (option_map (held_of g.R.Reading.content) z)) (ap option_copied c.in-Some-Done.is ∙ ap (λ z. Some z) c.in-Some-Done.field-0-is))

pub returns-in-None-clause-wants : goal.returns-in-None-clause-wants
returns-in-None-clause-wants g c =
    sym (looks_wants g.R.Reading.content (state_of c.self.inside) c.self.invariant c.args.self.now c.self.view_is c.args.worker c.index.result.now c.requires c.index.ensures _ _ c.as_slice.result.now
    (option_copied c.get.result) c.in-Looks.is (c.asked.ensures ∙ ap (λ z. z ∷ []) (sym c.as_slice.ensures.value)) c.get.ensures.value
    ∙ ap (λ z. wants_held (option_map (held_of g.R.Reading.content) z)) (ap option_copied c.in-None.is))

pub returns-in-Ends-clause-wants : goal.returns-in-Ends-clause-wants
returns-in-Ends-clause-wants g c =
    sym (ends_wants g.R.Reading.content (state_of c.self.inside) c.self.invariant c.args.self.now c.self.view_is c.args.worker c.index.result.now c.requires c.index.ensures _ _ c.in-Ends.is)
