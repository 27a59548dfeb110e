use Rattle.std.proofs.Common.{rules, ◌≡◌, Some, map, length, sym, ap, subst, ◌∙◌, unwrap_or, false, []}
use lib.ListN.{length-map}
use Rattle.turn_lock.specs.Logs.{Fits, Grown}
use Rattle.turn_lock.specs.Views.{Each, HasNumber}
use Rattle.turn_lock.specs.Views.{view}
use Rattle.turn_lock.specs.declared.view.Stage.TheVariants.{Idle}
use Rattle.turn_lock.specs.Passes.{mark_of}
use mathlib.Core.Option.{some-injective}
use Rattle.turn_lock.proofs.SeatsKept.{closes}
use Rattle.turn_lock.proofs.Closing.{all_fit, grown_by}
use Rattle.turn_lock.proofs.lock.TurnLock.close.Goals as goal

pub unwrap-state-requires : goal.unwrap-state-requires
unwrap-state-requires g c = let me = c.gather-seat.ensures.1 ∙ ap (λ ps. (view (map mark_of ps) Idle false, [])) c.into_vec.ensures in
    let it = closes g.T.Logged.log g.T.Logged.fixed g.T.Logged.maker _ _ _ _ _ _ _ c.close_with-closed.ensures.values.2 (ap (λ m. m.0.stage) me) (ap (λ m. m.0.opening) me) (ap (λ m. length m.0.marks) me ∙ (length-map c.args.passes mark_of ∙ c.requires.all)) in
    let found : c.take.result ≡ Some it.0 = some-injective _ _ (sym c.take.ensures.value ∙ it.1) in search rules

pub returns-clause-fits : goal.returns-clause-fits
returns-clause-fits g c = let me = c.gather-seat.ensures.1 ∙ ap (λ ps. (view (map mark_of ps) Idle false, [])) c.into_vec.ensures in
    let it = closes g.T.Logged.log g.T.Logged.fixed g.T.Logged.maker _ _ _ _ _ _ _ c.close_with-closed.ensures.values.2 (ap (λ m. m.0.stage) me) (ap (λ m. m.0.opening) me) (ap (λ m. length m.0.marks) me ∙ (length-map c.args.passes mark_of ∙ c.requires.all)) in
    let found : c.take.result ≡ Some it.0 = some-injective _ _ (sym c.take.ensures.value ∙ it.1) in
    let same : it.0 ≡ c.unwrap-state.result = ap (λ o. unwrap_or o it.0) (sym found ∙ c.unwrap-state.ensures) in
    all_fit {g = g.T.Logged} (g.T.Logged.log c.unwrap-state.result) c.args.passes
    (subst (λ x. Each (λ m. Fits g.T.Logged.maker m.number m.seen (g.T.Logged.log x)) (map mark_of c.args.passes)) same
    (subst (Each (λ m. Fits g.T.Logged.maker m.number m.seen (g.T.Logged.log it.0))) (ap (λ m. m.0.marks) me) it.3))

pub returns-clause-grown : goal.returns-clause-grown
returns-clause-grown g c = let me = c.gather-seat.ensures.1 ∙ ap (λ ps. (view (map mark_of ps) Idle false, [])) c.into_vec.ensures in
    let it = closes g.T.Logged.log g.T.Logged.fixed g.T.Logged.maker _ _ _ _ _ _ _ c.close_with-closed.ensures.values.2 (ap (λ m. m.0.stage) me) (ap (λ m. m.0.opening) me) (ap (λ m. length m.0.marks) me ∙ (length-map c.args.passes mark_of ∙ c.requires.all)) in
    let found : c.take.result ≡ Some it.0 = some-injective _ _ (sym c.take.ensures.value ∙ it.1) in
    let same : it.0 ≡ c.unwrap-state.result = ap (λ o. unwrap_or o it.0) (sym found ∙ c.unwrap-state.ensures) in
    grown_by c.args.self.table.shared.key.passes c.args.passes (g.T.Logged.log c.args.self.table.shared.key.first.value) (g.T.Logged.log c.unwrap-state.result)
    (λ k l. subst (HasNumber k) (ap (λ m. m.0.marks) me) (it.5 k l)) (subst (λ x. Grown g.T.Logged.maker c.args.self.table.shared.key.passes (g.T.Logged.log c.args.self.table.shared.key.first.value) (g.T.Logged.log x)) same it.4)

pub returns-clause-fixed : goal.returns-clause-fixed
returns-clause-fixed g c = let me = c.gather-seat.ensures.1 ∙ ap (λ ps. (view (map mark_of ps) Idle false, [])) c.into_vec.ensures in
    let it = closes g.T.Logged.log g.T.Logged.fixed g.T.Logged.maker _ _ _ _ _ _ _ c.close_with-closed.ensures.values.2 (ap (λ m. m.0.stage) me) (ap (λ m. m.0.opening) me) (ap (λ m. length m.0.marks) me ∙ (length-map c.args.passes mark_of ∙ c.requires.all)) in
    let found : c.take.result ≡ Some it.0 = some-injective _ _ (sym c.take.ensures.value ∙ it.1) in
    let same : it.0 ≡ c.unwrap-state.result = ap (λ o. unwrap_or o it.0) (sym found ∙ c.unwrap-state.ensures) in
    sym (ap g.T.Logged.fixed same) ∙ it.2
