use Rattle.std.proofs.Common.{◌≡◌, ◌<◌, ◌≤◌, length, refl, sym, ◌∙◌, ap, subst}
use Rattle.std.specs.Prelude.{Some, All, IsSome, map}
use Rattle.shard_cache.specs.Rows.{all_rows, all_origins}
use Rattle.shard_cache.specs.StoreMap.{file_map, IsOneMap}
use Rattle.shard_cache.specs.StoreRun.{IsExtended}
use Rattle.shard_cache.specs.Ends.{AreEnds}
use Rattle.shard_cache.proofs.StoreRunLemmas.{extended_refl}
use Rattle.scheduler.specs.Asks.{AsksForLooks}
use Rattle.scheduler.specs.Schedule.{next_number, chosen, movers}
use Rattle.scheduler.specs.Moving.{Moment}
use Rattle.scheduler.specs.Order.{IsInOrder, HaveMemory}
use Rattle.scheduler.proofs.MoverLemmas.{chosen_moves}
use Rattle.scheduler.proofs.Scheduled.{IsScheduled}
use Rattle.scheduler.proofs.RunStart.{starts_reached, starts_with, core_sound, core_over, nothing_asked, scheduled_begins, core_fit, core_scheduled}
use Rattle.scheduler.proofs.RunEnd.{if_ok_by, on_ok_all, run_one_map, ends_are_there, run_ends, run_have_rows, run_order}
use Rattle.scheduler.proofs.run.run_schedule.Goals as goal

pub returns-in_err-core-clause-extended : goal.returns-in_err-core-clause-extended
returns-in_err-core-clause-extended g c = extended_refl g.S.Source.given_path g.S.Source.given_origin c.args.store.now

pub returns-in_err-core-clause-looked : goal.returns-in_err-core-clause-looked
returns-in_err-core-clause-looked g c =
    let S = g.S.Source in
    nothing_asked S.given_path S.given_origin S.given_outcome S.given_bytes c.args.jobs.now c.args.settings.now c.args.workers c.args.number (file_map S.given_outcome S.given_bytes (all_rows c.args.store.now)) c.args.store.now

pub returns-in_err-held-clause-extended : goal.returns-in_err-held-clause-extended
returns-in_err-held-clause-extended g c = extended_refl g.S.Source.given_path g.S.Source.given_origin c.args.store.now

pub returns-in_err-held-clause-looked : goal.returns-in_err-held-clause-looked
returns-in_err-held-clause-looked g c =
    let S = g.S.Source in
    nothing_asked S.given_path S.given_origin S.given_outcome S.given_bytes c.args.jobs.now c.args.settings.now c.args.workers c.args.number (file_map S.given_outcome S.given_bytes (all_rows c.args.store.now)) c.args.store.now

pub returns-in_err-movers-clause-extended : goal.returns-in_err-movers-clause-extended
returns-in_err-movers-clause-extended g c = extended_refl g.S.Source.given_path g.S.Source.given_origin c.args.store.now

pub returns-in_err-movers-clause-looked : goal.returns-in_err-movers-clause-looked
returns-in_err-movers-clause-looked g c =
    let S = g.S.Source in
    nothing_asked S.given_path S.given_origin S.given_outcome S.given_bytes c.args.jobs.now c.args.settings.now c.args.workers c.args.number (file_map S.given_outcome S.given_bytes (all_rows c.args.store.now)) c.args.store.now

pub steps-init : goal.steps-init
steps-init g c =
    let S = g.S.Source in
    let core = c.in_ok-core.core in
    record {
      reached = starts_reached core c.args.jobs.now c.args.workers c.in_ok-core.ensures.jobs c.in_ok-core.ensures.start;
      jobs = c.in_ok-core.ensures.jobs;
      settings = c.in_ok-core.ensures.settings;
      workers = starts_with core c.args.jobs.now c.args.workers c.in_ok-core.ensures.start;
      places = c.in_ok-held.ensures;
      room = c.in_ok-movers.ensures.capacity;
      number = c.requires.number;
      scheduled =
          scheduled_begins S.given_path S.given_origin S.given_outcome S.given_bytes c.args.jobs.now c.args.settings.now c.args.workers c.args.number c.args.store.now c.in_ok-held.held.items core.machine c.in_ok-core.ensures.start;
    }

pub step-requires-clause-inside : goal.step-requires-clause-inside
step-requires-clause-inside g c κs within =
    let core = c.steps.core in
    (chosen_moves core.jobs core.settings core.machine c.next_number-number.result c.in-Some.worker (sym c.chosen_mover.ensures.chosen ∙ c.in-Some.is)).1

pub step-requires-clause-mover : goal.step-requires-clause-mover
step-requires-clause-mover g c κs within =
    let core = c.steps.core in
    (chosen_moves core.jobs core.settings core.machine c.next_number-number.result c.in-Some.worker (sym c.chosen_mover.ensures.chosen ∙ c.in-Some.is)).0

pub step-requires-clause-fit : goal.step-requires-clause-fit
step-requires-clause-fit g c κs within =
    let S = g.S.Source in
    core_fit S.given_path S.given_origin S.given_outcome S.given_bytes c.args.jobs.now c.args.settings.now c.args.workers c.args.number c.steps.core c.args.store.now c.steps.number c.steps.held.items c.steps.store
    c.steps.invariant.jobs c.steps.invariant.settings c.steps.invariant.scheduled

pub steps-preserved : goal.steps-preserved
steps-preserved g c =
    let S = g.S.Source in
    let core = c.steps.core in
    let was = c.steps.invariant in
    let step = c.in_ok-step.ensures in
    let next = c.next_number-number.ensures.next in
    let chosen_one : chosen (movers core.jobs core.settings core.machine) c.next_number-number.result ≡ Some c.in-Some.worker = sym c.chosen_mover.ensures.chosen ∙ c.in-Some.is in
    let mover : chosen (movers core.jobs core.settings core.machine) (next_number c.steps.number) ≡ Some c.in-Some.worker = subst (λ z. chosen (movers core.jobs core.settings core.machine) z ≡ Some c.in-Some.worker) next chosen_one in
    let below = (chosen_moves core.jobs core.settings core.machine c.next_number-number.result c.in-Some.worker chosen_one).1 in
    let inside : c.in-Some.worker < length c.steps.held.items = subst (λ z. c.in-Some.worker < z) (was.workers ∙ sym was.places) below in
    let before : Moment g.row.S.Denot g.row.S-Opener.Denot g.row.S-Given.Denot = record { machine = core.machine; held = c.steps.held.items; store = c.steps.store } in
    let after : Moment g.row.S.Denot g.row.S-Opener.Denot g.row.S-Given.Denot = record { machine = c.step.new.core.machine; held = c.step.new.held.items; store = c.step.new.store } in
    let now =
    core_scheduled S.given_path S.given_origin S.given_outcome S.given_bytes c.args.jobs.now c.args.settings.now c.args.workers c.args.number core c.args.store.now c.steps.number c.in-Some.worker before after was.jobs was.settings refl
    inside was.reached mover step.stepped was.scheduled in
    record {
      reached = step.reached;
      jobs = step.scan.jobs ∙ was.jobs;
      settings = step.scan.settings ∙ was.settings;
      workers = step.scan.workers ∙ was.workers;
      places = step.places ∙ was.places;
      room = c.chosen_mover.ensures.room;
      number = c.next_number-number.ensures.bound;
      scheduled = subst (λ z. IsScheduled S.given_path S.given_origin S.given_outcome S.given_bytes c.args.jobs.now c.args.settings.now c.args.workers c.args.number c.args.store.now z after) (sym next) now;
    }

pub returns-in_err-step-clause-extended : goal.returns-in_err-step-clause-extended
returns-in_err-step-clause-extended g c =
    let S = g.S.Source in
    subst (λ z. IsExtended S.given_path S.given_origin c.args.store.now z) (sym c.in_err-step.ensures.err) c.steps.invariant.scheduled.running.extended

pub returns-in_err-step-clause-one_map : goal.returns-in_err-step-clause-one_map
returns-in_err-step-clause-one_map g c have one =
    let S = g.S.Source in
    subst (λ z. IsOneMap S.given_path S.given_origin z) (sym c.in_err-step.ensures.err)
    (run_one_map S.given_path S.given_origin S.given_outcome S.given_bytes c.args.jobs.now c.args.settings.now c.args.store.now (record { machine = c.steps.core.machine; held = c.steps.held.items; store = c.steps.store })
    c.steps.invariant.scheduled.running have one)

pub returns-in_err-step-clause-looked : goal.returns-in_err-step-clause-looked
returns-in_err-step-clause-looked g c =
    let S = g.S.Source in
    let running = c.steps.invariant.scheduled.running in
    subst (λ z. AsksForLooks S.given_path S.given_origin (file_map S.given_outcome S.given_bytes (all_rows z)) c.args.jobs.now c.args.settings.now c.args.store.now z) (sym c.in_err-step.ensures.err)
    (record { extended = running.extended; looks = running.looks })

pub returns-in_err-step-clause-origins : goal.returns-in_err-step-clause-origins
returns-in_err-step-clause-origins g c = ap (λ z. all_origins z) c.in_err-step.ensures.err ∙ c.steps.invariant.scheduled.running.origins

pub gathered-requires : goal.gathered-requires
gathered-requires g c =
    let core = c.steps.core in
    let was = c.steps.invariant in
    let over = core_over core c.next_number-number.result was.reached (sym c.chosen_mover.ensures.chosen ∙ c.in_default.is) in
    let some : 1 ≤ length core.machine.workers = subst (λ z. 1 ≤ z) (sym was.workers) c.requires.some in
    subst (λ z. All (λ end. IsSome end) z) (sym c.finish.ensures.ends)
    (ends_are_there c.args.jobs.now c.args.settings.now core.machine (core_sound core c.args.jobs.now c.args.settings.now was.jobs was.settings was.reached) some over)

pub returns-clause-ends : goal.returns-clause-ends
returns-clause-ends g c =
    let S = g.S.Source in
    let core = c.steps.core in
    let was = c.steps.invariant in
    if_ok_by c.gathered.result (λ ends. map Some ends ≡ c.finish.result.items) (λ ends. AreEnds (file_map S.given_outcome S.given_bytes (all_rows c.steps.store)) c.args.settings.now c.args.jobs.now ends) c.gathered.ensures
    (λ ends is. run_ends S.given_path S.given_origin S.given_outcome S.given_bytes c.args.jobs.now c.args.settings.now c.args.store.now (record { machine = core.machine; held = c.steps.held.items; store = c.steps.store })
    (core_sound core c.args.jobs.now c.args.settings.now was.jobs was.settings was.reached) was.scheduled.running ends (is ∙ c.finish.ensures.ends))

pub returns-clause-extended : goal.returns-clause-extended
returns-clause-extended g c = c.steps.invariant.scheduled.running.extended

pub returns-clause-have_rows : goal.returns-clause-have_rows
returns-clause-have_rows g c =
    let S = g.S.Source in
    let core = c.steps.core in
    let was = c.steps.invariant in
    let over = core_over core c.next_number-number.result was.reached (sym c.chosen_mover.ensures.chosen ∙ c.in_default.is) in
    on_ok_all c.gathered.result
    (run_have_rows S.given_path S.given_origin S.given_outcome S.given_bytes c.args.jobs.now c.args.settings.now c.args.store.now (record { machine = core.machine; held = c.steps.held.items; store = c.steps.store })
    was.scheduled.running over)

pub returns-clause-order : goal.returns-clause-order
returns-clause-order g c =
    let S = g.S.Source in
    let core = c.steps.core in
    let was = c.steps.invariant in
    let over = core_over core c.next_number-number.result was.reached (sym c.chosen_mover.ensures.chosen ∙ c.in_default.is) in
    if_ok_by c.gathered.result (λ ends. map Some ends ≡ c.finish.result.items)
    (λ ends. HaveMemory ends → IsInOrder (file_map S.given_outcome S.given_bytes (all_rows c.steps.store)) c.args.jobs.now c.args.settings.now c.args.workers c.args.number c.args.store.now c.steps.store) c.gathered.ensures
    (λ ends is memory. run_order S.given_path S.given_origin S.given_outcome S.given_bytes c.args.jobs.now c.args.settings.now c.args.workers c.args.number c.steps.number c.args.store.now
    (record { machine = core.machine; held = c.steps.held.items; store = c.steps.store }) over was.scheduled ends (is ∙ c.finish.ensures.ends) memory)

pub returns-clause-one_map : goal.returns-clause-one_map
returns-clause-one_map g c have one =
    let S = g.S.Source in
    run_one_map S.given_path S.given_origin S.given_outcome S.given_bytes c.args.jobs.now c.args.settings.now c.args.store.now (record { machine = c.steps.core.machine; held = c.steps.held.items; store = c.steps.store })
    c.steps.invariant.scheduled.running have one

pub returns-clause-looked : goal.returns-clause-looked
returns-clause-looked g c = let running = c.steps.invariant.scheduled.running in record { extended = running.extended; looks = running.looks }
