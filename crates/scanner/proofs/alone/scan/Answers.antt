use Rattle.std.proofs.Common.{inl, inr, arith}
use Rattle.shard_cache.specs.Rows.{all_rows}
use Rattle.shard_cache.specs.StoreMap.{file_map}
use Rattle.scheduler.proofs.StartLemmas.{untouched_one_map, untouched_have_rows, untouched_looked}
use Rattle.scanner.proofs.MemoryLemmas.{printed_has_memory}
use Rattle.scanner.proofs.PlanLemmas.{few_ends}
use Rattle.scanner.proofs.alone.scan.Goals as goal

pub print_document-requires-clause-few : goal.print_document-requires-clause-few
print_document-requires-clause-few g c =
    let few = few_ends _ _ c.args.plan.now.jobs _ c.in-Ok.ensures.ends c.requires.fits.few in
    omega (arith, few)

pub returns-in-Ok-clause-run : goal.returns-in-Ok-clause-run
returns-in-Ok-clause-run g c = elim c.print_document.ensures [
  | inl none ↦ inl none
  | inr printed ↦ inr (record {
    ends = c.in-Ok.ends;
    are_ends = c.in-Ok.ensures.ends;
    have_rows = untouched_have_rows c.args.store.now c.run_schedule-run.new.store c.requires.fresh_store c.in-Ok.ensures.have_rows;
    printed = printed;
  })
]

pub returns-in-Ok-clause-one_map : goal.returns-in-Ok-clause-one_map
returns-in-Ok-clause-one_map g c =
    let S = g.S.Source in
    untouched_one_map c.args.store.now c.run_schedule-run.new.store c.requires.fresh_store S.given_path S.given_origin c.run_schedule-run.ensures.one_map

pub returns-in-Ok-clause-looked : goal.returns-in-Ok-clause-looked
returns-in-Ok-clause-looked g c =
    let S = g.S.Source in
    let new = c.run_schedule-run.new.store in
    untouched_looked c.args.store.now new c.requires.fresh_store S.given_path S.given_origin (file_map S.given_outcome S.given_bytes (all_rows new)) c.args.plan.now.jobs c.args.plan.now.manner.settings c.run_schedule-run.ensures.looked

pub returns-in-Ok-clause-order : goal.returns-in-Ok-clause-order
returns-in-Ok-clause-order g c not = c.in-Ok.ensures.order (printed_has_memory _ _ _ _ _ c.print_document.ensures not)

pub returns-in-Err-clause-one_map : goal.returns-in-Err-clause-one_map
returns-in-Err-clause-one_map g c =
    let S = g.S.Source in
    untouched_one_map c.args.store.now c.run_schedule-run.new.store c.requires.fresh_store S.given_path S.given_origin c.run_schedule-run.ensures.one_map

pub returns-in-Err-clause-looked : goal.returns-in-Err-clause-looked
returns-in-Err-clause-looked g c =
    let S = g.S.Source in
    let new = c.run_schedule-run.new.store in
    untouched_looked c.args.store.now new c.requires.fresh_store S.given_path S.given_origin (file_map S.given_outcome S.given_bytes (all_rows new)) c.args.plan.now.jobs c.args.plan.now.manner.settings c.run_schedule-run.ensures.looked

pub returns-in-Err-clause-order : goal.returns-in-Err-clause-order
returns-in-Err-clause-order g c not = absurd (not c.tell_no_memory.ensures.status_is)
