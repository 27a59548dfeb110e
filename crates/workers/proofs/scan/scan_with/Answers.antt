use Rattle.std.proofs.Common.{◌≡◌, ◌<◌, refl, sym, ap, ◌∙◌, subst, length}
use Rattle.shared_cache.specs.Shared.{HavePasses}
use Rattle.workers.proofs.ScanLemmas.{crew_ready, seats_own, passes_own, passes_many, shares_below, all_full, all_ends, all_have_rows, all_looked}
use Rattle.workers.proofs.scan.scan_with.Goals as goal

pub work_together-crew-requires-clause-ready : goal.work_together-crew-requires-clause-ready
work_together-crew-requires-clause-ready g c κs within = crew_ready _ _ _ _ _ _ _ c.requires.rooms refl c.requires.dealt c.into_vec.ensures c.into_vec-2.ensures refl refl

pub close-draws-requires-clause-own : goal.close-draws-requires-clause-own
close-draws-requires-clause-own g c = seats_own _ _ _ _ _ _ _ _ c.work_together-crew.ensures.done c.of_vec.ensures

pub place_all-places-requires-clause-below : goal.place_all-places-requires-clause-below
place_all-places-requires-clause-below g c = shares_below _ _ _ _ _ _ _ _ c.requires.rooms.place_count c.work_together-crew.ensures.done

pub close-store-requires-clause-all : goal.close-store-requires-clause-all
close-store-requires-clause-all g c κs within =
    let many : length c.work_together-crew.result.seats.items ≡ length c.args.opened.1 = c.work_together-crew.ensures.count ∙ (ap length c.into_vec.ensures ∙ c.requires.rooms.seat_count) in
    let given : length c.of_vec-2.result ≡ length c.args.opened.1 = ap length c.of_vec-2.ensures ∙ (passes_many _ _ _ _ _ _ _ c.work_together-crew.ensures.done ∙ many) in
    subst (λ n. HavePasses c.args.opened.0.locks.items n) (sym given) c.requires.count

pub close-store-requires-clause-own : goal.close-store-requires-clause-own
close-store-requires-clause-own g c κs within = passes_own _ _ _ _ _ _ _ _ c.work_together-crew.ensures.done c.of_vec-2.ensures

pub in_order-requires-clause-full : goal.in_order-requires-clause-full
in_order-requires-clause-full g c =
    let many : length c.work_together-crew.result.seats.items ≡ length c.args.opened.1 = c.work_together-crew.ensures.count ∙ (ap length c.into_vec.ensures ∙ c.requires.rooms.seat_count) in
    all_full _ _ _ _ _ _ _ _ c.close-draws.result c.place_all-places.result.items c.work_together-crew.ensures.done c.of_vec.ensures (subst (λ n. 0 < n) (sym many) c.requires.some) c.close-draws.ensures.below
    c.close-draws.ensures.beyond (c.place_all-places.ensures.count ∙ c.requires.rooms.place_count) c.place_all-places.ensures.placed

pub returns-clause-ends : goal.returns-clause-ends
returns-clause-ends g c =
    all_ends _ _ _ _ _ _ _ _ _ c.place_all-places.result.items c.in_order.result c.work_together-crew.ensures.done c.of_vec-2.ensures c.close-store.ensures.seen
    (c.place_all-places.ensures.count ∙ c.requires.rooms.place_count) c.place_all-places.ensures.placed c.in_order.ensures

pub returns-clause-looked : goal.returns-clause-looked
returns-clause-looked g c = all_looked _ _ _ _ _ _ _ _ _ _ c.work_together-crew.ensures.done c.of_vec-2.ensures c.close-store.ensures.seen c.close-store.ensures.claims

pub returns-clause-have_rows : goal.returns-clause-have_rows
returns-clause-have_rows g c = all_have_rows _ _ _ _ _ _ _ _ _ _ _ _ _ c.work_together-crew.ensures.done c.of_vec-2.ensures c.close-store.ensures.seen c.close-store.ensures.claims c.close-store.ensures.map
