use Rattle.std.proofs.Common.{length, set, All, sym, ap, subst, ◌∙◌, arith}
use Rattle.std.proofs.lemmas.List.{length-set}
use Rattle.std.proofs.lemmas.List.Elements.{All-set}
use Rattle.shared_cache.specs.Shared.{ArePasses, HavePasses}
use Rattle.shared_cache.proofs.HandsLemmas.{dealt_own}
use Rattle.shared_cache.proofs.tests.asked_twice.Goals as goal

pub ask_once-first-requires-after_bounds : goal.ask_once-first-requires-after_bounds
ask_once-first-requires-after_bounds g c κs within =
    let locks = c.in_ok-cache.cache.locks.items in let items = c.into_vec-hands.ensures in
    let count = c.in_ok-cache.ensures.count.0 in let n = ap length items in
    let own = subst (λ hands. All (λ hand. ArePasses locks hand.passes.items hand.number) hands) (sym items) (dealt_own locks c.in_ok-cache.hands c.in_ok-cache.ensures.passes) in
    subst (λ hand. ArePasses locks hand.passes.items hand.number) (sym c.index_mut.ensures.value) (own 0 c.index_mut.result.now (omega arith))

pub close-store-requires-clause-all : goal.close-store-requires-clause-all
close-store-requires-clause-all g c κs within =
    let hands = c.into_vec-hands.result.items in let first = c.ask_once-first.new.passes in
    let same = ap length c.of_vec.ensures ∙ (length-set (set hands 0 first) 0 c.ask_once-again.new.passes ∙ (length-set hands 0 first ∙ (ap length c.into_vec-hands.ensures ∙ c.in_ok-cache.ensures.count.0))) in
    subst (λ n. HavePasses c.in_ok-cache.cache.locks.items n) (sym same) c.in_ok-cache.ensures.count.1

pub close-store-requires-clause-own : goal.close-store-requires-clause-own
close-store-requires-clause-own g c κs within =
    let locks = c.in_ok-cache.cache.locks.items in let hands = c.into_vec-hands.result.items in
    let first = c.ask_once-first.new.passes in let again = c.ask_once-again.new.passes in
    let own = subst (λ hands. All (λ hand. ArePasses locks hand.passes.items hand.number) hands) (sym c.into_vec-hands.ensures) (dealt_own locks c.in_ok-cache.hands c.in_ok-cache.ensures.passes) in
    let once = subst (λ n. ArePasses locks first.passes.items n) (sym c.ask_once-first.ensures.1) c.ask_once-first.ensures.0 in
    let twice = subst (λ n. ArePasses locks again.passes.items n) (sym c.ask_once-again.ensures.1) c.ask_once-again.ensures.0 in
    subst (λ hands. All (λ hand. ArePasses locks hand.passes.items hand.number) hands) (sym c.of_vec.ensures)
    (All-set (λ hand. ArePasses locks hand.passes.items hand.number) (set hands 0 first) 0 again twice (All-set (λ hand. ArePasses locks hand.passes.items hand.number) hands 0 first once own))
