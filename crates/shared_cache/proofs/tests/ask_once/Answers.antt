use Rattle.std.proofs.Common.{[], slice_index_or}
use Rattle.shard_cache.specs.Rows.{shard_number}
use Rattle.cache_desk.specs.Desk.{fixed_of}
use Rattle.shared_cache.specs.Shared.{locks_fixed, all_seen, seen_of}
use Rattle.shared_cache.proofs.ShownLemmas.{shown_mine, claim_publishes, claim_is_here}
use Rattle.shared_cache.proofs.tests.ask_once.Goals as goal

pub publish-requires-clause-claim : goal.publish-requires-clause-claim
publish-requires-clause-claim g c κs within =
    let path = c.args.path.now in
    let by = c.args.passes.now.number in
    let fixed = slice_index_or (locks_fixed fixed_of c.args.cache.now.locks.items) (shard_number path) [] in
    let seen = all_seen c.look.new.passes.passes.items in
    let claimed = c.in-Mine.claim in
    let (found, shown, sees) = c.in_ok-answer.ensures.looks in
    let mine = shown_mine g.S.Source.opener_path g.S.Source.opener_origin path by fixed (seen_of (all_seen c.args.passes.now.passes.items) path) (seen_of seen path) found c.in_ok-answer.field-0 claimed c.in-Mine.is shown sees in
    claim_publishes seen c.read_and_reduce-ready.result.row.path claimed.path path c.look.new.passes.number by c.read_and_reduce-ready.ensures.path mine.0 c.look.ensures.own.1 mine.1

pub publish-requires-clause-here : goal.publish-requires-clause-here
publish-requires-clause-here g c κs within =
    let path = c.args.path.now in
    let by = c.args.passes.now.number in
    let fixeds = locks_fixed fixed_of c.args.cache.now.locks.items in
    let seen = all_seen c.look.new.passes.passes.items in
    let claimed = c.in-Mine.claim in
    let (found, shown, sees) = c.in_ok-answer.ensures.looks in
    let mine = shown_mine g.S.Source.opener_path g.S.Source.opener_origin path by (slice_index_or fixeds (shard_number path) []) (seen_of (all_seen c.args.passes.now.passes.items) path) (seen_of seen path) found c.in_ok-answer.field-0 claimed c.in-Mine.is shown sees in
    let read = c.read_and_reduce-ready in
    claim_is_here fixeds read.result.row.path claimed.path path (g.S.Source.given_origin read.result.row.given) (g.S.Source.opener_origin claimed.opener) read.ensures.path mine.0 read.ensures.origin mine.2
