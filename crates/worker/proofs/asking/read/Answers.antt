use Rattle.std.proofs.Common.{◌≡◌, sym, subst, ◌∙◌}
use Rattle.cache_desk.specs.Log.{standing, Claimed}
use Rattle.shared_cache.specs.Shared.{seen_of}
use Rattle.shared_cache.specs.Callers.{number_of, seen_by, origin_at, row_of, claimed_path}
use Rattle.worker.proofs.Looking.{publication_leaves}
use Rattle.worker.proofs.asking.read.Goals as goal

pub publish-requires-clause-claim : goal.publish-requires-clause-claim
publish-requires-clause-claim g c κs within =
    subst (λ p. standing (seen_of (seen_by c.args.passes.now) p) p ≡ Claimed (number_of c.args.passes.now)) (sym c.read_and_reduce-ready.ensures.path) c.requires.claimed

pub publish-requires-clause-here : goal.publish-requires-clause-here
publish-requires-clause-here g c κs within =
    subst (λ p. origin_at c.args.cache.now p ≡ g.S.Source.given_origin (row_of c.read_and_reduce-ready.result).given) (sym c.read_and_reduce-ready.ensures.path)
    (c.requires.here ∙ sym c.read_and_reduce-ready.ensures.origin)

pub returns-clause-seen : goal.returns-clause-seen
returns-clause-seen g c =
    (publication_leaves g.S.Source.given_outcome g.S.Source.given_bytes (row_of c.read_and_reduce-ready.result) (number_of c.args.passes.now) (claimed_path c.args.claim) (seen_by c.args.passes.now) (seen_by c.publish.new.passes)
    c.publish.result c.read_and_reduce-ready.ensures.path c.publish.ensures.elsewhere c.publish.ensures.publishes c.publish.ensures.answer).seen

pub returns-clause-further : goal.returns-clause-further
returns-clause-further g c =
    (publication_leaves g.S.Source.given_outcome g.S.Source.given_bytes (row_of c.read_and_reduce-ready.result) (number_of c.args.passes.now) (claimed_path c.args.claim) (seen_by c.args.passes.now) (seen_by c.publish.new.passes)
    c.publish.result c.read_and_reduce-ready.ensures.path c.publish.ensures.elsewhere c.publish.ensures.publishes c.publish.ensures.answer).further

pub returns-clause-claims : goal.returns-clause-claims
returns-clause-claims g c =
    (publication_leaves g.S.Source.given_outcome g.S.Source.given_bytes (row_of c.read_and_reduce-ready.result) (number_of c.args.passes.now) (claimed_path c.args.claim) (seen_by c.args.passes.now) (seen_by c.publish.new.passes)
    c.publish.result c.read_and_reduce-ready.ensures.path c.publish.ensures.elsewhere c.publish.ensures.publishes c.publish.ensures.answer).claims
