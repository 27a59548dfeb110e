use Rattle.std.proofs.Common.{◌≡◌, ◌++◌, List, [], ◌∷◌, sym, subst}
use Rattle.std.specs.declared.result.Result.TheVariants.{Ok}
use Rattle.cache_desk.specs.declared.desk.Found.TheVariants as FoundIs
use Rattle.cache_desk.specs.Log.{HasClaim, claim}
use Rattle.cache_desk.specs.Desk.{Looks, log_of}
use Rattle.cache_desk.proofs.LogLemmas.{has_claim_now}
use Rattle.cache_desk.proofs.tests.look_and_publish.Goals as goal

-- The path was claimed just now.
pub publish-requires-clause-claim : goal.publish-requires-clause-claim
publish-requires-clause-claim g c κs within =
    let o = g.S.Source.given_outcome in let b = g.S.Source.given_bytes in
    let by = c.args.by in
    let looked = subst (λ f. Looks o b g.S.Source.opener_path g.S.Source.opener_origin c.args.path.now by c.args.desk.now (Ok f) c.look.new.self) c.in-Mine.is c.in_ok-path.ensures in
    subst (λ log. HasClaim by c.in-Mine.path log) (sym looked.1)
    (subst (λ q. HasClaim by c.in-Mine.path (log_of o b c.args.desk.now ++ claim q by ∷ [])) looked.3 (has_claim_now (log_of o b c.args.desk.now) c.in-Mine.path by))
