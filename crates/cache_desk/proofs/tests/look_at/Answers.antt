use Rattle.cache_desk.proofs.DeskLemmas.{number_kept}
use Rattle.cache_desk.proofs.tests.look_at.Goals as goal

pub returns : goal.returns
returns g c =
    number_kept g.S.Source.given_outcome g.S.Source.given_bytes g.S.Source.opener_path g.S.Source.opener_origin c.args.path.now c.args.by c.args.desk.now c.look.new.self c.look.result c.look.ensures
