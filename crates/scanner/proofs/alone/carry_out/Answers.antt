use Rattle.shard_cache.proofs.MapLemmas.{IsUntouched-IsOneMap}
use Rattle.scanner.proofs.alone.carry_out.Goals as goal

pub returns-in-Refuse-clause-one_map : goal.returns-in-Refuse-clause-one_map
returns-in-Refuse-clause-one_map g c = IsUntouched-IsOneMap g.S.Source.given_path g.S.Source.given_origin c.args.store.now c.requires.fresh_store

pub returns-in-Scan-clause-looked : goal.returns-in-Scan-clause-looked
returns-in-Scan-clause-looked g c = rw c.in-Scan.is c.scan.ensures.looked

pub returns-in-Make-clause-one_map : goal.returns-in-Make-clause-one_map
returns-in-Make-clause-one_map g c = IsUntouched-IsOneMap g.S.Source.given_path g.S.Source.given_origin c.args.store.now c.requires.fresh_store
