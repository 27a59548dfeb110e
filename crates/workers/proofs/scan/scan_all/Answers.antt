use Rattle.std.proofs.Common.{sym, subst}
use Rattle.shard_cache.specs.StoreMap.{HaveRows, IsOneMap}
use Rattle.shard_cache.proofs.MapLemmas.{IsUntouched-IsOneMap, IsUntouched-HaveRows}
use Rattle.workers.proofs.scan.scan_all.Goals as goal

pub returns-in_default-clause-have_rows : goal.returns-in_default-clause-have_rows
returns-in_default-clause-have_rows g c = IsUntouched-HaveRows c.args.store c.requires.untouched

pub returns-in_default-clause-one_map : goal.returns-in_default-clause-one_map
returns-in_default-clause-one_map g c = IsUntouched-IsOneMap g.S.Source.given_path g.S.Source.given_origin c.args.store c.requires.untouched

pub returns-in-Err-clause-have_rows : goal.returns-in-Err-clause-have_rows
returns-in-Err-clause-have_rows g c = subst (λ store. HaveRows store) (sym c.in-Err.ensures.err) (IsUntouched-HaveRows c.args.store c.requires.untouched)

pub returns-in-Err-clause-one_map : goal.returns-in-Err-clause-one_map
returns-in-Err-clause-one_map g c = subst (λ store. IsOneMap g.S.Source.given_path g.S.Source.given_origin store) (sym c.in-Err.ensures.err) (IsUntouched-IsOneMap g.S.Source.given_path g.S.Source.given_origin c.args.store c.requires.untouched)
