use Rattle.std.proofs.lemmas.List.Elements.{All-nil}
use Rattle.shard_cache.proofs.MapLemmas.{IsUntouched-IsOneMap}
use Rattle.scanner.proofs.alone.scan_alone.Goals as goal
use Rattle.scanner.proofs.alone.scan_alone.Goals.{in-Ok+in-Scan-1, in-Ok+in-Refuse-1, in-Ok+in-Make-1, in-Err}

pub returns-clause-one_map : goal.returns-clause-one_map
returns-clause-one_map g c = elim c.match-verdict.branch [
  | in-Ok+in-Scan-1 w ↦ rw w.store-is w.carry_out-status.ensures.one_map
  | in-Ok+in-Refuse-1 w ↦ rw w.store-is w.carry_out-status.ensures.one_map
  | in-Ok+in-Make-1 w ↦ rw w.store-is w.carry_out-status.ensures.one_map
  | in-Err w ↦ rw w.store-is (IsUntouched-IsOneMap g.S.Source.given_path g.S.Source.given_origin c.args.outside.store c.requires.fresh_store)
]

pub returns-clause-looked : goal.returns-clause-looked
returns-clause-looked g c = elim c.match-verdict.branch [
  | in-Ok+in-Scan-1 w ↦
      let decided = rw w.in-Ok.is at c.read_verdict-verdict.ensures.verdict in
      rw (w.store-is, decided) w.carry_out-status.ensures.looked
  | in-Ok+in-Refuse-1 w ↦
      let decided = rw w.in-Ok.is at c.read_verdict-verdict.ensures.verdict in
      rw (w.store-is, decided) w.carry_out-status.ensures.looked
  | in-Ok+in-Make-1 w ↦
      let decided = rw w.in-Ok.is at c.read_verdict-verdict.ensures.verdict in
      rw (w.store-is, decided) w.carry_out-status.ensures.looked
  | in-Err w ↦ rw (w.store-is, c.requires.fresh_store.nothing_asked) (All-nil _)
]
