use Rattle.turn_lock.specs.Passes.{lock_fixed, number, seen}
use Rattle.cache_desk.specs.Desk.{log_of, fixed_of}
use Rattle.shared_cache.proofs.LookLemmas.{look_sees_at}
use Rattle.shared_cache.proofs.shard_lock.look_in.Goals as goal

pub returns-clause-looks : goal.returns-clause-looks
returns-clause-looks g c =
    let o = g.S.Source.given_outcome in let b = g.S.Source.given_bytes in
    let ran = c.with.ensures.ran in
    let turn = ran.4 in (
      log_of o b ran.0,
      ran.2,
      look_sees_at o b g.S.Source.opener_path g.S.Source.opener_origin c.args.path.now c.number-by.result (number c.args.pass.now) (lock_fixed fixed_of c.args.lock.now)
          ran.0 ran.1 turn.shown.now turn.left.now c.with.result (seen c.with.new.pass) c.requires.placed.0
          c.number-by.ensures turn.shows turn.leaves ran.5 ran.3 c.requires.placed.1 turn.met,
    )
