use Rattle.std.proofs.Common.{rules, ◌≡◌, length, ap, sym, ◌∙◌, slice_get, ◌+◌}
use Rattle.turn_lock.proofs.Opening.{starts, dealt_at}
use Rattle.turn_lock.proofs.lock.TurnLock.new.Goals as goal

pub vacant-requires : goal.vacant-requires
vacant-requires g c = starts g.T.Logged.log g.T.Logged.fixed g.T.Logged.maker (g.T.Logged.fixed c.of.result.value) (g.T.Logged.log c.of.result.value) c.args.passes c.requires.1

pub returns-clause-passes : goal.returns-clause-passes
returns-clause-passes g c = let d = c.deal-row.ensures in let log = g.T.Logged.log in let first : c.of-like.result.value ≡ c.args.first = search rules in
    let keyed : c.of-like.result.value ≡ c.in-Ok-vacant.table.shared.key.first.value = search rules in (
      ap length c.of_vec.ensures ∙ d.0,
      λ k p e. let it = dealt_at _ (g.T.Logged.fixed c.of-like.result.value) (log c.of-like.result.value) 0 c.deal-row.result.items k p d.1 (sym (ap (λ ps. slice_get ps k) c.of_vec.ensures) ∙ e) in ((it.0, it.3 ∙ ap g.T.Logged.fixed keyed), (let h = it.1 in omega Rattle.std.proofs.Common.arith), it.2 ∙ ap log first),
    )
