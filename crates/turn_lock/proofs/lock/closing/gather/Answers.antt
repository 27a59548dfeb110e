use Rattle.std.proofs.Common.{rules, ◌≡◌, false, [], ◌∷◌, ◌++◌, map, All, sym, ap, subst, ◌∙◌}
use Rattle.turn_lock.specs.declared.view.Stage.TheVariants.{Idle}
use Rattle.turn_lock.specs.Views.{view}
use Rattle.turn_lock.specs.Passes.{mark_of, pass_lock}
use Rattle.turn_lock.proofs.Closing.{all_init, all_last, joins_at, begins, gathers}
use Rattle.turn_lock.proofs.lock.closing.gather.Goals as goal

pub loop-next-init : goal.loop-next-init
loop-next-init g c = let last = c.in-Some.last in let cut : c.args.passes.items ≡ c.pop.new.self.items ++ last ∷ [] = search rules in
    let own = subst (All (λ p. pass_lock p ≡ c.args.shared.now.table_id)) cut c.requires.passes.1 in let marks = ap (λ m. m.0.marks) last.at_rest in (
      all_last (λ p. pass_lock p ≡ c.args.shared.now.table_id) c.pop.new.self.items last own,
      last.at_rest ∙ ap (λ z. (view z Idle false, [])) (sym marks),
      begins c.pop.new.self.items c.args.passes.items last last.seat.me.0.marks cut marks,
      all_init (λ p. pass_lock p ≡ c.args.shared.now.table_id) c.pop.new.self.items last own,
    )

pub join_seat-requires : goal.join_seat-requires
join_seat-requires g c = let next = c.in-Some-pop.next in let cut : c.loop-next.passes.items ≡ c.pop-in-loop-next.new.self.items ++ next ∷ [] = search rules in
    let own = subst (All (λ p. pass_lock p ≡ c.args.shared.now.table_id)) cut c.loop-next.invariant.3 in let marks = ap (λ m. m.0.marks) next.at_rest in (
      c.loop-next.invariant.0,
      all_last (λ p. pass_lock p ≡ c.args.shared.now.table_id) c.pop-in-loop-next.new.self.items next own,
      ap (λ m. m.1) next.at_rest,
      c.requires.table,
      joins_at g.T.Logged.log g.T.Logged.fixed g.T.Logged.maker _ _ _ _ _ _ _ (ap (λ m. m.0) c.loop-next.invariant.1) (ap (λ m. m.0) next.at_rest ∙ ap (λ z. view z Idle false) (sym marks)),
    )

pub loop-next-preserved : goal.loop-next-preserved
loop-next-preserved g c = let next = c.in-Some-pop.next in let cut : c.loop-next.passes.items ≡ c.pop-in-loop-next.new.self.items ++ next ∷ [] = search rules in
    let own = subst (All (λ p. pass_lock p ≡ c.args.shared.now.table_id)) cut c.loop-next.invariant.3 in let marks = ap (λ m. m.0.marks) next.at_rest in
    let now = c.join_seat.ensures in let both = ap (λ m. m.0.marks) now.2 in (
      now.0 ∙ c.loop-next.invariant.0,
      now.2 ∙ (λ i. (view (sym both i) Idle false, ap (λ m. m.1) c.loop-next.invariant.1 i)),
      ap (λ z. map mark_of c.pop-in-loop-next.new.self.items ++ z) both ∙ gathers c.pop-in-loop-next.new.self.items c.loop-next.passes.items c.args.passes.items next c.loop-next.seat.me.0.marks next.seat.me.0.marks cut marks c.loop-next.invariant.2,
      all_init (λ p. pass_lock p ≡ c.args.shared.now.table_id) c.pop-in-loop-next.new.self.items next own,
    )
