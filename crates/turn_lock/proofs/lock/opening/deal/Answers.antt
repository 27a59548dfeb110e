use Rattle.std.proofs.Common.{rules, ◌≡◌, ℕ, ◌+◌, ◌<◌, ◌-◌, [], false, length, ap, sym, subst, ◌∙◌, arith, length-append}
use Rattle.turn_lock.specs.declared.view.Stage.TheVariants.{Idle}
use Rattle.turn_lock.specs.Views.{view, marks_from, seen_of, fixed_of}
use Rattle.turn_lock.specs.Passes.{Dealt}
use Rattle.turn_lock.proofs.Opening.{splits_at, part_is, rest_is, seen_is, fixed_is, rests, dealt_more}
use Rattle.turn_lock.proofs.lock.opening.deal.Goals as goal

pub split_seat-part-requires : goal.split_seat-part-requires
split_seat-part-requires g c = (search rules, search rules, splits_at g.T.Logged.log g.T.Logged.fixed g.T.Logged.maker _ _ _ _ c.loop-number.number (c.args.passes - c.loop-number.number) (g.T.Logged.fixed c.args.like.now.value) _ (g.T.Logged.log c.args.like.now.value) (ap (λ m. m.0) c.loop-number.invariant.1) (let h = c.loop-number-test.true in omega arith))

pub pass_of-requires-after_bounds : goal.pass_of-requires-after_bounds
pass_of-requires-after_bounds g c κs within = let k = c.loop-number.number in let log = g.T.Logged.log c.args.like.now.value in let fix = g.T.Logged.fixed c.args.like.now.value in
    rests g.T.Logged.log g.T.Logged.fixed g.T.Logged.maker _ k fix log (c.split_seat-part.ensures.4 ∙ ap (λ v. (v, [])) (part_is g.T.Logged.log g.T.Logged.fixed g.T.Logged.maker k (c.args.passes - k) fix _ log (ap (λ m. m.0) c.loop-number.invariant.1) (let h = c.loop-number-test.true in omega arith)))

pub loop-number-preserved : goal.loop-number-preserved
loop-number-preserved g c = let k = c.loop-number.number in let n = c.args.passes - k in let log = g.T.Logged.log c.args.like.now.value in let fix = g.T.Logged.fixed c.args.like.now.value in let inv = c.loop-number.invariant in let cut = c.split_seat-part.ensures in
    let some : 0 < n = (let h = c.loop-number-test.true in omega arith) in let less : n - 1 ≡ c.args.passes - (k + 1) = omega arith in
    let part = cut.4 ∙ ap (λ v. (v, [])) (part_is g.T.Logged.log g.T.Logged.fixed g.T.Logged.maker k n fix _ log (ap (λ m. m.0) inv.1) some) in
    let named = c.pass_of.ensures in let items = c.push_reserved.ensures.items in (
      cut.0 ∙ inv.0,
      cut.2 ∙ (λ i. (rest_is g.T.Logged.log g.T.Logged.fixed g.T.Logged.maker k n fix _ log (ap (λ m. m.0) inv.1) some i, (ap (λ m. m.1) inv.1) i)) ∙ ap (λ (z : ℕ). (view (marks_from (k + 1) z fix log) Idle false, [])) less,
      ap length items ∙ (length-append _ _ ∙ ap (λ (z : ℕ). z + 1) inv.2),
      search rules,
      subst (Dealt {g = g.T.Logged} c.args.seat.table_id fix log 0) (sym items)
          (dealt_more _ fix log 0 _ _ inv.4 (ap (λ s. s.table_id) named.0 ∙ (cut.3 ∙ inv.0)) (named.1 ∙ (let h = inv.2 in omega arith)) (ap (λ s. seen_of s.me.0.marks) named.0 ∙ ap (λ m. seen_of m.0.marks) part) (ap (λ s. fixed_of s.me.0.marks) named.0 ∙ ap (λ m. fixed_of m.0.marks) part)),
    )

pub returns : goal.returns
returns g c = let k = c.loop-number.number in let n = c.args.passes - k in let log = g.T.Logged.log c.args.like.now.value in let fix = g.T.Logged.fixed c.args.like.now.value in let inv = c.loop-number.invariant in let named = c.pass_of-2.ensures in let items = c.push_reserved-2.ensures.items in
    let count = c.requires.row.2 in let done : k ≡ c.args.passes - 1 = search rules in
    let long : length c.loop-number.row.items + 1 ≡ c.args.passes = (let h = inv.2 in omega arith) in (
      ap length items ∙ (length-append _ _ ∙ long),
      subst (Dealt {g = g.T.Logged} c.args.shared.now.table_id fix log 0) (sym items)
          (dealt_more _ fix log 0 _ _ (subst (λ z. Dealt {g = g.T.Logged} z fix log 0 c.loop-number.row.items) c.requires.table.0 inv.4) (ap (λ s. s.table_id) named.0 ∙ (inv.0 ∙ c.requires.table.0)) (named.1 ∙ (let h = inv.2 in omega arith))
          (ap (λ s. seen_of s.me.0.marks) named.0 ∙ seen_is g.T.Logged.log g.T.Logged.fixed g.T.Logged.maker k n fix _ log (ap (λ m. m.0) inv.1) (omega arith)) (ap (λ s. fixed_of s.me.0.marks) named.0 ∙ fixed_is g.T.Logged.log g.T.Logged.fixed g.T.Logged.maker k n fix _ log (ap (λ m. m.0) inv.1) (omega arith))),
    )
