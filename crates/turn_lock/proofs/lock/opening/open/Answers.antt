use Rattle.std.proofs.Common.{rules, length, ◌∷◌, Some, ap, ◌∙◌, refl, arith}
use Rattle.atomic_table.specs.Table.{rest}
use Rattle.turn_lock.proofs.StepsKept.{not_both, draws, looks, serves}
use Rattle.turn_lock.proofs.Opening.{from_length, began, first_ends, opened}
use Rattle.turn_lock.proofs.lock.opening.open.Goals as goal

pub fetch_add-requires : goal.fetch_add-requires
fetch_add-requires g c = (
  search rules,
  search rules,
  draws _ _ _ _ _ _ _ _ _ (ap (λ m. m.0.stage) c.requires.start)
      (let n = c.args.shared.now.key.passes in let h = ap (λ m. length m.0.marks) c.requires.start in let l = from_length 0 n (g.T.Logged.fixed c.args.first) (g.T.Logged.log c.args.first) in let some = c.requires.first.1 in omega arith)
      (λ shut. not_both _ (ap (λ m. m.0.opening) c.requires.start) shut),
)

pub load-requires : goal.load-requires
load-requires g c = let drew = c.fetch_add.ensures.2 in (search rules, search rules, looks _ _ _ _ _ _ _ _ _ drew.0 (ap (λ m. m.0.stage) drew.2))

pub fetch_add-requires-2 : goal.fetch_add-requires-2
fetch_add-requires-2 g c = let it = began g.T.Logged.log g.T.Logged.fixed g.T.Logged.maker _ _ _ c.args.shared.now.key.passes (g.T.Logged.fixed c.args.first) _ _ (g.T.Logged.log c.args.first) c.requires.start c.fetch_add.ensures.2 c.load.ensures.2 in
    let put = c.exchange-vacated.ensures.3 in (
      search rules,
      search rules,
      serves _ _ _ _ _ _ _ _ _ it.0 c.args.first
          (ap (λ m. m.0.stage) put ∙ ap (λ m. m.0.stage) it.1)
          (ap (λ m. m.1) put ∙ ap (λ m. (0, Some c.args.first) ∷ rest m.1) it.1)
          (first_ends g.T.Logged.log g.T.Logged.fixed g.T.Logged.maker _ c.args.shared.now.key.passes (g.T.Logged.fixed c.args.first) it.0 (g.T.Logged.log c.args.first) c.args.first (ap (λ m. m.0) put ∙ ap (λ m. m.0) it.1) c.requires.first.1 refl refl),
    )

pub returns-clause-ready : goal.returns-clause-ready
returns-clause-ready g c = let it = began g.T.Logged.log g.T.Logged.fixed g.T.Logged.maker _ _ _ c.args.shared.now.key.passes (g.T.Logged.fixed c.args.first) _ _ (g.T.Logged.log c.args.first) c.requires.start c.fetch_add.ensures.2 c.load.ensures.2 in
    opened g.T.Logged.log g.T.Logged.fixed g.T.Logged.maker _ _ c.args.shared.now.key.passes (g.T.Logged.fixed c.args.first) it.0 (g.T.Logged.log c.args.first) c.args.first
    (c.exchange-vacated.ensures.3 ∙ ap (λ m. (m.0, (0, Some c.args.first) ∷ rest m.1)) it.1) c.fetch_add-2.ensures.2
