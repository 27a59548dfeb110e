use Rattle.std.proofs.Common.{rules, ap, ◌∙◌, ◌∷◌, Some}
use Rattle.atomic_table.specs.Table.{rest}
use Rattle.turn_lock.proofs.StepsKept.{serves}
use Rattle.turn_lock.proofs.TurnLemmas.{ends_of, went}
use Rattle.turn_lock.proofs.lock.turn.leave.Goals as goal

pub fetch_add-requires : goal.fetch_add-requires
fetch_add-requires g c = let was = c.requires.turn.1 in let put = c.exchange-vacated.ensures.3 in (
  search rules,
  search rules,
  serves _ _ _ _ _ _ _ _ _ c.requires.turn.0 c.args.state
      (ap (λ m. m.0.stage) put ∙ ap (λ m. m.0.stage) was)
      (ap (λ m. m.1) put ∙ ap (λ m. (0, Some c.args.state) ∷ rest m.1) was)
      (ends_of g.T.Logged.log g.T.Logged.fixed g.T.Logged.maker _ _ _ _ _ c.args.state (ap (λ m. m.0) put ∙ ap (λ m. m.0) was) c.requires.adds c.requires.fixed),
)

pub returns-clause-rest : goal.returns-clause-rest
returns-clause-rest g c = let was = c.requires.turn.1 in let put = c.exchange-vacated.ensures.3 in
    went g.T.Logged.log g.T.Logged.fixed g.T.Logged.maker _ _ _ _ _ _ c.args.state (put ∙ ap (λ m. (m.0, (0, Some c.args.state) ∷ rest m.1)) was) c.fetch_add.ensures.2
