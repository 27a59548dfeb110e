use Rattle.std.proofs.Common.{rules, ap, subst, sym, ◌∙◌, ◌≡◌, length, arith, Some}
use Rattle.turn_lock.specs.Logs.{Fits}
use Rattle.turn_lock.specs.Views.{number_of, seen_of}
use Rattle.turn_lock.proofs.StepsKept.{draws, looks}
use Rattle.turn_lock.proofs.TurnLemmas.{came, carried_is, has_one, taken}
use Rattle.turn_lock.proofs.lock.turn.enter.Goals as goal

pub fetch_add-ticket-requires : goal.fetch_add-ticket-requires
fetch_add-ticket-requires g c = (
  search rules,
  search rules,
  draws _ _ _ _ _ _ _ _ _ (ap (λ m. m.0.stage) c.requires.rest) (let h = ap (λ m. length m.0.marks) c.requires.rest in omega arith) (λ _. ap (λ m. length m.0.marks) c.requires.rest),
)

pub load-requires : goal.load-requires
load-requires g c = let drew = c.fetch_add-ticket.ensures.2 in (search rules, search rules, looks _ _ _ _ _ _ _ _ _ drew.0 (ap (λ m. m.0.stage) (c.loop.invariant.1 ∙ drew.2)))

pub exchange-requires : goal.exchange-requires
exchange-requires g c = let it = came g.T.Logged.log g.T.Logged.fixed g.T.Logged.maker _ _ _ _ _ _ _ _ _ c.requires.rest c.fetch_add-ticket.ensures.2 c.loop.invariant.1 c.load.ensures.2 c.if-load-ticket.true in
    (search rules, (Some it.0, has_one g.T.Logged.log g.T.Logged.fixed g.T.Logged.maker _ it.0 (ap (λ m. m.1) it.4)))

pub unwrap-requires : goal.unwrap-requires
unwrap-requires g c = let it = came g.T.Logged.log g.T.Logged.fixed g.T.Logged.maker _ _ _ _ _ _ _ _ _ c.requires.rest c.fetch_add-ticket.ensures.2 c.loop.invariant.1 c.load.ensures.2 c.if-load-ticket.true in
    let is : c.exchange.result ≡ Some it.0 = carried_is g.T.Logged.log g.T.Logged.fixed g.T.Logged.maker _ it.0 _ (ap (λ m. m.1) it.4) c.exchange.ensures.2 in search rules

pub returns-then-load-ticket-clause-fits : goal.returns-then-load-ticket-clause-fits
returns-then-load-ticket-clause-fits g c = let it = came g.T.Logged.log g.T.Logged.fixed g.T.Logged.maker _ _ _ _ _ _ _ _ _ c.requires.rest c.fetch_add-ticket.ensures.2 c.loop.invariant.1 c.load.ensures.2 c.if-load-ticket.true in
    let out = taken g.T.Logged.log g.T.Logged.fixed g.T.Logged.maker _ _ _ _ _ it.0 c.unwrap.result _ it.4 c.exchange.ensures.2 c.exchange.ensures.3 c.unwrap.ensures in
    subst (λ x. Fits g.T.Logged.maker (number_of c.args.seat.now.me.0.marks) (seen_of c.args.seat.now.me.0.marks) (g.T.Logged.log x)) out.0 it.2

pub returns-then-load-ticket-clause-turn : goal.returns-then-load-ticket-clause-turn
returns-then-load-ticket-clause-turn g c = let it = came g.T.Logged.log g.T.Logged.fixed g.T.Logged.maker _ _ _ _ _ _ _ _ _ c.requires.rest c.fetch_add-ticket.ensures.2 c.loop.invariant.1 c.load.ensures.2 c.if-load-ticket.true in
    let out = taken g.T.Logged.log g.T.Logged.fixed g.T.Logged.maker _ _ _ _ _ it.0 c.unwrap.result _ it.4 c.exchange.ensures.2 c.exchange.ensures.3 c.unwrap.ensures in
    (it.1, out.1)

pub returns-then-load-ticket-clause-fixed : goal.returns-then-load-ticket-clause-fixed
returns-then-load-ticket-clause-fixed g c = let it = came g.T.Logged.log g.T.Logged.fixed g.T.Logged.maker _ _ _ _ _ _ _ _ _ c.requires.rest c.fetch_add-ticket.ensures.2 c.loop.invariant.1 c.load.ensures.2 c.if-load-ticket.true in
    let out = taken g.T.Logged.log g.T.Logged.fixed g.T.Logged.maker _ _ _ _ _ it.0 c.unwrap.result _ it.4 c.exchange.ensures.2 c.exchange.ensures.3 c.unwrap.ensures in
    sym (ap g.T.Logged.fixed out.0) ∙ it.3
