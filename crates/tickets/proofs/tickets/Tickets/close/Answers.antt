use Rattle.std.proofs.Common.{◌≡◌, length, sym, ap, ◌∙◌, arith}
use mathlib.Core.Option.{some-injective}
use lib.ListN.{get_elem?}
use Rattle.tickets.specs.declared.tickets.TicketSeat.{TicketSeat}
use Rattle.tickets.specs.Tickets.{total, times}
use Rattle.tickets.proofs.TicketLemmas.{closes}
use Rattle.tickets.proofs.tickets.Tickets.close.Goals as goal

pub free-requires : goal.free-requires
free-requires c k inside = let s = c.args.self.sized.1 in let n = c.close_with-closed.ensures.counts.1 in absurd (omega arith)

pub returns-clause-below : goal.returns-clause-below
returns-clause-below c x inside =
    let f = c.close_with-closed.ensures.values.2 in
    let v = c.gather_all-seat.result.me.0 in
    let k = closes _ _ v f.0 f.1.0 f.1.1 (c.gather_all-seat.ensures.places ∙ (ap length c.into_vec.ensures ∙ c.requires.all.0)) in
    let n : c.word-drawn.result ≡ length v.drawn = some-injective _ _ (sym c.word-drawn.ensures ∙ ap (λ ws. get_elem? ws 0) (sym f.2 ∙ k.0)) in
    let d = c.gather_all-seat.ensures.drawn x ∙ ap (total (λ (s : TicketSeat). times x s.seat.me.0.drawn)) c.into_vec.ensures in
    let once = k.1 x (omega arith) in
    sym d ∙ once

pub returns-clause-beyond : goal.returns-clause-beyond
returns-clause-beyond c x beyond =
    let f = c.close_with-closed.ensures.values.2 in
    let v = c.gather_all-seat.result.me.0 in
    let k = closes _ _ v f.0 f.1.0 f.1.1 (c.gather_all-seat.ensures.places ∙ (ap length c.into_vec.ensures ∙ c.requires.all.0)) in
    let n : c.word-drawn.result ≡ length v.drawn = some-injective _ _ (sym c.word-drawn.ensures ∙ ap (λ ws. get_elem? ws 0) (sym f.2 ∙ k.0)) in
    let d = c.gather_all-seat.ensures.drawn x ∙ ap (total (λ (s : TicketSeat). times x s.seat.me.0.drawn)) c.into_vec.ensures in
    let never = k.2 x (omega arith) in
    sym d ∙ never
