use Rattle.std.proofs.Common.{rules, ◌≡◌, ◌+◌, ◌-◌, [], All, sym, ap, subst, ◌∙◌, arith}
use Rattle.std.proofs.lemmas.List.Elements.{All-push}
use Rattle.tickets.specs.declared.tickets.TicketSeat.{TicketSeat}
use Rattle.tickets.specs.Tickets.{hand}
use Rattle.tickets.proofs.TicketLemmas.{splits_at}
use Rattle.tickets.proofs.tickets.deal.Goals as goal

pub split_seat-part-requires : goal.split_seat-part-requires
split_seat-part-requires c =
    let h = c.loop-number-test.true in let w = c.requires.table.1 in
    (c.loop-number.invariant.0 ∙ c.requires.table.0, omega arith, splits_at _ _ (c.args.workers - c.loop-number.number) _ (ap (λ m. m.0) c.loop-number.invariant.1) (omega arith))

pub loop-number-preserved : goal.loop-number-preserved
loop-number-preserved c =
    let h = c.loop-number-test.true in let inv = c.loop-number.invariant in let cut = c.split_seat-part.ensures in
    let n = c.loop-number.number in let push = c.push_reserved.ensures in
    let P = λ (s : TicketSeat). (s.seat.table_id ≡ c.args.seat.table_id) × (s.seat.me ≡ (hand 1 [], [])) in
    let seat = c.seat_of.ensures in
    let here : P c.seat_of.result = (ap (λ s. s.table_id) seat ∙ (cut.3 ∙ inv.0), ap (λ s. s.me) seat ∙ cut.4) in
    let less : c.args.workers - n - 1 ≡ c.args.workers - (n + 1) = omega arith in (
      cut.0 ∙ inv.0,
      cut.2 ∙ ((λ i. (hand ((inv.1 i).0.places - 1) [], (inv.1 i).1)) ∙ ap (λ z. (hand z [], [])) less),
      search rules,
      search rules,
      subst (λ xs. All P xs) (sym push.items) (All-push P c.loop-number.row.items c.seat_of.result inv.4 here),
    )

pub returns-clause-seats : goal.returns-clause-seats
returns-clause-seats c =
    let h = c.loop-number-test.false in let inv = c.loop-number.invariant in let push = c.push_reserved-2.ensures in
    let some_workers = c.requires.row.2 in
    let P = λ (s : TicketSeat). (s.seat.table_id ≡ c.args.seat.table_id) × (s.seat.me ≡ (hand 1 [], [])) in
    let n = c.loop-number.number in
    let last : c.args.workers - n ≡ 1 = (let e = c.loop-number.auto.number-end in omega arith) in
    let seat = c.seat_of-2.ensures in
    let here : P c.seat_of-2.result = (ap (λ s. s.table_id) seat ∙ inv.0, ap (λ s. s.me) seat ∙ (inv.1 ∙ ap (λ z. (hand z [], [])) last)) in
    subst (λ id. All (λ (s : TicketSeat). (s.seat.table_id ≡ id) × (s.seat.me ≡ (hand 1 [], []))) c.push_reserved-2.new.self.items) c.requires.table.0
    (subst (λ xs. All P xs) (sym push.items) (All-push P c.loop-number.row.items c.seat_of-2.result inv.4 here))
