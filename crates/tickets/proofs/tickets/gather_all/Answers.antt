use Rattle.std.proofs.Common.{◌≡◌, ◌+◌, ◌++◌, sym, ap, subst, ◌∙◌, arith}
use Rattle.std.specs.Prelude.{IfSome}
use Rattle.std.proofs.lemmas.List.Elements.{All-pop}
use Rattle.tickets.specs.declared.tickets.TicketSeat.{TicketSeat}
use Rattle.tickets.specs.Tickets.{times}
use Rattle.tickets.proofs.TicketLemmas.{taken, joins, append_times}
use Rattle.tickets.proofs.tickets.gather_all.Goals as goal

pub loop-next-init : goal.loop-next-init
loop-next-init c =
    let P = λ (s : TicketSeat). s.seat.table_id ≡ c.args.shared.now.table_id in
    let cut = c.in-Some.ensures.items in
    let own = All-pop P c.args.seats.items c.pop.new.self.items c.pop.result c.pop.ensures.items c.requires.own in
    let last = subst (λ r. IfSome r P) c.in-Some.is own.1 in
    let rest = c.in-Some.last.at_rest in
    record {
      table = last;
      bare = ap (λ m. m.1) rest;
      places = (let p : c.in-Some.last.seat.me.0.places ≡ 1 = ap (λ m. m.0.places) rest in let t = (taken (λ (s : TicketSeat). 0) c.args.seats.items c.pop.new.self.items c.in-Some.last cut).1 in omega arith);
      drawn = λ x. sym (taken (λ (s : TicketSeat). times x s.seat.me.0.drawn) c.args.seats.items c.pop.new.self.items c.in-Some.last cut).0;
      own = own.0;
    }

pub join_seat-requires : goal.join_seat-requires
join_seat-requires c =
    let P = λ (s : TicketSeat). s.seat.table_id ≡ c.args.shared.now.table_id in
    let own = All-pop P c.loop-next.seats.items c.pop-in-loop-next.new.self.items c.pop-in-loop-next.result c.pop-in-loop-next.ensures.items c.loop-next.invariant.own in
    let next = subst (λ r. IfSome r P) c.in-Some-pop.is own.1 in
    (c.loop-next.invariant.table, next, ap (λ m. m.1) c.in-Some-pop.next.at_rest, c.requires.table, joins _ _ _ _ _)

pub loop-next-preserved : goal.loop-next-preserved
loop-next-preserved c =
    let P = λ (s : TicketSeat). s.seat.table_id ≡ c.args.shared.now.table_id in
    let own = All-pop P c.loop-next.seats.items c.pop-in-loop-next.new.self.items c.pop-in-loop-next.result c.pop-in-loop-next.ensures.items c.loop-next.invariant.own in
    let cut = c.in-Some-pop.ensures.items in
    let inv = c.loop-next.invariant in
    let me = c.join_seat.ensures.2 in
    let next = c.in-Some-pop.next in
    let one : next.seat.me.0.places ≡ 1 = ap (λ m. m.0.places) next.at_rest in
    record {
      table = c.join_seat.ensures.0 ∙ inv.table;
      bare = ap (λ m. m.1) me ∙ inv.bare;
      places = (let p : c.join_seat.new.seat.me.0.places ≡ next.seat.me.0.places + c.loop-next.seat.me.0.places = ap (λ m. m.0.places) me in
          let t = (taken (λ (s : TicketSeat). 0) c.loop-next.seats.items c.pop-in-loop-next.new.self.items next cut).1 in let i = inv.places in omega arith);
      drawn = λ x. (let p : times x c.join_seat.new.seat.me.0.drawn ≡ times x (next.seat.me.0.drawn ++ c.loop-next.seat.me.0.drawn) = ap (λ m. times x m.0.drawn) me in
          let a = append_times x next.seat.me.0.drawn c.loop-next.seat.me.0.drawn in
          let t = (taken (λ (s : TicketSeat). times x s.seat.me.0.drawn) c.loop-next.seats.items c.pop-in-loop-next.new.self.items next cut).0 in let i = inv.drawn x in omega arith);
      own = own.0;
    }
