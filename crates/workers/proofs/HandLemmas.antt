-- What holds of the workers' things holds of their hands.
use Rattle.std.proofs.Common.{◌≡◌, ◌≤◌, ℕ, List, [], ◌∷◌, ◌++◌, reverse, All, sym, ◌∙◌, subst}
use Rattle.std.proofs.lemmas.List.{reverse-reverse, reverse-append}
use Rattle.std.proofs.lemmas.List.Elements.{All-nil, All-head, All-tail, All-weaker, All-push}
use Rattle.file_source.specs.declared.source.Source as source
use Rattle.turn_lock.specs.declared.Logged as logged
use Rattle.tickets.specs.declared.tickets.Tickets.{Tickets}
use Rattle.tickets.specs.declared.tickets.TicketSeat.{TicketSeat}
use Rattle.tickets.specs.Seats.{drawn_by, IsSeatOf}
use Rattle.cache_desk.specs.declared.desk.Desk.{Desk}
use Rattle.cache_desk.specs.declared.entry.Entry.{Entry}
use Rattle.shared_cache.specs.declared.cache.Cache.{Cache}
use Rattle.worker.specs.declared.hand.Hand.{Hand}
use Rattle.worker.specs.declared.share.Share.{Share}
use Rattle.worker.specs.Shares.{ends_in, room_of}
use Rattle.workers.specs.declared.crew.Crew.{Crew}
use Rattle.workers.specs.Hands.{ArePartsOf, IsReady, AreUnused, AreReady}
use Rattle.workers.proofs.EndLemmas.{All-unmap, All-both}

module _ {X : Type 0} (P : X → Type 0) where
  pub All-reverse : (xs : List X) → All P xs → All P (reverse xs)
  All-reverse [] h = All-nil P
  All-reverse (x ∷ xs) h = subst (λ z. All P z) (sym (reverse-append (x ∷ []) xs)) (All-push P (reverse xs) x (All-reverse xs (All-tail P x xs h)) (All-head P x xs h))

  All-unreverse : (xs : List X) → All P (reverse xs) → All P xs
  All-unreverse xs h = subst (λ z. All P z) (reverse-reverse xs) (All-reverse (reverse xs) h)

module _ {S O G : Type 0} {g : logged.Ghosts (Desk S O G) Entry} {s : source.Ghosts S O G} (cache : Cache S O G Entry s g) (tickets : Tickets) where
  -- the hands that are put together of ready things are ready
  pub all_ready : (jobs : ℕ) (crew : Crew S O G Entry g) (hands : List (Hand S O G Entry g)) → AreReady cache tickets jobs crew → ArePartsOf (reverse hands) crew.seats.items crew.passes.items crew.shares.items → All (IsReady cache tickets jobs) hands
  all_ready jobs crew hands ready parts =
      let SeatIs : TicketSeat → Type 0 = λ seat. IsSeatOf tickets seat × (drawn_by seat ≡ []) in
      let ShareIs : Share → Type 0 = λ share. (ends_in share ≡ []) × (jobs ≤ room_of share) in
      let H : Type 0 = Hand S O G Entry g in
      let seats : All (λ (h : H). SeatIs h.seat) (reverse hands) = All-unmap SeatIs (λ (h : H). h.seat) (reverse hands) (subst (λ z. All SeatIs z) (sym parts.0) ready.seats_are) in
      let passes : All (λ (h : H). AreUnused cache tickets h.passes) (reverse hands) = All-unmap (AreUnused cache tickets) (λ (h : H). h.passes) (reverse hands) (subst (λ z. All (AreUnused cache tickets) z) (sym parts.1) ready.passes_are) in
      let shares : All (λ (h : H). ShareIs h.share) (reverse hands) = All-unmap ShareIs (λ (h : H). h.share) (reverse hands) (subst (λ z. All ShareIs z) (sym parts.2) ready.shares_are) in
      All-unreverse (IsReady cache tickets jobs) hands
      (All-weaker (λ (h : H). SeatIs h.seat × (AreUnused cache tickets h.passes × ShareIs h.share)) (IsReady cache tickets jobs)
      (λ h (seat, (own, share)). record { own = own.0; seat = seat.0; drawn = seat.1; unclaimed = own.1; share = share.0; room = share.1 })
      (reverse hands) (All-both (λ (h : H). SeatIs h.seat) (λ (h : H). AreUnused cache tickets h.passes × ShareIs h.share) (reverse hands) seats (All-both (λ (h : H). AreUnused cache tickets h.passes) (λ (h : H). ShareIs h.share) (reverse hands) passes shares)))
