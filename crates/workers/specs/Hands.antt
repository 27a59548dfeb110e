-- The workers' hands before and after their work.
use Rattle.std.specs.Prelude.{◌≡◌, ◌≤◌, ℕ, List, [], map, length, All, vec_capacity}
use Rattle.file_source.specs.declared.source.Source as source
use Rattle.turn_lock.specs.declared.Logged as logged
use Rattle.scan_model.specs.declared.command.Settings.{Settings}
use Rattle.scan_model.specs.declared.command.Job.{Job}
use Rattle.tickets.specs.declared.tickets.Tickets.{Tickets}
use Rattle.tickets.specs.declared.tickets.TicketSeat.{TicketSeat}
use Rattle.tickets.specs.Seats.{drawn_by, IsSeatOf}
use Rattle.cache_desk.specs.declared.desk.Desk.{Desk}
use Rattle.cache_desk.specs.declared.entry.Entry.{Entry}
use Rattle.shared_cache.specs.declared.cache.Cache.{Cache}
use Rattle.shared_cache.specs.declared.cache.Passes.{Passes}
use Rattle.shared_cache.specs.Callers.{number_of, seen_by, IsHandOf}
use Rattle.worker.specs.declared.hand.Hand.{Hand}
use Rattle.worker.specs.declared.share.Share.{Share}
use Rattle.worker.specs.Claims.{HasClaimed}
use Rattle.worker.specs.Shares.{ends_in, room_of}
use Rattle.worker.specs.Work.{IsWorked}
use Rattle.workers.specs.declared.crew.Crew.{Crew}

module _ {S O G : Type 0} {g : logged.Ghosts (Desk S O G) Entry} where
  -- the hands' seats, passes and shares, in order
  abbrev pub ArePartsOf : List (Hand S O G Entry g) → List TicketSeat → List (Passes S O G Entry g) → List Share → Type 0
  ArePartsOf hands seats passes shares =
      (map (λ (hand : Hand S O G Entry g). hand.seat) hands ≡ seats)
      × (map (λ (hand : Hand S O G Entry g). hand.passes) hands ≡ passes)
      × (map (λ (hand : Hand S O G Entry g). hand.share) hands ≡ shares)

  module _ {s : source.Ghosts S O G} (cache : Cache S O G Entry s g) (tickets : Tickets) where
    -- nothing was drawn, claimed or done yet, and there is room for this many ends
    pub record IsReady (jobs : ℕ) (hand : Hand S O G Entry g) : Type 0 where
      pub own : IsHandOf cache hand.passes
      pub seat : IsSeatOf tickets hand.seat
      pub drawn : drawn_by hand.seat ≡ []
      pub unclaimed : (path : List ℕ) → HasClaimed (seen_by hand.passes) (number_of hand.passes) path → ⊥
      pub share : ends_in hand.share ≡ []
      pub room : jobs ≤ room_of hand.share

    -- the hand's work is done
    pub record IsDone (settings : Settings) (jobs : List Job) (hand : Hand S O G Entry g) : Type 0 where
      pub own : IsHandOf cache hand.passes
      pub seat : IsSeatOf tickets hand.seat
      pub worked : IsWorked settings jobs (number_of hand.passes) (drawn_by hand.seat) (seen_by hand.passes) (ends_in hand.share)

    -- the passes are of the cache, and claimed nothing
    abbrev pub AreUnused : Passes S O G Entry g → Type 0
    AreUnused passes = IsHandOf cache passes × ((path : List ℕ) → HasClaimed (seen_by passes) (number_of passes) path → ⊥)

    -- all that the workers have is apart and as many times as there are seats, and nothing was done
    pub record AreReady (jobs : ℕ) (crew : Crew S O G Entry g) : Type 0 where
      pub passes_count : length crew.passes.items ≡ length crew.seats.items
      pub shares_count : length crew.shares.items ≡ length crew.seats.items
      pub seats_are : All (λ (seat : TicketSeat). IsSeatOf tickets seat × (drawn_by seat ≡ [])) crew.seats.items
      pub passes_are : All AreUnused crew.passes.items
      pub shares_are : All (λ (share : Share). (ends_in share ≡ []) × (jobs ≤ room_of share)) crew.shares.items
      pub no_hand : crew.hands.items ≡ []
      pub hand_room : length crew.seats.items ≤ vec_capacity crew.hands

    -- they are the parts of hands whose work is done
    abbrev pub AreDone : Settings → List Job → List TicketSeat → List (Passes S O G Entry g) → List Share → Type 0
    AreDone settings jobs seats passes shares = (hands : List (Hand S O G Entry g)) × ArePartsOf hands seats passes shares × All (IsDone settings jobs) hands
