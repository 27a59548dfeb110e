-- What a scan has before it begins.
use Rattle.std.specs.Prelude.{◌≡◌, ◌≤◌, ℕ, List, [], None, All, length, vec_capacity, Vec}
use Rattle.std.specs.declared.alloc.Global.{Global}
use Rattle.turn_lock.specs.declared.Logged as logged
use Rattle.scan_model.specs.declared.UnitEnd.{UnitEnd}
use Rattle.tickets.specs.declared.tickets.Tickets.{Tickets}
use Rattle.tickets.specs.declared.tickets.TicketSeat.{TicketSeat}
use Rattle.tickets.specs.Seats.{drawn_by, IsSeatOf}
use Rattle.cache_desk.specs.declared.desk.Desk.{Desk}
use Rattle.cache_desk.specs.declared.entry.Entry.{Entry}
use Rattle.worker.specs.declared.hand.Hand.{Hand}
use Rattle.worker.specs.declared.share.Share.{Share}
use Rattle.worker.specs.Shares.{ends_in, room_of}
use Rattle.workers.specs.declared.rooms.Rooms.{Rooms}

-- for how many workers the tickets are
abbrev pub seats_of : Tickets → ℕ
seats_of tickets = tickets.table.shared.key

-- a seat and a share for each worker, a place for each job, and room for the workers' hands and for the ends in order
pub record AreRooms {S O G : Type 0} {g : logged.Ghosts (Desk S O G) Entry} (jobs workers : ℕ) (rooms : Rooms) (hands : Vec (Hand S O G Entry g) Global) : Type 0 where
  pub tickets : seats_of rooms.tickets ≡ workers
  pub seat_count : length rooms.seats ≡ workers
  pub seats : All (λ (seat : TicketSeat). IsSeatOf rooms.tickets seat × (drawn_by seat ≡ [])) rooms.seats
  pub share_count : length rooms.shares.items ≡ workers
  pub shares : All (λ (share : Share). (ends_in share ≡ []) × (jobs ≤ room_of share)) rooms.shares.items
  pub place_count : length rooms.places.items ≡ jobs
  pub places : All (λ place. place ≡ None) rooms.places.items
  pub ends : (rooms.ends.items ≡ []) × (jobs ≤ vec_capacity rooms.ends)
  pub no_hand : hands.items ≡ []
  pub hand_room : workers ≤ vec_capacity hands
