-- What a scan has before the work and after it.
use Rattle.std.proofs.Common.{◌≡◌, ◌<◌, ◌≤◌, ℕ, suc, List, [], ◌∷◌, ◌++◌, map, length, All, Contains, get_or, Option, Some, sym, ap, ◌∙◌, subst, arith}
use Rattle.std.specs.Prelude.{IsSome, Vec, vec_capacity}
use Rattle.std.specs.List.{flat_map, Any}
use Rattle.std.specs.declared.alloc.Global.{Global}
use Rattle.std.proofs.lemmas.List.{length-map}
use Rattle.std.proofs.lemmas.List.Elements.{All-nil, All-weaker, All-map, All-append}
use Rattle.std.proofs.lemmas.List.Folds.{flat_map-map}
use Rattle.std.proofs.lemmas.Option.{slice_get-get_or}
use Rattle.file_source.specs.declared.source.Source as source
use Rattle.turn_lock.specs.declared.Logged as logged
use Rattle.scan_model.specs.declared.Outcome.{Outcome}
use Rattle.scan_model.specs.declared.command.Settings.{Settings}
use Rattle.scan_model.specs.declared.command.Job.{Job}
use Rattle.scan_model.specs.declared.UnitEnd.{UnitEnd}
use Rattle.scan_model.specs.Files.{FileMap, Content}
use Rattle.tickets.specs.declared.tickets.Tickets.{Tickets}
use Rattle.tickets.specs.declared.tickets.TicketSeat.{TicketSeat}
use Rattle.tickets.specs.Tickets.{total, times}
use Rattle.tickets.specs.Seats.{drawn_by, IsSeatOf}
use Rattle.shard_cache.specs.Rows.{ShardView, shard_number, all_rows, all_asked, paths_of}
use Rattle.shard_cache.specs.StoreMap.{file_map, IsOneMap, HaveRows}
use Rattle.shard_cache.specs.Ends.{AreEnds, IsLookedAt}
use Rattle.cache_desk.specs.declared.desk.Desk.{Desk}
use Rattle.cache_desk.specs.declared.entry.Entry.{Entry}
use Rattle.shared_cache.specs.declared.cache.Cache.{Cache}
use Rattle.shared_cache.specs.declared.cache.Passes.{Passes}
use Rattle.shared_cache.specs.Shared.{ArePasses, HasRowsOf}
use Rattle.shared_cache.specs.Opening.{AreDealt}
use Rattle.shared_cache.specs.Closed.{IsClaimed, AreClaimed}
use Rattle.shared_cache.specs.Callers.{number_of, seen_by, IsHandOf}
use Rattle.shared_cache.proofs.NewLemmas.{nothing_at}
use Rattle.worker.specs.declared.hand.Hand.{Hand}
use Rattle.worker.specs.declared.share.Share.{Share}
use Rattle.worker.specs.Claims.{HasClaimed}
use Rattle.worker.specs.Shares.{ends_in, room_of}
use Rattle.workers.specs.declared.crew.Crew.{Crew}
use Rattle.workers.specs.declared.rooms.Rooms.{Rooms}
use Rattle.workers.specs.Hands.{IsDone, AreUnused, AreReady, AreDone}
use Rattle.workers.specs.Places.{AreBelow, ArePlaced}
use Rattle.workers.specs.Rooms.{AreRooms}
use Rattle.workers.proofs.NumberLemmas.{total_map}
use Rattle.workers.proofs.RowLemmas.{file_map-row, HaveRows-all}
use Rattle.workers.proofs.EndLemmas.{All-unmap, Any-unmap, Worked, below_of, full_of, ends_of, claimed_of}

-- ## Before the work

not_in_nothing : {X : Type 0} (xs : List X) (x : X) → xs ≡ [] → Contains xs x → ⊥
not_in_nothing [] x e (k, inside, at) = absurd (omega arith)
not_in_nothing (y ∷ ys) x e has = cc

module _ {S O G : Type 0} {g : logged.Ghosts (Desk S O G) Entry} {s : source.Ghosts S O G} (cache : Cache S O G Entry s g) (tickets : Tickets) where
  all_unused : (passes : List (Passes S O G Entry g)) → AreDealt cache.locks.items passes → All (AreUnused cache tickets) passes
  all_unused passes dealt k d inside =
      let own : Passes S O G Entry g = get_or passes k d in
      let h = dealt k own (slice_get-get_or passes k d inside) in (
        subst (λ n. ArePasses cache.locks.items own.passes.items n) (sym h.1) h.0,
        λ path claimed. not_in_nothing (get_or (seen_by own) (shard_number path) []) _ (nothing_at (seen_by own) (shard_number path) h.2) claimed,
      )

  -- all is ready for the work
  pub crew_ready : (jobs : ℕ) (opened : List (Passes S O G Entry g)) (rooms : Rooms) (hands : Vec (Hand S O G Entry g) Global) (crew : Crew S O G Entry g) → AreRooms jobs (length opened) rooms hands → rooms.tickets ≡ tickets → AreDealt cache.locks.items opened → crew.seats.items ≡ rooms.seats → crew.passes.items ≡ opened → crew.shares ≡ rooms.shares → crew.hands ≡ hands → AreReady cache tickets jobs crew
  crew_ready jobs opened rooms hands crew taken same dealt seats passes shares room =
      let SeatIs : TicketSeat → Type 0 = λ seat. IsSeatOf tickets seat × (drawn_by seat ≡ []) in
      let ShareIs : Share → Type 0 = λ share. (ends_in share ≡ []) × (jobs ≤ room_of share) in
      let many : length crew.seats.items ≡ length opened = ap length seats ∙ taken.seat_count in
      let own_seats : All SeatIs rooms.seats = subst (λ t. All (λ (seat : TicketSeat). IsSeatOf t seat × (drawn_by seat ≡ [])) rooms.seats) same taken.seats in
      let share_list : crew.shares.items ≡ rooms.shares.items = ap (λ v. v.items) shares in
      record {
        passes_count = ap length passes ∙ sym many;
        shares_count = ap length share_list ∙ (taken.share_count ∙ sym many);
        seats_are = subst (λ z. All SeatIs z) (sym seats) own_seats;
        passes_are = subst (λ z. All (AreUnused cache tickets) z) (sym passes) (all_unused opened dealt);
        shares_are = subst (λ z. All ShareIs z) (sym share_list) taken.shares;
        no_hand = ap (λ v. v.items) room ∙ taken.no_hand;
        hand_room = subst (λ n. n ≤ vec_capacity crew.hands) (sym many) (subst (λ v. length opened ≤ vec_capacity v) (sym room) taken.hand_room);
      }

-- ## After the work

-- one of the passes claimed each path that was asked for
claimed_all : {S O G : Type 0} {g : logged.Ghosts (Desk S O G) Entry} (passes : List (Passes S O G Entry g)) (k : ℕ) (ss : List (ShardView S O G)) → AreClaimed passes k ss → All (IsClaimed passes) (all_asked ss)
claimed_all passes k [] claimed = All-nil _
claimed_all passes k (shard ∷ ss) claimed =
    All-append (IsClaimed passes) shard.asked (all_asked ss) (All-weaker (λ path. (shard_number path ≡ k) × IsClaimed passes path) (IsClaimed passes) (λ path c. c.1) shard.asked claimed.0) (claimed_all passes (suc k) ss claimed.1)

module _ {S O G : Type 0} {g : logged.Ghosts (Desk S O G) Entry} {s : source.Ghosts S O G} (cache : Cache S O G Entry s g) (tickets : Tickets) (settings : Settings) (jobs : List Job) (seats : List TicketSeat) (passes : List (Passes S O G Entry g)) (shares : List Share) where
  abbrev H : Type 0
  H = Hand S O G Entry g

  abbrev by : H → ℕ
  by h = number_of h.passes

  abbrev seen : H → List (List Entry)
  seen h = seen_by h.passes

  abbrev drawn : H → List ℕ
  drawn h = drawn_by h.seat

  abbrev ends : H → List (ℕ × UnitEnd)
  ends h = ends_in h.share

  abbrev Done : H → Type 0
  Done h = IsDone cache tickets settings jobs h

  worked_of : (hands : List H) → All Done hands → All (Worked settings jobs by drawn seen ends) hands
  worked_of hands done = All-weaker Done (Worked settings jobs by drawn seen ends) (λ h d. d.worked) hands done

  pub seats_own : (given : List TicketSeat) → AreDone cache tickets settings jobs seats passes shares → given ≡ seats → All (λ (seat : TicketSeat). IsSeatOf tickets seat) given
  seats_own given (hands, parts, done) e =
      subst (λ z. All (λ (seat : TicketSeat). IsSeatOf tickets seat) z) (parts.0 ∙ sym e)
      (All-map (λ (seat : TicketSeat). IsSeatOf tickets seat) (λ (h : H). h.seat) hands (All-weaker Done (λ h. IsSeatOf tickets h.seat) (λ h d. d.seat) hands done))

  pub passes_own : (given : List (Passes S O G Entry g)) → AreDone cache tickets settings jobs seats passes shares → given ≡ passes → All (λ (p : Passes S O G Entry g). ArePasses cache.locks.items p.passes.items p.number) given
  passes_own given (hands, parts, done) e =
      subst (λ z. All (λ (p : Passes S O G Entry g). ArePasses cache.locks.items p.passes.items p.number) z) (parts.1 ∙ sym e)
      (All-map (λ (p : Passes S O G Entry g). ArePasses cache.locks.items p.passes.items p.number) (λ (h : H). h.passes) hands (All-weaker Done (λ h. IsHandOf cache h.passes) (λ h d. d.own) hands done))

  pub passes_many : AreDone cache tickets settings jobs seats passes shares → length passes ≡ length seats
  passes_many (hands, parts, done) = ap length (sym parts.1) ∙ (length-map hands (λ (h : H). h.passes) ∙ (sym (length-map hands (λ (h : H). h.seat)) ∙ ap length parts.0))

  pub shares_below : (n : ℕ) → n ≡ length jobs → AreDone cache tickets settings jobs seats passes shares → All (λ (share : Share). AreBelow n (ends_in share)) shares
  shares_below n e (hands, parts, done) =
      subst (λ m. All (λ (share : Share). AreBelow m (ends_in share)) shares) (sym e)
      (subst (λ z. All (λ (share : Share). AreBelow (length jobs) (ends_in share)) z) parts.2
      (All-map (λ (share : Share). AreBelow (length jobs) (ends_in share)) (λ (h : H). h.share) hands (below_of settings jobs by drawn seen ends hands (worked_of hands done))))

  placed_of : (hands : List H) (places : List (Option UnitEnd)) → map (λ (h : H). h.share) hands ≡ shares → ArePlaced (flat_map ends_in shares) places → ArePlaced (flat_map ends hands) places
  placed_of hands places e placed = subst (λ z. ArePlaced z places) (ap (flat_map ends_in) (sym e) ∙ flat_map-map ends_in (λ (h : H). h.share) hands) placed

  pub all_full : (given : List TicketSeat) (n : ℕ) (places : List (Option UnitEnd)) → AreDone cache tickets settings jobs seats passes shares → given ≡ seats → 0 < length seats → ((x : ℕ) → x < n → total (λ (seat : TicketSeat). times x (drawn_by seat)) given ≡ 1) → ((x : ℕ) → n ≤ x → total (λ (seat : TicketSeat). times x (drawn_by seat)) given ≡ 0) → length places ≡ length jobs → ArePlaced (flat_map ends_in shares) places → All (λ place. IsSome place) places
  all_full given n places (hands, parts, done) e some once beyond count placed =
      let same : (x : ℕ) → total (λ h. times x (drawn h)) hands ≡ total (λ (seat : TicketSeat). times x (drawn_by seat)) given =
      (λ x. sym (total_map (λ (seat : TicketSeat). times x (drawn_by seat)) (λ (h : H). h.seat) hands) ∙ ap (total (λ (seat : TicketSeat). times x (drawn_by seat))) (parts.0 ∙ sym e)) in
      full_of settings jobs by drawn seen ends hands n places (subst (λ m. 0 < m) (ap length (sym parts.0) ∙ length-map hands (λ (h : H). h.seat)) some) (worked_of hands done)
      (λ x below. same x ∙ once x below) (λ x past. same x ∙ beyond x past) count (placed_of hands places parts.2 placed)

  module _ (given : List (Passes S O G Entry g)) (files : FileMap (List ℕ)) where
    rows_of : (hands : List H) → map (λ (h : H). h.passes) hands ≡ passes → given ≡ passes → All (λ (p : Passes S O G Entry g). HasRowsOf files (seen_by p)) given → All (λ h. HasRowsOf files (seen h)) hands
    rows_of hands parts e rows = All-unmap (λ (p : Passes S O G Entry g). HasRowsOf files (seen_by p)) (λ (h : H). h.passes) hands (subst (λ z. All (λ (p : Passes S O G Entry g). HasRowsOf files (seen_by p)) z) (e ∙ sym parts) rows)

    pub all_ends : (places : List (Option UnitEnd)) (in_order : List UnitEnd) → AreDone cache tickets settings jobs seats passes shares → given ≡ passes → All (λ (p : Passes S O G Entry g). HasRowsOf files (seen_by p)) given → length places ≡ length jobs → ArePlaced (flat_map ends_in shares) places → map Some in_order ≡ places → AreEnds files settings jobs in_order
    all_ends places in_order (hands, parts, done) e rows count placed is =
        ends_of settings jobs by drawn seen ends files hands places in_order (worked_of hands done) (rows_of hands parts.1 e rows) count (placed_of hands places parts.2 placed) is

    -- each path that was asked for is in the map, and a job looks at it
    all_asked_for : (paths : List (List ℕ)) → AreDone cache tickets settings jobs seats passes shares → given ≡ passes → All (λ (p : Passes S O G Entry g). HasRowsOf files (seen_by p)) given → All (IsClaimed given) paths → All (λ path. ((c : Content (List ℕ)) × (files path ≡ Some c)) × IsLookedAt files settings jobs path) paths
    all_asked_for paths (hands, parts, done) e rows claimed =
        claimed_of settings jobs by drawn seen ends files hands paths (worked_of hands done) (rows_of hands parts.1 e rows)
        (All-weaker (IsClaimed given) (λ path. Any (λ h. HasClaimed (seen h) (by h) path) hands)
        (λ path any. Any-unmap (λ (p : Passes S O G Entry g). HasClaimed (seen_by p) (number_of p) path) (λ (h : H). h.passes) hands (subst (λ z. IsClaimed z path) (e ∙ sym parts.1) any)) paths claimed)

  -- only what the jobs look at was asked for
  pub all_looked : (given : List (Passes S O G Entry g)) (files : FileMap (List ℕ)) (ss : List (ShardView S O G)) → AreDone cache tickets settings jobs seats passes shares → given ≡ passes → All (λ (p : Passes S O G Entry g). HasRowsOf files (seen_by p)) given → AreClaimed given 0 ss → All (λ path. IsLookedAt files settings jobs path) (all_asked ss)
  all_looked given files ss done e rows claimed =
      All-weaker (λ path. ((c : Content (List ℕ)) × (files path ≡ Some c)) × IsLookedAt files settings jobs path) (λ path. IsLookedAt files settings jobs path) (λ path h. h.1) (all_asked ss)
      (all_asked_for given files (all_asked ss) done e rows (claimed_all given 0 ss claimed))

  -- each path that was asked for has its row
  pub all_have_rows : (gp : G → List ℕ) (go : G → ℕ) (outcome : G → Outcome) (bytes : G → List ℕ) (given : List (Passes S O G Entry g)) (ss : List (ShardView S O G)) → AreDone cache tickets settings jobs seats passes shares → given ≡ passes → All (λ (p : Passes S O G Entry g). HasRowsOf (file_map outcome bytes (all_rows ss)) (seen_by p)) given → AreClaimed given 0 ss → IsOneMap gp go ss → HaveRows ss
  all_have_rows gp go outcome bytes given ss done e rows claimed one =
      let files : FileMap (List ℕ) = file_map outcome bytes (all_rows ss) in
      HaveRows-all gp go ss one.asked_once one.given
      (All-weaker (λ path. ((c : Content (List ℕ)) × (files path ≡ Some c)) × IsLookedAt files settings jobs path) (λ path. Contains (paths_of (all_rows ss)) path)
      (λ path h. file_map-row outcome bytes (all_rows ss) path h.0.0 h.0.1) (all_asked ss)
      (all_asked_for given files (all_asked ss) done e rows (claimed_all given 0 ss claimed)))
