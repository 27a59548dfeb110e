-- A worker publishes the row that it claimed.
use Rattle.std.proofs.Common.{◌≡◌, ◌≢◌, ◌<◌, ℕ, zero, suc, List, [], ◌∷◌, map, length, slice_get, refl, ap, sym, ◌∙◌, subst, Some}
use Rattle.std.specs.Prelude.{IfOk, Result, slice_set}
use Rattle.std.specs.Option.{option_map}
use Rattle.std.specs.declared.alloc.Global.{Global}
use Rattle.std.specs.declared.vec.Vec.{Vec}
use Rattle.std.specs.declared.result.Result.TheVariants.{Ok, Err}
use Rattle.std.proofs.lemmas.Option.{slice_get_within}
use Rattle.indexmap.specs.IndexMap.{set_value_at}
use Rattle.scan_model.specs.declared.memory.NoMemory.{NoMemory}
use Rattle.scan_model.specs.Files.{Content}
use Rattle.unit_laws.specs.Reduction.{reduced_content}
use Rattle.unit_steps.specs.UnitView.{UnitView, IsAsking, given}
use Rattle.unit_steps.specs.Work.{rank}
use Rattle.cache_machine.specs.Rows.{Claimed, Done, Row, held_at, done_of, map_of, published_held, published}
use Rattle.cache_machine.specs.RowGrowth.{RowsDiffer, RowsGrow}
use Rattle.cache_machine.specs.Machine.{Machine, worker_at}
use Rattle.cache_machine.specs.Machine as machine
use Rattle.cache_machine.specs.JobLooks.{path_at}
use Rattle.cache_machine.specs.WorkerRows.{IsClaimant}
use Rattle.cache_machine.specs.Steps.{Publish, publish}
use Rattle.cache_machine.specs.Spending.{publish_spent}
use Rattle.cache_machine.specs.Runs.{moved}
use Rattle.cache_machine.proofs.Reached.{reached_sound}
use Rattle.cache_machine.proofs.RowLemmas.{grows_published, held_published}
use Rattle.scan_core.specs.declared.seat.Kept.{Kept}
use Rattle.scan_core.specs.declared.seat.Kept.TheVariants as KeptIs
use Rattle.scan_core.specs.declared.seat.Seat.{Seat}
use Rattle.scan_core.specs.declared.seat.Seat.TheVariants as SeatIs
use Rattle.scan_core.specs.CoreSteps.{Steps, after_step}
use Rattle.scan_core.specs.Running.{RunsOnTo}
use Rattle.scan_core.specs.Seats.{worker_of, IsUnitOf, SeatFits, seat_or_spent}
use Rattle.scan_core.specs.Inside.{Entry, State, held_of, row_of, machine_of, seen, HoldsAt}
use Rattle.scan_core.proofs.ListLemmas.{map_set, get_map, map_got}
use Rattle.scan_core.proofs.UnitLemmas.{unit_path}
use Rattle.scan_core.proofs.SeatLemmas.{worker_of_seat}
use Rattle.scan_core.proofs.Answering.{answered_at, answered_worker, answered_fits, answered_left}
use Rattle.scan_core.proofs.Changing.{ClaimsStay, unit_stays, after, holds_after, steps_after, less_after, move_of, moved_is}
use Rattle.scan_core.proofs.PublishedRows.{place_held, other_held, own_held, one_published}

map_value : {R B : Type 0} (f : Entry R → B) (entries : List (Entry R)) (i : ℕ) (key : Vec ℕ Global) (before now : Kept R) → slice_get entries i ≡ Some (key, before) →
    map f (set_value_at entries i now) ≡ slice_set (map f entries) i (f (key, now))
map_value f [] i key before now at = refl
map_value {R = R} f (x ∷ entries) zero key before now at = let is : x ≡ (key, before) = cc in ap (λ (z : Entry R). f (z.0, now) ∷ map f entries) is
map_value f (x ∷ entries) (suc i) key before now at = ap (λ z. f x ∷ z) (map_value f entries i key before now at)

claimed_kept : {R : Type 0} (content : R → Content (List ℕ)) (kept : Kept R) (w : ℕ) → held_of content kept ≡ Claimed w → kept ≡ KeptIs.Claimed w
claimed_kept content (KeptIs.Claimed v) w h = let e : v ≡ w = cc in ap (λ z. KeptIs.Claimed z) e
claimed_kept content (KeptIs.Done r) w h = cc

module _ {R : Type 0} (content : R → Content (List ℕ)) (s : State R) (holds : HoldsAt content s) (w n : ℕ) (u : UnitView) (place : ℕ) (r : R)
    (at : slice_get s.seats w ≡ Some (SeatIs.Holds n u place r)) where
  abbrev m : Machine
  m = machine_of content s

  fits : SeatFits s.jobs s.settings m.rows w (SeatIs.Holds n u place r)
  fits = holds.seats w (SeatIs.Holds n u place r) at

  abbrev of : List ℕ
  of = fits.1.path

  pub holds_asking : IsAsking u.phase
  holds_asking = subst IsAsking (sym fits.1.asks) tt

  worker_is : worker_at m w ≡ machine.Holding n (length u.answers) (content r)
  worker_is = worker_of_seat content s.seats w (SeatIs.Holds n u place r) at

  path_is : path_at s.jobs s.settings m.rows n (length u.answers) ≡ Some of
  path_is = unit_path s.jobs s.settings m.rows n u of fits.0 fits.1.asks

  -- the entry of the row
  entry_there : (key : Vec ℕ Global) × ((slice_get s.entries place ≡ Some (key, KeptIs.Claimed w)) × (key.items ≡ of))
  entry_there =
      let found = map_got (row_of content) s.entries place (record { path = of; held = Claimed w }) fits.1.claimed in
      let entry : Entry R = found.0 in
      let kept = claimed_kept content entry.1 w (ap (λ (z : Row). z.held) found.1.1) in
      (entry.0, (found.1.0 ∙ ap (λ z. Some (entry.0, z)) kept, ap (λ (z : Row). z.path) found.1.1))

  pub place_within : place < length s.entries
  place_within = slice_get_within s.entries place (entry_there.0, KeptIs.Claimed w) entry_there.1.0

  differ : RowsDiffer m.rows
  differ = (reached_sound s.jobs s.settings (length (map (worker_of content) s.seats)) m holds.reached).differ

  -- it claimed no other path
  alone : (other : List ℕ) → held_at m.rows other ≡ Some (Claimed w) → other ≡ of
  alone other h =
      let claims : IsClaimant s.jobs s.settings m.rows other (machine.Holding n (length u.answers) (content r)) =
      subst (λ z. IsClaimant s.jobs s.settings m.rows other z) worker_is ((reached_sound s.jobs s.settings (length (map (worker_of content) s.seats)) m holds.reached).claims other w h) in
      let e : Some other ≡ Some of = sym claims ∙ path_is in cc

  own : held_at m.rows of ≡ Some (Claimed w)
  own = place_held m.rows place (record { path = of; held = Claimed w }) differ fits.1.claimed

  abbrev pub entries_now : List (Entry R)
  entries_now = set_value_at s.entries place (KeptIs.Done r)

  rows_now : map (row_of content) entries_now ≡ map (published w (content r)) m.rows
  rows_now =
      map_value (row_of content) s.entries place entry_there.0 (KeptIs.Claimed w) (KeptIs.Done r) entry_there.1.0
      ∙ ap (λ (z : List ℕ). slice_set m.rows place (record { path = z; held = Done (content r) })) entry_there.1.1 ∙ one_published w (content r) m.rows of place differ alone fits.1.claimed

  grow : RowsGrow m.rows (map (row_of content) entries_now)
  grow = subst (λ z. RowsGrow m.rows z) (sym rows_now) (grows_published w (content r) m.rows)

  stay : (v : ℕ) → v ≢ w → ClaimsStay m.rows (map (row_of content) entries_now) v
  stay v other = subst (λ z. ClaimsStay m.rows z v) (sym rows_now)
      (λ i p there. get_map (published w (content r)) m.rows i (record { path = p; held = Claimed v }) there
      ∙ ap (λ z. Some (record { path = p; held = z })) (other_held w (content r) v other))

  in_map : map_of (map (row_of content) entries_now) of ≡ Some (content r)
  in_map = ap done_of
      (ap (λ z. held_at z of) rows_now ∙ held_published w (content r) m.rows of ∙ ap (λ z. option_map (published_held w (content r)) z) own ∙ ap (λ z. Some z) (own_held w (content r)))

  unit_now : IsUnitOf s.jobs s.settings (map (row_of content) entries_now) n u
  unit_now = unit_stays s.jobs s.settings m.rows (map (row_of content) entries_now) n u grow fits.0

  module _ (next : Result (Seat R) NoMemory) (told : IfOk next (RunsOnTo n (given u (reduced_content (content r))) (rank u.work))) where
    abbrev pub publishes : State R
    publishes = after content s holds w (SeatIs.Holds n u place r) at entries_now s.next s.ends (seat_or_spent n next)

    workers_now : map (worker_of content) (slice_set s.seats w (seat_or_spent n next)) ≡ slice_set m.workers w (answered_at next n (length u.answers))
    workers_now =
        map_set (worker_of content) s.seats w (seat_or_spent n next)
        ∙ ap (λ z. slice_set m.workers w z) (answered_worker s.jobs s.settings (map (row_of content) entries_now) n u of (content r) unit_now fits.1.asks in_map content w next told)

    published_by : (result : Result (Seat R) NoMemory) →
        record m { rows = map (published w (content r)) m.rows; workers = slice_set m.workers w (answered_at result n (length u.answers)) } ≡ moved s.jobs s.settings m (move_of result (Publish w))
    published_by (Ok seat) = sym (ap (λ z. publish m w z) worker_is)
    published_by (Err none) = sym (ap (λ z. publish_spent m w z) worker_is)

    machine_now : machine_of content publishes ≡ moved s.jobs s.settings m (move_of next (Publish w))
    machine_now =
        ap (λ z. record m { rows = z; workers = map (worker_of content) (slice_set s.seats w (seat_or_spent n next)) }) rows_now
        ∙ ap (λ z. record m { rows = map (published w (content r)) m.rows; workers = z }) workers_now ∙ published_by next

    pub holds_published : HoldsAt content publishes
    holds_published = holds_after content s holds w (SeatIs.Holds n u place r) at entries_now s.next s.ends (seat_or_spent n next) (move_of next (Publish w)) machine_now grow stay
        (answered_fits s.jobs s.settings (map (row_of content) entries_now) n u of (content r) unit_now fits.1.asks in_map content w next told)

    pub steps_published : Steps (seen content s) (seen content publishes) (after_step next s.jobs s.settings m (Publish w))
    steps_published = steps_after content s holds w (SeatIs.Holds n u place r) at entries_now s.next s.ends (seat_or_spent n next) (after_step next s.jobs s.settings m (Publish w))
        (machine_now ∙ moved_is next s.jobs s.settings m (Publish w))
        (less_after content s holds w (SeatIs.Holds n u place r) at entries_now s.next s.ends (seat_or_spent n next) refl
        (answered_left s.jobs s.settings (map (row_of content) entries_now) n u of (content r) unit_now fits.1.asks in_map content w next told))
        holds_published
