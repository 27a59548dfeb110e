-- What a core's seats say of the machine.
use Rattle.std.proofs.Common.{◌≡◌, ◌⊎◌, inl, inr, ◌<◌, ℕ, zero, suc, List, [], ◌∷◌, map, length, slice_get, refl, ap, sym, ◌∙◌, subst, Option, Some, nat_eq, arith}
use Rattle.std.specs.Prelude.{slice_index_or}
use Rattle.std.specs.Option.{option_map}
use Rattle.std.specs.Cmp.Lexicographic.{pointwise}
use Rattle.std.specs.Map.{lookup}
use Rattle.std.proofs.lemmas.Option.{slice_get_read}
use Rattle.scan_model.specs.declared.command.Settings.{Settings}
use Rattle.scan_model.specs.declared.command.Job.{Job}
use Rattle.scan_model.specs.declared.command.CommandFault.{CommandFault}
use Rattle.scan_model.specs.Files.{Content}
use Rattle.unit_steps.specs.UnitView.{UnitView, Asks, IsAsking, asked_by}
use Rattle.cache_machine.specs.Rows.{Row}
use Rattle.cache_machine.specs.Wants.{Want, wants_path, wants_held, wants_as, wanted_as, End_wanted, Is_over}
use Rattle.cache_machine.specs.Machine as machine
use Rattle.scan_core.specs.declared.seat.Kept.{Kept}
use Rattle.scan_core.specs.declared.seat.Seat.{Seat}
use Rattle.scan_core.specs.declared.seat.Seat.TheVariants as SeatIs
use Rattle.scan_core.specs.CoreView.{CoreView}
use Rattle.scan_core.specs.Events.{core_wants, core_wanted, HasPath}
use Rattle.scan_core.specs.Seats.{worker_of, SeatFits}
use Rattle.scan_core.specs.Inside.{State, held_of, rows_of, seen, HoldsAt}
use Rattle.scan_core.proofs.ListLemmas.{length_map}
use Rattle.scan_core.proofs.UnitLemmas.{unit_path, unit_over, refused_path}
use Rattle.scan_core.proofs.RowLookups.{held_looked_up}

pub worker_of_seat : {R : Type 0} (content : R → Content (List ℕ)) (seats : List (Seat R)) (w : ℕ) (seat : Seat R) → slice_get seats w ≡ Some seat →
    slice_index_or (map (worker_of content) seats) w machine.Over ≡ worker_of content seat
worker_of_seat content [] w seat h = cc
worker_of_seat content (s ∷ seats) zero seat h = let e : s ≡ seat = cc in ap (worker_of content) e
worker_of_seat content (s ∷ seats) (suc w) seat h = worker_of_seat content seats w seat h

within_or_over : {R : Type 0} (content : R → Content (List ℕ)) (seats : List (Seat R)) (w : ℕ) →
    (w < length seats) ⊎ (slice_index_or (map (worker_of content) seats) w machine.Over ≡ machine.Over)
within_or_over content [] w = inr refl
within_or_over content (x ∷ seats) zero = inl (omega arith)
within_or_over content (x ∷ seats) (suc w) = elim (within_or_over content seats w) [ inl h ↦ inl (omega arith) | inr h ↦ inr h ]

-- a worker that wants anything is at one of the seats
pub wants_within : {R : Type 0} (content : R → Content (List ℕ)) (s : State R) (v : CoreView) (w : ℕ) (want : Want) → seen content s ≡ v → core_wants v w ≡ want → (Is_over ≡ want → ⊥) →
    w < length s.seats
wants_within {R = R} content s v w want is wants not = elim (within_or_over content s.seats w) [
  | inl h ↦ h
  | inr over ↦
      let k : core_wants (seen content s) w ≡ Is_over = ap (λ z. wants_as s.jobs s.settings (rows_of content s) z) over in
      absurd (not (sym k ∙ ap (λ (z : CoreView). core_wants z w) is ∙ wants))
]

pub asked_path : (u : UnitView) (path asks : List ℕ) → asked_by u.phase ≡ path ∷ [] → u.phase ≡ Asks asks → u.phase ≡ Asks path
asked_path u path asks one is = let e : asks ∷ [] ≡ path ∷ [] = ap asked_by (sym is) ∙ one in let k : asks ≡ path = cc in is ∙ ap (λ z. Asks z) k

module _ {R : Type 0} where
  -- a seat that doesn't look, read or hold has no path
  pathless : (content : R → Content (List ℕ)) (jobs : List Job) (settings : Settings) (rows : List Row) (w : ℕ) (seat : Seat R) → SeatFits jobs settings rows w seat →
      ((n : ℕ) (u : UnitView) → seat ≡ SeatIs.Looks n u → ⊥) → ((n : ℕ) (u : UnitView) (i : ℕ) → seat ≡ SeatIs.Reads n u i → ⊥) →
      ((n : ℕ) (u : UnitView) (i : ℕ) (r : R) → seat ≡ SeatIs.Holds n u i r → ⊥) → HasPath (wants_as jobs settings rows (worker_of content seat)) → ⊥
  pathless content jobs settings rows w SeatIs.Idle fits a b d h = h
  pathless content jobs settings rows w (SeatIs.Refused n f) fits a b d h = subst (λ z. HasPath (wants_path rows z)) (refused_path jobs settings rows n f fits) h
  pathless content jobs settings rows w (SeatIs.Looks n u) fits a b d h = a n u refl
  pathless content jobs settings rows w (SeatIs.Ends n u) fits a b d h =
      subst (λ z. HasPath (wants_path rows z)) (unit_over jobs settings rows n u fits.1.0 fits.0 fits.1.1) h
  pathless content jobs settings rows w (SeatIs.Reads n u i) fits a b d h = b n u i refl
  pathless content jobs settings rows w (SeatIs.Holds n u i r) fits a b d h = d n u i r refl
  pathless content jobs settings rows w (SeatIs.Spent n) fits a b d h = h
  pathless content jobs settings rows w SeatIs.Over fits a b d h = h

module _ {R : Type 0} (content : R → Content (List ℕ)) (s : State R) (holds : HoldsAt content s) (v : CoreView) (is : seen content s ≡ v) (w : ℕ) (seat : Seat R)
    (within : w < length v.machine.workers) (read : seat ≡ slice_index_or s.seats w seat) where
  abbrev rows : List Row
  rows = rows_of content s

  seat_is : slice_get s.seats w ≡ Some seat
  seat_is =
      let workers : length (map (worker_of content) s.seats) ≡ length v.machine.workers = ap (λ (z : CoreView). length z.machine.workers) is in
      let seats = length_map (worker_of content) s.seats in
      slice_get_read s.seats (length s.seats) w seat refl (omega arith) read

  seat_fits : SeatFits s.jobs s.settings rows w seat
  seat_fits = holds.seats w seat seat_is

  fits_as : (other : Seat R) → seat ≡ other → SeatFits s.jobs s.settings rows w other
  fits_as other e = subst (λ z. SeatFits s.jobs s.settings rows w z) e seat_fits

  wants_of : (other : Seat R) → seat ≡ other → core_wants v w ≡ wants_as s.jobs s.settings rows (worker_of content other)
  wants_of other e =
      ap (λ (z : CoreView). core_wants z w) (sym is) ∙ ap (λ z. wants_as s.jobs s.settings rows z) (worker_of_seat content s.seats w seat seat_is)
      ∙ ap (λ z. wants_as s.jobs s.settings rows (worker_of content z)) e

  wanted_of : (other : Seat R) → seat ≡ other → core_wanted v w ≡ wanted_as s.jobs s.settings rows (worker_of content other)
  wanted_of other e =
      ap (λ (z : CoreView). core_wanted z w) (sym is) ∙ ap (λ z. wanted_as s.jobs s.settings rows z) (worker_of_seat content s.seats w seat seat_is)
      ∙ ap (λ z. wanted_as s.jobs s.settings rows (worker_of content z)) e

  pub refused_wants : (n : ℕ) (f : CommandFault) → seat ≡ SeatIs.Refused n f → core_wants v w ≡ End_wanted
  refused_wants n f e = wants_of (SeatIs.Refused n f) e ∙ ap (λ z. wants_path rows z) (refused_path s.jobs s.settings rows n f (fits_as (SeatIs.Refused n f) e))

  pub ends_wants : (n : ℕ) (u : UnitView) → seat ≡ SeatIs.Ends n u → core_wants v w ≡ End_wanted
  ends_wants n u e =
      let fits = fits_as (SeatIs.Ends n u) e in
      wants_of (SeatIs.Ends n u) e ∙ ap (λ z. wants_path rows z) (unit_over s.jobs s.settings rows n u fits.1.0 fits.0 fits.1.1)

  pub looks_asks : (n : ℕ) (u : UnitView) → seat ≡ SeatIs.Looks n u → IsAsking u.phase
  looks_asks n u e = let fits = fits_as (SeatIs.Looks n u) e in subst IsAsking (sym fits.1.1) tt

  looks_path : (n : ℕ) (u : UnitView) (of : List ℕ) → seat ≡ SeatIs.Looks n u → asked_by u.phase ≡ of ∷ [] → wanted_as s.jobs s.settings rows (worker_of content (SeatIs.Looks n u)) ≡ Some of
  looks_path n u of e one = let fits = fits_as (SeatIs.Looks n u) e in unit_path s.jobs s.settings rows n u of fits.0 (asked_path u of fits.1.0 one fits.1.1)

  pub looks_wants : (n : ℕ) (u : UnitView) (of : List ℕ) (found : Option (Kept R)) → seat ≡ SeatIs.Looks n u → asked_by u.phase ≡ of ∷ [] →
      found ≡ lookup (λ key. pointwise nat_eq of key.items) s.entries → core_wants v w ≡ wants_held (option_map (held_of content) found)
  looks_wants n u of found e one at =
      wants_of (SeatIs.Looks n u) e ∙ ap (λ z. wants_path rows z) (looks_path n u of e one)
      ∙ ap (λ z. wants_held z) (held_looked_up content s.entries of ∙ ap (λ z. option_map (held_of content) z) (sym at))

  pub looks_wanted : (n : ℕ) (u : UnitView) (of : List ℕ) → seat ≡ SeatIs.Looks n u → asked_by u.phase ≡ of ∷ [] → core_wanted v w ≡ Some of
  looks_wanted n u of e one = wanted_of (SeatIs.Looks n u) e ∙ looks_path n u of e one

  pub reads_asks : (n : ℕ) (u : UnitView) (i : ℕ) → seat ≡ SeatIs.Reads n u i → IsAsking u.phase
  reads_asks n u i e = let fits = fits_as (SeatIs.Reads n u i) e in subst IsAsking (sym fits.1.asks) tt

  pub reads_wanted : (n : ℕ) (u : UnitView) (i : ℕ) (of : List ℕ) → seat ≡ SeatIs.Reads n u i → asked_by u.phase ≡ of ∷ [] → core_wanted v w ≡ Some of
  reads_wanted n u i of e one =
      let fits = fits_as (SeatIs.Reads n u i) e in
      wanted_of (SeatIs.Reads n u i) e ∙ unit_path s.jobs s.settings rows n u of fits.0 (asked_path u of fits.1.path one fits.1.asks)

  pub holds_asks : (n : ℕ) (u : UnitView) (i : ℕ) (r : R) → seat ≡ SeatIs.Holds n u i r → IsAsking u.phase
  holds_asks n u i r e = let fits = fits_as (SeatIs.Holds n u i r) e in subst IsAsking (sym fits.1.asks) tt

  pub holds_wanted : (n : ℕ) (u : UnitView) (i : ℕ) (r : R) (of : List ℕ) → seat ≡ SeatIs.Holds n u i r → asked_by u.phase ≡ of ∷ [] → core_wanted v w ≡ Some of
  holds_wanted n u i r of e one =
      let fits = fits_as (SeatIs.Holds n u i r) e in
      wanted_of (SeatIs.Holds n u i r) e ∙ unit_path s.jobs s.settings rows n u of fits.0 (asked_path u of fits.1.path one fits.1.asks)

  pub has_no_path : ((n : ℕ) (u : UnitView) → seat ≡ SeatIs.Looks n u → ⊥) → ((n : ℕ) (u : UnitView) (i : ℕ) → seat ≡ SeatIs.Reads n u i → ⊥) →
      ((n : ℕ) (u : UnitView) (i : ℕ) (r : R) → seat ≡ SeatIs.Holds n u i r → ⊥) → HasPath (core_wants v w) → ⊥
  has_no_path a b d h = pathless content s.jobs s.settings rows w seat seat_fits a b d (subst HasPath (wants_of seat refl) h)
