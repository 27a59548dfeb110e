-- What the first seat knows, and how its numbers are dealt.
use Rattle.std.proofs.Common.{◌≡◌, ◌≢◌, ℕ, zero, suc, ◌+◌, ◌-◌, ◌<◌, ◌≤◌, Bool, true, false, true≢false, slice_get, unwrap_or, List, [], ◌∷◌, ◌++◌, map, length, Option, Some, None, refl, sym, ap, ◌∙◌, subst, inl, inr, arith, append-nil}
use mathlib.Core.Option.{none, some, some-injective}
use lib.ListN.{get_elem?}
use Rattle.atomic_table.specs.Table.{Me, step, Splits, opening}
use Rattle.atomic_table.specs.Seated.{TableId}
use Rattle.turn_lock.specs.declared.Logged.{Ghosts}
use Rattle.turn_lock.specs.declared.lock.Pass.{Pass}
use Rattle.turn_lock.specs.declared.view.Mark.{Mark}
use Rattle.turn_lock.specs.declared.view.Stage.TheVariants.{Idle, Waits, Turn}
use Rattle.turn_lock.specs.declared.view.View.{View}
use Rattle.turn_lock.specs.Views.{Each, mark, marks_from, view, start, resting, seen_of, fixed_of, told, without_first, only_first, HasNumber, Distinct}
use Rattle.turn_lock.specs.Rule.{MarkOk, SeatOk, fresh, Ruled}
use Rattle.turn_lock.specs.Steps.{ticket_drawn, turn_loaded, next_served}
use Rattle.turn_lock.specs.Passes.{pass_lock, pass_fixed, number, seen, Dealt}
use Rattle.turn_lock.proofs.TurnLemmas.{Ends}
use Rattle.turn_lock.proofs.MarkLemmas.{at_within, fits_now}
use Rattle.std.proofs.lemmas.List.Elements.{All-nil}
use Rattle.turn_lock.proofs.SeatsKept.{splits}

module _ {E : Type 0} where
  pub from_length : (k n : ℕ) (fix : List ℕ) (log : List E) → length (marks_from k n fix log) ≡ n
  from_length k zero fix log = refl
  from_length k (suc n) fix log = ap suc (from_length (k + 1) n fix log)

  told_from : (k n : ℕ) (fix : List ℕ) (log new : List E) → map (told new) (marks_from k n fix log) ≡ marks_from k n fix new
  told_from k zero fix log new = refl
  told_from k (suc n) fix log new = ap (λ (z : List (Mark E)). mark k fix new ∷ z) (told_from (k + 1) n fix log new)

  first_seen : (k n : ℕ) (fix : List ℕ) (log now : List E) → 0 < n → Each (λ m. m.seen ≡ now) (marks_from k n fix log) → log ≡ now
  first_seen k zero fix log now many each = absurd (omega arith)
  first_seen k (suc n) fix log now many each = each.0

  pub cut : (k n : ℕ) (fix : List ℕ) (log : List E) → 0 < n → marks_from k n fix log ≡ mark k fix log ∷ marks_from (k + 1) (n - 1) fix log
  cut k zero fix log many = absurd (omega arith)
  cut k (suc n) fix log many = let e : n ≡ suc n - 1 = omega arith in ap (λ (z : ℕ). mark k fix log ∷ marks_from (k + 1) z fix log) e

  has_from : (j n i : ℕ) (fix : List ℕ) (log : List E) → i < n → HasNumber (j + i) (marks_from j n fix log)
  has_from j zero i fix log l = absurd (omega arith)
  has_from j (suc n) zero fix log l = inl (omega arith)
  has_from j (suc n) (suc i) fix log l = inr (let e : j + 1 + i ≡ j + suc i = omega arith in subst (λ (z : ℕ). HasNumber z (marks_from (j + 1) n fix log)) e (has_from (j + 1) n i fix log (omega arith)))

  above : (j k n : ℕ) (fix : List ℕ) (log : List E) → j < k → Each (λ m. m.number ≢ j) (marks_from k n fix log)
  above j k zero fix log l = tt
  above j k (suc n) fix log l = ((λ e. omega arith), above j (k + 1) n fix log (omega arith))

  distinct_from : (k n : ℕ) (fix : List ℕ) (log : List E) → Distinct (marks_from k n fix log)
  distinct_from k zero fix log = tt
  distinct_from k (suc n) fix log = (above k (k + 1) n fix log (omega arith), distinct_from (k + 1) n fix log)

  seen_from : (k n : ℕ) (fix : List ℕ) (log : List E) → Each (λ m. m.seen ≡ log) (marks_from k n fix log)
  seen_from k zero fix log = tt
  seen_from k (suc n) fix log = (refl, seen_from (k + 1) n fix log)

  first_fixed : (k n : ℕ) (fix : List ℕ) (log : List E) (now : List ℕ) → 0 < n → Each (λ m. m.fixed ≡ now) (marks_from k n fix log) → fix ≡ now
  first_fixed k zero fix log now many each = absurd (omega arith)
  first_fixed k (suc n) fix log now many each = each.0

  marked_from : (maker : E → ℕ) (k n passes : ℕ) (fix : List ℕ) (log : List E) → k + n ≤ passes → Each (MarkOk maker fix log passes (λ _. 0) 0) (marks_from k n fix log)
  marked_from maker k zero passes fix log l = tt
  marked_from maker k (suc n) passes fix log l = ((omega arith, refl, fits_now maker k log, refl), marked_from maker (k + 1) n passes fix log (omega arith))

module _ {T E : Type 0} (log_of : T → List E) (number_fixed : T → List ℕ) (maker : E → ℕ) where
  only : (fix : List ℕ) (log : List E) (passes j : ℕ) (v : View E) → get_elem? (start fix log passes ∷ []) j ≡ some v → SeatOk log_of number_fixed maker fix passes 0 0 fresh log (λ _. 0) 1 j v
  only fix log passes j v e = let here : j ≡ 0 = (let l = at_within (start fix log passes ∷ []) j v e in omega arith) in
      let same : start fix log passes ≡ v = some-injective (start fix log passes) v (ap (get_elem? (start fix log passes ∷ [])) (sym here) ∙ e) in
      subst (λ (z : ℕ × View E). SeatOk log_of number_fixed maker fix passes 0 0 fresh log (λ _. 0) 1 z.0 z.1) (λ i. (sym here i, same i)) (record {
        marked = marked_from maker 0 passes passes fix log (omega arith);
        distinct = distinct_from 0 passes fix log;
        staged = tt;
        backed = omega arith;
        lone = λ _ h. absurd (omega arith);
        opens = λ _. (refl, tt);
      })

  pub starts : (fix : List ℕ) (log : List E) (passes : ℕ) → passes ≤ 64 → Ruled log_of number_fixed maker log fix passes (opening (0 ∷ 0 ∷ []) (None ∷ []) (start fix log passes))
  starts fix log passes few = record {
    turn = 0;
    phase = fresh;
    log = log;
    owner = λ _. 0;
    few = few;
    words_are = refl;
    homes_are = refl;
    all_marks = (let h = from_length 0 passes fix log in omega arith);
    owned = λ k l. (start fix log passes, refl, let e : 0 + k ≡ k = omega arith in subst (λ (z : ℕ). HasNumber z (marks_from 0 passes fix log)) e (has_from 0 passes k fix log l));
    phase_ok = (start fix log passes, refl, refl, seen_from 0 passes fix log);
    each_seat = only fix log passes;
    apart = λ i j t v w a b tv tw. (let x = at_within (start fix log passes ∷ []) i v a in let y = at_within (start fix log passes ∷ []) j w b in omega arith);
    grown = ([], sym (append-nil log), All-nil (λ (e : E). maker e < passes));
  }

  abbrev V : Type 0
  V = View E

  abbrev M : Type 0
  M = Me (Option T) V

  pub began : (m0 m1 m2 : M) (n : ℕ) (fix : List ℕ) (mine found : ℕ) (log : List E) → m0 ≡ (start fix log n, []) → ticket_drawn log_of number_fixed maker (step 1 0 1 0 none) m0 mine m1 → turn_loaded log_of number_fixed maker (step 1 1 0 0 none) m1 found m2
      → (t : ℕ) × (m2 ≡ (view (marks_from 0 n fix log) (Turn t) true, (0, None) ∷ []))
  began m0 m1 m2 n fix mine found log is drew saw =
      let now : m1 ≡ (view (marks_from 0 n fix log) (Waits drew.0) true, []) = drew.2 ∙ ap (λ (z : M). (view z.0.marks (Waits drew.0) z.0.opening, z.1)) is in
      let all = saw drew.0 (ap (λ (z : M). z.0.stage) now) in let open_now = ap (λ (z : M). z.0.opening) now in
      (drew.0, (all.0 (all.2 open_now)).0 open_now ∙ ap (λ (z : M). (view z.0.marks (Turn drew.0) true, (0, None) ∷ z.1)) now)

  pub first_ends : (v : V) (n : ℕ) (fix : List ℕ) (t : ℕ) (log : List E) (x : T) → v ≡ view (marks_from 0 n fix log) (Turn t) true → 0 < n → log_of x ≡ log → number_fixed x ≡ fix → Ends log_of number_fixed maker v x
  first_ends v n fix t log x is many same stays now firm each all = (
    stays ∙ first_fixed 0 n fix log firm many (subst (λ (z : V). Each (λ m. m.fixed ≡ firm) z.marks) is all),
    inl (same ∙ first_seen 0 n fix log now many (subst (λ (z : V). Each (λ m. m.seen ≡ now) z.marks) is each)),
  )

  pub opened : (m m' : M) (n : ℕ) (fix : List ℕ) (t : ℕ) (log : List E) (x : T) → m ≡ (view (marks_from 0 n fix log) (Turn t) true, (0, Some x) ∷ []) → next_served log_of number_fixed maker (step 1 1 1 0 none) m 0 m' → m' ≡ (view (marks_from 0 n fix (log_of x)) Idle false, [])
  opened m m' n fix t log x is did = did x (ap (λ (z : M). z.1) is) ∙ (ap (λ (z : M). (view (map (told (log_of x)) z.0.marks) Idle false, [])) is ∙ ap (λ (z : List (Mark E)). (view z Idle false, [])) (told_from 0 n fix log (log_of x)))

  pub splits_at : (first : List E) (fixed : List ℕ) (passes id k n : ℕ) (fix : List ℕ) (v : V) (log : List E) → v ≡ view (marks_from k n fix log) Idle false → 1 < n
      → Splits (Ruled log_of number_fixed maker first fixed passes) id v (view (without_first v.marks) v.stage false) (view (only_first v.marks) Idle false)
  splits_at first fixed passes id k n fix v log is more = let now : v ≡ view (mark k fix log ∷ marks_from (k + 1) (n - 1) fix log) Idle false = is ∙ ap (λ (z : List (Mark E)). view z Idle false) (cut k n fix log (omega arith)) in
      subst (λ (z : V). Splits (Ruled log_of number_fixed maker first fixed passes) id z (view (without_first z.marks) z.stage false) (view (only_first z.marks) Idle false)) (sym now)
      (splits log_of number_fixed maker first fixed passes id (mark k fix log) (marks_from (k + 1) (n - 1) fix log) (let h = from_length (k + 1) (n - 1) fix log in omega arith))

  pub part_is : (k n : ℕ) (fix : List ℕ) (v : V) (log : List E) → v ≡ view (marks_from k n fix log) Idle false → 0 < n → view (only_first v.marks) Idle false ≡ resting k fix log
  part_is k n fix v log is many = ap (λ (z : V). view (only_first z.marks) Idle false) is ∙ ap (λ (z : List (Mark E)). view (only_first z) Idle false) (cut k n fix log many)

  pub rest_is : (k n : ℕ) (fix : List ℕ) (v : V) (log : List E) → v ≡ view (marks_from k n fix log) Idle false → 0 < n → view (without_first v.marks) v.stage false ≡ view (marks_from (k + 1) (n - 1) fix log) Idle false
  rest_is k n fix v log is many = ap (λ (z : V). view (without_first z.marks) z.stage false) is ∙ ap (λ (z : List (Mark E)). view (without_first z) Idle false) (cut k n fix log many)

  pub seen_is : (k n : ℕ) (fix : List ℕ) (v : V) (log : List E) → v ≡ view (marks_from k n fix log) Idle false → 0 < n → seen_of v.marks ≡ log
  seen_is k n fix v log is many = ap (λ (z : V). seen_of z.marks) is ∙ ap seen_of (cut k n fix log many)

  pub fixed_is : (k n : ℕ) (fix : List ℕ) (v : V) (log : List E) → v ≡ view (marks_from k n fix log) Idle false → 0 < n → fixed_of v.marks ≡ fix
  fixed_is k n fix v log is many = ap (λ (z : V). fixed_of z.marks) is ∙ ap fixed_of (cut k n fix log many)

  pub rests : (m : M) (k : ℕ) (fix : List ℕ) (log : List E) → m ≡ (resting k fix log, []) → m ≡ (resting k (fixed_of m.0.marks) (seen_of m.0.marks), [])
  rests m k fix log is = is ∙ (λ i. (resting k (sym (ap (λ (z : M). fixed_of z.0.marks) is) i) (sym (ap (λ (z : M). seen_of z.0.marks) is) i), []))

abbrev there : {A : Type 0} → Option A → Bool
there None = false
there (Some x) = true

pub some_is_none : {A B : Type 0} (x : A) → Some x ≡ None → B
some_is_none x e = absurd (true≢false (ap there e))

module _ {T E : Type 0} {g : Ghosts T E} where
  pub dealt_more : (id : TableId) (fix : List ℕ) (log : List E) (k : ℕ) (ps : List (Pass T E g)) (p : Pass T E g) → Dealt {g = g} id fix log k ps → pass_lock p ≡ id → number p ≡ k + length ps → seen p ≡ log → pass_fixed p ≡ fix → Dealt {g = g} id fix log k (ps ++ p ∷ [])
  dealt_more id fix log k [] p d a b c f = ((a, (let h = b in omega arith), c, f), tt)
  dealt_more id fix log k (q ∷ qs) p d a b c f = (d.0, dealt_more id fix log (k + 1) qs p d.1 a (let h = b in omega arith) c f)

  pub dealt_at : (id : TableId) (fix : List ℕ) (log : List E) (k : ℕ) (ps : List (Pass T E g)) (i : ℕ) (p : Pass T E g) → Dealt {g = g} id fix log k ps → slice_get ps i ≡ Some p → (pass_lock p ≡ id) × (number p ≡ k + i) × (seen p ≡ log) × (pass_fixed p ≡ fix)
  dealt_at id fix log k [] i p d e = absurd (some_is_none p (sym e))
  dealt_at id fix log k (q ∷ qs) zero p d e = let same : q ≡ p = ap (λ (z : Option (Pass T E g)). unwrap_or z q) e in
      subst (λ (z : Pass T E g). (pass_lock z ≡ id) × (number z ≡ k + 0) × (seen z ≡ log) × (pass_fixed z ≡ fix)) same (d.0.0, (let h = d.0.1 in omega arith), d.0.2, d.0.3)
  dealt_at id fix log k (q ∷ qs) (suc i) p d e = let h = dealt_at id fix log (k + 1) qs i p d.1 e in (h.0, (let n = h.1 in omega arith), h.2, h.3)
