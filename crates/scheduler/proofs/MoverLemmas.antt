-- The workers that can move, and the one that the schedule chooses.
use Rattle.std.proofs.Common.{◌≡◌, ◌⊎◌, inl, inr, ℕ, zero, suc, ◌/◌, ◌%◌, ◌<◌, Bool, true, false, if◌then◌else◌, List, [], ◌∷◌, ◌++◌, length, slice_get, refl, ap, sym, ◌∙◌, subst, Some, None, arith}
use Rattle.std.specs.Prelude.{slice_index_or}
use Rattle.std.specs.List.{filter, AllByRecursion}
use Rattle.std.proofs.lemmas.Bool.{cases_eq}
use Rattle.std.proofs.lemmas.List.Elements.{filter-append}
use Rattle.scan_model.specs.declared.command.Settings.{Settings}
use Rattle.scan_model.specs.declared.command.Job.{Job}
use Rattle.cache_machine.specs.Machine.{Machine, Worker, Idle, At, Claiming, Holding, Spent, Over, worker_at}
use Rattle.cache_machine.specs.WorkerRows.{IsClaimant}
use Rattle.cache_machine.specs.Wants.{Want, Draw_wanted, Look_wanted, Read_wanted, Publish_wanted, End_wanted, Waits, Is_over, wants_as, wants}
use Rattle.cache_machine.proofs.Sound.{IsSound}
use Rattle.cache_machine.proofs.WorkerLemmas.{get_there}
use Rattle.scheduler.specs.Schedule.{chosen, can_move, numbers_below, movers_below, movers}
use Rattle.scheduler.proofs.WantCases.{waits_is, over_is}
use Rattle.shard_cache.proofs.MapLemmas.{append-nil_parts}

-- ## Lists

get_append : {A : Type 0} (xs ys : List A) (k : ℕ) (x : A) → slice_get (xs ++ ys) k ≡ Some x → (slice_get xs k ≡ Some x) ⊎ ((j : ℕ) × (slice_get ys j ≡ Some x))
get_append [] ys k x h = inr (k, h)
get_append (a ∷ xs) ys zero x h = inl h
get_append (a ∷ xs) ys (suc k) x h = get_append xs ys k x h

module _ (jobs : List Job) (settings : Settings) (m : Machine) where
  abbrev moves : ℕ → Bool
  moves w = can_move (wants jobs settings m w)

  abbrev below : ℕ → List ℕ
  below n = movers_below jobs settings m n

  -- the worker itself, if it can move
  abbrev pub one_if_moves : Bool → ℕ → List ℕ
  one_if_moves b w = if b then w ∷ [] else []

  one_filtered : (w : ℕ) (b : Bool) → moves w ≡ b → filter moves (w ∷ []) ≡ one_if_moves b w
  one_filtered w true h = rw h refl
  one_filtered w false h = rw h refl

  -- one worker more
  pub below_suc : (n : ℕ) → below (suc n) ≡ below n ++ one_if_moves (moves n) n
  below_suc n = filter-append moves (numbers_below n) (n ∷ []) ∙ ap (λ z. below n ++ z) (one_filtered n (moves n) refl)

  -- ## One that is chosen

  one_moves : (n j w : ℕ) (b : Bool) → moves n ≡ b → slice_get (one_if_moves b n) j ≡ Some w → (moves w ≡ true) × (w ≡ n)
  one_moves n zero w true h at = let is : n ≡ w = cc in (subst (λ z. moves z ≡ true) is h, sym is)
  one_moves n (suc j) w true h at = cc
  one_moves n j w false h at = cc

  mover_in : (n k w : ℕ) → slice_get (below n) k ≡ Some w → (moves w ≡ true) × (w < n)
  mover_in zero k w h = cc
  mover_in (suc n) k w h = elim (get_append (below n) (one_if_moves (moves n) n) k w (subst (λ z. slice_get z k ≡ Some w) (below_suc n) h)) [
    | inl before ↦ (let r = mover_in n k w before in (r.0, let less = r.1 in omega arith))
    | inr last ↦ (let r = one_moves n last.0 w (moves n) refl last.1 in (r.0, let is = r.1 in omega arith))
  ]

  -- it can move
  pub chosen_moves : (x w : ℕ) → chosen (movers jobs settings m) x ≡ Some w → (moves w ≡ true) × (w < length m.workers)
  chosen_moves x w h = mover_in (length m.workers) ((x / 65536) % length (movers jobs settings m)) w h

  -- ## Where none is chosen

  none_chosen : (ws : List ℕ) (x : ℕ) → chosen ws x ≡ None → ws ≡ []
  none_chosen [] x h = refl
  none_chosen (w ∷ ws) x h =
      let inside : (x / 65536) % length (w ∷ ws) < length (w ∷ ws) = omega arith in
      let there = get_there (w ∷ ws) ((x / 65536) % length (w ∷ ws)) inside in
      let no = there.1 in cc

  last_waits : (n : ℕ) (b : Bool) → moves n ≡ b → one_if_moves b n ≡ [] → moves n ≡ false
  last_waits n true e none = cc
  last_waits n false e none = e

  none_moves : (n : ℕ) → below n ≡ [] → (w : ℕ) → w < n → moves w ≡ false
  none_moves zero h w less = absurd (omega arith)
  none_moves (suc n) h w less =
      let parts = append-nil_parts (below n) (one_if_moves (moves n) n) (sym (below_suc n) ∙ h) in
      elim (cases_eq w n) [
        | inl here ↦ subst (λ z. moves z ≡ false) (sym here) (last_waits n (moves n) refl parts.1)
        | inr other ↦ none_moves n parts.0 w (omega arith)
      ]

  -- a claimant can move
  claimant_moves : (path : List ℕ) (s : Worker) → IsClaimant jobs settings m.rows path s → can_move (wants_as jobs settings m.rows s) ≡ true
  claimant_moves path Idle h = absurd h
  claimant_moves path (At n k) h = absurd h
  claimant_moves path (Claiming n k) h = refl
  claimant_moves path (Holding n k content) h = refl
  claimant_moves path (Spent n) h = absurd h
  claimant_moves path Over h = absurd h

  inside_or_over : (ws : List Worker) (w : ℕ) → (w < length ws) ⊎ (slice_index_or ws w Over ≡ Over)
  inside_or_over [] w = inr refl
  inside_or_over (x ∷ ws) zero = inl (omega arith)
  inside_or_over (x ∷ ws) (suc w) = elim (inside_or_over ws w) [ inl less ↦ inl (omega arith) | inr over ↦ inr over ]

  -- what can't move waits or is over
  still : (want : Want) → can_move want ≡ false → (want ≡ Waits) ⊎ (want ≡ Is_over)
  still Draw_wanted h = cc
  still Look_wanted h = cc
  still Read_wanted h = cc
  still Publish_wanted h = cc
  still End_wanted h = cc
  still Waits h = inl refl
  still Is_over h = inr refl

  over_at : IsSound jobs settings m → ((w : ℕ) → w < length m.workers → moves w ≡ false) → (w : ℕ) → w < length m.workers → worker_at m w ≡ Over
  over_at sound none w less = elim (still (wants jobs settings m w) (none w less)) [
    | inl waits ↦ (
        let state = waits_is jobs settings m.rows (worker_at m w) waits in
        let at = state.1.1.1 in
        let v = at.1.1.0 in
        let claimant = sound.claims at.0 v at.1.1.1 in
        let goes : moves v ≡ true = claimant_moves at.0 (worker_at m v) claimant in
        elim (inside_or_over m.workers v) [
          | inl inside ↦ (let stays = none v inside in cc)
          | inr over ↦ (let no : can_move (wants_as jobs settings m.rows Over) ≡ true = subst (λ z. can_move (wants_as jobs settings m.rows z) ≡ true) over goes in cc)
        ]
        )
    | inr over ↦ over_is jobs settings m.rows (worker_at m w) over
  ]

  all_of : (ws : List Worker) → ((w : ℕ) → w < length ws → slice_index_or ws w Over ≡ Over) → AllByRecursion (λ worker. worker ≡ Over) ws
  all_of [] each = tt
  all_of (x ∷ ws) each = (each zero (omega arith), all_of ws (λ w less. each (suc w) (omega arith)))

  -- all workers are over
  pub all_over : IsSound jobs settings m → (x : ℕ) → chosen (movers jobs settings m) x ≡ None → AllByRecursion (λ worker. worker ≡ Over) m.workers
  all_over sound x h = all_of m.workers (over_at sound (none_moves (length m.workers) (none_chosen (movers jobs settings m) x h)))
