-- What a pass knows at each step of its turn.
use Rattle.std.proofs.Common.{◌≡◌, ◌⊎◌, ℕ, false, List, [], ◌∷◌, ◌++◌, map, Option, Some, None, sym, ap, ◌∙◌, subst, inl, inr, ⊎_elim, unwrap_or}
use mathlib.Core.Option.{none}
use Rattle.atomic_table.specs.Table.{Me, step, rest}
use Rattle.turn_lock.specs.declared.view.Stage.TheVariants.{Idle, Waits}
use Rattle.turn_lock.specs.declared.view.View.{View}
use Rattle.turn_lock.specs.Logs.{Fits, Follows}
use Rattle.turn_lock.specs.Views.{Each, mark, view, resting, in_turn, told, number_of, fixed_of, seen_of}
use Rattle.turn_lock.specs.Steps.{IsTurn, ticket_drawn, turn_loaded, next_served}

module _ {T E : Type 0} (log_of : T → List E) (number_fixed : T → List ℕ) (maker : E → ℕ) where
  abbrev V : Type 0
  V = View E

  abbrev M : Type 0
  M = Me (Option T) V

  abbrev pub carried_or : T → List (ℕ × Option T) → T
  carried_or d [] = d
  carried_or d (c ∷ cs) = unwrap_or c.1 d

  -- what the step leaves: what is fixed, and the log as it was, or one entry more, which names the seat's one number
  abbrev pub Ends : V → T → Type 0
  Ends v x = (log : List E) (fix : List ℕ) → Each (λ m. m.seen ≡ log) v.marks → Each (λ m. m.fixed ≡ fix) v.marks
      → (number_fixed x ≡ fix) × ((log_of x ≡ log) ⊎ ((k : ℕ) × (e : E) × (old : List ℕ) × (seen : List E) × (v.marks ≡ mark k old seen ∷ []) × (maker e ≡ k) × (log_of x ≡ log ++ e ∷ [])))

  abbrev value_or : Option T → List (ℕ × Option T) → Option T
  value_or d [] = d
  value_or d (c ∷ cs) = c.1

  pub carried_is : (cs : List (ℕ × Option T)) (x : T) (y : Option T) → cs ≡ (0, Some x) ∷ [] → cs ≡ (0, y) ∷ rest cs → y ≡ Some x
  carried_is cs x y a b = ap (value_or y) (sym b ∙ a)

  pub has_one : (cs : List (ℕ × Option T)) (x : T) → cs ≡ (0, Some x) ∷ [] → cs ≡ (0, Some x) ∷ rest cs
  has_one cs x a = a ∙ ap (λ (z : List (ℕ × Option T)). (0, Some x) ∷ rest z) (sym a)

  -- the turn of a pass has come
  pub came : (m0 m1 m2 m3 : M) (k : ℕ) (fix : List ℕ) (seen : List E) (mine found : ℕ) → m0 ≡ (resting k fix seen, []) → ticket_drawn log_of number_fixed maker (step 1 0 1 0 none) m0 mine m1 → m2 ≡ m1 → turn_loaded log_of number_fixed maker (step 1 1 0 0 none) m2 found m3 → found ≡ mine
      → (x : T) × (t : ℕ) × Fits maker k seen (log_of x) × (number_fixed x ≡ fix) × (m3 ≡ (in_turn k fix (log_of x) t, (0, Some x) ∷ []))
  came m0 m1 m2 m3 k fix seen mine found at_rest drew still saw hit =
      let now : m2 ≡ (view (mark k fix seen ∷ []) (Waits drew.0) false, []) = still ∙ (drew.2 ∙ ap (λ (z : M). (view z.0.marks (Waits drew.0) z.0.opening, z.1)) at_rest) in
      let got = ((saw drew.0 (ap (λ (z : M). z.0.stage) now)).0 (hit ∙ drew.1)).1 k fix seen (ap (λ (z : M). z.0) now) in
      (got.0, drew.0, got.1, got.2, got.3 ∙ ap (λ (z : M). (in_turn k fix (log_of got.0) drew.0, (0, Some got.0) ∷ z.1)) now)

  pub ends_of : (m : V) (k : ℕ) (fix : List ℕ) (t : ℕ) (seen : List E) (x : T) → m ≡ in_turn k fix seen t → Follows maker k seen (log_of x) → number_fixed x ≡ fix → Ends m x
  ends_of m k fix t seen x is next stays log fix' each firm = let same : seen ≡ log = (subst (λ (z : V). Each (λ n. n.seen ≡ log) z.marks) is each).0 in (
    stays ∙ (subst (λ (z : V). Each (λ n. n.fixed ≡ fix') z.marks) is firm).0,
    ⊎_elim (λ (a : log_of x ≡ seen). inl (a ∙ same)) (λ (z : (e : E) × (log_of x ≡ seen ++ e ∷ []) × (maker e ≡ k)). inr (k, z.0, fix, seen, ap (λ (y : V). y.marks) is, z.2, z.1 ∙ ap (λ (l : List E). l ++ z.0 ∷ []) same)) next,
  )

  pub went : (m m' : M) (k : ℕ) (fix : List ℕ) (t : ℕ) (seen : List E) (x : T) → m ≡ (in_turn k fix seen t, (0, Some x) ∷ []) → next_served log_of number_fixed maker (step 1 1 1 0 none) m 0 m' → m' ≡ (resting k fix (log_of x), [])
  went m m' k fix t seen x is did = did x (ap (λ (z : M). z.1) is) ∙ ap (λ (z : M). (view (map (told (log_of x)) z.0.marks) Idle false, [])) is

  -- the state that came out is the one whose log the pass has seen
  pub taken : (m m' : M) (k : ℕ) (fix : List ℕ) (t : ℕ) (x out : T) (y : Option T) → m ≡ (in_turn k fix (log_of x) t, (0, Some x) ∷ []) → m.1 ≡ (0, y) ∷ rest m.1 → m' ≡ (m.0, (0, None) ∷ rest m.1) → y ≡ Some out
      → (x ≡ out) × (m' ≡ (in_turn k fix (log_of out) t, (0, None) ∷ []))
  taken m m' k fix t x out y is has put got = let same : x ≡ out = ap (λ (z : Option T). unwrap_or z x) (sym (carried_is m.1 x y (ap (λ (z : M). z.1) is) has) ∙ got) in
      (same, put ∙ (ap (λ (z : M). (z.0, (0, None) ∷ rest z.1)) is ∙ ap (λ (z : T). (in_turn k fix (log_of z) t, (0, None) ∷ [])) same))

  pub adds_at : (m : M) (k : ℕ) (fix : List ℕ) (log after : List E) → IsTurn log_of number_fixed maker k fix log m → Follows maker k log after → Follows maker (number_of m.0.marks) (seen_of m.0.marks) after
  adds_at m k fix log after turn next = subst (λ (z : M). Follows maker (number_of z.0.marks) (seen_of z.0.marks) after) (sym turn.1) next

  pub fixed_at : (m : M) (k : ℕ) (fix : List ℕ) (log : List E) (x : List ℕ) → IsTurn log_of number_fixed maker k fix log m → x ≡ fix → x ≡ fixed_of m.0.marks
  fixed_at m k fix log x turn is = is ∙ sym (ap (λ (z : M). fixed_of z.0.marks) turn.1)
