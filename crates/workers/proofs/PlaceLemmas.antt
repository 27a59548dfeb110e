-- Ends that are put at the places of their numbers.
use Rattle.std.proofs.Common.{◌≡◌, ◌≢◌, ◌<◌, ℕ, suc, List, [], ◌∷◌, ◌++◌, length, Contains, get_or, Option, Some, None, append_assoc, refl, sym, ap, ◌∙◌, subst, arith}
use Rattle.std.specs.Prelude.{IsSome}
use Rattle.std.specs.List.{flat_map}
use Rattle.std.proofs.Math.ListN.{set}
use Rattle.std.proofs.lemmas.List.{append-nil, get_or-set_other, nil_from_length}
use Rattle.std.proofs.lemmas.List.Elements.{All-cons, All-weaker}
use Rattle.std.proofs.lemmas.Grind.{flat_map-append, get_or-set_at}
use mathlib.Core.Logic.{dite}
use native.Mathlib.Decide.{ℕ_discrete}
use Rattle.scan_model.specs.declared.UnitEnd.{UnitEnd}
use Rattle.workers.specs.Places.{ArePlaced}

module _ {A : Type 0} where
  pub here : (x : A) (xs : List A) → Contains (x ∷ xs) x
  here x xs = (0, omega arith, refl)

  pub later : (x y : A) (xs : List A) → Contains xs y → Contains (x ∷ xs) y
  later x y xs (k, inside, at) = (suc k, omega arith, at)

-- ## One end

-- one end more is put at its place
pub ArePlaced-more : (places : List (Option UnitEnd)) (ends : List (ℕ × UnitEnd)) (number : ℕ) (end : UnitEnd) → number < length places → ArePlaced ends places → ArePlaced ((number, end) ∷ ends) (set places number (Some end))
ArePlaced-more places ends number end inside placed =
    let now : List (Option UnitEnd) = set places number (Some end) in
    let Was : ℕ × UnitEnd → Type 0 = λ e. IsSome (get_or places e.0 None) in
    let Is : ℕ × UnitEnd → Type 0 = λ e. IsSome (get_or now e.0 None) in
    let at_number : (k : ℕ) → k ≡ number → get_or now k None ≡ Some end = λ k e. get_or-set_at places number k (Some end) None e inside in
    let elsewhere : (k : ℕ) → k ≢ number → get_or now k None ≡ get_or places k None = λ k ne. get_or-set_other places number k (Some end) None ne in
    let still : (e : ℕ × UnitEnd) → Was e → Is e =
    (λ e was. dite (ℕ_discrete e.0 number)
    (λ same. subst (λ z. IsSome z) (sym (at_number e.0 same)) refl)
    (λ other. subst (λ z. IsSome z) (sym (elsewhere e.0 other)) was)) in
    record {
      filled = All-cons Is (number, end) ends (subst (λ z. IsSome z) (sym (at_number number refl)) refl) (All-weaker Was Is still ends placed.filled);
      own = λ k other at. dite (ℕ_discrete k number)
          (λ same.
          let is : Some end ≡ Some other = sym (at_number k same) ∙ at in
          let both : (number, end) ≡ (k, other) = cc in
          subst (λ z. Contains ((number, end) ∷ ends) z) both (here (number, end) ends))
          (λ ne. later (number, end) (k, other) ends (placed.own k other (sym (elsewhere k ne) ∙ at)));
    }

-- ## The ends of one share, from the last to the first

-- what placing all of them gives is what placing the ones that are left gives now
abbrev pub Goes : (old places : List (Option UnitEnd)) (all left : List (ℕ × UnitEnd)) → Type 0
Goes old places all left = (before : List (ℕ × UnitEnd)) → ArePlaced before old → (now : List (ℕ × UnitEnd)) × ArePlaced now places × (left ++ now ≡ all ++ before)

pub Goes-one : (old places : List (Option UnitEnd)) (all left rest : List (ℕ × UnitEnd)) (number : ℕ) (end : UnitEnd) → left ≡ rest ++ (number, end) ∷ [] → number < length places → Goes old places all left → Goes old (set places number (Some end)) all rest
Goes-one old places all left rest number end cut inside goes before placed =
    let g = goes before placed in (
      (number, end) ∷ g.0,
      ArePlaced-more places g.0 number end inside g.1,
      sym (append_assoc rest ((number, end) ∷ []) g.0) ∙ (ap (λ z. z ++ g.0) (sym cut) ∙ g.2),
    )

pub Goes-over : (old places : List (Option UnitEnd)) (all left : List (ℕ × UnitEnd)) → length left ≡ 0 → Goes old places all left → (before : List (ℕ × UnitEnd)) → ArePlaced before old → ArePlaced (all ++ before) places
Goes-over old places all left none goes before placed =
    let g = goes before placed in
    subst (λ z. ArePlaced z places) (sym (ap (λ z. z ++ g.0) (nil_from_length left none)) ∙ g.2) g.1

-- ## The shares, from the last to the first

module _ {H : Type 0} (f : H → List (ℕ × UnitEnd)) where
  -- all of them are placed, but for the shares that are left
  abbrev pub Stands : (places : List (Option UnitEnd)) (all left : List H) → Type 0
  Stands places all left = (now : List (ℕ × UnitEnd)) × ArePlaced now places × (flat_map f left ++ now ≡ flat_map f all)

  pub Stands-one : (old places : List (Option UnitEnd)) (all left rest : List H) (share : H) (ends : List (ℕ × UnitEnd)) → left ≡ rest ++ share ∷ [] → ends ≡ f share → ((before : List (ℕ × UnitEnd)) → ArePlaced before old → ArePlaced (ends ++ before) places) → Stands old all left → Stands places all rest
  Stands-one old places all left rest share ends cut is placing (now, placed, whole) =
      let last : flat_map f (share ∷ []) ≡ ends = append-nil (f share) ∙ sym is in
      let split : flat_map f left ≡ flat_map f rest ++ ends = ap (flat_map f) cut ∙ (flat_map-append f rest (share ∷ []) ∙ ap (λ z. flat_map f rest ++ z) last) in (
        ends ++ now,
        placing now placed,
        sym (append_assoc (flat_map f rest) ends now) ∙ (ap (λ z. z ++ now) (sym split) ∙ whole),
      )

  pub Stands-over : (places : List (Option UnitEnd)) (all left : List H) → length left ≡ 0 → Stands places all left → ArePlaced (flat_map f all) places
  Stands-over places all left none (now, placed, whole) = subst (λ z. ArePlaced z places) (sym (ap (λ z. flat_map f z ++ now) (nil_from_length left none)) ∙ whole) placed
