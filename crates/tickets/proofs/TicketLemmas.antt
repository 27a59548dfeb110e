-- A draw, a split and a join keep the rule, and what one seat with every place knows.
use Rattle.std.proofs.Common.{◌≡◌, ◌≢◌, ◌⊎◌, inl, inr, ◌<◌, ◌≤◌, ◌+◌, ◌-◌, ◌*◌, ◌%◌, ◌^◌, ℕ, zero, suc, nat_eq, List, [], ◌∷◌, ◌++◌, length, set, get_or, sym, refl, ap, ◌∙◌, subst, ⊎_elim, arith, eq-eqb, ne_eqb, length-append}
use mathlib.Core.Option.{some, some-injective, some-ne-none}
use mathlib.Core.Logic.{dite}
use native.Mathlib.Decide.{ℕ_discrete}
use lib.ListN.{get_elem?}
use Rattle.atomic_table.specs.Table.{State, Me, Allows, Splits, Joins, keeps}
use Rattle.atomic_table.proofs.Lists.{at_set, at_snoc, set_else}
use Rattle.tickets.specs.declared.hand.Hand.{Hand}
use Rattle.tickets.specs.Tickets.{total, hand, spent, one_if, times, places_of, count_of, times_of, Drawn, drew}

module _ {X : Type 0} where
  total_set : (f : X → ℕ) (xs : List X) (i : ℕ) (x y : X) → get_elem? xs i ≡ some x → total f (set xs i y) + f x ≡ total f xs + f y
  total_set f [] i x y e = absurd (some-ne-none x (sym e))
  total_set f (z ∷ zs) zero x y e = let h : f z ≡ f x = ap f (some-injective z x e) in omega arith
  total_set f (z ∷ zs) (suc i) x y e = let h = total_set f zs i x y e in omega arith

  total_le : (f g : X → ℕ) (xs : List X) → ((i : ℕ) (x : X) → get_elem? xs i ≡ some x → f x ≤ g x) → total f xs ≤ total g xs
  total_le f g [] h = omega arith
  total_le f g (x ∷ xs) h = let a = h 0 x refl in let b = total_le f g xs (λ i y e. h (suc i) y e) in omega arith

  total_snoc : (f : X → ℕ) (xs : List X) (x : X) → total f (xs ++ x ∷ []) ≡ total f xs + f x
  total_snoc f [] x = omega arith
  total_snoc f (y ∷ ys) x = let h = total_snoc f ys x in omega arith

  total_least : (f : X → ℕ) (xs : List X) (i : ℕ) (x : X) → get_elem? xs i ≡ some x → f x ≤ total f xs
  total_least f [] i x e = absurd (some-ne-none x (sym e))
  total_least f (y ∷ ys) zero x e = let h : f y ≡ f x = ap f (some-injective y x e) in omega arith
  total_least f (y ∷ ys) (suc i) x e = let h = total_least f ys i x e in omega arith

times_more : (x y : ℕ) (l : List ℕ) → times x (l ++ y ∷ []) ≡ times x l + one_if (nat_eq x y)
times_more x y [] = omega arith
times_more x y (z ∷ l) = let h = times_more x y l in omega arith

pub append_times : (x : ℕ) (l m : List ℕ) → times x (l ++ m) ≡ times x l + times x m
append_times x [] m = omega arith
append_times x (z ∷ l) m = let h = append_times x l m in omega arith

pub hit : (x y : ℕ) → x ≡ y → one_if (nat_eq x y) ≡ 1
hit x y e = ap one_if (eq-eqb x y e)

pub miss : (x y : ℕ) → x ≢ y → one_if (nat_eq x y) ≡ 0
miss x y n = ap one_if (ne_eqb x y n)

-- a number of the list stands in it
stands : (l : List ℕ) (k d : ℕ) → k < length l → 1 ≤ times (get_or l k d) l
stands [] k d inside = absurd (omega arith)
stands (y ∷ l) zero d inside = let h = hit y y refl in omega arith
stands (y ∷ l) (suc k) d inside = let h = stands l k d (omega arith) in omega arith

scale : (vs : List Hand) → total (λ v. places_of v * 131073) vs ≡ total places_of vs * 131073
scale [] = refl
scale (v ∷ vs) = let h = scale vs in omega arith

-- the word stays far below 2 ^ 64
small : {S : Type 0} (workers : ℕ) (s : State S Hand) → Drawn workers s → total count_of s.views ≤ 64 * 131073
small workers s r =
    let a = total_le count_of (λ v. places_of v * 131073) s.views (λ j v e. r.each j v e) in
    let b = scale s.views in
    let c = r.places in
    let d = r.few in
    omega arith

small_mod : (m : ℕ) → m < 2 ^ 64 → m % 2 ^ 64 ≡ m
small_mod m h = omega arith

order : (a b : ℕ) → (a < b) ⊎ (b ≤ a)
order zero zero = inr (omega arith)
order zero (suc b) = inl (omega arith)
order (suc a) zero = inr (omega arith)
order (suc a) (suc b) = ⊎_elim (λ (h : a < b). inl (omega arith)) (λ (h : b ≤ a). inr (omega arith)) (order a b)

-- all that a seat drew is below the word
drawn_before : {S : Type 0} (workers : ℕ) (s : State S Hand) → Drawn workers s → (id : ℕ) (v : Hand) → get_elem? s.views id ≡ some v → (k d : ℕ) → k < length v.drawn → get_or v.drawn k d < total count_of s.views
drawn_before workers s r id v at k d inside =
    let x = get_or v.drawn k d in
    let once = stands v.drawn k d inside in
    let most = total_least (times_of x) s.views id v at in
    ⊎_elim (λ (h : x < total count_of s.views). h) (λ (h : total count_of s.views ≤ x). let void = r.beyond x h in absurd (omega arith)) (order x (total count_of s.views))

pub draws : {S : Type 0} (workers slots id : ℕ) (me : Me S Hand) → me.0.places ≡ 1 → length me.0.drawn ≤ 131072 → Allows (Drawn workers) slots id me 0 (λ n. (n + 1) % 2 ^ 64) (λ r m'. drew me r m')
draws {S = S} workers slots id me one_place few s r wide at inside =
    let v = me.0 in
    let n = total count_of s.views in
    let w : Hand = hand v.places (v.drawn ++ n ∷ []) in
    let found : Rattle.std.specs.Prelude.slice_index s.words 0 ≡ n = ap (λ (z : List ℕ). Rattle.std.specs.Prelude.slice_index z 0) r.word_is in
    let bound = small workers s r in
    let more : total count_of (set s.views id w) ≡ n + 1 = (let h = total_set count_of s.views id v w at in let l = length-append v.drawn (n ∷ []) in omega arith) in
    let shifted : (x : ℕ) → total (times_of x) (set s.views id w) ≡ total (times_of x) s.views + one_if (nat_eq x n) =
    (λ x. let h = total_set (times_of x) s.views id v w at in let t = times_more x n v.drawn in omega arith) in
    let kept : Drawn workers (record { words = (n + 1) % 2 ^ 64 ∷ []; homes = s.homes; views = set s.views id w }) = record {
      few = r.few;
      word_is = ap (λ (z : ℕ). z ∷ []) (small_mod (n + 1) (omega arith) ∙ sym more);
      below = λ x lt. dite (ℕ_discrete x n)
          (λ e. let a = shifted x in let b = r.beyond x (omega arith) in let c = hit x n e in omega arith)
          (λ other. let a = shifted x in let b = r.below x (omega arith) in let c = miss x n other in omega arith);
      beyond = λ x le. let a = shifted x in let b = r.beyond x (omega arith) in let c = miss x n (λ e. absurd (omega arith)) in omega arith;
      places = (let h = total_set places_of s.views id v w at in omega arith) ∙ r.places;
      each = λ j d e. ⊎_elim
          (λ h. subst (λ (z : Hand). count_of z ≤ places_of z * 131073) h.1 (let l = length-append v.drawn (n ∷ []) in omega arith))
          (λ h. r.each j d h.1) (at_set s.views id j w d e);
    } in
    let words : Rattle.std.specs.Prelude.slice_set s.words 0 ((Rattle.std.specs.Prelude.slice_index s.words 0 + 1) % 2 ^ 64) ≡ (n + 1) % 2 ^ 64 ∷ [] =
    ap (λ (z : List ℕ). Rattle.std.specs.Prelude.slice_set z 0 ((Rattle.std.specs.Prelude.slice_index z 0 + 1) % 2 ^ 64)) r.word_is in (
      w,
      keeps,
      tt,
      subst (λ (z : List ℕ). Drawn workers (record { words = z; homes = s.homes; views = set s.views id w })) (sym words) kept,
      ((λ i. (hand v.places (v.drawn ++ sym found i ∷ []), me.1)), λ k d l. subst (λ (z : ℕ). get_or v.drawn k d < z) (sym found) (drawn_before workers s r id v at k d l)),
    )

-- ## One place goes to a new seat

pub splits : {S : Type 0} (workers id : ℕ) (v : Hand) → v.drawn ≡ [] → 1 ≤ v.places → Splits {S = S} (Drawn workers) id v (hand (v.places - 1) []) (hand 1 [])
splits {S = S} workers id v void some_places s r at =
    let left : Hand = hand (v.places - 1) [] in
    let right : Hand = hand 1 [] in
    let vs = set s.views id left in
    let bare : length v.drawn ≡ 0 = ap length void in
    let counts : total count_of (vs ++ right ∷ []) ≡ total count_of s.views = (let a = total_set count_of s.views id v left at in let b = total_snoc count_of vs right in omega arith) in
    let same_times : (x : ℕ) → total (times_of x) (vs ++ right ∷ []) ≡ total (times_of x) s.views =
    (λ x. let a = total_set (times_of x) s.views id v left at in let b = total_snoc (times_of x) vs right in let c : times x v.drawn ≡ 0 = ap (times x) void in omega arith) in
    record {
      few = r.few;
      word_is = r.word_is ∙ ap (λ (z : ℕ). z ∷ []) (sym counts);
      below = λ x lt. let a = same_times x in let b = r.below x (omega arith) in omega arith;
      beyond = λ x le. let a = same_times x in let b = r.beyond x (omega arith) in omega arith;
      places = (let a = total_set places_of s.views id v left at in let b = total_snoc places_of vs right in omega arith) ∙ r.places;
      each = λ j d e. ⊎_elim
          (λ (h : get_elem? vs j ≡ some d). ⊎_elim (λ h. subst (λ (z : Hand). count_of z ≤ places_of z * 131073) h.1 (omega arith)) (λ h. r.each j d h.1) (at_set s.views id j left d h))
          (λ (h : right ≡ d). subst (λ (z : Hand). count_of z ≤ places_of z * 131073) h (omega arith))
          (at_snoc vs right d j e);
    }

-- ## One seat takes over what another drew

pub joins : {S : Type 0} (workers id other : ℕ) (v w : Hand) → Joins {S = S} (Drawn workers) id v other w (hand (w.places + v.places) (w.drawn ++ v.drawn)) spent
joins {S = S} workers id other v w s r at apart at2 =
    let both : Hand = hand (w.places + v.places) (w.drawn ++ v.drawn) in
    let vs = set s.views id both in
    let us = set vs other spent in
    let w_at : get_elem? s.views other ≡ some w = sym (set_else s.views id other both apart) ∙ at2 in
    let l = length-append w.drawn v.drawn in
    let counts : total count_of us ≡ total count_of s.views = (let a = total_set count_of s.views id v both at in let b = total_set count_of vs other w spent at2 in omega arith) in
    let same_times : (x : ℕ) → total (times_of x) us ≡ total (times_of x) s.views =
    (λ x. let a = total_set (times_of x) s.views id v both at in let b = total_set (times_of x) vs other w spent at2 in let c = append_times x w.drawn v.drawn in omega arith) in
    let ev = r.each id v at in
    let ew = r.each other w w_at in
    record {
      few = r.few;
      word_is = r.word_is ∙ ap (λ (z : ℕ). z ∷ []) (sym counts);
      below = λ x lt. let a = same_times x in let b = r.below x (omega arith) in omega arith;
      beyond = λ x le. let a = same_times x in let b = r.beyond x (omega arith) in omega arith;
      places = (let a = total_set places_of s.views id v both at in let b = total_set places_of vs other w spent at2 in omega arith) ∙ r.places;
      each = λ j d e. ⊎_elim
          (λ h. subst (λ (z : Hand). count_of z ≤ places_of z * 131073) h.1 (omega arith))
          (λ h. ⊎_elim (λ g. subst (λ (z : Hand). count_of z ≤ places_of z * 131073) g.1 (omega arith)) (λ g. r.each j d g.1) (at_set s.views id j both d h.1))
          (at_set vs other j spent d e);
    }

-- ## What a seat with every place knows

module _ {X : Type 0} (f g : X → ℕ) where
  total_none : (xs : List X) → ((j : ℕ) (y : X) → get_elem? xs j ≡ some y → g y ≡ 0 → f y ≡ 0) → total g xs ≡ 0 → total f xs ≡ 0
  total_none [] void zeroes = refl
  total_none (y ∷ ys) void zeroes =
      let a = void 0 y refl (omega arith) in
      let b = total_none ys (λ j z e. void (suc j) z e) (omega arith) in
      omega arith

  total_rest : (xs : List X) (i : ℕ) (x : X) → get_elem? xs i ≡ some x → ((j : ℕ) (y : X) → get_elem? xs j ≡ some y → g y ≡ 0 → f y ≡ 0) → total g xs ≡ g x → total f xs ≡ f x
  total_rest [] i x at void all = absurd (some-ne-none x (sym at))
  total_rest (y ∷ ys) zero x at void all =
      let here : y ≡ x = some-injective y x at in
      let a : g y ≡ g x = ap g here in
      let b = total_none ys (λ j z e. void (suc j) z e) (omega arith) in
      let c : f y ≡ f x = ap f here in
      omega arith
  total_rest (y ∷ ys) (suc i) x at void all =
      let more = total_least g ys i x at in
      let a = void 0 y refl (omega arith) in
      let b = total_rest ys i x at (λ j z e. void (suc j) z e) (omega arith) in
      omega arith

times_few : (x : ℕ) (l : List ℕ) → length l ≡ 0 → times x l ≡ 0
times_few x [] void = refl
times_few x (y ∷ l) void = absurd (omega arith)

pub closes : {S : Type 0} (workers id : ℕ) (v : Hand) (s : State S Hand) → Drawn workers s → get_elem? s.views id ≡ some v → v.places ≡ workers
    → (s.words ≡ length v.drawn ∷ []) × ((x : ℕ) → x < length v.drawn → times x v.drawn ≡ 1) × ((x : ℕ) → length v.drawn ≤ x → times x v.drawn ≡ 0)
closes workers id v s r at all =
    let sum : total places_of s.views ≡ v.places = r.places ∙ sym all in
    let counts : total count_of s.views ≡ length v.drawn = total_rest count_of places_of s.views id v at (λ j y e void. let h = r.each j y e in omega arith) sum in
    let same_times : (x : ℕ) → total (times_of x) s.views ≡ times x v.drawn =
    (λ x. total_rest (times_of x) places_of s.views id v at (λ j y e void. times_few x y.drawn (let h = r.each j y e in omega arith)) sum) in (
      r.word_is ∙ ap (λ (z : ℕ). z ∷ []) counts,
      (λ x lt. let a = same_times x in let b = r.below x (omega arith) in omega arith),
      (λ x le. let a = same_times x in let b = r.beyond x (omega arith) in omega arith),
    )

-- where a seat stands so, one place may go
pub splits_at : {S : Type 0} (workers id n : ℕ) (v : Hand) → v ≡ hand n [] → 1 ≤ n → Splits {S = S} (Drawn workers) id v (hand (v.places - 1) []) (hand 1 [])
splits_at workers id n v is some_places = splits workers id v (ap (λ (z : Hand). z.drawn) is) (let h : v.places ≡ n = ap places_of is in omega arith)

-- one taken from the end of a list
pub taken : {X : Type 0} (f : X → ℕ) (all left : List X) (x : X) → all ≡ left ++ x ∷ [] → (total f all ≡ total f left + f x) × (length all ≡ length left + 1)
taken f all left x cut = (ap (total f) cut ∙ total_snoc f left x, ap length cut ∙ length-append left (x ∷ []))
