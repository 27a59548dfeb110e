-- Lists of views and of marks.
use Rattle.std.proofs.Common.{◌≡◌, ◌≢◌, ◌⊎◌, ℕ, zero, suc, ◌+◌, ◌<◌, ◌≤◌, Bool, List, [], ◌∷◌, ◌++◌, map, length, set, sym, refl, ap, ◌∙◌, subst, inl, inr, ⊎_elim, arith, append_assoc, append-nil, eqb, eq-eqb, ne_eqb, if◌then◌else◌}
use mathlib.Core.Option.{some, some-injective, some-ne-none}
use mathlib.Core.Logic.{dite}
use native.Mathlib.Decide.{ℕ_discrete}
use lib.ListN.{get_elem?}
use Rattle.std.proofs.lemmas.List.Elements.{All-append, All-nil}
use Rattle.atomic_table.proofs.Lists.{at_set, set_here, set_else}
use Rattle.turn_lock.specs.declared.view.Mark.{Mark}
use Rattle.turn_lock.specs.declared.view.View.{View}
use Rattle.turn_lock.specs.Logs.{Fits, Grown}
use Rattle.turn_lock.specs.Views.{Each, total, HasNumber, Distinct, told}
use Rattle.turn_lock.specs.Rule.{MarkOk}

module _ {X : Type 0} where
  pub each_map : (P Q : X → Type 0) → ((x : X) → P x → Q x) → (xs : List X) → Each P xs → Each Q xs
  each_map P Q f [] e = tt
  each_map P Q f (x ∷ xs) e = (f x e.0, each_map P Q f xs e.1)

  pub total_set : (f : X → ℕ) (xs : List X) (i : ℕ) (x y : X) → get_elem? xs i ≡ some x → total f (set xs i y) + f x ≡ total f xs + f y
  total_set f [] i x y e = absurd (some-ne-none x (sym e))
  total_set f (z ∷ zs) zero x y e = let h : f z ≡ f x = ap f (some-injective z x e) in omega arith
  total_set f (z ∷ zs) (suc i) x y e = let h = total_set f zs i x y e in omega arith

  pub total_le : (f g : X → ℕ) (xs : List X) → ((i : ℕ) (x : X) → get_elem? xs i ≡ some x → f x ≤ g x) → total f xs ≤ total g xs
  total_le f g [] h = omega arith
  total_le f g (x ∷ xs) h = let a = h 0 x refl in let b = total_le f g xs (λ i y e. h (suc i) y e) in omega arith

  pub total_snoc : (f : X → ℕ) (xs : List X) (x : X) → total f (xs ++ x ∷ []) ≡ total f xs + f x
  total_snoc f [] x = omega arith
  total_snoc f (y ∷ ys) x = let h = total_snoc f ys x in omega arith

  pub total_one : (f : X → ℕ) (xs : List X) (i : ℕ) (x : X) → length xs ≡ 1 → get_elem? xs i ≡ some x → total f xs ≡ f x
  total_one f [] i x l e = absurd (some-ne-none x (sym e))
  total_one f (y ∷ []) zero x l e = let h : f y ≡ f x = ap f (some-injective y x e) in omega arith
  total_one f (y ∷ []) (suc i) x l e = absurd (some-ne-none x (sym e))
  total_one f (y ∷ z ∷ zs) i x l e = absurd (omega arith)

  total_least : (f : X → ℕ) (xs : List X) (i : ℕ) (x : X) → get_elem? xs i ≡ some x → f x ≤ total f xs
  total_least f [] i x e = absurd (some-ne-none x (sym e))
  total_least f (y ∷ ys) zero x e = let h : f y ≡ f x = ap f (some-injective y x e) in omega arith
  total_least f (y ∷ ys) (suc i) x e = let h = total_least f ys i x e in omega arith

  pub total_two : (f : X → ℕ) (xs : List X) (i j : ℕ) (x y : X) → i ≢ j → get_elem? xs i ≡ some x → get_elem? xs j ≡ some y → f x + f y ≤ total f xs
  total_two f [] i j x y n a b = absurd (some-ne-none x (sym a))
  total_two f (z ∷ zs) zero zero x y n a b = absurd (n refl)
  total_two f (z ∷ zs) zero (suc j) x y n a b = let h : f z ≡ f x = ap f (some-injective z x a) in let g = total_least f zs j y b in omega arith
  total_two f (z ∷ zs) (suc i) zero x y n a b = let h : f z ≡ f y = ap f (some-injective z y b) in let g = total_least f zs i x a in omega arith
  total_two f (z ∷ zs) (suc i) (suc j) x y n a b = let h = total_two f zs i j x y (λ e. n (ap suc e)) a b in omega arith

  pub each_both : (P Q R : X → Type 0) → ((x : X) → P x → Q x → R x) → (xs : List X) → Each P xs → Each Q xs → Each R xs
  each_both P Q R f [] a b = tt
  each_both P Q R f (x ∷ xs) a b = (f x a.0 b.0, each_both P Q R f xs a.1 b.1)

  pub each_append : (P : X → Type 0) (xs ys : List X) → Each P xs → Each P ys → Each P (xs ++ ys)
  each_append P [] ys a b = b
  each_append P (x ∷ xs) ys a b = (a.0, each_append P xs ys a.1 b)

  pub at_end : (l : List X) (a b : X) (j : ℕ) → get_elem? (l ++ a ∷ []) j ≡ some b → (get_elem? l j ≡ some b) ⊎ ((j ≡ length l) × (a ≡ b))
  at_end [] a b zero e = inr (refl, some-injective a b e)
  at_end [] a b (suc j) e = absurd (some-ne-none b (sym e))
  at_end (x ∷ xs) a b zero e = inl e
  at_end (x ∷ xs) a b (suc j) e = ⊎_elim (λ (t : get_elem? xs j ≡ some b). inl t) (λ (t : (j ≡ length xs) × (a ≡ b)). inr (ap suc t.0, t.1)) (at_end xs a b j e)

  pub at_within : (xs : List X) (i : ℕ) (x : X) → get_elem? xs i ≡ some x → i < length xs
  at_within [] i x e = absurd (some-ne-none x (sym e))
  at_within (y ∷ ys) zero x e = omega arith
  at_within (y ∷ ys) (suc i) x e = let h = at_within ys i x e in omega arith

  pub seats_stay : (K : ℕ → X → Type 0) (vs : List X) (me : ℕ) (w : X) → K me w → ((j : ℕ) (d : X) → j ≢ me → get_elem? vs j ≡ some d → K j d)
      → (j : ℕ) (d : X) → get_elem? (set vs me w) j ≡ some d → K j d
  seats_stay K vs me w mine others j d e = ⊎_elim (λ (t : (j ≡ me) × (w ≡ d)). subst (λ (x : ℕ × X). K x.0 x.1) (λ i. (sym t.0 i, t.1 i)) mine)
      (λ (t : (j ≢ me) × (get_elem? vs j ≡ some d)). others j d t.0 t.1) (at_set vs me j w d e)

module _ {E : Type 0} where
  -- a number that a seat has stays with a seat that keeps its numbers
  pub owned_set : (vs : List (View E)) (id : ℕ) (old w : View E) (k j : ℕ) → get_elem? vs id ≡ some old → (HasNumber k old.marks → HasNumber k w.marks)
      → (v : View E) × (get_elem? vs j ≡ some v) × HasNumber k v.marks → (v : View E) × (get_elem? (set vs id w) j ≡ some v) × HasNumber k v.marks
  owned_set vs id old w k j at keeps_it (v, here, has) = dite (ℕ_discrete j id)
      (λ e. let same : v ≡ old = some-injective v old (sym here ∙ (ap (get_elem? vs) e ∙ at)) in
      (w, ap (get_elem? (set vs id w)) e ∙ set_here vs id w (at_within vs id old at), keeps_it (subst (λ (z : View E). HasNumber k z.marks) same has)))
      (λ other. (v, set_else vs id j w other ∙ here, has))

  -- a log that grows still fits a number that the new entry does not name
  pub fits_more : (maker : E → ℕ) (k : ℕ) (seen log : List E) (e : E) → maker e ≢ k → Fits maker k seen log → Fits maker k seen (log ++ e ∷ [])
  fits_more maker k seen log e other f =
      (f.0 ++ e ∷ [], ap (λ (z : List E). z ++ e ∷ []) f.1 ∙ append_assoc seen f.0 (e ∷ []), All-append (λ (x : E). maker x ≢ k) f.0 (e ∷ []) f.2 (λ i d l. elim i as (λ (i : ℕ). (l : i < 1) → maker (Rattle.std.specs.Prelude.slice_index_or (e ∷ []) i d) ≢ k) [ zero ↦ λ l. other | suc i ↦ λ l. absurd (omega arith) ] l))

  -- nothing comes after the whole log
  pub fits_now : (maker : E → ℕ) (k : ℕ) (log : List E) → Fits maker k log log
  fits_now maker k log = ([], sym (append-nil log), All-nil (λ (x : E). maker x ≢ k))

  pub grown_more : (maker : E → ℕ) (n : ℕ) (first log : List E) (e : E) → maker e < n → Grown maker n first log → Grown maker n first (log ++ e ∷ [])
  grown_more maker n first log e less f =
      (f.0 ++ e ∷ [], ap (λ (z : List E). z ++ e ∷ []) f.1 ∙ append_assoc first f.0 (e ∷ []), All-append (λ (x : E). maker x < n) f.0 (e ∷ []) f.2 (λ i d l. elim i as (λ (i : ℕ). (l : i < 1) → maker (Rattle.std.specs.Prelude.slice_index_or (e ∷ []) i d) < n) [ zero ↦ λ l. less | suc i ↦ λ l. absurd (omega arith) ] l))

  pub told_length : (log : List E) (ms : List (Mark E)) → length (map (told log) ms) ≡ length ms
  told_length log [] = refl
  told_length log (m ∷ ms) = ap suc (told_length log ms)

  pub told_each : (P : ℕ → Type 0) (log : List E) (ms : List (Mark E)) → Each (λ m. P m.number) ms → Each (λ m. P m.number) (map (told log) ms)
  told_each P log [] e = tt
  told_each P log (m ∷ ms) e = (e.0, told_each P log ms e.1)

  pub told_distinct : (log : List E) (ms : List (Mark E)) → Distinct ms → Distinct (map (told log) ms)
  told_distinct log [] d = tt
  told_distinct log (m ∷ ms) d = (told_each (λ k. k ≢ m.number) log ms d.0, told_distinct log ms d.1)

  pub told_seen : (log : List E) (ms : List (Mark E)) → Each (λ m. m.seen ≡ log) (map (told log) ms)
  told_seen log [] = tt
  told_seen log (m ∷ ms) = (refl, told_seen log ms)

  pub told_has : (log : List E) (k : ℕ) (ms : List (Mark E)) → HasNumber k ms → HasNumber k (map (told log) ms)
  told_has log k [] h = h
  told_has log k (m ∷ ms) h = ⊎_elim (λ (e : m.number ≡ k). inl e) (λ (t : HasNumber k ms). inr (told_has log k ms t)) h

  pub told_marked : (maker : E → ℕ) (fixed : List ℕ) (log new : List E) (n : ℕ) (owner : ℕ → ℕ) (seat : ℕ) (ms : List (Mark E)) → Each (MarkOk maker fixed log n owner seat) ms → Each (MarkOk maker fixed new n owner seat) (map (told new) ms)
  told_marked maker fixed log new n owner seat [] e = tt
  told_marked maker fixed log new n owner seat (m ∷ ms) e = ((e.0.0, e.0.1, fits_now maker m.number new, e.0.3), told_marked maker fixed log new n owner seat ms e.1)

  pub has_left : (k : ℕ) (ms ns : List (Mark E)) → HasNumber k ms → HasNumber k (ms ++ ns)
  has_left k [] ns h = absurd h
  has_left k (m ∷ ms) ns h = ⊎_elim (λ (e : m.number ≡ k). inl e) (λ (t : HasNumber k ms). inr (has_left k ms ns t)) h

  pub has_right : (k : ℕ) (ms ns : List (Mark E)) → HasNumber k ns → HasNumber k (ms ++ ns)
  has_right k [] ns h = h
  has_right k (m ∷ ms) ns h = inr (has_right k ms ns h)

  pub has_some : (k : ℕ) (ms : List (Mark E)) → HasNumber k ms → 0 < length ms
  has_some k [] h = absurd h
  has_some k (m ∷ ms) h = omega arith

  pub distinct_append : (P Q : ℕ → Type 0) → ((a b : ℕ) → P a → Q b → b ≢ a) → (ms ns : List (Mark E)) → Each (λ m. P m.number) ms → Each (λ m. Q m.number) ns → Distinct ms → Distinct ns → Distinct (ms ++ ns)
  distinct_append P Q f [] ns p q d e = e
  distinct_append P Q f (m ∷ ms) ns p q d e =
      (each_append (λ n. n.number ≢ m.number) ms ns d.0 (each_map (λ n. Q n.number) (λ n. n.number ≢ m.number) (λ n z. f m.number n.number p.0 z) ns q), distinct_append P Q f ms ns p.1 q d.1 e)

-- a number's seat, with the seat of q changed to x
abbrev pub put : (ℕ → ℕ) → ℕ → ℕ → ℕ → ℕ
put f q x j = if eqb j q then x else f j

pub put_here : (f : ℕ → ℕ) (q x : ℕ) → put f q x q ≡ x
put_here f q x = ap (λ (b : Bool). if b then x else f q) (eq-eqb q q refl)

pub put_else : (f : ℕ → ℕ) (q x j : ℕ) → j ≢ q → put f q x j ≡ f j
put_else f q x j n = ap (λ (b : Bool). if b then x else f j) (ne_eqb j q n)

-- the seats of a and of what is joined to a
abbrev pub moved : (ℕ → ℕ) → ℕ → ℕ → ℕ → ℕ
moved f from to j = if eqb (f j) from then to else f j

pub moved_here : (f : ℕ → ℕ) (from to j : ℕ) → f j ≡ from → moved f from to j ≡ to
moved_here f from to j e = ap (λ (b : Bool). if b then to else f j) (eq-eqb (f j) from e)

pub moved_else : (f : ℕ → ℕ) (from to j : ℕ) → f j ≢ from → moved f from to j ≡ f j
moved_else f from to j n = ap (λ (b : Bool). if b then to else f j) (ne_eqb (f j) from n)
