-- What a cursor has still to show: its places rise, and it ends in a newline.
use Rattle.std.proofs.Common.{◌≡◌, ℕ, zero, suc, ◌+◌, ◌<◌, ◌≤◌, cond, ◌==◌, List, [], ◌∷◌, refl, ap, inl, inr, drop, length, arith}
use Rattle.std.proofs.lemmas.Bool.{eqb-true, eq-eqb, cases_Bool, cond_both}
use Rattle.line_splice.specs.declared.cursor.Cursor.{Cursor}
use Rattle.line_splice.specs.Cursor.{rest}
use Rattle.scan_model.specs.Spliced.{Spot, shown, is_hidden, at_newline, place_at}
use Rattle.scan_model.specs.Tokens.{bytes, rest_of_line}
use Rattle.scan_model.proofs.RestLemmas.{rest_of_line-cons, rest_of_line-newline}

-- ## Places

abbrev pub Rises : ℕ → List Spot → Type 0
Rises low [] = Unit {0}
Rises low (x ∷ s) = (low ≤ x.place) × Rises (x.place + 1) s

pub shown_rises : (low last before place line : ℕ) (t : List ℕ) → low ≤ place → Rises low (shown last before place line t)
unfolding shown
shown_rises low last before place line [] h =
    cond_both (last == 10) [] (record { byte = 10; place = place; line = line } ∷ []) (Rises low) (λ e. tt) (λ e. (h, tt))
shown_rises low last before place line (c ∷ t) h =
    let byte = cond (at_newline (c ∷ t)) 10 c in
    let below = cond (c == 10) (line + 1) line in
    cond_both (is_hidden before c t) (shown last c (place + 1) below t) (record { byte = byte; place = place; line = line } ∷ shown byte c (place + 1) below t) (Rises low)
    (λ e. shown_rises low last c (place + 1) below t (omega arith))
    (λ e. (h, shown_rises (place + 1) byte c (place + 1) below t (omega arith)))

rest_rises : (at : Cursor) → Rises 0 (rest at)
unfolding rest
rest_rises at = shown_rises 0 at.last 0 at.place at.line (drop at.place at.text.now) (omega arith)

pub above : (low : ℕ) (s : List Spot) (j : ℕ) (text : List ℕ) → Rises low s → j < length s → low ≤ place_at text (drop j s)
above low [] j text h lt = absurd (omega arith)
above low (x ∷ s) zero text h lt = h.0
above low (x ∷ s) (suc j) text h lt = let k = above (x.place + 1) s j text h.1 (omega arith) in omega (arith, k, h.0)

later : (low : ℕ) (s : List Spot) (i j : ℕ) (text : List ℕ) → Rises low s → i < j → j < length s → place_at text (drop i s) < place_at text (drop j s)
later low [] i j text h lt within = absurd (omega arith)
later low (x ∷ s) i zero text h lt within = absurd (omega arith)
later low (x ∷ s) zero (suc j) text h lt within = let k = above (x.place + 1) s j text h.1 (omega arith) in omega (arith, k)
later low (x ∷ s) (suc i) (suc j) text h lt within = later (x.place + 1) s i j text h.1 (omega arith) (omega arith)

-- a later byte has a later place
pub place_later : (at : Cursor) (i j : ℕ) (text : List ℕ) → i < j → j < length (rest at) → place_at text (drop i (rest at)) < place_at text (drop j (rest at))
place_later at i j text lt within = later 0 (rest at) i j text (rest_rises at) lt within

-- ## The end of the line

-- the last byte, or the one before, is a newline
abbrev Ends : ℕ → List Spot → Type 0
Ends last [] = last ≡ 10
Ends last (x ∷ s) = Ends x.byte s

shown_ends : (last before place line : ℕ) (t : List ℕ) → Ends last (shown last before place line t)
unfolding shown
shown_ends last before place line [] =
    cond_both (last == 10) [] (record { byte = 10; place = place; line = line } ∷ []) (Ends last) (λ e. eqb-true last 10 e) (λ e. refl)
shown_ends last before place line (c ∷ t) =
    let byte = cond (at_newline (c ∷ t)) 10 c in
    let below = cond (c == 10) (line + 1) line in
    cond_both (is_hidden before c t) (shown last c (place + 1) below t) (record { byte = byte; place = place; line = line } ∷ shown byte c (place + 1) below t) (Ends last)
    (λ e. shown_ends last c (place + 1) below t)
    (λ e. shown_ends byte c (place + 1) below t)

rest_ends : (at : Cursor) → (last : ℕ) × Ends last (rest at)
unfolding rest
rest_ends at = (at.last, shown_ends at.last 0 at.place at.line (drop at.place at.text.now))

line_within : (last : ℕ) (s : List Spot) → Ends last s → (s ≡ [] → ⊥) → length (rest_of_line (bytes s)) < length s
line_within last [] h some = absurd (some refl)
line_within last (x ∷ []) h some =
    let z : length (rest_of_line (bytes (x ∷ []))) ≡ 0 = ap length (rest_of_line-newline x.byte [] (eq-eqb x.byte 10 h)) in omega arith
line_within last (x ∷ y ∷ s) h some = elim (cases_Bool (x.byte == 10)) [
  | inl e ↦ let z : length (rest_of_line (bytes (x ∷ y ∷ s))) ≡ 0 = ap length (rest_of_line-newline x.byte (bytes (y ∷ s)) e) in omega (arith, z)
  | inr e ↦
      let z : length (rest_of_line (bytes (x ∷ y ∷ s))) ≡ suc (length (rest_of_line (bytes (y ∷ s)))) = ap length (rest_of_line-cons x.byte (bytes (y ∷ s)) e) in
      let k : length (rest_of_line (bytes (y ∷ s))) < length (y ∷ s) = line_within x.byte (y ∷ s) h (λ f. cc) in omega (arith, z, k)
]

-- a newline stands after the logical line
pub line_is_within : (at : Cursor) → (rest at ≡ [] → ⊥) → length (rest_of_line (bytes (rest at))) < length (rest at)
line_is_within at some = let e = rest_ends at in line_within e.0 (rest at) e.1 some
