-- Where the bytes that show after phases 1 and 2 of translation stand in the text.
use Rattle.std.proofs.Common.{◌≡◌, ℕ, zero, suc, ◌+◌, ◌<◌, ◌≤◌, Bool, true, false, ◌==◌, ◌||◌, cond, nat_eq, List, [], ◌∷◌, ◌++◌, refl, ap, sym, subst, ◌∙◌, inl, inr, drop, length, slice_index, length-drop, arith}
use Rattle.std.specs.List.{All, AllPairs, Any, starts_with}
use Rattle.std.specs.Prelude.{◌↔◌}
use Rattle.std.proofs.lemmas.Bool.{cases_Bool, cases_eq, true≢false, eq-eqb, eqb-true, ne_eqb}
use Rattle.std.proofs.lemmas.Bool.Decides.{Decides-eqb}
use Rattle.std.proofs.lemmas.List.{drop-drop, get_or-drop}
use Rattle.std.proofs.lemmas.List.Elements.{All-cons}
use Rattle.std.proofs.lemmas.List.Sums.{count_by_more_yes, count_by_more_no}
use Rattle.std.proofs.lemmas.Slice.Eq.{starts_is}
use Rattle.scan_model.specs.Spliced.{Spot, at_newline, is_hidden, mark_len, shown, spliced}
use Rattle.unit_laws.specs.Splicing.{newlines_before, byte_shown, StandsIn, StandFrom, is_hidden_at, ShownStands, SplicedStands, OthersShow}

-- ## Lists of spots

no_spots : (text : List ℕ) (place : ℕ) → StandFrom text place []
no_spots text place = record {
  each = λ k d lt. absurd (omega (arith, lt));
  from = λ k d lt. absurd (omega (arith, lt));
  rise = λ i j d lt le. absurd (omega (arith, le));
}

-- they stand from a place before as well
from_before : (text : List ℕ) (place next : ℕ) (spots : List Spot) → place ≤ next → StandFrom text next spots → StandFrom text place spots
from_before text place next spots le s = record { each = s.each; from = λ k d lt. omega (arith, s.from k d lt); rise = s.rise }

rise_behind : (spot : Spot) (spots : List Spot) → All (λ s. spot.place + 1 ≤ s.place) spots → AllPairs (λ a b. a.place < b.place) spots
    → AllPairs (λ a b. a.place < b.place) (spot ∷ spots)
rise_behind spot spots above rise i zero d lt le = absurd (omega (arith, lt))
rise_behind spot spots above rise zero (suc j) d lt le = omega (arith, above j d (omega (arith, le)))
rise_behind spot spots above rise (suc i) (suc j) d lt le = rise i j d (omega (arith, lt)) (omega (arith, le))

-- one more stands before them
one_before : (text : List ℕ) (spot : Spot) (spots : List Spot) → StandsIn text spot → StandFrom text (spot.place + 1) spots → StandFrom text spot.place (spot ∷ spots)
one_before text spot spots here s = record {
  each = All-cons (StandsIn text) spot spots here s.each;
  from = All-cons (λ x. spot.place ≤ x.place) spot spots (omega arith) (λ k d lt. omega (arith, s.from k d lt));
  rise = rise_behind spot spots s.from s.rise;
}

-- ## One byte of the text

-- c is the byte at the place
record IsAt (text : List ℕ) (place c : ℕ) (after : List ℕ) : Type 0 where
  within : place < length text
  byte : slice_index text place ≡ c
  rest : after ≡ drop (place + 1) text

is_at : (text : List ℕ) (place c : ℕ) (after : List ℕ) → c ∷ after ≡ drop place text → IsAt text place c after
is_at text place c after e = record {
  within = omega (arith, ap length e, length-drop place text);
  byte = ap (λ k. slice_index text k) (omega arith) ∙ sym (get_or-drop place text 0 0) ∙ ap (λ s. slice_index s 0) (sym e);
  rest = ap (drop 1) e ∙ drop-drop 1 place text;
}

-- the newlines before the next one
next_line : (text : List ℕ) (place c : ℕ) → place < length text → slice_index text place ≡ c
    → newlines_before text (place + 1) ≡ cond (c == 10) (newlines_before text place + 1) (newlines_before text place)
next_line text place c within is = elim (cases_Bool (c == 10)) [
  | inl lf ↦ rw lf (count_by_more_yes (λ b. b == 10) text place 0 within (ap (λ b. b == 10) is ∙ lf))
  | inr other ↦ rw other (count_by_more_no (λ b. b == 10) text place 0 within (ap (λ b. b == 10) is ∙ other))
]

line_below : (lf : Bool) (line here next : ℕ) → line ≡ here + 1 → next ≡ cond lf (here + 1) here → cond lf (line + 1) line ≡ next + 1
line_below true line here next e h = omega arith
line_below false line here next e h = omega arith

-- it shows as LF or as it is written
shown_there : (text : List ℕ) (place c : ℕ) (after : List ℕ) → c ∷ after ≡ drop place text → place < length text → slice_index text place ≡ c
    → cond (at_newline (c ∷ after)) 10 c ≡ byte_shown text place
shown_there text place c after e within is =
    let some : (place == length text) ≡ false = ne_eqb place (length text) (λ z. omega (arith, z)) in
    subst (λ s. cond (at_newline (c ∷ after)) 10 c ≡ cond (at_newline s || place == length text) 10 (slice_index text place)) e
    (rw (some, is) (by (at_newline (c ∷ after)))) where
      by : (b : Bool) → cond b 10 c ≡ cond (b || false) 10 c
      by true = refl
      by false = refl

-- LF is added at the end
added_there : (text : List ℕ) (place : ℕ) → [] ≡ drop place text → place ≡ length text → 10 ≡ byte_shown text place
added_there text place e end =
    subst (λ s. 10 ≡ cond (at_newline s || place == length text) 10 (slice_index text place)) e (rw (eq-eqb place (length text) end) refl)

-- ## What shows

stands : (t text : List ℕ) (last before place line : ℕ) → t ≡ drop place text → line ≡ newlines_before text place + 1 → place ≤ length text
    → StandFrom text place (shown last before place line t)
unfolding shown
stands [] text last before place line e number inside = by (last == 10) where
  end : place ≡ length text
  end = omega (arith, ap length e, length-drop place text)

  by : (b : Bool) → StandFrom text place (cond b [] (record { byte = 10; place = place; line = line } ∷ []))
  by true = no_spots text place
  by false = one_before text _ [] (record { within = inside; byte = added_there text place e end; line = number }) (no_spots text (place + 1))
stands (c ∷ after) text last before place line e number inside =
    let at = is_at text place c after e in
    let here = next_line text place c at.within at.byte in
    let below = line_below (c == 10) line _ _ number here in
    let left = λ (next : ℕ). stands after text next c (place + 1) (cond (c == 10) (line + 1) line) at.rest below (omega (arith, at.within)) in
    by at (is_hidden before c after) (left last) (left (cond (at_newline (c ∷ after)) 10 c)) where
      more : ℕ → List Spot
      more next = shown next c (place + 1) (cond (c == 10) (line + 1) line) after

      byte : ℕ
      byte = cond (at_newline (c ∷ after)) 10 c

      by : IsAt text place c after → (b : Bool) → StandFrom text (place + 1) (more last) → StandFrom text (place + 1) (more byte)
          → StandFrom text place (cond b (more last) (record { byte = byte; place = place; line = line } ∷ more byte))
      by at true hidden next = from_before text place (place + 1) _ (omega arith) hidden
      by at false hidden next = one_before text _ _ (record { within = inside; byte = shown_there text place c after e at.within at.byte; line = number }) next

pub shown_stands : ShownStands
shown_stands text last before place inside = stands (drop place text) text last before place (newlines_before text place + 1) refl refl inside

-- ## What doesn't show

abbrev ShowsAt : ℕ → List Spot → Type 0
ShowsAt place spots = Any (λ spot. spot.place ≡ place) spots

shows_behind : (place : ℕ) (spot : Spot) (spots : List Spot) → ShowsAt place spots → ShowsAt place (spot ∷ spots)
shows_behind place spot spots a = let lt = a.2 in (suc a.0, a.1, omega (arith, lt), a.3, a.4)

shows_later : (place : ℕ) (spot : Spot) (spots : List Spot) → spot.place < place → ShowsAt place (spot ∷ spots) → ShowsAt place spots
shows_later place spot spots later (zero, x, lt, at, here) = absurd (omega (arith, later, here, ap (λ s. s.place) at))
shows_later place spot spots later (suc k, x, lt, at, here) = (k, x, omega (arith, lt), at, here)

none_sooner : (text : List ℕ) (place : ℕ) (spots : List Spot) → StandFrom text (place + 1) spots → ShowsAt place spots → ⊥
none_sooner text place spots s a = let from = s.from a.0 a.1 a.2 in absurd (omega (arith, from, ap (λ x. x.place) a.3, a.4))

shows_where : (t text : List ℕ) (last before place line other : ℕ) → t ≡ drop place text → line ≡ newlines_before text place + 1
    → is_hidden before (slice_index text place) (drop (place + 1) text) ≡ is_hidden_at text place → place ≤ other → other < length text
    → ShowsAt other (shown last before place line t) ↔ (is_hidden_at text other ≡ false)
unfolding shown
shows_where [] text last before place line other e number same le lt = absurd (omega (arith, ap length e, length-drop place text, lt, le))
shows_where (c ∷ after) text last before place line other e number same le lt =
    let at = is_at text place c after e in
    let below = line_below (c == 10) line _ _ number (next_line text place c at.within at.byte) in
    let next_same : is_hidden c (slice_index text (place + 1)) (drop (place + 1 + 1) text) ≡ is_hidden_at text (place + 1) =
    ap (λ b. is_hidden b (slice_index text (place + 1)) (drop (place + 1 + 1) text)) (sym at.byte ∙ ap (slice_index text) (omega arith)) in
    let left = λ (next : ℕ). stands after text next c (place + 1) (cond (c == 10) (line + 1) line) at.rest below (omega (arith, at.within)) in
    let later = λ (next : ℕ) (more : place + 1 ≤ other). shows_where after text next c (place + 1) (cond (c == 10) (line + 1) line) other at.rest below next_same more lt in
    let here : is_hidden before c after ≡ is_hidden_at text place = ap (λ b. is_hidden before b after) (sym at.byte) ∙ ap (is_hidden before (slice_index text place)) at.rest ∙ same in
    by (is_hidden before c after) here (left last) (later last) (later (cond (at_newline (c ∷ after)) 10 c)) where
      more : ℕ → List Spot
      more next = shown next c (place + 1) (cond (c == 10) (line + 1) line) after

      byte : ℕ
      byte = cond (at_newline (c ∷ after)) 10 c

      by : (b : Bool) → b ≡ is_hidden_at text place → StandFrom text (place + 1) (more last)
          → (place + 1 ≤ other → ShowsAt other (more last) ↔ (is_hidden_at text other ≡ false))
          → (place + 1 ≤ other → ShowsAt other (more byte) ↔ (is_hidden_at text other ≡ false))
          → ShowsAt other (cond b (more last) (record { byte = byte; place = place; line = line } ∷ more byte)) ↔ (is_hidden_at text other ≡ false)
      by true is s hidden next = elim (cases_eq place other) [
        | inl here ↦ (
          λ a. absurd (none_sooner text place (more last) s (subst (λ p. ShowsAt p (more last)) (sym here) a)),
          λ h. absurd (true≢false (is ∙ ap (is_hidden_at text) here ∙ h)),
        )
        | inr apart ↦ hidden (omega (arith, apart, le))
      ]
      by false is s hidden next = elim (cases_eq place other) [
        | inl here ↦ (λ a. ap (is_hidden_at text) (sym here) ∙ sym is, λ h. (0, record { byte = byte; place = place; line = line }, omega arith, refl, here))
        | inr apart ↦ (
          λ a. (next (omega (arith, apart, le))).0 (shows_later other _ (more byte) (omega (arith, apart, le)) a),
          λ h. shows_behind other _ (more byte) ((next (omega (arith, apart, le))).1 h),
        )
      ]

-- ## The mark

record IsMark (text : List ℕ) (mark : ℕ) : Type 0 where
  inside : mark ≤ length text
  newlines : newlines_before text mark ≡ 0
  first : is_hidden 0 (slice_index text mark) (drop (mark + 1) text) ≡ is_hidden_at text mark

-- as the byte before itself a byte hides nothing
hidden_alone : (c : ℕ) (after : List ℕ) → is_hidden 0 c after ≡ is_hidden c c after
hidden_alone c after = elim (cases_Bool (c == 92)) [
  | inl backslash ↦ subst (λ b. is_hidden 0 b after ≡ is_hidden b b after) (sym (eqb-true c 92 backslash)) (by_none (at_newline after))
  | inr other ↦ elim (cases_Bool (c == 13)) [
    | inl cr ↦ subst (λ b. is_hidden 0 b after ≡ is_hidden b b after) (sym (eqb-true c 13 cr)) refl
    | inr neither ↦ rw (other, neither) refl
  ]
] where
  by_none : (b : Bool) → (b || false || false) ≡ (b || false || false)
  by_none b = refl

is_mark : (text : List ℕ) (b : Bool) → b ≡ starts_with nat_eq text (239 ∷ 187 ∷ 191 ∷ []) → IsMark text (cond b 3 0)
is_mark text false e = record { inside = omega arith; newlines = refl; first = hidden_alone (slice_index text 0) (drop 1 text) }
is_mark text true e =
    let is : text ≡ (239 ∷ 187 ∷ 191 ∷ []) ++ drop 3 text = (starts_is Decides-eqb text (239 ∷ 187 ∷ 191 ∷ []) true e).0 refl in
    subst (λ s. IsMark s 3) (sym is) (record { inside = omega arith; newlines = refl; first = refl })

pub spliced_stands : SplicedStands
unfolding spliced
spliced_stands text =
    let m = is_mark text (starts_with nat_eq text (239 ∷ 187 ∷ 191 ∷ [])) refl in
    stands (drop (mark_len text) text) text 0 0 (mark_len text) 1 refl (ap (λ n. n + 1) (sym m.newlines)) m.inside

pub others_show : OthersShow
unfolding spliced
others_show text place le lt =
    let m = is_mark text (starts_with nat_eq text (239 ∷ 187 ∷ 191 ∷ [])) refl in
    shows_where (drop (mark_len text) text) text 0 0 (mark_len text) 1 place refl (ap (λ n. n + 1) (sym m.newlines)) m.first le lt
