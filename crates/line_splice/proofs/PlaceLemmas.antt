-- Going on to a place in the text.
use Rattle.std.proofs.Common.{◌≡◌, ℕ, zero, suc, ◌+◌, ◌-◌, ◌<◌, ◌≤◌, true, false, ◌==◌, nat_lt, cond, List, [], ◌∷◌, refl, ap, sym, subst, ◌∙◌, inl, inr, take, drop, length, slice_index, get_or, length-drop, arith}
use Rattle.std.proofs.lemmas.Bool.{and_left, cases_lt, cond_both, ltb-true, lt-ltb, le-ltb}
use Rattle.std.proofs.lemmas.List.{drop-drop, get_or-drop, take_rest}
use Rattle.scan_model.specs.Spliced.{Spot, shown, spliced, is_hidden, at_newline, place_at, last_line}
use Rattle.scan_model.specs.Tokens.{from_place}
use Rattle.line_splice.specs.Rest.{at_splice, rest_of}
use Rattle.line_splice.specs.declared.cursor.Cursor.{Cursor}
use Rattle.line_splice.specs.Cursor.{text_of, rest}
use Rattle.line_splice.specs.Plain.{shows_itself, newlines, ahead_of}
use Rattle.line_splice.proofs.ShownLemmas.{shown-before, place_is}
use Rattle.line_splice.proofs.PlainLemmas.{Plain, plain, not_newline, not_hidden, some_left}
use Rattle.line_splice.proofs.LinesLemmas.{line_more}

-- ## The spots from a place on

-- what shows from there on
pub from_here : (p last before place line : ℕ) (t : List ℕ) → p ≤ place → from_place p (shown last before place line t) ≡ shown last before place line t
unfolding shown
from_here p last before place line [] le =
    cond_both (last == 10) [] (record { byte = 10; place = place; line = line } ∷ []) (λ l. from_place p l ≡ l) (λ e. refl) (λ e. rw (le-ltb place p le) refl)
from_here p last before place line (c ∷ s) le =
    let byte = cond (at_newline (c ∷ s)) 10 c in
    let below = cond (c == 10) (line + 1) line in
    cond_both (is_hidden before c s) (shown last c (place + 1) below s) (record { byte = byte; place = place; line = line } ∷ shown byte c (place + 1) below s) (λ l. from_place p l ≡ l)
    (λ e. from_here p last c (place + 1) below s (omega (arith, le))) (λ e. rw (le-ltb place p le) refl)

-- what lies before the place is of no account, whether it shows or not
past_first : (p last before place line c : ℕ) (s : List ℕ) (r : List Spot) → place < p
    → ((last' : ℕ) → from_place p (shown last' c (place + 1) (cond (c == 10) (line + 1) line) s) ≡ r) → from_place p (shown last before place line (c ∷ s)) ≡ r
unfolding shown
past_first p last before place line c s r lt more =
    let byte = cond (at_newline (c ∷ s)) 10 c in
    let below = cond (c == 10) (line + 1) line in
    cond_both (is_hidden before c s) (shown last c (place + 1) below s) (record { byte = byte; place = place; line = line } ∷ shown byte c (place + 1) below s) (λ l. from_place p l ≡ r)
    (λ e. more last) (λ e. rw (lt-ltb place p lt) (more byte))

-- and after a byte that shows as it is written, neither is what it was
after_plain : (last before place line c : ℕ) (s : List ℕ) → Plain c → from_place (place + 1) (shown last before place line (c ∷ s)) ≡ shown c 0 (place + 1) line s
unfolding shown
after_plain last before place line c s q =
    let lt : place < place + 1 = omega arith in
    rw (not_hidden before c s q, not_newline c s q, q.lf, lt-ltb place (place + 1) lt)
    (from_here (place + 1) c c (place + 1) line s (omega arith)
    ∙ shown-before c c (place + 1) line s (and_left (c == 92) (at_newline s) q.backslash) (and_left (c == 13) (slice_index s 0 == 10) q.cr))

from_written : (n last before place line p : ℕ) (t : List ℕ) → place + suc n ≡ p → suc n ≤ length t → shows_itself (get_or t n 0) ≡ true
    → from_place p (shown last before place line t) ≡ shown (get_or t n 0) 0 p (line + newlines (take (suc n) t)) (drop (suc n) t)
from_written n last before place line p [] is le h = absurd (omega (arith, le))
from_written zero last before place line p (c ∷ s) is le h =
    let q = plain c h in
    let same : line ≡ line + newlines (c ∷ []) = omega (arith, line_more c line [], ap (λ b. cond b (line + 1) line) q.lf) in
    ap (λ k. from_place k (shown last before place line (c ∷ s))) (sym is)
    ∙ after_plain last before place line c s q
    ∙ ap (λ k. shown c 0 k line s) is
    ∙ ap (λ l. shown c 0 p l s) same
from_written (suc n) last before place line p (c ∷ s) is le h =
    let below = cond (c == 10) (line + 1) line in
    past_first p last before place line c s _ (omega (arith, is))
    (λ last'. from_written n last' c (place + 1) below p s (omega (arith, is)) (omega (arith, le)) h)
    ∙ ap (λ l. shown (get_or s n 0) 0 p l (drop (suc n) s)) (line_more c line (take (suc n) s))

-- a place before is passed on the way
pub from_place-twice : (p q : ℕ) (s : List Spot) → q ≤ p → from_place p (from_place q s) ≡ from_place p s
from_place-twice p q [] le = refl
from_place-twice p q (x ∷ s) le =
    cond_both (nat_lt x.place q) (from_place q s) (x ∷ s) (λ l. from_place p l ≡ from_place p (x ∷ s))
    (λ e. let lt = ltb-true x.place q e in
    from_place-twice p q s le ∙ sym (ap (λ b. cond b (from_place p s) (x ∷ s)) (lt-ltb x.place p (omega (arith, lt, le)))))
    (λ e. refl)

-- the last line is that of the last spot, if one is left
last_line-from : (p line line' : ℕ) (s : List Spot) → (from_place p s ≡ [] → ⊥) → last_line line s ≡ last_line line' (from_place p s)
last_line-from p line line' [] some = absurd (some refl)
last_line-from p line line' (x ∷ s) some =
    cond_both (nat_lt x.place p) (from_place p s) (x ∷ s) (λ l. (l ≡ [] → ⊥) → last_line x.line s ≡ last_line line' l)
    (λ e h. last_line-from p x.line line' s h) (λ e h. refl) some

-- ## The cursor's step

-- so many bytes lie from the place on, of which the last shows as it is written
pub record WrittenReady (text : List ℕ) (place count : ℕ) : Type 0 where
  pub within : count ≤ length (drop place text)
  pub plain : shows_itself (slice_index (drop place text) (count - 1)) ≡ true

pub written_ready : (text : List ℕ) (last place line count : ℕ) → at_splice (drop place text) ≡ false → place ≤ length text
    → count ≤ length (ahead_of text (rest_of text place line last)) → shows_itself (slice_index (ahead_of text (rest_of text place line last)) (count - 1)) ≡ true
    → WrittenReady text place count
written_ready text last place line count splice inside within plain =
    let e : place_at text (rest_of text place line last) ≡ place = sym (place_is text last place line splice inside) in
    subst (λ p. WrittenReady text p count) e (record { within = within; plain = plain })

pub written_len : (text : List ℕ) (place count : ℕ) → place ≤ length text → WrittenReady text place count → place + count ≤ length text
written_len text place count inside r = let w = r.within in omega (arith, w, length-drop place text)

-- no byte is passed
pub passed_none : (text : List ℕ) (last place line count : ℕ) → at_splice (drop place text) ≡ false → place ≤ length text → count ≡ 0
    → rest_of text place line last ≡ from_place (place_at text (rest_of text place line last) + count) (rest_of text place line last)
passed_none text last place line count splice inside none =
    let is = place_is text last place line splice inside in
    sym (from_here (place_at text (rest_of text place line last) + count) last 0 place line (drop place text) (omega (arith, is, none)))

-- what shows after them
passed : (text written t : List ℕ) (last place line count ended hidden lines : ℕ) → (count ≡ 0 → ⊥) → WrittenReady text place count
    → written ≡ take (place + count - place) (drop place text) → ended ≡ newlines written → t ≡ take (length text - (place + count)) (drop (place + count) text)
    → ((last place line : ℕ) → shown last 0 place line t ≡ shown last 0 (place + hidden) (line + lines) (drop hidden t))
    → rest_of text (place + count + hidden) (line + ended + lines) (get_or text (place + count - 1) 0) ≡ from_place (place + count) (rest_of text place line last)
passed text written t last place line zero ended hidden lines some r is counted t_is same = absurd (some refl)
passed text written t last place line (suc n) ended hidden lines some r is counted t_is same =
    let c = get_or text (place + suc n - 1) 0 in
    let e : place + suc n - 1 ≡ place + n = omega arith in
    let k : place + suc n - place ≡ suc n = omega arith in
    let m : n ≡ suc n - 1 = omega arith in
    let c_is : get_or (drop place text) n 0 ≡ c = get_or-drop place text n 0 ∙ ap (λ k. get_or text k 0) (sym e) in
    let lines_is : newlines (take (suc n) (drop place text)) ≡ ended = ap (λ k. newlines (take k (drop place text))) (sym k) ∙ ap newlines (sym is) ∙ sym counted in
    let left_is : t ≡ drop (suc n) (drop place text) = t_is ∙ take_rest text (place + suc n) ∙ ap (λ k. drop k text) (omega arith) ∙ sym (drop-drop (suc n) place text) in
    let left : drop hidden t ≡ drop (place + suc n + hidden) text = ap (drop hidden) (t_is ∙ take_rest text (place + suc n)) ∙ drop-drop hidden (place + suc n) text in
    let shows : shows_itself (get_or (drop place text) n 0) ≡ true = ap (λ k. shows_itself (get_or (drop place text) k 0)) m ∙ r.plain in
    sym (from_written n last 0 place line (place + suc n) (drop place text) refl r.within shows
    ∙ ap (λ b. shown b 0 (place + suc n) (line + newlines (take (suc n) (drop place text))) (drop (suc n) (drop place text))) c_is
    ∙ ap (λ l. shown c 0 (place + suc n) (line + l) (drop (suc n) (drop place text))) lines_is
    ∙ ap (shown c 0 (place + suc n) (line + ended)) (sym left_is)
    ∙ same c (place + suc n) (line + ended)
    ∙ ap (shown c 0 (place + suc n + hidden) (line + ended + lines)) left)

pub passed_written : (text written t : List ℕ) (last place line count ended hidden lines : ℕ) → at_splice (drop place text) ≡ false → place ≤ length text → (count ≡ 0 → ⊥) → WrittenReady text place count
    → written ≡ take (place + count - place) (drop place text) → ended ≡ newlines written → t ≡ take (length text - (place + count)) (drop (place + count) text)
    → ((last place line : ℕ) → shown last 0 place line t ≡ shown last 0 (place + hidden) (line + lines) (drop hidden t))
    → rest_of text (place + count + hidden) (line + ended + lines) (get_or text (place + count - 1) 0) ≡ from_place (place_at text (rest_of text place line last) + count) (rest_of text place line last)
passed_written text written t last place line count ended hidden lines splice inside some r is counted t_is same =
    passed text written t last place line count ended hidden lines some r is counted t_is same
    ∙ ap (λ k. from_place (k + count) (rest_of text place line last)) (place_is text last place line splice inside)

pub written_ends : (text written t : List ℕ) (last place line count ended hidden lines : ℕ) → (count ≡ 0 → ⊥) → WrittenReady text place count
    → written ≡ take (place + count - place) (drop place text) → ended ≡ newlines written → t ≡ take (length text - (place + count)) (drop (place + count) text)
    → ((last place line : ℕ) → shown last 0 place line t ≡ shown last 0 (place + hidden) (line + lines) (drop hidden t))
    → at_splice (drop (place + count + hidden) text) ≡ false
    → last_line line (rest_of text place line last) ≡ last_line 1 (spliced text)
    → last_line (line + ended + lines) (rest_of text (place + count + hidden) (line + ended + lines) (get_or text (place + count - 1) 0)) ≡ last_line 1 (spliced text)
written_ends text written t last place line count ended hidden lines some r is counted t_is same splice ends =
    let l = line + ended + lines in
    let next = passed text written t last place line count ended hidden lines some r is counted t_is same in
    let at : place + (count - 1) ≡ place + count - 1 = omega (arith, some) in
    let shows : shows_itself (get_or text (place + count - 1) 0) ≡ true =
    ap (λ k. shows_itself (get_or text k 0)) (sym at) ∙ ap shows_itself (sym (get_or-drop place text (count - 1) 0)) ∙ r.plain in
    let left = some_left text (place + count + hidden) l (get_or text (place + count - 1) 0) splice shows in
    ap (last_line l) next ∙ sym (last_line-from (place + count) line l (rest_of text place line last) (λ z. left (next ∙ z))) ∙ ends

-- ## A step and a walk

pub went_on : (at : Cursor) (place count : ℕ) → count ≤ place - place_at (text_of at) (rest at)
    → from_place place (from_place (place_at (text_of at) (rest at) + count) (rest at)) ≡ from_place place (rest at)
unfolding rest
went_on at place count few =
    let text = at.text.now in
    let here = place_at text (rest_of text at.place at.line at.last) in
    let is = place_is text at.last at.place at.line at.shows at.within in
    elim (cases_lt place here) [
      | inl lt ↦ ap (from_place place) (from_here (here + count) at.last 0 at.place at.line (drop at.place text) (omega (arith, is, few, lt)))
      | inr le ↦ from_place-twice place (here + count) (rest_of text at.place at.line at.last) (omega (arith, few, le))
    ]
