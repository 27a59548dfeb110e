-- Lines that show as they are written.
use Rattle.std.proofs.Common.{◌≡◌, ℕ, zero, suc, ◌+◌, ◌-◌, ◌<◌, ◌≤◌, Bool, true, false, ◌==◌, ◌||◌, cond, List, [], ◌∷◌, refl, ap, sym, subst, ◌∙◌, inl, inr, take, drop, length, slice_index, get_or, length-drop, arith}
use Rattle.std.proofs.lemmas.Bool.{cases_Bool, ne_eqb, eqb-true, and_parts, or_parts, or_from, and_left, not-true}
use Rattle.std.proofs.lemmas.List.Sums.{sum_by-cons}
use Rattle.std.proofs.lemmas.List.{drop-drop, get_or-drop}
use Rattle.std.specs.List.{list_all}
use Rattle.scan_model.specs.Spliced.{shown, spliced, is_hidden, at_newline, place_at, last_line}
use Rattle.scan_model.specs.Tokens.{bytes}
use Rattle.line_splice.specs.Rest.{at_splice, rest_of}
use Rattle.line_splice.specs.Plain.{shows_or_ends, newlines, ahead_of}
use Rattle.line_splice.proofs.ShownLemmas.{shown-before, first_spot, place_is}
use Rattle.line_splice.proofs.PlainLemmas.{last_line-drop}

-- ## One byte

-- neither a backslash nor CR
record Unspliced (c : ℕ) : Type 0 where
  backslash : (c == 92) ≡ false
  cr : (c == 13) ≡ false

unspliced : (c : ℕ) → shows_or_ends c ≡ true → Unspliced c
unspliced c h = let both = or_parts (c == 92) (c == 13) (not-true (c == 92 || c == 13) h) in record { backslash = both.0; cr = both.1 }

not_hidden : (before c : ℕ) (t : List ℕ) → Unspliced before → Unspliced c → is_hidden before c t ≡ false
not_hidden before c t b u =
    or_from _ _ (or_from _ _ (and_left (c == 92) (at_newline t) u.backslash) (and_left (before == 92) (at_newline (c ∷ t)) b.backslash)) (and_left (before == 13) (c == 10) b.cr)

-- it shows as itself
byte_is : (c : ℕ) (t : List ℕ) → Unspliced c → cond (at_newline (c ∷ t)) 10 c ≡ c
byte_is c t u = elim (cases_Bool (c == 10)) [
  | inl lf ↦ rw lf (sym (eqb-true c 10 lf))
  | inr other ↦ rw (other, u.cr) refl
]

shows_first : (last before place line c : ℕ) (t : List ℕ) → Unspliced before → Unspliced c
    → shown last before place line (c ∷ t) ≡ record { byte = c; place = place; line = line } ∷ shown c c (place + 1) (cond (c == 10) (line + 1) line) t
unfolding shown
shows_first last before place line c t b u =
    rw (not_hidden before c t b u) (ap (λ byte. record { byte = byte; place = place; line = line } ∷ shown byte c (place + 1) (cond (c == 10) (line + 1) line) t) (byte_is c t u))

-- ## Several

-- the first n spots are the first n bytes
lines_written : (n last before place line : ℕ) (t : List ℕ) → Unspliced before → n ≤ length t → list_all shows_or_ends (take n t) ≡ true
    → bytes (take n (shown last before place line t)) ≡ take n t
lines_written zero last before place line t b le h = refl
lines_written (suc n) last before place line [] b le h = absurd (omega arith)
lines_written (suc n) last before place line (c ∷ t) b le h =
    let both = and_parts (shows_or_ends c) (list_all shows_or_ends (take n t)) h in
    let u = unspliced c both.0 in
    ap (λ s. bytes (take (suc n) s)) (shows_first last before place line c t b u)
    ∙ ap (λ s. c ∷ s) (lines_written n c c (place + 1) (cond (c == 10) (line + 1) line) t u (omega arith) both.1)

pub line_more : (c line : ℕ) (t : List ℕ) → cond (c == 10) (line + 1) line + newlines t ≡ line + newlines (c ∷ t)
line_more c line t = by (c == 10) ∙ ap (λ n. line + n) (sym (sum_by-cons (λ x. cond (x == 10) 1 0) c t)) where
  by : (b : Bool) → cond b (line + 1) line + newlines t ≡ line + (cond b 1 0 + newlines t)
  by true = omega arith
  by false = omega arith

-- and the others show as from there on
lines_after : (n last before place line : ℕ) (t : List ℕ) → Unspliced before → suc n ≤ length t → list_all shows_or_ends (take (suc n) t) ≡ true
    → drop (suc n) (shown last before place line t) ≡ shown (get_or t n 0) 0 (place + suc n) (line + newlines (take (suc n) t)) (drop (suc n) t)
lines_after n last before place line [] b le h = absurd (omega arith)
lines_after zero last before place line (c ∷ t) b le h =
    let u = unspliced c (and_parts (shows_or_ends c) true h).0 in
    let e : cond (c == 10) (line + 1) line ≡ line + newlines (c ∷ []) = omega (arith, line_more c line []) in
    ap (drop 1) (shows_first last before place line c t b u)
    ∙ shown-before c c (place + 1) (cond (c == 10) (line + 1) line) t (and_left (c == 92) (at_newline t) u.backslash) (and_left (c == 13) (slice_index t 0 == 10) u.cr)
    ∙ ap (λ l. shown c 0 (place + 1) l t) e
lines_after (suc n) last before place line (c ∷ t) b le h =
    let both = and_parts (shows_or_ends c) (list_all shows_or_ends (take (suc n) t)) h in
    let u = unspliced c both.0 in
    let e : place + 1 + suc n ≡ place + suc (suc n) = omega arith in
    ap (drop (suc (suc n))) (shows_first last before place line c t b u)
    ∙ lines_after n c c (place + 1) (cond (c == 10) (line + 1) line) t u (omega arith) both.1
    ∙ ap (λ k. shown (get_or t n 0) 0 k (cond (c == 10) (line + 1) line + newlines (take (suc n) t)) (drop (suc n) t)) e
    ∙ ap (λ l. shown (get_or t n 0) 0 (place + suc (suc n)) l (drop (suc n) t)) (line_more c line (take (suc n) t))

-- ## The cursor's step

-- such bytes lie from the place on, and no backslash follows them
pub record LinesReady (text : List ℕ) (place count : ℕ) : Type 0 where
  pub within : count < length (drop place text)
  pub all : list_all shows_or_ends (take count (drop place text)) ≡ true
  pub next : slice_index (drop place text) count ≡ 92 → ⊥

pub lines_ready : (text : List ℕ) (last place line count : ℕ) → at_splice (drop place text) ≡ false → place ≤ length text
    → count < length (ahead_of text (rest_of text place line last)) → list_all shows_or_ends (take count (ahead_of text (rest_of text place line last))) ≡ true
    → (slice_index (ahead_of text (rest_of text place line last)) count ≡ 92 → ⊥) → LinesReady text place count
lines_ready text last place line count splice inside within all next =
    let e : place_at text (rest_of text place line last) ≡ place = sym (place_is text last place line splice inside) in
    subst (λ p. LinesReady text p count) e (record { within = within; all = all; next = next })

pub lines_len : (text : List ℕ) (place count : ℕ) → place ≤ length text → LinesReady text place count → place + count < length text
lines_len text place count inside r = let w = r.within in omega (arith, w, length-drop place text)

none_before : Unspliced 0
none_before = record { backslash = refl; cr = refl }

pub lines_here : (text : List ℕ) (last place line count : ℕ) → at_splice (drop place text) ≡ false → place ≤ length text → LinesReady text place count
    → bytes (take count (rest_of text place line last)) ≡ take count (ahead_of text (rest_of text place line last))
lines_here text last place line count splice inside r =
    let w = r.within in
    lines_written count last 0 place line (drop place text) none_before (omega (arith, w)) r.all ∙ ap (λ p. take count (drop p text)) (place_is text last place line splice inside)

-- what shows after them
pub passed_lines : (text written : List ℕ) (last place line count lines : ℕ) → (count ≡ 0 → ⊥) → LinesReady text place count
    → written ≡ take (place + count - place) (drop place text) → lines ≡ newlines written
    → rest_of text (place + count) (line + lines) (get_or text (place + count - 1) 0) ≡ drop count (rest_of text place line last)
passed_lines text written last place line zero lines some r is counted = absurd (some refl)
passed_lines text written last place line (suc n) lines some r is counted =
    let w = r.within in
    let e : place + suc n - 1 ≡ place + n = omega arith in
    let k : place + suc n - place ≡ suc n = omega arith in
    let c_is : get_or (drop place text) n 0 ≡ get_or text (place + suc n - 1) 0 = get_or-drop place text n 0 ∙ ap (λ k. get_or text k 0) (sym e) in
    let lines_is : newlines (take (suc n) (drop place text)) ≡ lines = ap (λ k. newlines (take k (drop place text))) (sym k) ∙ ap newlines (sym is) ∙ sym counted in
    let left : drop (suc n) (drop place text) ≡ drop (place + suc n) text = drop-drop (suc n) place text ∙ ap (λ k. drop k text) (omega arith) in
    sym (lines_after n last 0 place line (drop place text) none_before (omega (arith, w)) r.all
    ∙ ap (λ b. shown b 0 (place + suc n) (line + newlines (take (suc n) (drop place text))) (drop (suc n) (drop place text))) c_is
    ∙ ap (λ l. shown (get_or text (place + suc n - 1) 0) 0 (place + suc n) (line + l) (drop (suc n) (drop place text))) lines_is
    ∙ ap (shown (get_or text (place + suc n - 1) 0) 0 (place + suc n) (line + lines)) left)

pub lines_show : (text : List ℕ) (place count : ℕ) → LinesReady text place count → at_splice (drop (place + count) text) ≡ false
lines_show text place count r =
    and_left (slice_index (drop (place + count) text) 0 == 92) (at_newline (drop 1 (drop (place + count) text)))
    (ne_eqb (slice_index (drop (place + count) text) 0) 92 (λ e. r.next (get_or-drop place text count 0 ∙ ap (λ k. get_or text k 0) (omega arith) ∙ sym (get_or-drop (place + count) text 0 0) ∙ e)))

-- a byte is left
lines_left : (text : List ℕ) (place line count last : ℕ) → place ≤ length text → LinesReady text place count → rest_of text (place + count) line last ≡ [] → ⊥
lines_left text place line count last inside r = first_spot (λ s. s ≡ [] → ⊥) last (place + count) line (drop (place + count) text) (lines_show text place count r)
    (λ f lf z. let k : length (drop (place + count) text) ≡ 0 = ap length f in omega (arith, k, lines_len text place count inside r, length-drop (place + count) text))
    (λ b s z. cc)

pub lines_end : (text written : List ℕ) (last place line count lines : ℕ) → (count ≡ 0 → ⊥) → place ≤ length text → LinesReady text place count
    → written ≡ take (place + count - place) (drop place text) → lines ≡ newlines written
    → last_line line (rest_of text place line last) ≡ last_line 1 (spliced text)
    → last_line (line + lines) (rest_of text (place + count) (line + lines) (get_or text (place + count - 1) 0)) ≡ last_line 1 (spliced text)
lines_end text written last place line count lines some inside r is counted ends =
    let next = passed_lines text written last place line count lines some r is counted in
    let left = lines_left text place (line + lines) count (get_or text (place + count - 1) 0) inside r in
    ap (last_line (line + lines)) next ∙ sym (last_line-drop count line (line + lines) (rest_of text place line last) (λ z. left (next ∙ z))) ∙ ends
