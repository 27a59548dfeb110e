-- Bytes that show as they are written.
use Rattle.std.proofs.Common.{◌≡◌, ℕ, zero, suc, ◌+◌, ◌-◌, ◌<◌, ◌≤◌, true, false, ◌==◌, ◌||◌, List, [], ◌∷◌, refl, ap, sym, subst, ◌∙◌, take, drop, length, slice_index, get_or, length-drop, arith}
use Rattle.std.proofs.lemmas.Bool.{eq-eqb, ne_eqb, and_parts, or_parts, or_from, and_left, and_right, not-true}
use Rattle.std.proofs.lemmas.List.{drop-drop, get_or-drop, take_rest}
use Rattle.std.specs.List.{list_all}
use Rattle.scan_model.specs.Spliced.{Spot, shown, spliced, is_hidden, at_newline, place_at, last_line}
use Rattle.scan_model.specs.Tokens.{bytes}
use Rattle.line_splice.specs.Rest.{at_splice, rest_of, Shows}
use Rattle.line_splice.specs.declared.cursor.Cursor.{Cursor}
use Rattle.line_splice.specs.Cursor.{text_of, rest}
use Rattle.line_splice.specs.Plain.{shows_itself, BeginsPlain, ahead_of}
use Rattle.line_splice.proofs.ShownLemmas.{shown-before, front_byte, first_spot, place_is}

-- the tests on such a byte
pub record Plain (c : ℕ) : Type 0 where
  pub backslash : (c == 92) ≡ false
  pub cr : (c == 13) ≡ false
  pub lf : (c == 10) ≡ false

pub plain : (c : ℕ) → shows_itself c ≡ true → Plain c
plain c h =
    let all = or_parts (c == 92 || c == 13) (c == 10) (not-true (c == 92 || c == 13 || c == 10) h) in
    let two = or_parts (c == 92) (c == 13) all.0 in
    record { backslash = two.0; cr = two.1; lf = all.1 }

pub not_newline : (c : ℕ) (t : List ℕ) → Plain c → at_newline (c ∷ t) ≡ false
not_newline c t p = rw (p.lf, p.cr) refl

pub not_hidden : (before c : ℕ) (t : List ℕ) → Plain c → is_hidden before c t ≡ false
not_hidden before c t p =
    let nl = not_newline c t p in
    or_from _ _ (or_from _ _ (and_left (c == 92) (at_newline t) p.backslash) (and_right (before == 92) (at_newline (c ∷ t)) nl)) (and_right (before == 13) (c == 10) p.lf)

-- the first of a text shows first
pub front_plain : (last : ℕ) (t : List ℕ) → 0 < length t → shows_itself (slice_index t 0) ≡ true → Shows last t (get_or t 0 0) 1 0
front_plain last [] some h = absurd (omega arith)
front_plain last (c ∷ s) some h =
    let p = plain c h in
    front_byte last (c ∷ s) (and_left (c == 92) (at_newline s) p.backslash) (rw (p.lf, p.cr) refl) some

-- the first n spots are the first n bytes
pub written : (n last before place line : ℕ) (t : List ℕ) → n ≤ length t → list_all shows_itself (take n t) ≡ true → bytes (take n (shown last before place line t)) ≡ take n t
unfolding shown
written zero last before place line t le h = refl
written (suc n) last before place line [] le h = absurd (omega arith)
written (suc n) last before place line (c ∷ t) le h =
    let both = and_parts (shows_itself c) (list_all shows_itself (take n t)) h in
    let p = plain c both.0 in
    rw (not_hidden before c t p, not_newline c t p, p.lf) (ap (λ b. c ∷ b) (written n c c (place + 1) line t (omega arith) both.1))

-- and the others show as from there on
pub after_written : (n last before place line : ℕ) (t : List ℕ) → suc n ≤ length t → list_all shows_itself (take (suc n) t) ≡ true
    → drop (suc n) (shown last before place line t) ≡ shown (get_or t n 0) 0 (place + suc n) line (drop (suc n) t)
unfolding shown
after_written n last before place line [] le h = absurd (omega arith)
after_written zero last before place line (c ∷ t) le h =
    let both = and_parts (shows_itself c) true h in
    let p = plain c both.0 in
    rw (not_hidden before c t p, not_newline c t p, p.lf)
    (shown-before c c (place + 1) line t (and_left (c == 92) (at_newline t) p.backslash) (and_left (c == 13) (slice_index t 0 == 10) p.cr))
after_written (suc n) last before place line (c ∷ t) le h =
    let both = and_parts (shows_itself c) (list_all shows_itself (take (suc n) t)) h in
    let p = plain c both.0 in
    let e : place + 1 + suc n ≡ place + suc (suc n) = omega arith in
    rw (not_hidden before c t p, not_newline c t p, p.lf)
    (after_written n c c (place + 1) line t (omega arith) both.1 ∙ ap (λ k. shown (get_or t n 0) 0 k line (drop (suc n) t)) e)

-- the last of them
last_plain : (n : ℕ) (t : List ℕ) → suc n ≤ length t → list_all shows_itself (take (suc n) t) ≡ true → shows_itself (get_or t n 0) ≡ true
last_plain n [] le h = absurd (omega arith)
last_plain zero (c ∷ t) le h = (and_parts (shows_itself c) true h).0
last_plain (suc n) (c ∷ t) le h = last_plain n t (omega arith) (and_parts (shows_itself c) (list_all shows_itself (take (suc n) t)) h).1

-- ## The cursor's step

-- some such bytes lie from the place on
pub record Ready (text : List ℕ) (place count : ℕ) : Type 0 where
  pub within : count ≤ length (drop place text)
  pub plain : list_all shows_itself (take count (drop place text)) ≡ true

pub ready : (text : List ℕ) (last place line count : ℕ) → at_splice (drop place text) ≡ false → place ≤ length text
    → count ≤ length (ahead_of text (rest_of text place line last)) → list_all shows_itself (take count (ahead_of text (rest_of text place line last))) ≡ true
    → Ready text place count
ready text last place line count splice inside within all =
    let e : place_at text (rest_of text place line last) ≡ place = sym (place_is text last place line splice inside) in
    subst (λ p. Ready text p count) e (record { within = within; plain = all })

pub ready_len : (text : List ℕ) (place count : ℕ) → place ≤ length text → Ready text place count → place + count ≤ length text
ready_len text place count inside r = let w = r.within in omega (arith, w, length-drop place text)

pub written_here : (text : List ℕ) (last place line count : ℕ) → at_splice (drop place text) ≡ false → place ≤ length text → Ready text place count
    → bytes (take count (rest_of text place line last)) ≡ take count (ahead_of text (rest_of text place line last))
written_here text last place line count splice inside r =
    written count last 0 place line (drop place text) r.within r.plain ∙ ap (λ p. take count (drop p text)) (place_is text last place line splice inside)

-- what shows after them
pub passed_plain : (text t : List ℕ) (last place line count hidden lines : ℕ) → (count ≡ 0 → ⊥) → Ready text place count
    → t ≡ take (length text - (place + count)) (drop (place + count) text)
    → ((last place line : ℕ) → shown last 0 place line t ≡ shown last 0 (place + hidden) (line + lines) (drop hidden t))
    → rest_of text (place + count + hidden) (line + lines) (get_or text (place + count - 1) 0) ≡ drop count (rest_of text place line last)
passed_plain text t last place line zero hidden lines some r is same = absurd (some refl)
passed_plain text t last place line (suc n) hidden lines some r is same =
    let c = get_or text (place + suc n - 1) 0 in
    let e : place + suc n - 1 ≡ place + n = omega arith in
    let c_is : get_or (drop place text) n 0 ≡ c = get_or-drop place text n 0 ∙ ap (λ k. get_or text k 0) (sym e) in
    let t_is : t ≡ drop (suc n) (drop place text) = is ∙ take_rest text (place + suc n) ∙ ap (λ k. drop k text) (omega arith) ∙ sym (drop-drop (suc n) place text) in
    let left : drop hidden t ≡ drop (place + suc n + hidden) text = ap (drop hidden) (is ∙ take_rest text (place + suc n)) ∙ drop-drop hidden (place + suc n) text in
    sym (after_written n last 0 place line (drop place text) r.within r.plain
    ∙ ap (λ b. shown b 0 (place + suc n) line (drop (suc n) (drop place text))) c_is
    ∙ ap (shown c 0 (place + suc n) line) (sym t_is)
    ∙ same c (place + suc n) line
    ∙ ap (shown c 0 (place + suc n + hidden) (line + lines)) left)

pub passed_shows : (text t : List ℕ) (place count hidden : ℕ) → t ≡ take (length text - (place + count)) (drop (place + count) text)
    → at_splice (drop hidden t) ≡ false → at_splice (drop (place + count + hidden) text) ≡ false
passed_shows text t place count hidden is splice =
    ap at_splice (sym (ap (drop hidden) (is ∙ take_rest text (place + count)) ∙ drop-drop hidden (place + count) text)) ∙ splice

-- the last line is that of the last spot, if one is left
pub last_line-drop : (n line line' : ℕ) (s : List Spot) → (drop n s ≡ [] → ⊥) → last_line line s ≡ last_line line' (drop n s)
last_line-drop zero line line' [] some = absurd (some refl)
last_line-drop zero line line' (x ∷ s) some = refl
last_line-drop (suc n) line line' [] some = absurd (some refl)
last_line-drop (suc n) line line' (x ∷ s) some = last_line-drop n x.line line' s some

-- after a byte that is no newline one is still to show
pub some_left : (text : List ℕ) (place line last : ℕ) → at_splice (drop place text) ≡ false → shows_itself last ≡ true → rest_of text place line last ≡ [] → ⊥
some_left text place line last splice h = first_spot (λ r. r ≡ [] → ⊥) last place line (drop place text) splice
    (λ f lf z. let p = plain last h in let no : true ≡ false = sym (eq-eqb last 10 lf) ∙ p.lf in cc) (λ b r z. cc)

pub passed_ends : (text t : List ℕ) (last place line count hidden lines : ℕ) → (count ≡ 0 → ⊥) → Ready text place count
    → t ≡ take (length text - (place + count)) (drop (place + count) text)
    → ((last place line : ℕ) → shown last 0 place line t ≡ shown last 0 (place + hidden) (line + lines) (drop hidden t))
    → at_splice (drop hidden t) ≡ false
    → last_line line (rest_of text place line last) ≡ last_line 1 (spliced text)
    → last_line (line + lines) (rest_of text (place + count + hidden) (line + lines) (get_or text (place + count - 1) 0)) ≡ last_line 1 (spliced text)
passed_ends text t last place line zero hidden lines some r is same splice ends = absurd (some refl)
passed_ends text t last place line (suc n) hidden lines some r is same splice ends =
    let c = get_or text (place + suc n - 1) 0 in
    let e : place + suc n - 1 ≡ place + n = omega arith in
    let c_is : get_or (drop place text) n 0 ≡ c = get_or-drop place text n 0 ∙ ap (λ k. get_or text k 0) (sym e) in
    let c_plain : shows_itself c ≡ true = ap shows_itself (sym c_is) ∙ last_plain n (drop place text) r.within r.plain in
    let next = passed_plain text t last place line (suc n) hidden lines some r is same in
    let left = some_left text (place + suc n + hidden) (line + lines) c (passed_shows text t place (suc n) hidden is splice) c_plain in
    ap (last_line (line + lines)) next ∙ sym (last_line-drop (suc n) line (line + lines) (rest_of text place line last) (λ z. left (next ∙ z))) ∙ ends

-- what a cursor shows of the bytes ahead
pub written_ahead : (at : Cursor) (n : ℕ) → n ≤ length (ahead_of (text_of at) (rest at)) → list_all shows_itself (take n (ahead_of (text_of at) (rest at))) ≡ true
    → bytes (take n (rest at)) ≡ take n (ahead_of (text_of at) (rest at))
unfolding rest
written_ahead at n within all = let text = at.text.now in
    written_here text at.last at.place at.line n at.shows at.within (ready text at.last at.place at.line n at.shows at.within within all)

-- ## One byte

-- what shows after the first byte, and that no splice follows it
pub record PassesOne (text : List ℕ) (last place line : ℕ) : Type 0 where
  pub shows : at_splice (drop (place + 1) text) ≡ false
  pub rest : rest_of text (place + 1) line (get_or text place 0) ≡ drop 1 (rest_of text place line last)
  pub plain : shows_itself (get_or text place 0) ≡ true

pub passes_one : (text : List ℕ) (last place line : ℕ) → BeginsPlain (drop place text) → PassesOne text last place line
passes_one text last place line b =
    let t = drop place text in
    let first : get_or t 0 0 ≡ get_or text place 0 = get_or-drop place text 0 0 ∙ ap (λ k. get_or text k 0) (omega arith) in
    let next : drop 1 t ≡ drop (place + 1) text = drop-drop 1 place text ∙ ap (λ k. drop k text) (omega arith) in
    let some : 0 < length t = omega (arith, b.some) in
    record {
      shows = ap at_splice (sym next) ∙ no_splice t b.next;
      rest = sym (after_written 0 last 0 place line t some (one t some b.plain) ∙ ap (λ c. shown c 0 (place + 1) line (drop 1 t)) first
          ∙ ap (shown (get_or text place 0) 0 (place + 1) line) next);
      plain = ap shows_itself (sym first) ∙ b.plain;
    }
  where
    one : (t : List ℕ) → 0 < length t → shows_itself (slice_index t 0) ≡ true → list_all shows_itself (take 1 t) ≡ true
    one [] some h = absurd (omega arith)
    one (c ∷ t) some h = rw h refl

    no_splice : (t : List ℕ) → (slice_index t 1 ≡ 92 → ⊥) → at_splice (drop 1 t) ≡ false
    no_splice [] next = refl
    no_splice (c ∷ t) next = and_left (slice_index t 0 == 92) (at_newline (drop 1 t)) (ne_eqb (slice_index t 0) 92 next)

pub one_ends : (text : List ℕ) (last place line : ℕ) → PassesOne text last place line → last_line line (rest_of text place line last) ≡ last_line 1 (spliced text)
    → last_line line (rest_of text (place + 1) line (get_or text place 0)) ≡ last_line 1 (spliced text)
one_ends text last place line p ends =
    let left = some_left text (place + 1) line (get_or text place 0) p.shows p.plain in
    ap (last_line line) p.rest ∙ sym (last_line-drop 1 line line (rest_of text place line last) (λ z. left (p.rest ∙ z))) ∙ ends
