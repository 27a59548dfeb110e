-- The physical lines of the bytes that show.
use Rattle.std.proofs.Common.{◌≡◌, ℕ, zero, suc, ◌+◌, ◌≤◌, Bool, true, false, cond, ◌==◌, ◌&&◌, List, [], ◌∷◌, All, refl, inl, inr, drop, length, length-drop, slice_index, arith}
use Rattle.std.proofs.lemmas.Bool.{cases_Bool, cond_both, eqb-true, or_cases, and_parts}
use Rattle.std.proofs.lemmas.List.Elements.{All-nil, All-cons, All-head, All-tail, All-drop, All-weaker}
use Rattle.scan_model.specs.Spliced.{Spot, at_newline, is_hidden, shown, mark_len, spliced, last_line, line_at}

-- none stands on an earlier line
abbrev AtLeast : ℕ → List Spot → Type 0
AtLeast line s = All (λ (y : Spot). line ≤ y.line) s

at_least_more : (line more : ℕ) (s : List Spot) → line ≤ more → AtLeast more s → AtLeast line s
at_least_more line more s h all = All-weaker (λ (y : Spot). more ≤ y.line) (λ (y : Spot). line ≤ y.line) (λ y k. omega (arith, k)) s all

below_of : (c line : ℕ) → line ≤ cond (c == 10) (line + 1) line
below_of c line = cond_both (c == 10) (line + 1) line (λ b. line ≤ b) (λ e. omega arith) (λ e. omega arith)

at_least : (last before place line : ℕ) (t : List ℕ) → AtLeast line (shown last before place line t)
unfolding shown
at_least last before place line [] =
    cond_both (last == 10) [] (record { byte = 10; place = place; line = line } ∷ []) (AtLeast line) (λ e. All-nil _) (λ e. All-cons (λ (y : Spot). line ≤ y.line) _ [] (omega arith) (All-nil _))
at_least last before place line (c ∷ after) =
    let byte = cond (at_newline (c ∷ after)) 10 c in
    let below = cond (c == 10) (line + 1) line in
    let low = below_of c line in
    cond_both (is_hidden before c after) (shown last c (place + 1) below after) (record { byte = byte; place = place; line = line } ∷ shown byte c (place + 1) below after) (AtLeast line)
    (λ e. at_least_more line below _ low (at_least last c (place + 1) below after))
    (λ e. All-cons (λ (y : Spot). line ≤ y.line) _ _ (omega arith) (at_least_more line below _ low (at_least byte c (place + 1) below after)))

-- the lines never fall, and rise after a newline
abbrev pub Rising : List Spot → Type 0
Rising [] = Unit {0}
Rising (x ∷ xs) = All (λ (y : Spot). x.line ≤ y.line) xs × ((x.byte == 10) ≡ true → All (λ (y : Spot). x.line + 1 ≤ y.line) xs) × Rising xs

-- after CR LF comes the next line
after_cr : (place line : ℕ) (after : List ℕ) → slice_index after 0 ≡ 10 → AtLeast (line + 1) (shown 10 13 place line after)
unfolding shown
after_cr place line [] h = cc
after_cr place line (d ∷ after) h = let lf : d ≡ 10 = h in rw lf (at_least 10 10 (place + 1) (line + 1) after)

cr_is : (byte c place below line : ℕ) (after : List ℕ) → byte ≡ 10 → c ≡ 13 → below ≡ line → slice_index after 0 ≡ 10 → AtLeast (line + 1) (shown byte c place below after)
cr_is byte c place below line after p q r h = rw (p, q, r) (after_cr place line after h)

no_newline : (c : ℕ) (newline : Bool) → (cond newline 10 c == 10) ≡ true → (c == 10) ≡ false → newline ≡ true
no_newline c true h e = refl
no_newline c false h e = cc

-- after a newline comes the next line
after_newline : (c place line : ℕ) (after : List ℕ) → (cond (at_newline (c ∷ after)) 10 c == 10) ≡ true
    → AtLeast (line + 1) (shown (cond (at_newline (c ∷ after)) 10 c) c place (cond (c == 10) (line + 1) line) after)
after_newline c place line after h = elim (cases_Bool (c == 10)) [
  | inl lf ↦ let more : line + 1 ≤ cond (c == 10) (line + 1) line = rw lf (omega arith) in
      at_least_more (line + 1) (cond (c == 10) (line + 1) line) _ more (at_least (cond (at_newline (c ∷ after)) 10 c) c place (cond (c == 10) (line + 1) line) after)
  | inr other ↦
      let newline = no_newline c (at_newline (c ∷ after)) h other in
      let cr = elim (or_cases (c == 10) (c == 13 && slice_index after 0 == 10) newline) as (λ _. (c == 13 && slice_index after 0 == 10) ≡ true) [ inl lf ↦ cc | inr cr ↦ cr ] in
      let both = and_parts (c == 13) (slice_index after 0 == 10) cr in
      cr_is (cond (at_newline (c ∷ after)) 10 c) c place (cond (c == 10) (line + 1) line) line after (rw newline refl) (eqb-true c 13 both.0) (rw other refl) (eqb-true (slice_index after 0) 10 both.1)
]

rising : (last before place line : ℕ) (t : List ℕ) → Rising (shown last before place line t)
unfolding shown
rising last before place line [] = cond_both (last == 10) [] (record { byte = 10; place = place; line = line } ∷ []) Rising (λ e. tt) (λ e. (All-nil _, λ lf. All-nil _, tt))
rising last before place line (c ∷ after) =
    let byte = cond (at_newline (c ∷ after)) 10 c in
    let below = cond (c == 10) (line + 1) line in
    cond_both (is_hidden before c after) (shown last c (place + 1) below after) (record { byte = byte; place = place; line = line } ∷ shown byte c (place + 1) below after) Rising
    (λ e. rising last c (place + 1) below after)
    (λ e. (
      at_least_more line below _ (below_of c line) (at_least byte c (place + 1) below after),
      λ lf. after_newline c (place + 1) line after lf,
      rising byte c (place + 1) below after,
    ))

pub Rising-drop : (n : ℕ) (s : List Spot) → Rising s → Rising (drop n s)
Rising-drop zero s h = h
Rising-drop (suc n) [] h = h
Rising-drop (suc n) (x ∷ s) h = Rising-drop n s h.2

-- a text has at most one line more than bytes
at_most : (last before place line : ℕ) (t : List ℕ) → All (λ (y : Spot). y.line ≤ line + length t) (shown last before place line t)
unfolding shown
at_most last before place line [] =
    cond_both (last == 10) [] (record { byte = 10; place = place; line = line } ∷ []) (λ s. All (λ (y : Spot). y.line ≤ line + 0) s)
    (λ e. All-nil _) (λ e. All-cons (λ (y : Spot). y.line ≤ line + 0) _ [] (omega arith) (All-nil _))
at_most last before place line (c ∷ after) =
    let byte = cond (at_newline (c ∷ after)) 10 c in
    let below = cond (c == 10) (line + 1) line in
    let few : below ≤ line + 1 = cond_both (c == 10) (line + 1) line (λ b. b ≤ line + 1) (λ e. omega arith) (λ e. omega arith) in
    let weaker = All-weaker (λ (y : Spot). y.line ≤ below + length after) (λ (y : Spot). y.line ≤ line + length (c ∷ after)) (λ y k. omega (arith, k, few)) in
    cond_both (is_hidden before c after) (shown last c (place + 1) below after) (record { byte = byte; place = place; line = line } ∷ shown byte c (place + 1) below after)
    (λ s. All (λ (y : Spot). y.line ≤ line + length (c ∷ after)) s)
    (λ e. weaker _ (at_most last c (place + 1) below after))
    (λ e. All-cons (λ (y : Spot). y.line ≤ line + length (c ∷ after)) _ _ (omega arith) (weaker _ (at_most byte c (place + 1) below after)))

length-shown : (last before place line : ℕ) (t : List ℕ) → length (shown last before place line t) ≤ length t + 1
unfolding shown
length-shown last before place line [] = cond_both (last == 10) [] (record { byte = 10; place = place; line = line } ∷ []) (λ s. length s ≤ 1) (λ e. omega arith) (λ e. omega arith)
length-shown last before place line (c ∷ after) =
    let byte = cond (at_newline (c ∷ after)) 10 c in
    let below = cond (c == 10) (line + 1) line in
    let one = length-shown last c (place + 1) below after in
    let two = length-shown byte c (place + 1) below after in
    cond_both (is_hidden before c after) (shown last c (place + 1) below after) (record { byte = byte; place = place; line = line } ∷ shown byte c (place + 1) below after)
    (λ s. length s ≤ length (c ∷ after) + 1) (λ e. omega (arith, one)) (λ e. omega (arith, two))

pub length-spliced : (text : List ℕ) → length (spliced text) ≤ length text + 1
unfolding spliced
length-spliced text = let k = length-shown 0 0 (mark_len text) 1 (drop (mark_len text) text) in omega (arith, k, length-drop (mark_len text) text)

-- ## The last line

last_line-least : (line : ℕ) (s : List Spot) → All (λ (y : Spot). line ≤ y.line) s → Rising s → (line ≤ last_line line s) × All (λ (y : Spot). y.line ≤ last_line line s) s
last_line-least line [] low r = (omega arith, All-nil _)
last_line-least line (x ∷ s) low r =
    let more = last_line-least x.line s r.0 r.2 in
    let here = All-head (λ (y : Spot). line ≤ y.line) x s low in
    (omega (arith, here, more.0), All-cons (λ (y : Spot). y.line ≤ last_line x.line s) x s more.0 more.1)

last_line-most : (line most : ℕ) (s : List Spot) → line ≤ most → All (λ (y : Spot). y.line ≤ most) s → last_line line s ≤ most
last_line-most line most [] h all = h
last_line-most line most (x ∷ s) h all = last_line-most x.line most s (All-head (λ (y : Spot). y.line ≤ most) x s all) (All-tail (λ (y : Spot). y.line ≤ most) x s all)

-- what is left of a text: its lines rise, up to the last
pub record Fits (last : ℕ) (s : List Spot) : Type 0 where
  pub rises : Rising s
  pub below : All (λ (y : Spot). y.line ≤ last) s

pub Fits-drop : (last n : ℕ) (s : List Spot) → Fits last s → Fits last (drop n s)
Fits-drop last n s h = record { rises = Rising-drop n s h.rises; below = All-drop (λ (y : Spot). y.line ≤ last) n s h.below }

pub spliced_fits : (text : List ℕ) → Fits (line_at text []) (spliced text)
unfolding spliced
spliced_fits text =
    let r = rising 0 0 (mark_len text) 1 (drop (mark_len text) text) in
    record { rises = r; below = (last_line-least 1 (spliced text) (at_least 0 0 (mark_len text) 1 (drop (mark_len text) text)) r).1 }

pub spliced_from_one : (text : List ℕ) → All (λ (y : Spot). 1 ≤ y.line) (spliced text)
unfolding spliced
spliced_from_one text = at_least 0 0 (mark_len text) 1 (drop (mark_len text) text)

pub last_line-spliced : (text : List ℕ) → line_at text [] ≤ length text + 1
unfolding spliced
last_line-spliced text =
    let rest = drop (mark_len text) text in
    let few = length-drop (mark_len text) text in
    last_line-most 1 (length text + 1) (spliced text) (omega arith)
    (All-weaker (λ (y : Spot). y.line ≤ 1 + length rest) (λ (y : Spot). y.line ≤ length text + 1) (λ y k. omega (arith, k, few)) (spliced text) (at_most 0 0 (mark_len text) 1 rest))
