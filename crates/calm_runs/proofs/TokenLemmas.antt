-- The tokens of a run.
use Rattle.std.proofs.Common.{◌≡◌, ℕ, zero, suc, ◌<◌, ◌≤◌, true, false, cond, ◌&&◌, ◌==◌, nat_lt, if◌then◌else◌, List, [], ◌∷◌, ◌++◌, refl, ap, sym, ◌∙◌, subst, inl, inr, ◌⊎◌, take, drop, length, length-take, length-drop, Some, None, arith}
use Rattle.std.proofs.lemmas.Bool.{cond_both, cases_Bool, and_parts, and_left, ltb-true, eq-eqb}
use Rattle.std.proofs.lemmas.List.{drop-map, drop-drop, drop-append-le, take-append-drop}
use Rattle.scan_model.specs.declared.token.Kind.TheVariants.{Stray, Punct, Header}
use Rattle.scan_model.specs.declared.token.Tok.{Tok}
use Rattle.scan_model.specs.Spliced.{Spot, byte_at}
use Rattle.scan_model.specs.Spelling.{first, is_blank, opens_raw, longest, is_header}
use Rattle.scan_model.specs.Tokens.{Lexeme, bytes, next_blank, is_token, is_character, kind_of, cut, wants_header, rest_of_line, is_open, is_lone_less, raw_lexeme, lexeme, token_at, next_token}
use Rattle.std.specs.List.{list_all}
use Rattle.scan_model.proofs.LexemeCases.{lexeme_cases, stray_len}
use Rattle.scan_model.proofs.LongestLemmas.{longest_le}
use Rattle.scan_model.proofs.BlankLemmas.{after_blanks-none}
use Rattle.calm_runs.specs.Runs.{is_calm, is_run, PassesOne, PassesCount, PassesRun}
use Rattle.calm_runs.proofs.ByteLemmas.{calm_facts, run_tail, run_drop, opens_raw_none, not_open, calm_opens_raw, calm_closed, token_within, character_within}

-- ## The line

line_of_run : (w v : List ℕ) → is_run w ≡ true → rest_of_line (w ++ v) ≡ w ++ rest_of_line v
unfolding rest_of_line
line_of_run [] v h = refl
line_of_run (c ∷ w) v h = let both = run_tail c w h in rw ((calm_facts c both.0).newline, line_of_run w v both.1) refl

line_of_calm : (w v : List ℕ) → list_all is_calm w ≡ true → first v ≡ 10 → rest_of_line (w ++ v) ≡ w
unfolding rest_of_line
line_of_calm [] [] all newline = refl
line_of_calm [] (c ∷ v) all newline = rw (eq-eqb c 10 newline) refl
line_of_calm (c ∷ w) v all newline =
    let both = and_parts (is_calm c) (list_all is_calm w) all in rw ((calm_facts c both.0).newline, line_of_calm w v both.1 newline) refl

-- ## Where tokens end

-- no token that begins in the first bytes goes past them: they are a run, or calm and a newline follows
abbrev pub Ends : List ℕ → List ℕ → Type 0
Ends w v = (is_run w ≡ true) ⊎ ((list_all is_calm w ≡ true) × (first v ≡ 10))

ends_calm : (c : ℕ) (w v : List ℕ) → Ends (c ∷ w) v → is_calm c ≡ true
ends_calm c w v (inl h) = (run_tail c w h).0
ends_calm c w v (inr h) = (and_parts (is_calm c) (list_all is_calm w) h.0).0

ends_drop : (m : ℕ) (w v : List ℕ) → Ends w v → Ends (drop m w) v
ends_drop m w v (inl h) = inl (run_drop m w h)
ends_drop m w v (inr h) = inr (all_drop m w h.0, h.1) where
  all_drop : (m : ℕ) (w : List ℕ) → list_all is_calm w ≡ true → list_all is_calm (drop m w) ≡ true
  all_drop zero w h = h
  all_drop (suc m) [] h = h
  all_drop (suc m) (c ∷ w) h = all_drop m w (and_parts (is_calm c) (list_all is_calm w) h).1

-- what that tells of the line
record Within (line : List ℕ) (n : ℕ) : Type 0 where
  raw : opens_raw line ≡ false
  closed : is_open line ≡ false
  few : longest is_token line ≤ n
  small : longest is_character line ≤ 1

line_within : (c : ℕ) (w v : List ℕ) → Ends (c ∷ w) v → Within (rest_of_line ((c ∷ w) ++ v)) (length (c ∷ w))
line_within c w v (inl h) = subst (λ b. Within b (length (c ∷ w))) (sym (line_of_run (c ∷ w) v h)) (record {
  raw = opens_raw_none (c ∷ w) (rest_of_line v) h (omega arith);
  closed = not_open (c ∷ w) (rest_of_line v) h (omega arith);
  few = token_within (c ∷ w) (rest_of_line v) h (omega arith);
  small = character_within c (w ++ rest_of_line v) (calm_facts c (run_tail c w h).0).small;
})
line_within c w v (inr h) = subst (λ b. Within b (length (c ∷ w))) (sym (line_of_calm (c ∷ w) v h.0 h.1)) (record {
  raw = calm_opens_raw (c ∷ w) h.0;
  closed = calm_closed (c ∷ w) h.0;
  few = longest_le is_token (c ∷ w);
  small = character_within c w (calm_facts c (and_parts (is_calm c) (list_all is_calm w) h.0).0).small;
})

-- ## One token

-- some of the next n spots are taken
abbrev Takes : ℕ → List Spot → Lexeme → Type 0
Takes n s l = (m : ℕ) × (0 < m) × (m ≤ n) × (l.left ≡ drop m s)

lexeme_within : (text : List ℕ) (before : List Tok) (s : List Spot) (most : ℕ) → wants_header before ≡ false → Within (rest_of_line (bytes s)) most → 0 < most → Takes most s (lexeme text before s)
lexeme_within text before s most wants h some =
    let b = rest_of_line (bytes s) in
    let n = longest is_token b in
    let character = longest is_character b in
    lexeme_cases text before s (Takes most s)
    (λ k. absurd (false_true (sym (and_left (wants_header before) (nat_lt 0 (longest is_header b)) wants) ∙ k)))
    (λ k. absurd (false_true (sym h.raw ∙ k)))
    (λ k. absurd (false_true (sym h.closed ∙ k)))
    (λ k. (1, omega arith, omega arith, refl))
    (λ k. (n, ltb-true 0 n k, h.few, refl))
    (stray_len b, cond_both (nat_lt 0 character) character 1 (λ m. 0 < m) (λ k. ltb-true 0 character k) (λ k. omega arith), cond_both (nat_lt 0 character) character 1 (λ m. m ≤ most) (λ k. omega (arith, h.small)) (λ k. omega arith), refl)
  where
    false_true : false ≡ true → ⊥
    false_true e = cc

same_lexeme : (text : List ℕ) (before : List Tok) (s : List Spot) → wants_header [] ≡ false → wants_header before ≡ false → lexeme text before s ≡ lexeme text [] s
unfolding lexeme
same_lexeme text before s none wants = rw (none, wants) refl

wants_none : wants_header [] ≡ false
unfolding wants_header
wants_none = refl

not_blank : (x : Spot) (s : List Spot) → is_blank x.byte ≡ false → (x.byte == 47) ≡ false → next_blank (x ∷ s) ≡ None
unfolding next_blank
not_blank x s blank slash = rw (blank, slash) refl

blank_one : (x : Spot) (s : List Spot) → is_blank x.byte ≡ true → next_blank (x ∷ s) ≡ Some s
unfolding next_blank
blank_one x s blank = rw blank refl

token_found : (text : List ℕ) (before : List Tok) (x : Spot) (s : List Spot) → next_blank (x ∷ s) ≡ None → (x.byte == 10) ≡ false → next_token text before (x ∷ s) ≡ Some (lexeme text before (x ∷ s))
unfolding next_token
token_found text before x s blank newline = ap (token_at text before) (after_blanks-none (x ∷ s) blank) ∙ rw newline refl

-- ## One step

step : (text : List ℕ) (s : List Spot) (w v : List ℕ) → bytes s ≡ w ++ v → Ends w v → 0 < length w → (m : ℕ) × (0 < m) × (m ≤ length w) × PassesOne text s (drop m s)
step text s [] v e h some = absurd (omega arith)
step text [] (c ∷ w) v e h some = cc
step text (x ∷ s) (c ∷ w) v e h some =
    let same : x.byte ≡ c = cc in
    let facts = calm_facts c (ends_calm c w v h) in
    let newline : (x.byte == 10) ≡ false = ap (λ b. b == 10) same ∙ facts.newline in
    let slash : (x.byte == 47) ≡ false = ap (λ b. b == 47) same ∙ facts.slash in
    elim (cases_Bool (is_blank x.byte)) [
      | inl blank ↦ (1, omega arith, omega arith, inl (blank_one x s blank))
      | inr other ↦
          let none = not_blank x s other slash in
          let within = subst (λ b. Within (rest_of_line b) (length (c ∷ w))) (sym e) (line_within c w v h) in
          let taken = lexeme_within text [] (x ∷ s) (length (c ∷ w)) wants_none within some in (
            taken.0,
            taken.1,
            taken.2,
            inr (
              lexeme text [] (x ∷ s),
              λ before wants. token_found text before x s none newline ∙ ap Some (same_lexeme text before (x ∷ s) wants_none wants),
              sym taken.3,
            ),
          )
    ]

-- ## The whole run

left_bytes : (s : List Spot) (w v : List ℕ) (m : ℕ) → bytes s ≡ w ++ v → m ≤ length w → bytes (drop m s) ≡ drop m w ++ v
left_bytes s w v m e le = sym (drop-map (λ (spot : Spot). spot.byte) m s) ∙ ap (drop m) e ∙ drop-append-le m w v le

left_spots : (s : List Spot) (w : List ℕ) (m : ℕ) → m ≤ length w → drop (length (drop m w)) (drop m s) ≡ drop (length w) s
left_spots s w m le = drop-drop (length (drop m w)) m s ∙ ap (λ n. drop n s) (omega (arith, length-drop m w))

steps : (k : ℕ) (text : List ℕ) (s : List Spot) (w v : List ℕ) → length w ≤ k → bytes s ≡ w ++ v → Ends w v → PassesRun text s (drop (length w) s)
steps k text s [] v le e h = (0, refl)
steps zero text s (c ∷ w) v le e h = absurd (omega arith)
steps (suc k) text s (c ∷ w) v le e h =
    let first = step text s (c ∷ w) v e h (omega arith) in
    let m = first.0 in
    let more = steps k text (drop m s) (drop m (c ∷ w)) v (omega (arith, first.1, length-drop m (c ∷ w))) (left_bytes s (c ∷ w) v m e first.2) (ends_drop m (c ∷ w) v h) in
    (suc more.0, (drop m s, first.3, subst (PassesCount text more.0 (drop m s)) (left_spots s (c ∷ w) m first.2) more.1))

-- so many bytes that show are passed
pub run_passed : (text : List ℕ) (s : List Spot) (n : ℕ) (written : List ℕ) → bytes (take n s) ≡ take n written → n ≤ length written → Ends (take n written) (bytes (drop n s)) → PassesRun text s (drop n s)
run_passed text s n written e within h =
    let w = take n written in
    let len : length w ≡ n = omega (arith, length-take n written) in
    let whole : bytes s ≡ w ++ bytes (drop n s) = sym (ap bytes (take-append-drop n s)) ∙ split (take n s) (drop n s) ∙ ap (λ x. x ++ bytes (drop n s)) e in
    subst (λ k. PassesRun text s (drop k s)) len (steps (length w) text s w (bytes (drop n s)) (omega arith) whole h)
  where
    split : (a b : List Spot) → bytes (a ++ b) ≡ bytes a ++ bytes b
    split [] b = refl
    split (x ∷ a) b = ap (λ t. x.byte ∷ t) (split a b)

-- where a newline follows them
pub newline_first : (s : List Spot) → byte_at s ≡ Some 10 → first (bytes s) ≡ 10
newline_first [] h = cc
newline_first (x ∷ s) h = cc
