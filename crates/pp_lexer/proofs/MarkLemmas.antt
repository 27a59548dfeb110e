-- The first bytes of a line, read into a window of four.
use Rattle.std.proofs.Common.{◌≡◌, Bool, not, ◌&&◌, ◌==◌, ◌++◌, slice_index, subst, length-take-le, ℕ, zero, suc, ◌+◌, ◌<◌, ◌≤◌, true, false, List, [], ◌∷◌, refl, ap, sym, ◌∙◌, take, drop, length, length-drop, slice_set, arith}
use Rattle.std.specs.Prelude.{unwrap_or}
use Rattle.std.proofs.lemmas.Bool.{eq-eqb, ne_eqb, true≢false, cond_both, and_parts, and_from}
use Rattle.std.proofs.lemmas.List.{take-append-drop}
use Rattle.std.specs.List.{list_all}
use Rattle.scan_model.specs.Spliced.{Spot, byte_at}
use Rattle.scan_model.specs.Spelling.{is_one_of, punctuators, longest}
use Rattle.scan_model.specs.Tokens.{bytes, is_lone_less, rest_of_line}
use Rattle.scan_model.proofs.RestLemmas.{rest_of_line-cons, rest_of_line-newline, rest_of_line-nil}
use Rattle.scan_model.proofs.LongestLemmas.{longest_le}
use Rattle.lexeme_reader.specs.Fronts.{line}
use Rattle.lexeme_reader.proofs.LineLemmas.{length-rest_of_line, rest_of_line-append}
use Rattle.lexeme_reader.proofs.RunLemmas.{list_all-weaker}
use Rattle.lexeme_reader.proofs.SpotLemmas.{length-bytes, bytes-take}
use Rattle.lexeme_reader.proofs.TextLemmas.{take_front}
use Rattle.line_splice.specs.declared.cursor.Cursor.{Cursor}
use Rattle.line_splice.specs.Cursor.{text_of, rest}
use Rattle.line_splice.specs.Plain.{shows_itself, ahead_of}
use Rattle.line_splice.proofs.PlainLemmas.{plain, written_ahead}
use Rattle.word_table.specs.Rows.{longest_row}
use Rattle.word_table.specs.Tables as tables
use Rattle.pp_lexer.specs.Reads.{mark_len}
use Rattle.pp_lexer.proofs.RowLemmas.{len_of, longest-punctuator}

pub line_le : (s : List Spot) → length (line s) ≤ length s
line_le s = omega (arith, length-rest_of_line (bytes s), length-bytes s)

-- the line by its first byte
pub line_stop : (s : List Spot) (c : ℕ) → c ≡ unwrap_or (byte_at s) 10 → c ≡ 10 → line s ≡ []
line_stop [] c e ten = rest_of_line-nil
line_stop (x ∷ s) c e ten = rest_of_line-newline x.byte (bytes s) (eq-eqb x.byte 10 (sym e ∙ ten))

pub line_more : (s : List Spot) (c : ℕ) → c ≡ unwrap_or (byte_at s) 10 → (c ≡ 10 → ⊥) → line s ≡ c ∷ line (drop 1 s)
line_more [] c e other = absurd (other e)
line_more (x ∷ s) c e other = rest_of_line-cons x.byte (bytes s) (ne_eqb x.byte 10 (λ z. other (e ∙ z))) ∙ ap (λ b. b ∷ line s) (sym e)

take_none : (n : ℕ) → take {A = ℕ} n [] ≡ []
take_none zero = refl
take_none (suc n) = refl

-- nothing is left after a front, so it is the same as a longer one
pub all_taken : (xs : List ℕ) (k n : ℕ) → k ≤ n → drop k xs ≡ [] → take k xs ≡ take n xs
all_taken xs zero n le e = sym (ap (take n) e ∙ take_none n)
all_taken [] (suc k) zero le e = refl
all_taken [] (suc k) (suc n) le e = refl
all_taken (x ∷ xs) (suc k) zero le e = absurd (omega arith)
all_taken (x ∷ xs) (suc k) (suc n) le e = ap (λ t. x ∷ t) (all_taken xs k n (omega arith) e)

-- one more byte in the buffer
set_suc : (xs ys : List ℕ) (k b : ℕ) (more : List ℕ) → take k xs ≡ take k ys → k < length xs → drop k ys ≡ b ∷ more → take (suc k) (slice_set xs k b) ≡ take (suc k) ys
set_suc [] ys k b more same lt there = absurd (omega arith)
set_suc (x ∷ xs) ys zero b more same lt there = sym (ap (take 1) there)
set_suc (x ∷ xs) [] (suc k) b more same lt there = cc
set_suc (x ∷ xs) (y ∷ ys) (suc k) b more same lt there =
    let first : x ≡ y = cc in
    let later : take k xs ≡ take k ys = cc in
    ap (λ c. c ∷ take (suc k) (slice_set xs k b)) first ∙ ap (λ t. y ∷ t) (set_suc xs ys k b more later (omega arith) there)

pub set_more : (xs ys : List ℕ) (k b : ℕ) (more : List ℕ) → take k xs ≡ take k ys → k < length xs → drop k ys ≡ b ∷ more → take (k + 1) (slice_set xs k b) ≡ take (k + 1) ys
set_more xs ys k b more same lt there = let e : k + 1 ≡ suc k = omega arith in ap (λ j. take j (slice_set xs k b)) e ∙ set_suc xs ys k b more same lt there ∙ ap (λ j. take j ys) (sym e)

pub drop_within : (xs : List ℕ) (k b : ℕ) (more : List ℕ) → drop k xs ≡ b ∷ more → k + 1 ≤ length xs
drop_within xs k b more e = let z : length (drop k xs) ≡ suc (length more) = ap length e in omega (arith, z, length-drop k xs)

-- ## What the window shows

pub lone_window : (s : List ℕ) → is_lone_less (take 4 s) ≡ is_lone_less s
unfolding is_lone_less
lone_window [] = refl
lone_window (a ∷ []) = refl
lone_window (a ∷ b ∷ []) = refl
lone_window (a ∷ b ∷ c ∷ []) = refl
lone_window (a ∷ b ∷ c ∷ d ∷ s) = refl

lone_some : (s : List ℕ) → is_lone_less s ≡ true → 1 ≤ length s
unfolding is_lone_less
lone_some [] h = absurd (true≢false (sym h))
lone_some (c ∷ s) h = omega arith

pub mark_lone : (s w : List ℕ) → w ≡ take 4 s → is_lone_less w ≡ true → (1 ≡ mark_len s) × (1 ≤ length s)
mark_lone s w e h = let here : is_lone_less s ≡ true = sym (lone_window s) ∙ ap is_lone_less (sym e) ∙ h in (rw here refl, lone_some s here)

pub mark_row : (s w : List ℕ) (n : ℕ) → w ≡ take 4 s → is_lone_less w ≡ false → n ≡ len_of (longest_row w tables.punctuators) → (n ≡ mark_len s) × (n ≤ length s)
mark_row s w n e h len =
    let here : is_lone_less s ≡ false = sym (lone_window s) ∙ ap is_lone_less (sym e) ∙ h in
    let same : n ≡ longest (is_one_of punctuators) s = len ∙ ap (λ w. len_of (longest_row w tables.punctuators)) e ∙ sym (longest-punctuator s) in
    let le = longest_le (is_one_of punctuators) s in
    (rw here same, omega arith)

pub mark_le : (s : List ℕ) → mark_len s ≤ length s
mark_le s = cond_both (is_lone_less s) 1 (longest (is_one_of punctuators) s) (λ n. n ≤ length s) (λ e. lone_some s e) (λ e. longest_le (is_one_of punctuators) s)

-- ## Four bytes as they are written

pub four_show : (w : List ℕ) (a b c d : Bool) → 4 ≤ length w → a ≡ shows_itself (slice_index w 0) → b ≡ shows_itself (slice_index w 1) → c ≡ shows_itself (slice_index w 2)
    → d ≡ shows_itself (slice_index w 3) → (a && b && c && d) ≡ true → list_all shows_itself (take 4 w) ≡ true
four_show [] a b c d long p q r s h = absurd (omega arith)
four_show (e ∷ []) a b c d long p q r s h = absurd (omega arith)
four_show (e ∷ f ∷ []) a b c d long p q r s h = absurd (omega arith)
four_show (e ∷ f ∷ g ∷ []) a b c d long p q r s h = absurd (omega arith)
four_show (e ∷ f ∷ g ∷ i ∷ w) a b c d long p q r s h =
    let three = and_parts (a && b && c) d h in
    let two = and_parts (a && b) c three.0 in
    let one = and_parts a b two.0 in
    and_from _ _ (sym p ∙ one.0) (and_from _ _ (sym q ∙ one.1) (and_from _ _ (sym r ∙ two.1) (and_from _ true (sym s ∙ three.1) refl)))

-- the line begins with the bytes that are written
pub line_written : (s : List Spot) (n : ℕ) (w : List ℕ) → n ≤ length w → list_all shows_itself (take n w) ≡ true → bytes (take n s) ≡ take n w → take n w ≡ take n (line s)
line_written s n w long all same =
    let front = take n w in
    let whole : bytes s ≡ front ++ drop n (bytes s) = sym (take-append-drop n (bytes s)) ∙ ap (λ t. t ++ drop n (bytes s)) (bytes-take s n ∙ same) in
    let on_line : line s ≡ front ++ rest_of_line (drop n (bytes s)) = ap rest_of_line whole
    ∙ rest_of_line-append front (drop n (bytes s)) (list_all-weaker shows_itself (λ c. not (c == 10)) front (λ c h. ap not (plain c h).lf) all) in
    sym (ap (take n) on_line ∙ ap (λ k. take k (front ++ rest_of_line (drop n (bytes s)))) (sym (length-take-le n w long)) ∙ take_front front (rest_of_line (drop n (bytes s))))

-- by the cursor
pub line_ahead_written : (at : Cursor) (n : ℕ) (w : List ℕ) → w ≡ ahead_of (text_of at) (rest at) → n ≤ length w → list_all shows_itself (take n w) ≡ true → take n w ≡ take n (line (rest at))
line_ahead_written at n w is long all =
    line_written (rest at) n w long all
    (written_ahead at n (subst (λ t. n ≤ length t) is long) (ap (λ t. list_all shows_itself (take n t)) (sym is) ∙ all) ∙ ap (take n) (sym is))
