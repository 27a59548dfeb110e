-- What shows between two cursors, byte by byte.
use Rattle.std.proofs.Common.{◌≡◌, ℕ, ◌+◌, ◌-◌, ◌<◌, ◌≤◌, false, nat_le, List, [], ◌∷◌, ◌++◌, refl, ap, sym, ◌∙◌, inl, inr, take, drop, length, length-drop, length-take, slice_set, arith, ◌||◌, is_some}
use Rattle.std.proofs.lemmas.Bool.{cases_lt, leb-true, false_from_ne_true}
use Rattle.std.proofs.lemmas.List.{drop-drop, append_assoc}
use Rattle.std.specs.Prelude.{unwrap_or}
use Rattle.std.specs.Option.{option_map}
use Rattle.std.specs.List.{find}
use Rattle.word_table.specs.Rows.{value_of, has_word}
use Rattle.word_table.specs.Tables.{operator_words}
use Rattle.line_splice.specs.declared.cursor.Cursor.{Cursor}
use Rattle.line_splice.specs.Cursor.{rest}
use Rattle.scan_model.specs.Spliced.{Spot, byte_at, place_at}
use Rattle.scan_model.specs.Spelling.{is_alternative, alternatives}
use Rattle.scan_model.specs.Tokens.{bytes}
use Rattle.scan_model.proofs.LongestLemmas.{one_of_passes}
use Rattle.lexeme_reader.proofs.SpotLemmas.{bytes-take_more, bytes-take, bytes-drop, length-bytes}
use Rattle.pp_lexer.specs.Reads.{passed, IsAhead}
use Rattle.pp_lexer.proofs.PlaceLemmas.{place_later}
use Rattle.pp_lexer.proofs.MarkLemmas.{set_more}
use Rattle.token_spelling.proofs.TableLemmas.{found_any}

-- the spots that are left after some of the first
abbrev pub IsAlong : List Spot → List Spot → Type 0
IsAlong s u = u ≡ drop (length s - length u) s

-- a lower place stands before the end
pub goes_on : (s t u : List Spot) (text : List ℕ) → IsAhead s t → IsAlong s u → length t ≤ length u → place_at text u < place_at text t → length t < length u
goes_on s t u text ahead along le lower = elim (cases_lt (length t) (length u)) [
  | inl lt ↦ lt
  | inr ge ↦
      let len : length u ≡ length t = omega arith in
      let same : u ≡ t = along ∙ ap (λ k. drop (length s - k) s) len ∙ sym ahead.1 in
      let place : place_at text u ≡ place_at text t = ap (place_at text) same in
      absurd (omega arith)
]

-- another one stands at the end
pub stops : (at : Cursor) (t u : List Spot) (text : List ℕ) → IsAhead (rest at) t → IsAlong (rest at) u → length t ≤ length u → place_at text t ≤ place_at text u → u ≡ t
stops at t u text ahead along le higher = elim (cases_lt (length t) (length u)) [
  | inl lt ↦
      let s = rest at in
      let i = length s - length u in
      let j = length s - length t in
      let t_len : length t ≡ length (drop j s) = ap length ahead.1 in
      let u_len : length u ≡ length (drop i s) = ap length along in
      let some : 0 < length t = not_empty t s ahead.0 (omega (arith, lt, u_len, length-drop i s)) in
      let lower : place_at text (drop i s) < place_at text (drop j s) =
      place_later at i j text (omega (arith, t_len, u_len, length-drop i s, length-drop j s)) (omega (arith, t_len, some, length-drop j s)) in
      let here : place_at text u ≡ place_at text (drop i s) = ap (place_at text) along in
      let there : place_at text t ≡ place_at text (drop j s) = ap (place_at text) ahead.1 in
      absurd (omega arith)
  | inr ge ↦
      let len : length u ≡ length t = omega arith in
      along ∙ ap (λ k. drop (length (rest at) - k) (rest at)) len ∙ sym ahead.1
] where
  not_empty : (t s : List Spot) → (t ≡ [] → s ≡ []) → 0 < length s → 0 < length t
  not_empty [] s h some = let z : length s ≡ 0 = ap length (h refl) in absurd (omega (arith, z, some))
  not_empty (x ∷ t) s h some = omega arith

-- one byte further
pub along_more : (s u v : List Spot) → IsAlong s u → v ≡ drop 1 u → 0 < length u → (IsAlong s v) × (length s - length v ≡ (length s - length u) + 1)
along_more s u v along next some =
    let i = length s - length u in
    let u_len : length u ≡ length (drop i s) = ap length along in
    let v_len : length v ≡ length (drop 1 u) = ap length next in
    let more : length s - length v ≡ i + 1 = omega (arith, u_len, v_len, length-drop i s, length-drop 1 u) in
    (next ∙ ap (drop 1) along ∙ drop-drop 1 i s ∙ ap (λ k. drop k s) (sym more), more)

pub passed_more : (s u v : List Spot) (front whole more : List ℕ) → IsAlong s u → v ≡ drop 1 u → 0 < length u → whole ≡ front ++ bytes (passed s u)
    → whole ++ bytes (take 1 u) ≡ front ++ bytes (passed s v)
passed_more s u v front whole more along next some same =
    let i = length s - length u in
    ap (λ b. b ++ bytes (take 1 u)) same ∙ append_assoc front (bytes (take i s)) (bytes (take 1 u))
    ∙ ap (λ t. front ++ (bytes (take i s) ++ bytes (take 1 t))) along
    ∙ ap (λ b. front ++ b) (sym (bytes-take_more s i) ∙ ap (λ k. bytes (take k s)) (sym (along_more s u v along next some).1))

-- ## Alternative words

pub alternative_found : (s : List ℕ) → is_some (option_map value_of (find (has_word s) operator_words)) ≡ is_alternative s
unfolding is_alternative
alternative_found s = found_any value_of (has_word s) operator_words

-- no alternative word has more than six bytes
pub long_word : (b : List ℕ) → 7 ≤ length b → is_alternative b ≡ false
unfolding is_alternative
long_word b h = false_from_ne_true (is_alternative b) (λ e.
    let small : length b ≤ 6 = leb-true (length b) 6 (one_of_passes (λ b. nat_le (length b) 6) alternatives refl b e) in absurd (omega arith))

bytes_here : (u : List Spot) (b : ℕ) → 0 < length u → b ≡ unwrap_or (byte_at u) 0 → bytes u ≡ b ∷ bytes (drop 1 u)
bytes_here [] b some e = absurd (omega arith)
bytes_here (x ∷ u) b some e = ap (λ c. c ∷ bytes u) (sym e)

-- one more byte in the buffer
pub buffer_more : (s u v : List Spot) (buffer : List ℕ) (k b : ℕ) → IsAlong s u → v ≡ drop 1 u → 0 < length u → k ≡ length s - length u → k < length buffer
    → b ≡ unwrap_or (byte_at u) 0 → take k buffer ≡ bytes (passed s u) → take (k + 1) (slice_set buffer k b) ≡ bytes (passed s v)
buffer_more s u v buffer k b along next some count room here same =
    let i = length s - length u in
    let front : take k buffer ≡ take k (bytes s) = same ∙ sym (bytes-take s i) ∙ ap (λ j. take j (bytes s)) (sym count) in
    let there : drop k (bytes s) ≡ b ∷ bytes (drop 1 u) =
    ap (λ j. drop j (bytes s)) count ∙ sym (bytes-drop s i) ∙ ap bytes (sym along) ∙ bytes_here u b some here in
    set_more buffer (bytes s) k b (bytes (drop 1 u)) front room there
    ∙ bytes-take s (k + 1) ∙ ap (λ j. bytes (take (j + 1) s)) count ∙ ap (λ j. bytes (take j s)) (sym (along_more s u v along next some).1)

pub too_long : (s t u : List Spot) (k : ℕ) → k ≡ length s - length u → 7 ≤ k → length t ≤ length u → is_alternative (bytes (passed s t)) ≡ false
too_long s t u k count big le =
    let n = length s - length t in
    long_word (bytes (take n s)) (omega (arith, length-bytes (take n s), length-take n s))
