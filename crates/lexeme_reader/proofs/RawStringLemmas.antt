-- Raw strings, part by part.
use Rattle.std.proofs.Common.{◌≡◌, ℕ, ◌+◌, ◌-◌, ◌<◌, ◌≤◌, true, false, ◌==◌, cond, List, [], ◌∷◌, ◌++◌, refl, ap, sym, ◌∙◌, inl, inr, drop, take, length, length-drop, slice_index, add-zero, arith, Some}
use Rattle.std.proofs.lemmas.Bool.{and_parts, cases_lt, eqb-true, eq-eqb, true≢false}
use Rattle.std.proofs.lemmas.List.{drop-drop, get_or-drop, get_or-take, get_or_past, length-take-le}
use Rattle.scan_model.specs.declared.token.Kind.TheVariants.{Str, Stray}
use Rattle.scan_model.specs.Spliced.{Spot, byte_at}
use Rattle.scan_model.specs.Spelling.{encoding_len, opens_raw, delimiter, is_delimited, after_word, after_raw, is_suffix, is_name, longest}
use Rattle.scan_model.specs.Tokens.{Lexeme, bytes, rest_of_line, from_place, written_after, cut, raw, raw_closed, raw_lexeme}
use Rattle.scan_model.proofs.LongestLemmas.{longest_le}
use Rattle.scan_model.proofs.RestLemmas.{take-rest_of_line}
use Rattle.lexeme_reader.specs.Fronts.{line}
use Rattle.lexeme_reader.specs.Quotes.{encoding_of}
use Rattle.lexeme_reader.specs.declared.raw.RawParts.{RawParts}
use Rattle.lexeme_reader.specs.declared.raw.RawSpelling.TheVariants.{Shown, Written}
use Rattle.lexeme_reader.specs.Raws.{IsDelimiter, spelling_of, read_raw, ContinuesRaw}
use Rattle.lexeme_reader.proofs.SpotLemmas.{bytes-drop, length-bytes}
use Rattle.lexeme_reader.proofs.LineLemmas.{length-rest_of_line}
use Rattle.lexeme_reader.proofs.QuotedLemmas.{encoding_len-bytes, longest_suffix}

-- ## The front

rest_of_line-index : (t : List ℕ) (k : ℕ) → k < length (rest_of_line t) → slice_index (rest_of_line t) k ≡ slice_index t k
rest_of_line-index t k lt =
    sym (get_or-take (k + 1) (rest_of_line t) k 0 (omega arith)) ∙ ap (λ u. slice_index u k) (take-rest_of_line t (k + 1) (omega arith)) ∙ get_or-take (k + 1) t k 0 (omega arith)

pub record RawFront (s : List Spot) : Type 0 where
  pub same : encoding_len (bytes s) ≡ encoding_len (line s)
  pub within : encoding_len (line s) + 2 ≤ length (line s)
  pub quote : byte_at (drop (encoding_len (line s) + 1) s) ≡ Some 34

byte_first : (s : List Spot) (c : ℕ) → (0 == c) ≡ false → slice_index (bytes s) 0 ≡ c → byte_at s ≡ Some c
byte_first [] c some e = absurd (true≢false (sym (eq-eqb 0 c e) ∙ some))
byte_first (x ∷ s) c some e = ap Some e

pub raw_front : (s : List Spot) → opens_raw (line s) ≡ true → RawFront s
raw_front s opening =
    let p = encoding_len (line s) in
    let both = and_parts (slice_index (line s) p == 82) (slice_index (line s) (p + 1) == 34) opening in
    let quote : slice_index (line s) (p + 1) ≡ 34 = eqb-true (slice_index (line s) (p + 1)) 34 both.1 in
    let within : p + 2 ≤ length (line s) = elim (cases_lt (p + 1) (length (line s))) [
      | inl lt ↦ omega arith
      | inr le ↦ absurd (let z : slice_index (line s) (p + 1) ≡ 0 = get_or_past (line s) (p + 1) 0 le in omega (arith, z, quote))
    ] in record {
      same = encoding_len-bytes (bytes s) ∙ ap (λ a. encoding_of a (slice_index (bytes s) 1)) (sym (rest_of_line-index (bytes s) 0 (omega arith)))
          ∙ ap (encoding_of (slice_index (line s) 0)) (sym (rest_of_line-index (bytes s) 1 (omega arith))) ∙ sym (encoding_len-bytes (line s));
      within = within;
      quote = byte_first (drop (p + 1) s) 34 refl
          (ap (λ t. slice_index t 0) (bytes-drop s (p + 1)) ∙ get_or-drop (p + 1) (bytes s) 0 0 ∙ ap (slice_index (bytes s)) (add-zero (p + 1))
          ∙ sym (rest_of_line-index (bytes s) (p + 1) (omega arith)) ∙ quote);
    }

-- ## The inside

pub raw_after : (text d inside : List ℕ) (start len : ℕ) → IsDelimiter len (drop start text) → d ≡ take len (drop start text) → inside ≡ drop (start + len + 1) text
    → after_raw (drop start text) ≡ after_word (41 ∷ d ++ 34 ∷ []) inside
unfolding after_raw
raw_after text d inside start len is d_is inside_is =
    let s = drop start text in
    let same : delimiter s ≡ d = is.bytes_are ∙ sym d_is in
    let n : length (delimiter s) ≡ len = ap length is.bytes_are ∙ length-take-le len s (omega (arith, is.within)) in
    let place : start + (length (delimiter s) + 1) ≡ start + len + 1 = omega arith in
    ap (λ t. after_word (41 ∷ t ++ 34 ∷ []) (drop (length (delimiter s) + 1) s)) same
    ∙ ap (after_word (41 ∷ d ++ 34 ∷ [])) (drop-drop (length (delimiter s) + 1) start text ∙ ap (λ k. drop k text) place ∙ sym inside_is)

-- the suffix, by the whole of what is left and by its line
pub suffix_is : (s new : List Spot) → new ≡ drop (longest is_name (line s)) s → new ≡ drop (longest is_name (bytes s)) s → longest is_suffix (bytes s) ≡ longest is_name (line s)
suffix_is s new by_line by_whole =
    let n = longest is_name (line s) in
    let m = longest is_name (bytes s) in
    let a : length new ≡ length s - n = ap length by_line ∙ length-drop n s in
    let b : length new ≡ length s - m = ap length by_whole ∙ length-drop m s in
    let same : m ≡ n = omega (arith, longest_le is_name (line s), longest_le is_name (bytes s), length-rest_of_line (bytes s), length-bytes s) in
    longest_suffix (bytes s) ∙ same

pub closed_raw : (text front : List ℕ) (start stop : ℕ) (old suffix new : List Spot) → start ≤ stop → stop ≤ length text → after_raw (drop start text) ≡ Some (drop stop text) → suffix ≡ from_place stop old
    → longest is_suffix (bytes suffix) ≡ longest is_name (line suffix) → new ≡ drop (longest is_name (line suffix)) suffix
    → raw_closed text front (drop start text) (after_raw (drop start text)) old
    ≡ record { kind = Str; text = front ++ take (stop - start) (drop start text) ++ bytes (take (longest is_name (line suffix)) suffix); left = new }
closed_raw text front start stop old suffix new order within found from_stop name left =
    let place : length text - length (drop stop text) ≡ stop = omega (arith, length-drop stop text) in
    let len : length (drop start text) - length (drop stop text) ≡ stop - start = omega (arith, length-drop stop text, length-drop start text) in
    ap (λ a. raw_closed text front (drop start text) a old) found
    ∙ ap (λ k. raw front (take k (drop start text)) (from_place (length text - length (drop stop text)) old)) len
    ∙ ap (λ k. raw front (take (stop - start) (drop start text)) (from_place k old)) place
    ∙ ap (raw front (take (stop - start) (drop start text))) (sym from_stop)
    ∙ ap (cut_at front (take (stop - start) (drop start text)) suffix) name
    ∙ ap (λ l. record { kind = Str; text = front ++ take (stop - start) (drop start text) ++ bytes (take (longest is_name (line suffix)) suffix); left = l }) (sym left) where
      cut_at : List ℕ → List ℕ → List Spot → ℕ → Lexeme
      cut_at intro inside spots n = record { kind = Str; text = intro ++ inside ++ bytes (take n spots); left = drop n spots }

-- ## The whole token

raw_good : (text : List ℕ) (spots : List Spot) (start : ℕ) → written_after text (drop (encoding_len (bytes spots) + 1) spots) ≡ drop start text → is_delimited (drop start text) ≡ true
    → raw_lexeme text spots ≡ raw_closed text (bytes (take (encoding_len (bytes spots) + 1 + 1) spots)) (drop start text) (after_raw (drop start text)) (drop (encoding_len (bytes spots) + 1 + 1) spots)
unfolding raw_lexeme
raw_good text spots start e good =
    let q = encoding_len (bytes spots) + 1 + 1 in
    ap (λ w. cond (is_delimited w) (raw_closed text (bytes (take q spots)) w (after_raw w) (drop q spots)) (cut Stray (length (rest_of_line (bytes spots))) spots)) e ∙ rw good refl

pub raw_bad : (text : List ℕ) (spots : List Spot) (start : ℕ) → written_after text (drop (encoding_len (bytes spots) + 1) spots) ≡ drop start text → is_delimited (drop start text) ≡ false
    → raw_lexeme text spots ≡ read_raw Shown text spots
unfolding raw_lexeme
raw_bad text spots start e bad =
    let q = encoding_len (bytes spots) + 1 + 1 in
    ap (λ w. cond (is_delimited w) (raw_closed text (bytes (take q spots)) w (after_raw w) (drop q spots)) (cut Stray (length (rest_of_line (bytes spots))) spots)) e ∙ rw bad refl

pub raw_parts : (text : List ℕ) (spots inside new : List Spot) (start : ℕ) (parts : RawParts) → written_after text (drop (encoding_len (bytes spots) + 1) spots) ≡ drop start text → is_delimited (drop start text) ≡ true
    → inside ≡ drop (encoding_len (bytes spots) + 2) spots → parts.intro ≡ encoding_len (bytes spots) + 2 → ContinuesRaw parts start text inside new
    → raw_lexeme text spots ≡ read_raw (Written parts) text spots
raw_parts text spots inside new start parts e good inside_is intro_is more =
    let q : encoding_len (bytes spots) + 1 + 1 ≡ parts.intro = omega (arith, intro_is) in
    let there : drop (encoding_len (bytes spots) + 1 + 1) spots ≡ inside = ap (λ k. drop k spots) (q ∙ intro_is) ∙ sym inside_is in
    raw_good text spots start e good
    ∙ ap (λ k. raw_closed text (bytes (take k spots)) (drop start text) (after_raw (drop start text)) (drop (encoding_len (bytes spots) + 1 + 1) spots)) q
    ∙ ap (raw_closed text (bytes (take parts.intro spots)) (drop start text) (after_raw (drop start text))) there
    ∙ more.lexeme (bytes (take parts.intro spots))
    ∙ ap (λ l. record { kind = cond parts.closed Str Stray; text = spelling_of parts text spots; left = l }) more.left
