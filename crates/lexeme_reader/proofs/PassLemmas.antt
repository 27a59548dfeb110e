-- What a cursor that passes characters has passed of its line.
use Rattle.std.proofs.Common.{◌≡◌, ℕ, ◌+◌, ◌<◌, ◌≤◌, Bool, true, false, not, ◌==◌, List, [], ◌∷◌, ◌++◌, refl, ap, sym, ◌∙◌, inl, inr, nat_lt, drop, take, length, length-append, arith}
use Rattle.std.proofs.lemmas.Bool.{and_from, and_parts, cases_eq, true≢false, lt-ltb}
use Rattle.std.proofs.lemmas.List.{append_assoc, append-nil, drop-drop}
use Rattle.std.proofs.lemmas.Str.{encodes-append, length-le-encodes, encode_same}
use Rattle.std.specs.List.{list_all}
use Rattle.std.specs.Char.{encode_utf8}
use Rattle.std.specs.Str.{encode_utf8_all, all_scalars}
use Rattle.scan_model.specs.Spliced.{Spot}
use Rattle.scan_model.specs.Spelling.{longest}
use Rattle.scan_model.specs.Tokens.{bytes, rest_of_line}
use Rattle.scan_model.proofs.LongestLemmas.{longest_beyond}
use Rattle.lexeme_reader.specs.Character.{BeginsWith}
use Rattle.lexeme_reader.specs.Fronts.{line}
use Rattle.lexeme_reader.specs.Passes.{Passes}
use Rattle.lexeme_reader.proofs.SpotLemmas.{bytes-drop, length-bytes}
use Rattle.lexeme_reader.proofs.TextLemmas.{longest_text, EndsAt, is_text_of, text_passes, take_front}
use Rattle.lexeme_reader.proofs.LineLemmas.{is_one_line, one_line-encode, rest_of_line-append, line_begins}

pub list_all-append : (p : ℕ → Bool) (xs ys : List ℕ) → list_all p xs ≡ true → list_all p ys ≡ true → list_all p (xs ++ ys) ≡ true
list_all-append p [] ys h k = k
list_all-append p (x ∷ xs) ys h k = let both = and_parts (p x) (list_all p xs) h in and_from (p x) (list_all p (xs ++ ys)) both.0 (list_all-append p xs ys both.1 k)

pub all_scalars-append : (xs ys : List ℕ) → all_scalars xs ≡ true → all_scalars ys ≡ true → all_scalars (xs ++ ys) ≡ true
all_scalars-append [] ys h k = k
all_scalars-append (x ∷ xs) ys h k = let both = and_parts _ (all_scalars xs) h in and_from _ (all_scalars (xs ++ ys)) both.0 (all_scalars-append xs ys both.1 k)

one_line-encodes : (cs : List ℕ) → list_all (λ c. not (c == 10)) cs ≡ true → is_one_line (encode_utf8_all cs) ≡ true
one_line-encodes [] h = refl
one_line-encodes (c ∷ cs) h =
    let both = and_parts (not (c == 10)) (list_all (λ c. not (c == 10)) cs) h in
    list_all-append (λ c. not (c == 10)) (encode_utf8 c) (encode_utf8_all cs) (one_line-encode c (not_true (c == 10) both.0)) (one_line-encodes cs both.1) where
      not_true : (b : Bool) → not b ≡ true → b ≡ false
      not_true true h = sym h
      not_true false h = refl

-- ## Steps

pub passes_none : (s : List Spot) → Passes [] s s
passes_none s = record { scalars = refl; one_line = refl; spelt = refl; left = refl }

drop_front : (xs ys : List ℕ) → drop (length xs) (xs ++ ys) ≡ ys
drop_front [] ys = refl
drop_front (x ∷ xs) ys = drop_front xs ys

-- what follows the character that stands here
pub after_character : (s : List Spot) (c : ℕ) (u : List ℕ) → bytes s ≡ encode_utf8 c ++ u → bytes (drop (length (encode_utf8 c)) s) ≡ u
after_character s c u there = bytes-drop s (length (encode_utf8 c)) ∙ ap (drop (length (encode_utf8 c))) there ∙ drop_front (encode_utf8 c) u

pub passes_one : (c : ℕ) (old new : List Spot) → BeginsWith c (bytes old) → (c == 10) ≡ false → new ≡ drop (length (encode_utf8 c)) old → Passes (c ∷ []) old new
passes_one c old new begins ne e = let one : encode_utf8_all (c ∷ []) ≡ encode_utf8 c = append-nil (encode_utf8 c) in record {
  scalars = and_from _ true begins.0 refl;
  one_line = and_from _ true (ap not ne) refl;
  spelt = begins.1.1 ∙ ap (λ t. encode_utf8 c ++ t) (sym (ap bytes e ∙ after_character old c begins.1.0 begins.1.1)) ∙ ap (λ t. t ++ bytes new) (sym one);
  left = e ∙ ap (λ t. drop (length t) old) (sym one);
}

pub passes_more : (cs ds : List ℕ) (a b c : List Spot) → Passes cs a b → Passes ds b c → Passes (cs ++ ds) a c
passes_more cs ds a b c p q =
    let both : encode_utf8_all (cs ++ ds) ≡ encode_utf8_all cs ++ encode_utf8_all ds = encodes-append cs ds in
    let len : length (encode_utf8_all cs) + length (encode_utf8_all ds) ≡ length (encode_utf8_all (cs ++ ds)) =
    sym (ap length both ∙ length-append (encode_utf8_all cs) (encode_utf8_all ds)) in
    record {
      scalars = all_scalars-append cs ds p.scalars q.scalars;
      one_line = list_all-append (λ c. not (c == 10)) cs ds p.one_line q.one_line;
      spelt = p.spelt ∙ ap (λ t. encode_utf8_all cs ++ t) q.spelt ∙ sym (append_assoc (encode_utf8_all cs) (encode_utf8_all ds) (bytes c)) ∙ ap (λ t. t ++ bytes c) (sym both);
      left = q.left ∙ ap (drop (length (encode_utf8_all ds))) p.left ∙ drop-drop (length (encode_utf8_all ds)) (length (encode_utf8_all cs)) a ∙ ap (λ k. drop k a) len;
    }

pub passes_shorter : (cs : List ℕ) (a b : List Spot) → Passes cs a b → 0 < length cs → length b < length a
passes_shorter cs a b p some =
    let e : length (bytes a) ≡ length (encode_utf8_all cs ++ bytes b) = ap length p.spelt in
    omega (arith, e, length-append (encode_utf8_all cs) (bytes b), length-le-encodes cs, length-bytes a, length-bytes b)

-- ## The line

pub passes_line : (cs : List ℕ) (a b : List Spot) → Passes cs a b → line a ≡ encode_utf8_all cs ++ line b
passes_line cs a b p = ap rest_of_line p.spelt ∙ rest_of_line-append (encode_utf8_all cs) (bytes b) (one_line-encodes cs p.one_line)

pub EndsAt-line : (p : List ℕ → Bool) (cs t : List ℕ) → EndsAt p cs t → EndsAt p cs (rest_of_line t)
EndsAt-line p cs t ends e es v scalar there =
    let more = line_begins t (encode_utf8 e ++ encode_utf8_all es) v (there ∙ sym (append_assoc (encode_utf8 e) (encode_utf8_all es) v)) in
    ends e es more.0 scalar (more.1 ∙ append_assoc (encode_utf8 e) (encode_utf8_all es) more.0)

-- the longest front of the line, and of the whole text
pub passes_longest : (p : List ℕ → Bool) (cs : List ℕ) (a b : List Spot) → Passes cs a b → (0 < length cs → p cs ≡ true) → EndsAt p cs (bytes b) → longest (is_text_of p) (line a) ≡ length (encode_utf8_all cs)
passes_longest p cs a b passes some ends = ap (longest (is_text_of p)) (passes_line cs a b passes) ∙ longest_text p cs (line b) passes.scalars some (EndsAt-line p cs (bytes b) ends)

pub passes_longest_whole : (p : List ℕ → Bool) (cs : List ℕ) (a b : List Spot) → Passes cs a b → (0 < length cs → p cs ≡ true) → EndsAt p cs (bytes b) → longest (is_text_of p) (bytes a) ≡ length (encode_utf8_all cs)
passes_longest_whole p cs a b passes some ends = ap (longest (is_text_of p)) passes.spelt ∙ longest_text p cs (bytes b) passes.scalars some ends

-- characters that pass make a front that does
pub longest_positive : (p : List ℕ → Bool) (cs : List ℕ) (a b : List Spot) → Passes cs a b → p cs ≡ true → 0 < length cs → nat_lt 0 (longest (is_text_of p) (line a)) ≡ true
longest_positive p cs a b passes yields some =
    let n = length (encode_utf8_all cs) in
    let e = passes_line cs a b passes in
    let front : is_text_of p (take n (line a)) ≡ true = ap (λ u. is_text_of p (take n u)) e ∙ ap (is_text_of p) (take_front (encode_utf8_all cs) (line b)) ∙ text_passes p cs passes.scalars yields in
    let within : n ≤ length (line a) = omega (arith, ap length e, length-append (encode_utf8_all cs) (line b)) in
    let positive : 0 < n = omega (arith, length-le-encodes cs) in
    elim (cases_eq (longest (is_text_of p) (line a)) 0) [
      | inl z ↦ absurd (true≢false (sym front ∙ longest_beyond (is_text_of p) (line a) n (omega arith) within))
      | inr ne ↦ lt-ltb 0 (longest (is_text_of p) (line a)) (omega arith)
    ]

-- two characters that stand here are one
pub same_character : (t : List ℕ) (c d : ℕ) → BeginsWith c t → BeginsWith d t → c ≡ d
same_character t c d b e = (encode_same c d b.1.0 e.1.0 (sym b.1.1 ∙ e.1.1)).0

-- characters that stand here begin with one
pub first_begins : (e : ℕ) (es v t : List ℕ) → all_scalars (e ∷ es) ≡ true → t ≡ encode_utf8 e ++ (encode_utf8_all es ++ v) → BeginsWith e t
first_begins e es v t scalar there = ((and_parts _ (all_scalars es) scalar).0, (encode_utf8_all es ++ v, there))
