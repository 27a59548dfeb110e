-- The character that begins a line.
use Rattle.std.proofs.Common.{◌≡◌, ℕ, ◌<◌, ◌≤◌, Bool, true, false, ◌==◌, ◌&&◌, List, [], ◌∷◌, ◌++◌, refl, ap, sym, ◌∙◌, drop, length, length-append, Some, arith}
use Rattle.std.proofs.lemmas.Bool.{ne_eqb, and_from, and_parts, lt-ltb}
use Rattle.std.proofs.lemmas.List.{append-nil}
use Rattle.std.proofs.lemmas.Str.{encode_ascii, length-encode, len_utf8_bounds}
use Rattle.std.proofs.lemmas.Bool.Decides.{nat_tests}
use Rattle.std.specs.Char.{IsScalar, encode_utf8}
use Rattle.std.specs.Str.{encode_utf8_all, all_scalars}
use Rattle.scan_model.specs.Spliced.{Spot, byte_at}
use Rattle.scan_model.specs.Spelling.{longest}
use Rattle.scan_model.specs.Tokens.{bytes, is_character, rest_of_line}
use Rattle.scan_model.proofs.RestLemmas.{rest_of_line-newline}
use Rattle.lexeme_reader.specs.Character.{BeginsWith, NoCharacter}
use Rattle.lexeme_reader.specs.Fronts.{line, character_len}
use Rattle.lexeme_reader.proofs.SpotLemmas.{bytes-cons, length-bytes}
use Rattle.lexeme_reader.proofs.TextLemmas.{longest_text}
use Rattle.lexeme_reader.proofs.LineLemmas.{line-character, line_begins, length-rest_of_line}

pub scalar_one : (c : ℕ) → all_scalars (c ∷ []) ≡ true → BeginsWith c (encode_utf8 c)
scalar_one c h = (and_one _ h, ([], sym (append-nil (encode_utf8 c)))) where
  and_one : (b : Bool) → (b && true) ≡ true → b ≡ true
  and_one true h = refl
  and_one false h = h

pub ascii_scalar : (c : ℕ) → c < 128 → IsScalar c
ascii_scalar c low = grind (arith, nat_tests)

pub ascii_begins : (s : List Spot) (c : ℕ) → byte_at s ≡ Some c → c < 128 → BeginsWith c (bytes s)
ascii_begins s c here low = (ascii_scalar c low, (bytes (drop 1 s), bytes-cons s c here ∙ ap (λ u. u ++ bytes (drop 1 s)) (sym (encode_ascii c low))))

-- the first character is not the line's end
pub begins_line : (t : List ℕ) (c : ℕ) → 0 < length (rest_of_line t) → BeginsWith c t → (c == 10) ≡ false
begins_line t c some begins = ne_eqb c 10 (λ e.
    let first : t ≡ 10 ∷ begins.1.0 = begins.1.1 ∙ ap (λ d. encode_utf8 d ++ begins.1.0) e ∙ ap (λ u. u ++ begins.1.0) (encode_ascii 10 (omega arith)) in
    let z : length (rest_of_line t) ≡ 0 = ap length (ap rest_of_line first ∙ rest_of_line-newline 10 begins.1.0 refl) in omega arith)

abbrev pub is_one : List ℕ → Bool
is_one cs = length cs == 1

pub character_some : (t : List ℕ) (c : ℕ) → 0 < length (rest_of_line t) → BeginsWith c t → longest is_character (rest_of_line t) ≡ length (encode_utf8 c)
character_some t c some begins =
    let more = begins.1.0 in
    let e : rest_of_line t ≡ encode_utf8 c ++ rest_of_line more = ap rest_of_line begins.1.1 ∙ line-character c more (begins_line t c some begins) in
    let one : encode_utf8_all (c ∷ []) ≡ encode_utf8 c = append-nil (encode_utf8 c) in
    ap (longest is_character) (e ∙ ap (λ u. u ++ rest_of_line more) (sym one))
    ∙ longest_text is_one (c ∷ []) (rest_of_line more) (and_from _ true begins.0 refl) (λ z. refl) (λ f es v scalar there. ne_eqb (length (c ∷ f ∷ es)) 1 (λ z. omega arith))
    ∙ ap length one

pub character_none : (t : List ℕ) → NoCharacter t → longest is_character (rest_of_line t) ≡ 0
character_none t none = longest_text is_one [] (rest_of_line t) refl (λ z. absurd (omega arith)) (λ e es v scalar there.
    absurd (none e ((scalar_one e (first_scalar e es scalar)).0, line_begins t (encode_utf8 e) (encode_utf8_all es ++ v) there))) where
      first_scalar : (e : ℕ) (es : List ℕ) → all_scalars (e ∷ es) ≡ true → all_scalars (e ∷ []) ≡ true
      first_scalar e es h = and_from _ true (and_parts _ _ h).0 refl

pub len_some : (s : List Spot) (c n : ℕ) → 0 < length (line s) → n ≡ length (encode_utf8 c) → BeginsWith c (bytes s) → (n ≡ character_len (line s)) × (n ≤ length s)
len_some s c n some is begins =
    let e = character_some (bytes s) c some begins in
    let bounds = len_utf8_bounds c in
    let len = length-encode c in
    let positive : 0 < longest is_character (line s) = omega arith in
    let whole : length (bytes s) ≡ length (encode_utf8 c ++ begins.1.0) = ap length begins.1.1 in
    (rw (lt-ltb 0 (longest is_character (line s)) positive) (is ∙ sym e), omega (arith, whole, length-append (encode_utf8 c) begins.1.0, length-bytes s))

pub len_none : (s : List Spot) → 0 < length (line s) → NoCharacter (bytes s) → (1 ≡ character_len (line s)) × (1 ≤ length s)
len_none s some none = (rw (character_none (bytes s) none) refl, omega (arith, some, length-rest_of_line (bytes s), length-bytes s))
