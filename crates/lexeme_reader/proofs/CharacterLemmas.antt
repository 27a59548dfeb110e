-- A character at the front of what is left.
use Rattle.std.proofs.Common.{◌≡◌, ℕ, get_or, false, None, zero, suc, ◌+◌, ◌-◌, ◌/◌, ◌%◌, ◌<◌, ◌≤◌, List, [], ◌∷◌, ◌++◌, refl, ap, sym, ◌∙◌, subst, inl, inr, ◌⊎◌, drop, take, length, length-append, arith, Some, set}
use Rattle.std.proofs.lemmas.Bool.{cases_eq, cases_lt, and_from, and_left, le-leb, le-ltb, lt-ltb, false≢true}
use Rattle.std.specs.Prelude.{unwrap_or}
use lib.Utf8.{scalar_cases}
use Rattle.std.proofs.lemmas.List.{append_assoc, take-append-drop}
use Rattle.std.proofs.Math.ListN.{get_or-append}
use Rattle.std.proofs.lemmas.Str.{IsUtf8-encode, length-encode, len_utf8_bounds, byte_from_char}
use Rattle.std.specs.Char.{encode_utf8, len_utf8, IsScalar}
use Rattle.std.specs.Str.{IsUtf8}
use Rattle.scan_model.specs.Spliced.{Spot, byte_at}
use Rattle.scan_model.specs.Tokens.{bytes}
use Rattle.lexeme_reader.specs.Character.{BeginsWith, NoCharacter, may_begin, may_lead}
use Rattle.lexeme_reader.proofs.TextLemmas.{take_front}
use Rattle.lexeme_reader.proofs.SpotLemmas.{bytes-take_more, bytes-first, bytes-take, bytes-cons, byte_at-none, length-bytes}

pub no_character : (s : List Spot) (n : ℕ) → (length s ≤ n) ⊎ (4 ≤ n) → ((k : ℕ) → k < n → IsUtf8 (bytes (take (k + 1) s)) → ⊥) → NoCharacter (bytes s)
no_character s n enough none c begins =
    let e = encode_utf8 c in
    let more = begins.1.0 in
    let bounds = len_utf8_bounds c in
    let len : length e ≡ len_utf8 c = length-encode c in
    let whole : length (bytes s) ≡ length (e ++ more) = ap length begins.1.1 in
    let fits : length e ≤ length s = omega (arith, whole, length-append e more, length-bytes s) in
    let k = length e - 1 in
    let below : k < n = elim enough [ inl h ↦ omega arith | inr h ↦ omega arith ] in
    let at : k + 1 ≡ length e = omega arith in
    let front : bytes (take (k + 1) s) ≡ e = ap (λ j. bytes (take j s)) at ∙ sym (bytes-take s (length e)) ∙ ap (take (length e)) begins.1.1 ∙ take_front e more in
    none k below (subst IsUtf8 (sym front) (IsUtf8-encode c begins.0))

pub character_here : (s : List Spot) (n c : ℕ) (front : List ℕ) → front ≡ bytes (take n s) → BeginsWith c front → BeginsWith c (bytes s)
character_here s n c front e begins =
    let rest = drop n (bytes s) in (
      begins.0,
      (
        begins.1.0 ++ rest,
        sym (take-append-drop n (bytes s)) ∙ ap (λ t. t ++ rest) (bytes-take s n ∙ sym e ∙ begins.1.1) ∙ append_assoc (encode_utf8 c) begins.1.0 rest,
      ),
    )

take_set : (n v : ℕ) (xs : List ℕ) → n < length xs → take (suc n) (set xs n v) ≡ take n xs ++ v ∷ []
take_set n v [] h = absurd (omega arith)
take_set zero v (x ∷ xs) h = refl
take_set (suc n) v (x ∷ xs) h = ap (λ t. x ∷ t) (take_set n v xs (omega arith))

pub front_more : (s : List Spot) (n v : ℕ) (buffer : List ℕ) → n < length buffer → take n buffer ≡ bytes (take n s) → byte_at (drop n s) ≡ Some v → take (n + 1) (set buffer n v) ≡ bytes (take (n + 1) s)
front_more s n v buffer lt e here =
    let k : n + 1 ≡ suc n = omega arith in
    ap (λ j. take j (set buffer n v)) k ∙ take_set n v buffer lt ∙ ap (λ t. t ++ v ∷ []) e ∙ ap (λ t. bytes (take n s) ++ t) (sym (bytes-first (drop n s) v here)) ∙ sym (bytes-take_more s n)

pub none_more : (s : List Spot) (n : ℕ) → ((k : ℕ) → k < n → IsUtf8 (bytes (take (k + 1) s)) → ⊥) → (IsUtf8 (bytes (take (n + 1) s)) → ⊥) → (k : ℕ) → k < n + 1 → IsUtf8 (bytes (take (k + 1) s)) → ⊥
none_more s n none here k lt text = elim (cases_eq k n) [ inl e ↦ here (subst (λ j. IsUtf8 (bytes (take (j + 1) s))) e text) | inr ne ↦ none k (omega arith) text ]

-- ## Characters of more than one byte

record Leads (e : List ℕ) : Type 0 where
  high : 194 ≤ get_or e 0 0
  low : get_or e 0 0 ≤ 244
  continued : 128 ≤ get_or e 1 0
  within : get_or e 1 0 ≤ 191
  two : 2 ≤ length e

two : (c : ℕ) → 128 ≤ c → c < 2048 → encode_utf8 c ≡ (192 + c / 64) ∷ (128 + c % 64) ∷ []
unfolding encode_utf8
two c l h = rw (le-ltb c 128 l, lt-ltb c 2048 h) refl

three : (c : ℕ) → 2048 ≤ c → c < 65536 → encode_utf8 c ≡ (224 + c / 4096) ∷ (128 + c / 64 % 64) ∷ (128 + c % 64) ∷ []
unfolding encode_utf8
three c l h = rw (le-ltb c 128 (omega arith), le-ltb c 2048 l, lt-ltb c 65536 h) refl

four : (c : ℕ) → 65536 ≤ c → encode_utf8 c ≡ (240 + c / 262144) ∷ (128 + c / 4096 % 64) ∷ (128 + c / 64 % 64) ∷ (128 + c % 64) ∷ []
unfolding encode_utf8
four c l = rw (le-ltb c 128 (omega arith), le-ltb c 2048 (omega arith), le-ltb c 65536 l) refl

leads : (c : ℕ) → IsScalar c → 128 ≤ c → Leads (encode_utf8 c)
leads c scalar long = elim (cases_lt c 2048) [
  | inl a ↦ subst Leads (sym (two c long a)) (record { high = omega arith; low = omega arith; continued = omega arith; within = omega arith; two = omega arith })
  | inr a ↦ elim (cases_lt c 65536) [
    | inl b ↦ subst Leads (sym (three c a b)) (record { high = omega arith; low = omega arith; continued = omega arith; within = omega arith; two = omega arith })
    | inr b ↦ elim (scalar_cases c scalar) [
      | inl small ↦ absurd (omega arith)
      | inr most ↦ subst Leads (sym (four c b)) (record { high = omega arith; low = omega (arith, most.1); continued = omega arith; within = omega arith; two = omega arith })
    ]
  ]
]

tells : (a b : ℕ) → may_begin a b ≡ false → 194 ≤ a → a ≤ 244 → 128 ≤ b → b ≤ 191 → ⊥
tells a b fails h l k w = false≢true (sym fails ∙ and_from _ _ (and_from _ _ (le-leb 194 a h) (le-leb a 244 l)) (and_from _ _ (le-leb 128 b k) (le-leb b 191 w)))

-- such a character begins with two bytes of which the test tells
pub not_begun : (t : List ℕ) (a b : ℕ) → get_or t 0 0 ≡ a → get_or t 1 0 ≡ b → 128 ≤ a → may_begin a b ≡ false → NoCharacter t
not_begun t a b first second long fails c begins =
    let e = encode_utf8 c in
    let more = begins.1.0 in
    let here : get_or t 0 0 ≡ get_or (e ++ more) 0 0 = ap (λ u. get_or u 0 0) begins.1.1 in
    let next : get_or t 1 0 ≡ get_or (e ++ more) 1 0 = ap (λ u. get_or u 1 0) begins.1.1 in
    elim (cases_lt c 128) [
      | inl small ↦ let one = byte_from_char t more c begins.1.1 small in absurd (omega (arith, one, first, long, small))
      | inr large ↦
          let l = leads c begins.0 large in
          let f : get_or (e ++ more) 0 0 ≡ get_or e 0 0 = get_or-append e more 0 0 (omega (arith, l.two)) in
          let g : get_or (e ++ more) 1 0 ≡ get_or e 1 0 = get_or-append e more 0 1 (omega (arith, l.two)) in
          tells a b fails (omega (arith, first, here, f, l.high)) (omega (arith, first, here, f, l.low)) (omega (arith, second, next, g, l.continued)) (omega (arith, second, next, g, l.within))
    ]

-- where nothing stands, no character does
pub nothing_here : (s : List Spot) → byte_at s ≡ None → NoCharacter (bytes s)
nothing_here s none = let z : length s ≡ 0 = ap length (byte_at-none s none) in no_character s 0 (inl (omega arith)) (λ k lt. absurd (omega arith))

pub no_long_character : (s u : List Spot) (a b : ℕ) → byte_at s ≡ Some a → u ≡ drop 1 s → b ≡ unwrap_or (byte_at u) 0 → 128 ≤ a → may_begin a b ≡ false → NoCharacter (bytes s)
no_long_character s u a b here next second long fails =
    not_begun (bytes s) a b (ap (λ t. get_or t 0 0) (bytes-cons s a here)) (ap (λ t. get_or t 1 0) (bytes-cons s a here) ∙ head (drop 1 s) ∙ ap (λ t. unwrap_or (byte_at t) 0) (sym next) ∙ sym second) long fails where
      head : (v : List Spot) → get_or (bytes v) 0 0 ≡ unwrap_or (byte_at v) 0
      head [] = refl
      head (x ∷ v) = refl

pub no_lead : (s : List Spot) (a : ℕ) → byte_at s ≡ Some a → 128 ≤ a → may_lead a ≡ false → NoCharacter (bytes s)
no_lead s a here long fails = no_long_character s (drop 1 s) a _ here refl refl long (and_left (may_lead a) _ fails)
