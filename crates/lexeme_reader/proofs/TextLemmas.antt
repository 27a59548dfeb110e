-- The longest front that is a text whose characters pass a test.
use Rattle.std.proofs.Common.{◌≡◌, ℕ, zero, suc, ◌-◌, ◌<◌, ◌≤◌, Bool, true, false, ◌&&◌, List, [], ◌∷◌, ◌++◌, refl, ap, sym, ◌∙◌, inl, inr, drop, take, length, length-take, length-append, arith}
use Rattle.std.proofs.lemmas.Bool.{and_parts, cases_Bool, true≢false}
use Rattle.std.proofs.lemmas.List.{append_assoc, take-append-drop}
use Rattle.std.proofs.lemmas.Str.{chars-encodes, cons_from_encodes, IsUtf8-from_is_utf8, is_utf8-from_IsUtf8, chars_from_encodes}
use Rattle.std.specs.Char.{encode_utf8}
use Rattle.std.specs.Str.{is_utf8, IsUtf8, chars, encode_utf8_all, all_scalars}
use Rattle.scan_model.specs.Spelling.{longest}
use Rattle.scan_model.proofs.LongestLemmas.{longest_is}

-- a text whose characters pass
abbrev pub is_text_of : (List ℕ → Bool) → List ℕ → Bool
is_text_of p s = is_utf8 s && p (chars s)

-- whatever characters come next, with them the test fails
abbrev pub EndsAt : (List ℕ → Bool) → List ℕ → List ℕ → Type 0
EndsAt p cs rest = (e : ℕ) (es v : List ℕ) → all_scalars (e ∷ es) ≡ true → rest ≡ encode_utf8 e ++ (encode_utf8_all es ++ v) → p (cs ++ e ∷ es) ≡ false

-- what a text that begins with some characters is as characters
split_chars : (cs ds u : List ℕ) → encode_utf8_all ds ≡ encode_utf8_all cs ++ u → (es : List ℕ) × (ds ≡ cs ++ es) × (encode_utf8_all es ≡ u)
split_chars [] ds u e = (ds, refl, e)
split_chars (c ∷ cs) ds u e =
    let first = cons_from_encodes ds (encode_utf8_all cs ++ u) c (e ∙ append_assoc (encode_utf8 c) (encode_utf8_all cs) u) in
    let more = split_chars cs first.0 u first.2 in
    (more.0, first.1 ∙ ap (λ t. c ∷ t) more.1, more.2)

scalars_end : (cs es : List ℕ) → all_scalars (cs ++ es) ≡ true → all_scalars es ≡ true
scalars_end [] es h = h
scalars_end (c ∷ cs) es h = scalars_end cs es (and_parts _ _ h).1

longer : (p : List ℕ → Bool) (cs rest u v : List ℕ) → EndsAt p cs rest → rest ≡ u ++ v → 0 < length u → is_text_of p (encode_utf8_all cs ++ u) ≡ true → ⊥
longer p cs rest u v ends whole some h =
    let s = encode_utf8_all cs ++ u in
    let both = and_parts (is_utf8 s) (p (chars s)) h in
    let text = IsUtf8-from_is_utf8 s both.0 in
    let parts = split_chars cs text.0 u text.1.1 in
    let passes : p (cs ++ parts.0) ≡ true = ap p (sym parts.1 ∙ chars_from_encodes text.0 s text text.1.1) ∙ both.1 in
    let scalar : all_scalars (cs ++ parts.0) ≡ true = ap all_scalars (sym parts.1) ∙ text.1.0 in
    more p cs rest u v ends whole some parts.0 parts.2 passes (scalars_end cs parts.0 scalar) where
      more : (p : List ℕ → Bool) (cs rest u v : List ℕ) → EndsAt p cs rest → rest ≡ u ++ v → 0 < length u → (es : List ℕ) → encode_utf8_all es ≡ u
          → p (cs ++ es) ≡ true → all_scalars es ≡ true → ⊥
      more p cs rest u v ends whole some [] spelt passes scalar = let z : 0 ≡ length u = ap length spelt in omega arith
      more p cs rest u v ends whole some (e ∷ es) spelt passes scalar =
          let there : rest ≡ encode_utf8 e ++ (encode_utf8_all es ++ v) = whole ∙ ap (λ t. t ++ v) (sym spelt) ∙ append_assoc (encode_utf8 e) (encode_utf8_all es) v in
          true≢false (sym passes ∙ ends e es v scalar there)

some_chars : (cs : List ℕ) → 0 < length (encode_utf8_all cs) → 0 < length cs
some_chars [] h = h
some_chars (c ∷ cs) h = omega arith

pub text_passes : (p : List ℕ → Bool) (cs : List ℕ) → all_scalars cs ≡ true → p cs ≡ true → is_text_of p (encode_utf8_all cs) ≡ true
text_passes p cs scalar passes =
    let text : IsUtf8 (encode_utf8_all cs) = (cs, (scalar, refl)) in
    rw (is_utf8-from_IsUtf8 (encode_utf8_all cs) text, chars-encodes cs scalar) passes

pub take_front : (xs ys : List ℕ) → take (length xs) (xs ++ ys) ≡ xs
take_front [] ys = refl
take_front (x ∷ xs) ys = ap (λ t. x ∷ t) (take_front xs ys)

take_more : (xs ys : List ℕ) (m : ℕ) → length xs ≤ m → take m (xs ++ ys) ≡ xs ++ take (m - length xs) ys
take_more [] ys m h = let e : m ≡ m - 0 = omega arith in ap (λ k. take k ys) e
take_more (x ∷ xs) ys zero h = absurd (omega arith)
take_more (x ∷ xs) ys (suc m) h = let e : m - length xs ≡ suc m - suc (length xs) = omega arith in ap (λ t. x ∷ t) (take_more xs ys m (omega arith) ∙ ap (λ k. xs ++ take k ys) e)

-- characters that pass, and then none with which they do
pub longest_text : (p : List ℕ → Bool) (cs rest : List ℕ) → all_scalars cs ≡ true → (0 < length cs → p cs ≡ true) → EndsAt p cs rest
    → longest (is_text_of p) (encode_utf8_all cs ++ rest) ≡ length (encode_utf8_all cs)
longest_text p cs rest scalar passes ends =
    let b = encode_utf8_all cs in
    longest_is (is_text_of p) (b ++ rest) (length b) (omega (arith, length-append b rest))
    (λ z. ap (is_text_of p) (take_front b rest) ∙ text_passes p cs scalar (passes (some_chars cs z)))
    (λ m lt le. elim (cases_Bool (is_text_of p (take m (b ++ rest)))) [
      | inl e ↦ absurd (longer p cs rest (take (m - length b) rest) (drop (m - length b) rest) ends (sym (take-append-drop (m - length b) rest))
          (omega (arith, length-take (m - length b) rest, length-append b rest)) (ap (is_text_of p) (sym (take_more b rest m (omega arith))) ∙ e))
      | inr e ↦ e
    ])
