-- The longest front that is a quoted literal.
use Rattle.std.proofs.Common.{◌≡◌, ◌≢◌, ℕ, zero, suc, ◌+◌, ◌-◌, ◌<◌, ◌≤◌, Bool, true, false, not, cond, ◌==◌, ◌&&◌, ◌||◌, List, [], ◌∷◌, refl, ap, sym, ◌∙◌, inl, inr, is_some, drop, take, length, length-take, length-drop, slice_index, arith, Some, None, nat_eq}
use Rattle.std.proofs.lemmas.Bool.{and_left, cases_Bool, and_right, cases_eq, cases_lt, ne_eqb, eq-eqb, or_right, eqb-true, true≢false, cond_both}
use Rattle.std.proofs.lemmas.List.{drop-drop, drop-take, get_or-take, get_or_past}
use Rattle.std.specs.Option.{option_map_or}
use Rattle.scan_model.specs.Spliced.{Spot, byte_at}
use Rattle.lexeme_reader.specs.declared.quoted.Quote.{Quote}
use Rattle.lexeme_reader.specs.declared.quoted.Quote.TheVariants.{Single, Double}
use Rattle.lexeme_reader.specs.declared.quoted.Opening.TheVariants.{Quoted, Raw}
use Rattle.scan_model.specs.Spelling.{encoding_len, opens, after_items, after_quoted, is_quoted, is_suffix, is_name, longest}
use Rattle.scan_model.proofs.LongestLemmas.{longest_is, longest_le, longest_passes, longest_beyond}
use Rattle.scan_model.proofs.QuotedLemmas.{Closes, closes}
use Rattle.lexeme_reader.specs.Fronts.{line, Along}
use Rattle.lexeme_reader.specs.Quotes.{quote_byte, IsOpening, encoding_of, opening_of, PassesItems}
use Rattle.lexeme_reader.proofs.AlongLemmas.{line-cons, line-drop, along_line}

-- ## Prefixes

pub eqb_swap : (a b : ℕ) → nat_eq a b ≡ nat_eq b a
eqb_swap a b = elim (cases_eq a b) [ inl e ↦ eq-eqb a b e ∙ sym (eq-eqb b a (sym e)) | inr ne ↦ ne_eqb a b ne ∙ sym (ne_eqb b a (λ z. ne (sym z))) ]

-- the two bytes of `u8` tell
pub encoding_len-bytes : (s : List ℕ) → encoding_len s ≡ encoding_of (slice_index s 0) (slice_index s 1)
encoding_len-bytes [] = refl
encoding_len-bytes (a ∷ []) = rw (eqb_swap a 117) refl
encoding_len-bytes (a ∷ b ∷ s) = rw (eqb_swap a 117, eqb_swap b 56) (tidy (nat_eq 117 a) (nat_eq 56 b) _) where
  tidy : (x y : Bool) (n : ℕ) → cond (x && (y && true)) 2 n ≡ cond (x && y) 2 n
  tidy true true n = refl
  tidy true false n = refl
  tidy false y n = refl

-- after another byte than `u` the second one is of no account
pub encoding_of-first : (a b d : ℕ) → ((a == 117) ≡ true → b ≡ d) → encoding_of a b ≡ encoding_of a d
encoding_of-first a b d same = elim (cases_Bool (a == 117)) [
  | inl u ↦ ap (encoding_of a) (same u)
  | inr other ↦ rw (and_left (a == 117) (b == 56) other, and_left (a == 117) (d == 56) other) refl
]

pub opening_of-first : (a b d : ℕ) → ((a == 82) ≡ true → b ≡ d) → opening_of a b ≡ opening_of a d
opening_of-first a b d same = elim (cases_Bool (a == 82)) [
  | inl raw ↦ ap (opening_of a) (same raw)
  | inr other ↦ rw (and_left (a == 82) (b == 34) other, and_left (a == 82) (d == 34) other) refl
]

-- ## Where a prefix ends

pub encoding_len-le : (s : List ℕ) → encoding_len s ≤ length s
encoding_len-le [] = omega arith
encoding_len-le (a ∷ []) = rw (encoding_len-bytes (a ∷ []), and_right (a == 117) false refl) (one_at_most (a == 117 || a == 85 || a == 76)) where
  one_at_most : (b : Bool) → cond b 1 0 ≤ 1
  one_at_most true = omega arith
  one_at_most false = omega arith
encoding_len-le (a ∷ b ∷ s) = rw (encoding_len-bytes (a ∷ b ∷ s)) (two_at_most (a == 117 && b == 56) (a == 117 || a == 85 || a == 76) (length s)) where
  two_at_most : (x y : Bool) (n : ℕ) → cond x 2 (cond y 1 0) ≤ suc (suc n)
  two_at_most true y n = omega arith
  two_at_most false true n = omega arith
  two_at_most false false n = omega arith

-- a front that is longer than the prefix has the same one
pub encoding_len-take : (s : List ℕ) (m : ℕ) → encoding_len s < m → encoding_len (take m s) ≡ encoding_len s
encoding_len-take s zero h = absurd (omega (arith, h))
encoding_len-take [] (suc m) h = refl
encoding_len-take (a ∷ []) (suc m) h = ap (λ t. encoding_len (a ∷ t)) (nothing m) where
  nothing : (m : ℕ) → take {A = ℕ} m [] ≡ []
  nothing zero = refl
  nothing (suc m) = refl
encoding_len-take (a ∷ b ∷ s) (suc zero) h =
    let none : encoding_of a b ≡ 0 = omega (arith, sym (encoding_len-bytes (a ∷ b ∷ s)), h) in
    encoding_len-bytes (a ∷ []) ∙ alone (a == 117) (b == 56) (a == 117 || a == 85 || a == 76) none ∙ sym none ∙ sym (encoding_len-bytes (a ∷ b ∷ s)) where
      alone : (x y z : Bool) → ◌≡◌ {A = ℕ} (cond (x && y) 2 (cond z 1 0)) 0 → ◌≡◌ {A = ℕ} (cond (x && false) 2 (cond z 1 0)) 0
      alone true true z h = absurd (omega (arith, h))
      alone true false z h = h
      alone false y z h = h
encoding_len-take (a ∷ b ∷ s) (suc (suc m)) h = refl

-- ## The whole literal

-- what a front has after the opening quote
quoted_front : (q : ℕ) (s : List ℕ) (m i : ℕ) → opens q s ≡ true → m ≡ encoding_len s + 1 + i
    → is_quoted q (take m s) ≡ option_map_or is_suffix (after_items q false (take i (drop (encoding_len s + 1) s))) false
unfolding is_quoted
quoted_front q s m i opening is =
    let p = encoding_len s in
    let same : encoding_len (take m s) ≡ p = encoding_len-take s m (omega arith) in
    let opened : opens q (take m s) ≡ true = ap (λ k. slice_index (take m s) k == q) same ∙ ap (λ b. b == q) (get_or-take m s p 0 (omega arith)) ∙ opening in
    let inside : drop (encoding_len (take m s) + 1) (take m s) ≡ take i (drop (p + 1) s) = ap (λ k. drop (k + 1) (take m s)) same ∙ ap (λ k. drop (p + 1) (take k s)) is ∙ drop-take (p + 1) i s in
    and_same (opens q (take m s)) _ opened ∙ ap (λ t. option_map_or is_suffix (after_items q false t) false) inside where
      and_same : (a b : Bool) → a ≡ true → (a && b) ≡ b
      and_same true b e = refl
      and_same false b e = cc

pub suffix_yes : (r : List ℕ) → is_suffix (take (longest is_name r) r) ≡ true
suffix_yes r = elim (cases_eq (longest is_name r) 0) [
  | inl e ↦ ap (λ n. is_suffix (take n r)) e ∙ refl
  | inr ne ↦ or_right (length (take (longest is_name r) r) == 0) (is_name (take (longest is_name r) r)) (longest_passes is_name r (omega arith))
]

pub suffix_no : (r : List ℕ) (i : ℕ) → longest is_name r < i → i ≤ length r → is_suffix (take i r) ≡ false
suffix_no r i lt le =
    let some : (length (take i r) == 0) ≡ false = ne_eqb (length (take i r)) 0 (λ z. omega (arith, z, length-take i r)) in
    rw (some, longest_beyond is_name r i lt le) refl

-- the suffix, of which there may be none, is the name that follows
pub longest_suffix : (r : List ℕ) → longest is_suffix r ≡ longest is_name r
longest_suffix r = longest_is is_suffix r (longest is_name r) (longest_le is_name r) (λ z. suffix_yes r) (λ m lt le. suffix_no r m lt le)

pub opens_within : (q : ℕ) (s : List ℕ) → (0 == q) ≡ false → opens q s ≡ true → encoding_len s + 1 ≤ length s
opens_within q s some opening = elim (cases_lt (encoding_len s) (length s)) [
  | inl lt ↦ omega arith
  | inr le ↦ absurd (true≢false (sym opening ∙ ap (λ b. b == q) (get_or_past s (encoding_len s) 0 le) ∙ some))
]

pub quoted_longest : (q : ℕ) (s r : List ℕ) → (0 == q) ≡ false → opens q s ≡ true → (c : Closes q false (drop (encoding_len s + 1) s) r)
    → longest (is_quoted q) s ≡ encoding_len s + 1 + (c.len + longest is_name r)
quoted_longest q s r some opening c =
    let p = encoding_len s in
    let n = longest is_name r in
    let within = opens_within q s some opening in
    let whole = c.whole in
    let le = longest_le is_name r in
    longest_is (is_quoted q) s (p + 1 + (c.len + n)) (omega (arith, length-drop (p + 1) s))
    (λ z. quoted_front q s (p + 1 + (c.len + n)) (c.len + n) opening refl ∙ ap (λ a. option_map_or is_suffix a false) (c.long (c.len + n) n refl) ∙ suffix_yes r)
    (λ m lt upto.
    let i = m - (p + 1) in
    let j = i - c.len in
    let there : m ≡ p + 1 + i = omega arith in
    let parts : i ≡ c.len + j = omega arith in
    quoted_front q s m i opening there ∙ ap (λ a. option_map_or is_suffix a false) (c.long i j parts) ∙ suffix_no r j (omega arith) (omega (arith, length-drop (p + 1) s)))

-- ## What the cursor passes

-- after a closing quote has been passed, and then the suffix
pub quoted_passed : (q : ℕ) (a b d e : List Spot) → (0 == q) ≡ false → opens q (line a) ≡ true → b ≡ drop (encoding_len (line a) + 1) a → Along b d
    → after_items q false (line b) ≡ Some (line d) → e ≡ drop (longest is_name (line d)) d → e ≡ drop (longest (is_quoted q) (line a)) a
quoted_passed q a b d e some opening opened along items suffix =
    let p = encoding_len (line a) + 1 in
    let there : line b ≡ drop p (line a) = ap line opened ∙ line-drop a p (opens_within q (line a) some opening) in
    let c = closes q false (drop p (line a)) (line d) (ap (after_items q false) (sym there) ∙ items) in
    let short : length (line d) ≡ length (line b) - along.len = ap length (along_line b d along) ∙ length-drop along.len (line b) in
    let len : along.len ≡ c.len = omega (arith, c.whole, short, along.within, ap length there) in
    let n = longest is_name (line d) in
    let total : p + along.len + n ≡ longest (is_quoted q) (line a) = omega (arith, quoted_longest q (line a) (line d) some opening c, len) in
    suffix ∙ ap (drop n) (along.left ∙ ap (drop along.len) opened ∙ drop-drop along.len p a) ∙ drop-drop n (p + along.len) a ∙ ap (λ k. drop k a) total

-- where no quote closes
pub unclosed_passed : (q : ℕ) (a b d : List Spot) → (0 == q) ≡ false → opens q (line a) ≡ true → b ≡ drop (encoding_len (line a) + 1) a → d ≡ drop (length (line b)) b
    → d ≡ drop (length (line a)) a
unclosed_passed q a b d some opening opened left =
    let p = encoding_len (line a) + 1 in
    let within = opens_within q (line a) some opening in
    let there : length (line b) ≡ length (line a) - p = ap length (ap line opened ∙ line-drop a p within) ∙ length-drop p (line a) in
    let total : p + length (line b) ≡ length (line a) = omega arith in
    left ∙ ap (drop (length (line b))) opened ∙ drop-drop (length (line b)) p a ∙ ap (λ k. drop k a) total

-- ## Items

-- the next item goes on, closes, or is not there
pub items_close : (q : ℕ) (escaped : Bool) (s : List Spot) (c : ℕ) → byte_at s ≡ Some c → c ≢ 10 → (not escaped && c == q) ≡ true → after_items q escaped (line s) ≡ Some (line (drop 1 s))
unfolding after_items
items_close q escaped s c here ne close = ap (after_items q escaped) (line-cons s c here ne) ∙ rw (ne_eqb c 10 ne, close) refl

pub items_more : (q : ℕ) (escaped : Bool) (s : List Spot) (c : ℕ) → byte_at s ≡ Some c → c ≢ 10 → (not escaped && c == q) ≡ false
    → after_items q escaped (line s) ≡ after_items q (not escaped && c == 92) (line (drop 1 s))
unfolding after_items
items_more q escaped s c here ne close = ap (after_items q escaped) (line-cons s c here ne) ∙ rw (ne_eqb c 10 ne, close) refl

pub items_end : (q : ℕ) (escaped : Bool) → after_items q escaped [] ≡ None
unfolding after_items
items_end q escaped = refl

-- ## The literal that opens

pub opening_is : (s : List ℕ) (a b : ℕ) → a ≡ slice_index s (encoding_len s) → b ≡ slice_index s (encoding_len s + 1) → IsOpening (opening_of a b) s
opening_is s a b first second =
    let x = slice_index s (encoding_len s) in
    let y = slice_index s (encoding_len s + 1) in
    let raw_of : ℕ → Bool = λ z. z == 82 && y == 34 in
    cond_both (a == 39) (Some (Quoted Single)) (cond (a == 34) (Some (Quoted Double)) (cond (a == 82 && b == 34) (Some Raw) None)) (λ o. IsOpening o s)
    (λ e. let is : x ≡ 39 = sym first ∙ eqb-true a 39 e in (ap raw_of is, ap (λ z. z == 39) is, ap (λ z. z == 34) is))
    (λ no_single. cond_both (a == 34) (Some (Quoted Double)) (cond (a == 82 && b == 34) (Some Raw) None) (λ o. IsOpening o s)
    (λ e. let is : x ≡ 34 = sym first ∙ eqb-true a 34 e in (ap raw_of is, ap (λ z. z == 34) is, ap (λ z. z == 39) is))
    (λ no_double. cond_both (a == 82 && b == 34) (Some Raw) None (λ o. IsOpening o s)
    (λ e. (raw_same a b x y first second ∙ e, ap (λ z. z == 39) (sym first) ∙ no_single, ap (λ z. z == 34) (sym first) ∙ no_double))
    (λ e. (raw_same a b x y first second ∙ e, ap (λ z. z == 39) (sym first) ∙ no_single, ap (λ z. z == 34) (sym first) ∙ no_double))))
  where
    raw_same : (a b x y : ℕ) → a ≡ x → b ≡ y → (x == 82 && y == 34) ≡ (a == 82 && b == 34)
    raw_same a b x y e f = ap (λ z. z == 82 && y == 34) (sym e) ∙ ap (λ z. a == 82 && z == 34) (sym f)

pub quote_some : (quote : Quote) → (0 == quote_byte quote) ≡ false
quote_some Single = refl
quote_some Double = refl

-- what stands inside
pub inside_line : (q : ℕ) (a b : List Spot) → (0 == q) ≡ false → opens q (line a) ≡ true → b ≡ drop (encoding_len (line a) + 1) a → line b ≡ drop (encoding_len (line a) + 1) (line a)
inside_line q a b some opening opened = ap line opened ∙ line-drop a (encoding_len (line a) + 1) (opens_within q (line a) some opening)

pub closed_is : (closed : Bool) (q : ℕ) (a b d : List Spot) → (0 == q) ≡ false → opens q (line a) ≡ true → b ≡ drop (encoding_len (line a) + 1) a → PassesItems closed q b d
    → closed ≡ is_some (after_quoted q (line a))
closed_is true q a b d some opening opened items = sym (ap is_some (ap (after_items q false) (sym (inside_line q a b some opening opened)) ∙ items.1))
closed_is false q a b d some opening opened items = sym (ap is_some (ap (after_items q false) (sym (inside_line q a b some opening opened)) ∙ items.0))
