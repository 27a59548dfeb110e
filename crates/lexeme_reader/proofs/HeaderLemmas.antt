-- The longest front that is a header name.
use Rattle.std.proofs.Common.{◌≡◌, ◌≢◌, ℕ, zero, suc, ◌+◌, ◌-◌, ◌<◌, ◌≤◌, Bool, true, false, not, cond, ◌==◌, ◌&&◌, ◌||◌, nat_lt, List, [], ◌∷◌, refl, ap, sym, ◌∙◌, inl, inr, drop, take, length, length-drop, slice_index, arith, zero-add, Some}
use Rattle.std.proofs.lemmas.Bool.{and_left, and_right, and_parts, and_from, or_cases, cases_lt, eqb-true, ne_eqb, eq-eqb, lt-ltb, le-ltb}
use Rattle.std.proofs.lemmas.List.{drop-drop, length-take-le}
use Rattle.std.proofs.lemmas.List.Folds.{length-prefix_len}
use Rattle.std.specs.List.{list_all, prefix_len}
use Rattle.scan_model.specs.Spliced.{Spot, byte_at}
use Rattle.scan_model.specs.Spelling.{closes_with, is_header, longest}
use Rattle.scan_model.specs.Tokens.{bytes}
use Rattle.scan_model.proofs.LongestLemmas.{longest_is}
use Rattle.lexeme_reader.specs.Fronts.{line}
use Rattle.lexeme_reader.specs.Headers.{closes_header, len_before, PassesClosing}
use Rattle.lexeme_reader.proofs.LineLemmas.{is_one_line, is_one_line-rest_of_line}
use Rattle.lexeme_reader.proofs.AlongLemmas.{line-cons, line-drop}

-- ## Up to a closing byte

prefix_len-take-le : (p : ℕ → Bool) (s : List ℕ) (m : ℕ) → m ≤ prefix_len p s → prefix_len p (take m s) ≡ m
prefix_len-take-le p s zero h = refl
prefix_len-take-le p [] (suc m) h = absurd (omega arith)
prefix_len-take-le p (x ∷ s) (suc m) h = elim (p x) as (λ b. suc m ≤ cond b (1 + prefix_len p s) 0 → cond b (1 + prefix_len p (take m s)) 0 ≡ suc m) [
  | true ↦ λ k. let z = prefix_len-take-le p s m (omega arith) in omega arith
  | false ↦ λ k. absurd (omega arith)
] h

prefix_len-take-gt : (p : ℕ → Bool) (s : List ℕ) (m : ℕ) → prefix_len p s < m → prefix_len p (take m s) ≡ prefix_len p s
prefix_len-take-gt p s zero h = absurd (omega arith)
prefix_len-take-gt p [] (suc m) h = refl
prefix_len-take-gt p (x ∷ s) (suc m) h = elim (p x) as (λ b. cond b (1 + prefix_len p s) 0 < suc m → cond b (1 + prefix_len p (take m s)) 0 ≡ cond b (1 + prefix_len p s) 0) [
  | true ↦ λ k. let z = prefix_len-take-gt p s m (omega arith) in omega arith
  | false ↦ λ k. refl
] h

one_line-take : (s : List ℕ) (m : ℕ) → is_one_line s ≡ true → is_one_line (take m s) ≡ true
one_line-take s zero h = refl
one_line-take [] (suc m) h = refl
one_line-take (c ∷ s) (suc m) h = let both = and_parts (not (c == 10)) (is_one_line s) h in and_from (not (c == 10)) (is_one_line (take m s)) both.0 (one_line-take s m both.1)

-- a front is closed exactly where it ends at the first closing byte, and something stands before
closes_front : (close : ℕ) (s : List ℕ) (m : ℕ) → m ≤ length s → is_one_line s ≡ true → closes_with close (take m s) ≡ (nat_lt 0 (len_before close s) && (m == len_before close s + 1))
closes_front close s m le one =
    let t = take m s in
    let n = len_before close t in
    let len : length (take n t) ≡ n = length-prefix_len (λ c. not (c == close)) t in
    let whole : length t ≡ m = length-take-le m s le in
    let plain : list_all (λ c. not (c == 10)) (take n t) ≡ true = one_line-take t n (one_line-take s m one) in
    ap (λ k. nat_lt 0 k && (length t == k + 1) && list_all (λ c. not (c == 10)) (take n t)) len
    ∙ ap (λ k. nat_lt 0 n && (k == n + 1) && list_all (λ c. not (c == 10)) (take n t)) whole
    ∙ ap (λ b. nat_lt 0 n && (m == n + 1) && b) plain
    ∙ tidy (nat_lt 0 n) (m == n + 1)
    ∙ elim (cases_lt (len_before close s) m) [
      | inl lt ↦ ap (λ k. nat_lt 0 k && (m == k + 1)) (prefix_len-take-gt (λ c. not (c == close)) s m lt)
      | inr short ↦ ap (λ k. nat_lt 0 k && (m == k + 1)) (prefix_len-take-le (λ c. not (c == close)) s m short)
          ∙ and_right (nat_lt 0 m) (m == m + 1) (ne_eqb m (m + 1) (λ z. omega arith))
          ∙ sym (and_right (nat_lt 0 (len_before close s)) (m == len_before close s + 1) (ne_eqb m (len_before close s + 1) (λ z. omega arith)))
    ] where
      tidy : (a b : Bool) → (a && b && true) ≡ (a && b)
      tidy true true = refl
      tidy true false = refl
      tidy false b = refl

-- ## The whole name

header_closes : (c close : ℕ) (t : List ℕ) → closes_header c close ≡ true → is_header (c ∷ t) ≡ closes_with close t
unfolding is_header
header_closes c close t h = elim (or_cases (c == 60 && close == 62) (c == 34 && close == 34) h) [
  | inl e ↦ let both = and_parts (c == 60) (close == 62) e in
      ap (λ x. (x == 60 && closes_with 62 t) || (x == 34 && closes_with 34 t)) (eqb-true c 60 both.0) ∙ or_false (closes_with 62 t) ∙ ap (λ x. closes_with x t) (sym (eqb-true close 62 both.1))
  | inr e ↦ let both = and_parts (c == 34) (close == 34) e in
      ap (λ x. (x == 60 && closes_with 62 t) || (x == 34 && closes_with 34 t)) (eqb-true c 34 both.0) ∙ ap (λ x. closes_with x t) (sym (eqb-true close 34 both.1))
] where
  or_false : (a : Bool) → (a || false) ≡ a
  or_false true = refl
  or_false false = refl

no_front : is_header [] ≡ false
unfolding is_header
no_front = refl

header_front : (c close : ℕ) (s : List ℕ) (m : ℕ) → closes_header c close ≡ true → is_one_line s ≡ true → suc m ≤ length (c ∷ s)
    → is_header (take (suc m) (c ∷ s)) ≡ (nat_lt 0 (len_before close s) && (m == len_before close s + 1))
header_front c close s m h one le = header_closes c close (take m s) h ∙ closes_front close s m (omega arith) one

pub header_found : (c close : ℕ) (s : List ℕ) → closes_header c close ≡ true → is_one_line s ≡ true → 0 < len_before close s → len_before close s < length s → longest is_header (c ∷ s) ≡ len_before close s + 2
header_found c close s h one some within =
    let n = len_before close s in
    let at : n + 2 ≡ suc (n + 1) = omega arith in
    longest_is is_header (c ∷ s) (n + 2) (omega arith)
    (λ z. ap (λ k. is_header (take k (c ∷ s))) at ∙ header_front c close s (n + 1) h one (omega arith) ∙ and_from (nat_lt 0 n) (n + 1 == n + 1) (lt-ltb 0 n some) (eq-eqb (n + 1) (n + 1) refl))
    (λ m lt le. beyond c close s h one m lt le)
  where
    beyond : (c close : ℕ) (s : List ℕ) → closes_header c close ≡ true → is_one_line s ≡ true → (m : ℕ) → len_before close s + 2 < m → m ≤ length (c ∷ s) → is_header (take m (c ∷ s)) ≡ false
    beyond c close s h one zero lt le = no_front
    beyond c close s h one (suc m) lt le = header_front c close s m h one le ∙ and_right (nat_lt 0 (len_before close s)) (m == len_before close s + 1) (ne_eqb m (len_before close s + 1) (λ z. omega arith))

-- nothing stands before the closing byte, or there is none
pub header_missing : (c close : ℕ) (s : List ℕ) → closes_header c close ≡ true → is_one_line s ≡ true → (0 < len_before close s → len_before close s ≡ length s) → longest is_header (c ∷ s) ≡ 0
header_missing c close s h one none = longest_is is_header (c ∷ s) 0 (omega arith) (λ z. absurd (omega arith)) (λ m lt le. nowhere c close s h one none m le) where
  nowhere : (c close : ℕ) (s : List ℕ) → closes_header c close ≡ true → is_one_line s ≡ true → (0 < len_before close s → len_before close s ≡ length s) → (m : ℕ) → m ≤ length (c ∷ s) → is_header (take m (c ∷ s)) ≡ false
  nowhere c close s h one none zero le = no_front
  nowhere c close s h one none (suc m) le = header_front c close s m h one le ∙ elim (cases_lt 0 (len_before close s)) [
    | inl some ↦ let end = none some in and_right (nat_lt 0 (len_before close s)) (m == len_before close s + 1) (ne_eqb m (len_before close s + 1) (λ z. omega arith))
    | inr empty ↦ and_left (nat_lt 0 (len_before close s)) (m == len_before close s + 1) (le-ltb 0 (len_before close s) empty)
  ]

opened_by_neither : (s : List ℕ) (m : ℕ) → (slice_index s 0 == 60) ≡ false → (slice_index s 0 == 34) ≡ false → is_header (take m s) ≡ false
unfolding is_header
opened_by_neither s zero angle quote = refl
opened_by_neither [] (suc m) angle quote = refl
opened_by_neither (c ∷ s) (suc m) angle quote = rw (angle, quote) refl

pub header_other : (s : List ℕ) → (slice_index s 0 == 60) ≡ false → (slice_index s 0 == 34) ≡ false → longest is_header s ≡ 0
header_other s angle quote = longest_is is_header s 0 (omega arith) (λ z. absurd (omega arith)) (λ m lt le. opened_by_neither s m angle quote)

-- ## Steps of the cursor

-- the closing byte has not come yet
pub record Before (close : ℕ) (old now : List Spot) : Type 0 where
  pub len : ℕ
  pub within : len ≤ length (line old)
  pub left : now ≡ drop len old
  pub count : len_before close (line old) ≡ len + len_before close (line now)

pub before_none : (close : ℕ) (s : List Spot) → Before close s s
before_none close s = record { len = 0; within = omega arith; left = refl; count = sym (zero-add (len_before close (line s))) }

len_before-more : (close c : ℕ) (s : List ℕ) → (c == close) ≡ false → len_before close (c ∷ s) ≡ 1 + len_before close s
len_before-more close c s h = rw h refl

len_before-here : (close c : ℕ) (s : List ℕ) → (c == close) ≡ true → len_before close (c ∷ s) ≡ 0
len_before-here close c s h = rw h refl

length-line : (old now : List Spot) (n : ℕ) → n ≤ length (line old) → now ≡ drop n old → length (line now) ≡ length (line old) - n
length-line old now n within left = ap length (ap line left ∙ line-drop old n within) ∙ length-drop n (line old)

pub before_more : (close c : ℕ) (old now next : List Spot) → Before close old now → byte_at now ≡ Some c → c ≢ 10 → (c == close) ≡ false → next ≡ drop 1 now → Before close old next
before_more close c old now next b here ne other e =
    let cons : line now ≡ c ∷ line next = line-cons now c here ne ∙ ap (λ t. c ∷ line t) (sym e) in
    let whole = length-line old now b.len b.within b.left in
    record {
      len = b.len + 1;
      within = omega (arith, whole, ap length cons, b.within);
      left = e ∙ ap (drop 1) b.left ∙ drop-drop 1 b.len old;
      count = omega (arith, b.count, ap (len_before close) cons, len_before-more close c (line next) other);
    }

pub before_found : (close c : ℕ) (old now next : List Spot) → Before close old now → byte_at now ≡ Some c → c ≢ 10 → (c == close) ≡ true → next ≡ drop 1 now → PassesClosing true close old next
before_found close c old now next b here ne same e =
    let cons : line now ≡ c ∷ line next = line-cons now c here ne ∙ ap (λ t. c ∷ line t) (sym e) in
    let whole = length-line old now b.len b.within b.left in
    let count : len_before close (line old) ≡ b.len = omega (arith, b.count, ap (len_before close) cons, len_before-here close c (line next) same) in
    (omega (arith, whole, ap length cons, b.within, count), e ∙ ap (drop 1) b.left ∙ drop-drop 1 b.len old ∙ ap (λ k. drop (k + 1) old) (sym count))

pub before_end : (close : ℕ) (old now : List Spot) → Before close old now → line now ≡ [] → len_before close (line old) ≡ length (line old)
before_end close old now b none =
    let whole = length-line old now b.len b.within b.left in
    omega (arith, whole, ap length none, b.within, b.count, ap (len_before close) none)

-- the front of the line, where it is passed
pub enclosed_line : (a : List Spot) (close : ℕ) → closes_header (slice_index (line a) 0) close ≡ true → line a ≡ slice_index (line a) 0 ∷ line (drop 1 a)
enclosed_line a close h = by_line (line a) close h ∙ ap (λ t. slice_index (line a) 0 ∷ t) (sym (line-drop a 1 (some (line a) close h))) where
  by_line : (s : List ℕ) (close : ℕ) → closes_header (slice_index s 0) close ≡ true → s ≡ slice_index s 0 ∷ drop 1 s
  by_line [] close h = cc
  by_line (c ∷ s) close h = refl

  some : (s : List ℕ) (close : ℕ) → closes_header (slice_index s 0) close ≡ true → 1 ≤ length s
  some [] close h = cc
  some (c ∷ s) close h = omega arith

len_before-first : (close : ℕ) (s : List ℕ) → slice_index s 0 ≡ close → len_before close s ≡ 0
len_before-first close [] e = refl
len_before-first close (c ∷ s) e = len_before-here close c s (eq-eqb c close e)

len_before-some : (close : ℕ) (s : List ℕ) → (slice_index s 0 ≡ close → ⊥) → 0 < length s → 0 < len_before close s
len_before-some close [] ne some = some
len_before-some close (c ∷ s) ne some = omega (arith, len_before-more close c s (ne_eqb c close ne))

-- what `pass_enclosed` finds
pub enclosed_empty : (a : List Spot) (close : ℕ) → closes_header (slice_index (line a) 0) close ≡ true → slice_index (line a) 1 ≡ close → longest is_header (line a) ≡ 0
enclosed_empty a close h e =
    let s = line (drop 1 a) in
    let cons = enclosed_line a close h in
    ap (longest is_header) cons ∙ header_missing (slice_index (line a) 0) close s h (is_one_line-rest_of_line (bytes (drop 1 a)))
    (λ some. absurd (omega (arith, some, len_before-first close s (ap (λ t. slice_index t 1) (sym cons) ∙ e))))

pub enclosed_open : (a b : List Spot) (close : ℕ) → closes_header (slice_index (line a) 0) close ≡ true → b ≡ drop 1 a → len_before close (line b) ≡ length (line b) → longest is_header (line a) ≡ 0
enclosed_open a b close h left none =
    let s = line (drop 1 a) in
    ap (longest is_header) (enclosed_line a close h) ∙ header_missing (slice_index (line a) 0) close s h (is_one_line-rest_of_line (bytes (drop 1 a)))
    (λ some. ap (λ t. len_before close (line t)) (sym left) ∙ none ∙ ap (λ t. length (line t)) left)

pub record Enclosed (a d : List Spot) : Type 0 where
  pub some : 0 < longest is_header (line a)
  pub left : d ≡ drop (longest is_header (line a)) a

pub enclosed_found : (a b d : List Spot) (close : ℕ) → closes_header (slice_index (line a) 0) close ≡ true → (slice_index (line a) 1 ≡ close → ⊥) → b ≡ drop 1 a
    → PassesClosing true close b d → Enclosed a d
enclosed_found a b d close h ne left found =
    let s = line (drop 1 a) in
    let cons = enclosed_line a close h in
    let same : line b ≡ s = ap line left in
    let n = len_before close s in
    let count : len_before close (line b) ≡ n = ap (len_before close) same in
    let within : n < length s = omega (arith, found.0, count, ap length same) in
    let some : 0 < n = len_before-some close s (λ z. ne (ap (λ t. slice_index t 1) cons ∙ z)) (omega arith) in
    let len : longest is_header (line a) ≡ n + 2 = ap (longest is_header) cons ∙ header_found (slice_index (line a) 0) close s h (is_one_line-rest_of_line (bytes (drop 1 a))) some within in
    let total : 1 + (len_before close (line b) + 1) ≡ longest is_header (line a) = omega arith in
    record { some = omega arith; left = found.1 ∙ ap (drop (len_before close (line b) + 1)) left ∙ drop-drop (len_before close (line b) + 1) 1 a ∙ ap (λ k. drop k a) total }

pub enclosed_some : (a : List Spot) (close : ℕ) → closes_header (slice_index (line a) 0) close ≡ true → 1 ≤ length (line a)
enclosed_some a close h = omega (arith, ap length (enclosed_line a close h))
