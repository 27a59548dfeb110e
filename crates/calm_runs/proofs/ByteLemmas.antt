-- What the bytes of a run tell of a token that begins there.
use Rattle.std.proofs.Common.{◌≡◌, ℕ, zero, suc, ◌+◌, ◌-◌, ◌<◌, ◌≤◌, Bool, true, false, not, ◌&&◌, ◌||◌, ◌==◌, nat_eq, nat_lt, if◌then◌else◌, List, [], ◌∷◌, ◌++◌, refl, ap, sym, ◌∙◌, inl, inr, ◌⊎◌, take, drop, length, slice_index, get_or, codes, length-take, length-append, add-one, arith}
use Prim.Native.String.{String}
use Rattle.std.specs.List.{list_all, starts_with}
use Rattle.std.specs.Char.{is_ascii_digit}
use Rattle.std.specs.Str.{is_utf8, chars}
use Rattle.std.proofs.lemmas.Bool.{and_parts, and_left, and_right, or_parts, not-true, eqb-true, eq-eqb, ne_eqb, ltb-true, cases_Bool, cases_lt, true≢false, both_ways}
use Rattle.std.proofs.lemmas.Str.{chars-append, chars-IsAscii, IsUtf8-from_ascii, IsUtf8-from_is_utf8, IsUtf8-past_char, chars_past_char, encodes-chars}
use Rattle.std.specs.Char.{encode_utf8}
use lib.Utf8.{encodes}
use Rattle.std.proofs.Math.Seq.{take-append-add}
use Rattle.std.proofs.lemmas.Str.Ascii.{IsAscii-cons, IsAscii-nil, encode_ascii}
use Rattle.std.specs.Str.{IsAscii, IsUtf8}
use Rattle.scan_model.specs.Spelling.{first, is_start, is_continue, are_name, is_name, is_alternative, alternatives, punctuators, is_one_of, goes_on, go_on, are_number, is_number, encoding_len, opens, opens_raw, is_quoted, is_punct, longest}
use Rattle.scan_model.specs.Tokens.{is_token, is_character, is_open}
use Rattle.scan_model.proofs.LongestLemmas.{one_of_passes, longest_le, longest_passes}
use Rattle.line_splice.specs.Plain.{shows_itself}
use Rattle.calm_runs.specs.Runs.{is_calm, ends_token, is_run}

-- ## One byte

-- what is true of each byte that ends a token is true of this one
by_end : (P : ℕ → Bool) (c : ℕ) → ends_token c ≡ true → P 32 ≡ true → P 9 ≡ true → P 59 ≡ true → P 44 ≡ true → P 40 ≡ true → P 41 ≡ true → P 123 ≡ true → P 125 ≡ true → P 91 ≡ true → P 93 ≡ true → P c ≡ true
by_end P c h a b d e f g i j k l = elim (cases_Bool (P c)) [
  | inl holds ↦ holds
  | inr fails ↦ let other : (n : ℕ) → P n ≡ true → (c == n) ≡ false = λ n t. ne_eqb c n (λ same. true≢false (sym t ∙ ap P (sym same) ∙ fails)) in
      absurd (true≢false (sym h ∙ rw (other 32 a, other 9 b, other 59 d, other 44 e, other 40 f, other 41 g, other 123 i, other 125 j, other 91 k, other 93 l) refl))
]

-- no name, number, prefix or quote has it
abbrev apart : ℕ → Bool
apart c = not (is_start c) && (not (is_continue c) && (not (is_ascii_digit c) && (not (c == 46) && (not (c == 39) && (not (c == 43) && (not (c == 45) && (not (c == 34) && (not (c == 82) && (not (c == 117) && (not (c == 85) && (not (c == 76) && not (c == 56))))))))))))

pub record EndFacts (c : ℕ) : Type 0 where
  pub start : is_start c ≡ false
  pub goes : is_continue c ≡ false
  pub digit : is_ascii_digit c ≡ false
  pub dot : (c == 46) ≡ false
  pub single : (c == 39) ≡ false
  pub plus : (c == 43) ≡ false
  pub minus : (c == 45) ≡ false
  pub double : (c == 34) ≡ false
  pub upper_r : (c == 82) ≡ false
  pub lower_u : (c == 117) ≡ false
  pub upper_u : (c == 85) ≡ false
  pub upper_l : (c == 76) ≡ false
  pub eight : (c == 56) ≡ false

not_both : (a b : Bool) → (not a && b) ≡ true → (a ≡ false) × (b ≡ true)
not_both false b h = (refl, h)
not_both true b h = cc

pub end_facts : (c : ℕ) → ends_token c ≡ true → EndFacts c
unfolding is_start is_continue
end_facts c h =
    let a = not_both (is_start c) _ (by_end apart c h refl refl refl refl refl refl refl refl refl refl) in
    let b = not_both (is_continue c) _ a.1 in
    let d = not_both (is_ascii_digit c) _ b.1 in
    let e = not_both (c == 46) _ d.1 in
    let f = not_both (c == 39) _ e.1 in
    let g = not_both (c == 43) _ f.1 in
    let i = not_both (c == 45) _ g.1 in
    let j = not_both (c == 34) _ i.1 in
    let k = not_both (c == 82) _ j.1 in
    let l = not_both (c == 117) _ k.1 in
    let m = not_both (c == 85) _ l.1 in
    let n = not_both (c == 76) _ m.1 in
    record {
      start = a.0;
      goes = b.0;
      digit = d.0;
      dot = e.0;
      single = f.0;
      plus = g.0;
      minus = i.0;
      double = j.0;
      upper_r = k.0;
      lower_u = l.0;
      upper_u = m.0;
      upper_l = n.0;
      eight = not-true (c == 56) n.1;
    }

pub record CalmFacts (c : ℕ) : Type 0 where
  pub small : c < 128
  pub newline : (c == 10) ≡ false
  pub double : (c == 34) ≡ false
  pub single : (c == 39) ≡ false
  pub slash : (c == 47) ≡ false

pub calm_facts : (c : ℕ) → is_calm c ≡ true → CalmFacts c
calm_facts c h =
    let both = and_parts (nat_lt c 128) (not (c == 10 || c == 13 || c == 34 || c == 39 || c == 47 || c == 92)) h in
    let a = or_parts (c == 10 || c == 13 || c == 34 || c == 39 || c == 47) (c == 92) (not-true (c == 10 || c == 13 || c == 34 || c == 39 || c == 47 || c == 92) both.1) in
    let b = or_parts (c == 10 || c == 13 || c == 34 || c == 39) (c == 47) a.0 in
    let d = or_parts (c == 10 || c == 13 || c == 34) (c == 39) b.0 in
    let e = or_parts (c == 10 || c == 13) (c == 34) d.0 in
    let f = or_parts (c == 10) (c == 13) e.0 in
    record { small = ltb-true c 128 both.0; newline = f.0; double = e.1; single = d.1; slash = b.1 }

-- ## A run

-- the rest of a run after its first byte, which is calm
pub run_tail : (c : ℕ) (w : List ℕ) → is_run (c ∷ w) ≡ true → (is_calm c ≡ true) × (is_run w ≡ true)
run_tail c [] h = ((and_parts (is_calm c) (ends_token c) h).0, refl)
run_tail c (d ∷ w) h = let both = and_parts (is_calm c) (is_run (d ∷ w)) h in (both.0, both.1)

pub run_drop : (n : ℕ) (w : List ℕ) → is_run w ≡ true → is_run (drop n w) ≡ true
run_drop zero w h = h
run_drop (suc n) [] h = h
run_drop (suc n) (c ∷ w) h = run_drop n w (run_tail c w h).1

pub run_ascii : (w : List ℕ) → is_run w ≡ true → IsAscii w
run_ascii [] h = IsAscii-nil
run_ascii (c ∷ w) h = let both = run_tail c w h in IsAscii-cons c w (calm_facts c both.0).small (run_ascii w both.1)

run_chars : (w v : List ℕ) → is_run w ≡ true → chars (w ++ v) ≡ w ++ chars v
run_chars w v h = let a = run_ascii w h in chars-append w v (IsUtf8-from_ascii w a) ∙ ap (λ u. u ++ chars v) (chars-IsAscii w a)

-- ## No token goes past its end

none_all : (p : ℕ → Bool) (w v : List ℕ) → ((c : ℕ) → ends_token c ≡ true → p c ≡ false) → is_run w ≡ true → 0 < length w → list_all p (w ++ v) ≡ false
none_all p [] v ends h some = absurd (omega arith)
none_all p (c ∷ []) v ends h some = and_left (p c) _ (ends c (and_parts (is_calm c) (ends_token c) h).1)
none_all p (c ∷ d ∷ w) v ends h some = and_right (p c) _ (none_all p (d ∷ w) v ends (run_tail c (d ∷ w) h).1 (omega arith))

no_name : (w v : List ℕ) → is_run w ≡ true → 0 < length w → is_name (w ++ v) ≡ false
unfolding is_name
no_name w v h some = and_right (is_utf8 (w ++ v)) _ (ap are_name (run_chars w v h) ∙ by w h some) where
  by : (w : List ℕ) → is_run w ≡ true → 0 < length w → are_name (w ++ chars v) ≡ false
  by [] h some = absurd (omega arith)
  by (c ∷ []) h some = and_left (is_start c) _ (end_facts c (and_parts (is_calm c) (ends_token c) h).1).start
  by (c ∷ d ∷ w) h some = and_right (is_start c) _ (none_all is_continue (d ∷ w) (chars v) (λ e k. (end_facts e k).goes) (run_tail c (d ∷ w) h).1 (omega arith))

stops_at : (b c a : ℕ) → ends_token c ≡ true → goes_on b c a ≡ false
stops_at b c a h = let f = end_facts c h in rw (f.goes, f.dot, f.single, f.plus, f.minus) refl

stops : (b : ℕ) (w v : List ℕ) → is_run w ≡ true → 0 < length w → go_on b (w ++ v) ≡ false
stops b [] v h some = absurd (omega arith)
stops b (c ∷ []) v h some = and_left (goes_on b c (first v)) _ (stops_at b c (first v) (and_parts (is_calm c) (ends_token c) h).1)
stops b (c ∷ d ∷ w) v h some = and_right (goes_on b c d) _ (stops c (d ∷ w) v (run_tail c (d ∷ w) h).1 (omega arith))

no_number : (w v : List ℕ) → is_run w ≡ true → 0 < length w → is_number (w ++ v) ≡ false
unfolding is_number
no_number w v h some = and_right (is_utf8 (w ++ v)) _ (ap are_number (run_chars w v h) ∙ by w h some) where
  by : (w : List ℕ) → is_run w ≡ true → 0 < length w → are_number (w ++ chars v) ≡ false
  by [] h some = absurd (omega arith)
  by (c ∷ []) h some = let f = end_facts c (and_parts (is_calm c) (ends_token c) h).1 in rw (f.digit, f.dot) refl
  by (c ∷ d ∷ w) h some = and_right (is_ascii_digit c || (c == 46 && is_ascii_digit d)) _ (stops c (d ∷ w) (chars v) (run_tail c (d ∷ w) h).1 (omega arith))

-- only the last byte ends a token
abbrev inner : List ℕ → Bool
inner [] = true
inner (c ∷ []) = true
inner (c ∷ d ∷ s) = not (ends_token c) && inner (d ∷ s)

past_inner : (w v : List ℕ) (x : ℕ) → is_run w ≡ true → 0 < length w → inner (w ++ x ∷ v) ≡ false
past_inner [] v x h some = absurd (omega arith)
past_inner (c ∷ []) v x h some = and_left (not (ends_token c)) _ (ap not (and_parts (is_calm c) (ends_token c) h).1)
past_inner (c ∷ d ∷ w) v x h some = and_right (not (ends_token c)) _ (past_inner (d ∷ w) v x (run_tail c (d ∷ w) h).1 (omega arith))

not_one : (words : List String) (s : List ℕ) → list_all (λ word. inner (codes word)) words ≡ true → inner s ≡ false → is_one_of words s ≡ false
not_one words s all h = elim (cases_Bool (is_one_of words s)) [
  | inl one ↦ absurd (true≢false (sym (one_of_passes inner words all s one) ∙ h))
  | inr other ↦ other
]

no_punct : (w v : List ℕ) (x : ℕ) → is_run w ≡ true → 0 < length w → is_punct (w ++ x ∷ v) ≡ false
unfolding is_punct is_alternative
no_punct w v x h some =
    let past = past_inner w v x h some in
    rw (not_one alternatives (w ++ x ∷ v) refl past, not_one punctuators (w ++ x ∷ v) refl past) refl

-- ## No literal opens in it

calm_quote : (c q : ℕ) → is_calm c ≡ true → ((q ≡ 39) ⊎ (q ≡ 34)) → (c == q) ≡ false
calm_quote c q h (inl e) = let f = calm_facts c h in rw e f.single
calm_quote c q h (inr e) = let f = calm_facts c h in rw e f.double

by_len : (P : ℕ → Type 0) (a b : Bool) → P 2 → P 1 → P 0 → P (if a then 2 else if b then 1 else 0)
by_len P true b x y z = x
by_len P false true x y z = y
by_len P false false x y z = z

other_way : (c k : ℕ) → (c == k) ≡ false → (k == c) ≡ false
other_way c k h = ne_eqb k c (λ e. both_ways (c == k) h (eq-eqb c k (sym e)))

by_one : (P : ℕ → Type 0) (b : Bool) → P 1 → P 0 → P (if b then 1 else 0)
by_one P true y z = y
by_one P false y z = z

one_len : (c : ℕ) (s : List ℕ) → ends_token c ≡ true → encoding_len (c ∷ s) ≡ 0
one_len c s h = let f = end_facts c h in rw (other_way c 117 f.lower_u, f.lower_u, f.upper_u, f.upper_l) refl

no_eight : (a b : Bool) → b ≡ false → (a && (b && true)) ≡ false
no_eight true b h = rw h refl
no_eight false b h = refl

two_len : (a c : ℕ) (s : List ℕ) → ends_token c ≡ true → encoding_len (a ∷ c ∷ s) ≡ (if a == 117 || a == 85 || a == 76 then 1 else 0)
two_len a c s h = let f = end_facts c h in
    ap (λ b. if b then 2 else if a == 117 || a == 85 || a == 76 then 1 else 0) (no_eight (117 == a) (56 == c) (other_way c 56 f.eight))

end_of : (c : ℕ) → is_run (c ∷ []) ≡ true → (is_calm c ≡ true) × (ends_token c ≡ true)
end_of c h = let both = and_parts (is_calm c) (ends_token c) h in (both.0, both.1)

pub opens_none : (q : ℕ) (w v : List ℕ) → ((q ≡ 39) ⊎ (q ≡ 34)) → is_run w ≡ true → 0 < length w → opens q (w ++ v) ≡ false
opens_none q [] v quote h some = absurd (omega arith)
opens_none q (c ∷ []) v quote h some = let e = end_of c h in ap (λ n. slice_index (c ∷ v) n == q) (one_len c v e.1) ∙ calm_quote c q e.0 quote
opens_none q (a ∷ c ∷ []) v quote h some =
    let e = end_of c (run_tail a (c ∷ []) h).1 in
    ap (λ n. slice_index (a ∷ c ∷ v) n == q) (two_len a c v e.1)
    ∙ by_one (λ n. (slice_index (a ∷ c ∷ v) n == q) ≡ false) (a == 117 || a == 85 || a == 76) (calm_quote c q e.0 quote) (calm_quote a q (run_tail a (c ∷ []) h).0 quote)
opens_none q (a ∷ b ∷ c ∷ w) v quote h some =
    let r = run_tail a (b ∷ c ∷ w) h in
    let t = run_tail b (c ∷ w) r.1 in
    by_len (λ n. (slice_index (a ∷ b ∷ c ∷ (w ++ v)) n == q) ≡ false) (starts_with nat_eq (a ∷ b ∷ c ∷ (w ++ v)) (codes "u8")) (a == 117 || a == 85 || a == 76)
    (calm_quote c q (run_tail c w t.1).0 quote) (calm_quote b q t.0 quote) (calm_quote a q r.0 quote)

-- `R"` stands after a prefix of so many bytes
abbrev raw_after : List ℕ → ℕ → Bool
raw_after s n = slice_index s n == 82 && slice_index s (n + 1) == 34

pub opens_raw_none : (w v : List ℕ) → is_run w ≡ true → 0 < length w → opens_raw (w ++ v) ≡ false
opens_raw_none [] v h some = absurd (omega arith)
opens_raw_none (c ∷ []) v h some = let e = end_of c h in ap (raw_after (c ∷ v)) (one_len c v e.1) ∙ and_left (c == 82) _ (end_facts c e.1).upper_r
opens_raw_none (a ∷ c ∷ []) v h some =
    let e = end_of c (run_tail a (c ∷ []) h).1 in
    ap (raw_after (a ∷ c ∷ v)) (two_len a c v e.1)
    ∙ by_one (λ n. raw_after (a ∷ c ∷ v) n ≡ false) (a == 117 || a == 85 || a == 76) (and_left (c == 82) _ (end_facts c e.1).upper_r) (and_right (a == 82) _ (end_facts c e.1).double)
opens_raw_none (a ∷ b ∷ c ∷ []) v h some =
    let t = run_tail b (c ∷ []) (run_tail a (b ∷ c ∷ []) h).1 in
    let e = end_of c t.1 in
    by_len (λ n. raw_after (a ∷ b ∷ c ∷ v) n ≡ false) (starts_with nat_eq (a ∷ b ∷ c ∷ v) (codes "u8")) (a == 117 || a == 85 || a == 76)
    (and_left (c == 82) _ (end_facts c e.1).upper_r) (and_right (b == 82) _ (end_facts c e.1).double) (and_right (a == 82) _ (calm_facts b t.0).double)
opens_raw_none (a ∷ b ∷ c ∷ d ∷ w) v h some =
    let r = run_tail a (b ∷ c ∷ d ∷ w) h in
    let t = run_tail b (c ∷ d ∷ w) r.1 in
    let u = run_tail c (d ∷ w) t.1 in
    let s = run_tail d w u.1 in
    by_len (λ n. raw_after (a ∷ b ∷ c ∷ d ∷ (w ++ v)) n ≡ false) (starts_with nat_eq (a ∷ b ∷ c ∷ d ∷ (w ++ v)) (codes "u8")) (a == 117 || a == 85 || a == 76)
    (and_right (c == 82) _ (calm_facts d s.0).double) (and_right (b == 82) _ (calm_facts c u.0).double) (and_right (a == 82) _ (calm_facts b t.0).double)

pub not_open : (w v : List ℕ) → is_run w ≡ true → 0 < length w → is_open (w ++ v) ≡ false
unfolding is_open
not_open w v h some = rw (opens_none 39 w v (inl refl) h some, opens_none 34 w v (inr refl) h some) refl

-- nor in calm bytes alone
calm_index : (w : List ℕ) (q : ℕ) → ((q ≡ 39) ⊎ (q ≡ 34)) → list_all is_calm w ≡ true → (n : ℕ) → (slice_index w n == q) ≡ false
calm_index [] q (inl e) all n = rw e refl
calm_index [] q (inr e) all n = rw e refl
calm_index (c ∷ w) q quote all zero = calm_quote c q (and_parts (is_calm c) (list_all is_calm w) all).0 quote
calm_index (c ∷ w) q quote all (suc n) = calm_index w q quote (and_parts (is_calm c) (list_all is_calm w) all).1 n

pub calm_opens_raw : (w : List ℕ) → list_all is_calm w ≡ true → opens_raw w ≡ false
calm_opens_raw w all = and_right (slice_index w (encoding_len w) == 82) _ (calm_index w 34 (inr refl) all (encoding_len w + 1))

pub calm_closed : (w : List ℕ) → list_all is_calm w ≡ true → is_open w ≡ false
unfolding is_open
calm_closed w all = rw (calm_index w 39 (inl refl) all (encoding_len w), calm_index w 34 (inr refl) all (encoding_len w)) refl

-- ## The longest token

no_token : (w v : List ℕ) (x : ℕ) → is_run w ≡ true → 0 < length w → is_token (w ++ x ∷ v) ≡ false
unfolding is_quoted
no_token w v x h some =
    rw (no_name w (x ∷ v) h some, no_number w (x ∷ v) h some, opens_none 39 w (x ∷ v) (inl refl) h some, opens_none 34 w (x ∷ v) (inr refl) h some, no_punct w v x h some) refl

within : (w v u : List ℕ) (n : ℕ) → u ≡ take n v → 0 < length u → is_run w ≡ true → 0 < length w → is_token (w ++ u) ≡ false
within w v [] n e more h some = absurd (omega arith)
within w v (x ∷ u) n e more h some = no_token w u x h some

pub token_within : (w v : List ℕ) → is_run w ≡ true → 0 < length w → longest is_token (w ++ v) ≤ length w
token_within w v h some = elim (cases_lt (length w) (longest is_token (w ++ v))) [
  | inr le ↦ le
  | inl past ↦
      let n = longest is_token (w ++ v) in
      let le = longest_le is_token (w ++ v) in
      let parts : take n (w ++ v) ≡ w ++ take (n - length w) v = ap (λ k. take k (w ++ v)) (let e : n ≡ length w + (n - length w) = omega arith in e) ∙ take-append-add w v (n - length w) in
      let passes = longest_passes is_token (w ++ v) (omega arith) in
      let more : 0 < length (take (n - length w) v) = omega (arith, length-take (n - length w) v, length-append w v, le) in
      absurd (true≢false (sym passes ∙ ap is_token parts ∙ within w v (take (n - length w) v) (n - length w) refl more h some))
]

-- ## One character

one_character : (c : ℕ) (t : List ℕ) → c < 128 → 0 < length t → is_character (c ∷ t) ≡ false
one_character c t small some = elim (cases_Bool (is_character (c ∷ t))) [
  | inr other ↦ other
  | inl one ↦
      let both = and_parts (is_utf8 (c ∷ t)) (length (chars (c ∷ t)) == 1) one in
      let whole : IsUtf8 (c ∷ t) = IsUtf8-from_is_utf8 (c ∷ t) both.0 in
      let cut : c ∷ t ≡ encode_utf8 c ++ t = sym (ap (λ x. x ++ t) (encode_ascii c small)) in
      let rest : IsUtf8 t = IsUtf8-past_char (c ∷ t) t c whole cut in
      let are : chars (c ∷ t) ≡ c ∷ chars t = chars_past_char (c ∷ t) t c whole cut in
      let few : length (chars (c ∷ t)) ≡ 1 = eqb-true (length (chars (c ∷ t))) 1 both.1 in
      absurd (omega (arith, few, ap length are, some_chars t rest, some))
] where
  some_chars : (t : List ℕ) → IsUtf8 t → length (chars t) ≡ 0 → length t ≡ 0
  some_chars t u none = none_of (chars t) none (encodes-chars t u) where
    none_of : (cs : List ℕ) → length cs ≡ 0 → encodes cs ≡ t → length t ≡ 0
    none_of [] e same = sym (ap length same)
    none_of (x ∷ cs) e same = absurd (omega arith)

pub character_within : (c : ℕ) (t : List ℕ) → c < 128 → longest is_character (c ∷ t) ≤ 1
character_within c t small = elim (cases_lt 1 (longest is_character (c ∷ t))) [
  | inr le ↦ le
  | inl past ↦
      let n = longest is_character (c ∷ t) in
      let passes = longest_passes is_character (c ∷ t) (omega arith) in
      let le = longest_le is_character (c ∷ t) in
      by n passes le past
] where
  by : (n : ℕ) → is_character (take n (c ∷ t)) ≡ true → n ≤ length (c ∷ t) → 1 < n → n ≤ 1
  by zero p le past = omega arith
  by (suc n) p le past = absurd (true≢false (sym p ∙ one_character c (take n t) small (omega (arith, length-take n t))))

-- ## How they are found

calm_shows : (c : ℕ) → is_calm c ≡ true → shows_itself c ≡ true
calm_shows c h =
    let both = and_parts (nat_lt c 128) (not (c == 10 || c == 13 || c == 34 || c == 39 || c == 47 || c == 92)) h in
    let a = or_parts (c == 10 || c == 13 || c == 34 || c == 39 || c == 47) (c == 92) (not-true (c == 10 || c == 13 || c == 34 || c == 39 || c == 47 || c == 92) both.1) in
    let b = or_parts (c == 10 || c == 13 || c == 34 || c == 39) (c == 47) a.0 in
    let d = or_parts (c == 10 || c == 13 || c == 34) (c == 39) b.0 in
    let e = or_parts (c == 10 || c == 13) (c == 34) d.0 in
    let f = or_parts (c == 10) (c == 13) e.0 in
    rw (a.1, f.1, f.0) refl

pub all_show : (w : List ℕ) → list_all is_calm w ≡ true → list_all shows_itself w ≡ true
all_show [] h = refl
all_show (c ∷ w) h = let both = and_parts (is_calm c) (list_all is_calm w) h in rw (calm_shows c both.0, all_show w both.1) refl

pub take_calm : (n : ℕ) (w : List ℕ) → list_all is_calm w ≡ true → list_all is_calm (take n w) ≡ true
take_calm zero w h = refl
take_calm (suc n) [] h = refl
take_calm (suc n) (c ∷ w) h = let both = and_parts (is_calm c) (list_all is_calm w) h in rw (both.0, take_calm n w both.1) refl

-- calm bytes are a run up to one that ends a token
pub run_to : (n : ℕ) (w : List ℕ) → n < length w → list_all is_calm w ≡ true → ends_token (get_or w n 0) ≡ true → is_run (take (n + 1) w) ≡ true
run_to n w lt all ends = ap (λ k. is_run (take k w)) (add-one n) ∙ by n w lt all ends where
  by : (n : ℕ) (w : List ℕ) → n < length w → list_all is_calm w ≡ true → ends_token (get_or w n 0) ≡ true → is_run (take (suc n) w) ≡ true
  by n [] lt all ends = absurd (omega arith)
  by zero (c ∷ w) lt all ends = rw ((and_parts (is_calm c) (list_all is_calm w) all).0, ends) refl
  by (suc n) (c ∷ []) lt all ends = absurd (omega arith)
  by (suc n) (c ∷ d ∷ w) lt all ends =
      let both = and_parts (is_calm c) (list_all is_calm (d ∷ w)) all in rw (both.0, by n (d ∷ w) (omega arith) both.1 ends) refl
