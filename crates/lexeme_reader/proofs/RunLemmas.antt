-- Runs of bytes that are passed at once.
use Rattle.std.proofs.Common.{◌≡◌, nat_lt, ℕ, ◌<◌, ◌≤◌, Bool, true, false, not, ◌==◌, ◌||◌, List, [], ◌∷◌, ◌++◌, refl, ap, sym, ◌∙◌, drop, take, length, length-append, length-take, length-take-le, arith}
use Rattle.std.proofs.lemmas.Bool.{and_from, and_parts, or_parts, not-true, ne_eqb, ltb-true, false≢true}
use Rattle.std.proofs.lemmas.List.{take-append-drop}
use Rattle.std.proofs.lemmas.Str.{encode_ascii}
use Rattle.std.specs.List.{list_all}
use Rattle.std.specs.Char.{encode_utf8}
use Rattle.std.specs.Str.{encode_utf8_all, all_scalars}
use Rattle.scan_model.specs.Spliced.{Spot}
use Rattle.scan_model.specs.Spelling.{is_continue, after_items}
use Rattle.scan_model.specs.Tokens.{bytes, rest_of_line}
use Rattle.line_splice.specs.Plain.{shows_itself}
use Rattle.lexeme_reader.specs.Character.{BeginsWith}
use Rattle.lexeme_reader.specs.Fronts.{line, Along}
use Rattle.lexeme_reader.specs.Names.{is_word_byte, PassesWord}
use Rattle.lexeme_reader.specs.Passes.{Passes, PassesRun, goes_past}
use Rattle.lexeme_reader.proofs.FrontLemmas.{ascii_scalar}
use Rattle.lexeme_reader.proofs.LineLemmas.{rest_of_line-append}
use Rattle.lexeme_reader.proofs.NameLemmas.{continue_line}
use Rattle.lexeme_reader.proofs.PassLemmas.{passes_more, passes_one}
use Rattle.lexeme_reader.proofs.SpotLemmas.{bytes-take, bytes-drop, length-bytes}

-- a weaker test
pub list_all-weaker : (p q : ℕ → Bool) (xs : List ℕ) → ((x : ℕ) → p x ≡ true → q x ≡ true) → list_all p xs ≡ true → list_all q xs ≡ true
list_all-weaker p q [] weaker h = refl
list_all-weaker p q (x ∷ xs) weaker h = let both = and_parts (p x) (list_all p xs) h in and_from (q x) (list_all q xs) (weaker x both.0) (list_all-weaker p q xs weaker both.1)

-- the bytes that were passed, and what follows
pub run_bytes : (p : ℕ → Bool) (a b : List Spot) (r : PassesRun p a b) → bytes a ≡ bytes (take r.count a) ++ bytes b
run_bytes p a b r =
    sym (take-append-drop r.count (bytes a)) ∙ ap (λ t. t ++ drop r.count (bytes a)) (bytes-take a r.count) ∙ ap (λ t. bytes (take r.count a) ++ t) (sym (bytes-drop a r.count) ∙ ap bytes (sym r.left))

pub run_len : (p : ℕ → Bool) (a b : List Spot) (r : PassesRun p a b) → length (bytes (take r.count a)) ≡ r.count
run_len p a b r = length-bytes (take r.count a) ∙ length-take-le r.count a r.within

-- by what is written
pub run_of : (p : ℕ → Bool) (a b : List Spot) (written : List ℕ) (n : ℕ) → n ≤ length written → list_all p (take n written) ≡ true → bytes (take n a) ≡ take n written → b ≡ drop n a
    → PassesRun p a b
run_of p a b written n within all same left = record {
  count = n;
  within = let e : length (take n a) ≡ n = sym (length-bytes (take n a)) ∙ ap length same ∙ length-take-le n written within in omega (arith, e, length-take n a);
  all = ap (list_all p) same ∙ all;
  left = left;
}

-- ## Up to a byte

pub record GoesPast (stop c : ℕ) : Type 0 where
  pub other : (c == stop) ≡ false
  pub backslash : (c == 92) ≡ false
  pub cr : (c == 13) ≡ false
  pub lf : (c == 10) ≡ false

pub past : (stop c : ℕ) → goes_past stop c ≡ true → GoesPast stop c
past stop c h =
    let all = or_parts (c == stop || c == 92 || c == 13) (c == 10) (not-true (c == stop || c == 92 || c == 13 || c == 10) h) in
    let three = or_parts (c == stop || c == 92) (c == 13) all.0 in
    let two = or_parts (c == stop) (c == 92) three.0 in
    record { other = two.0; backslash = two.1; cr = three.1; lf = all.1 }

pub past_shows : (stop c : ℕ) → goes_past stop c ≡ true → shows_itself c ≡ true
past_shows stop c h = let g = past stop c h in rw (g.backslash, g.cr, g.lf) refl

past_line : (stop c : ℕ) → goes_past stop c ≡ true → not (c == 10) ≡ true
past_line stop c h = let g = past stop c h in rw g.lf refl

pub run_line : (stop : ℕ) (a b : List Spot) (r : PassesRun (goes_past stop) a b) → line a ≡ bytes (take r.count a) ++ line b
run_line stop a b r =
    ap rest_of_line (run_bytes _ a b r)
    ∙ rest_of_line-append (bytes (take r.count a)) (bytes b) (list_all-weaker (goes_past stop) (λ c. not (c == 10)) (bytes (take r.count a)) (past_line stop) r.all)

pub run_along : (stop : ℕ) (a b : List Spot) → PassesRun (goes_past stop) a b → Along a b
run_along stop a b r = let e : length (line a) ≡ length (bytes (take r.count a) ++ line b) = ap length (run_line stop a b r) in record {
  len = r.count;
  within = omega (arith, e, run_len _ a b r, length-append (bytes (take r.count a)) (line b));
  left = r.left;
}

items_past : (q : ℕ) (xs t : List ℕ) → list_all (goes_past q) xs ≡ true → after_items q false (xs ++ t) ≡ after_items q false t
unfolding after_items
items_past q [] t h = refl
items_past q (x ∷ xs) t h =
    let both = and_parts (goes_past q x) (list_all (goes_past q) xs) h in
    let g = past q x both.0 in
    rw (g.lf, g.other, g.backslash) (items_past q xs t both.1)

-- no item closes the literal among them
pub run_items : (q : ℕ) (a b : List Spot) → PassesRun (goes_past q) a b → after_items q false (line a) ≡ after_items q false (line b)
run_items q a b r = ap (after_items q false) (run_line q a b r) ∙ items_past q (bytes (take r.count a)) (line b) r.all

-- ## Bytes of a name

pub word_shows : (c : ℕ) → is_word_byte c ≡ true → shows_itself c ≡ true
unfolding is_continue
word_shows c h =
    let no : (k : ℕ) → is_word_byte k ≡ false → (c == k) ≡ false = λ k fails. ne_eqb c k (λ e. false≢true (sym fails ∙ ap is_word_byte (sym e) ∙ h)) in
    rw (no 92 refl, no 13 refl, no 10 refl) refl

word_small : (c : ℕ) → is_word_byte c ≡ true → c < 128
word_small c h = ltb-true c 128 (and_parts (nat_lt c 128) (is_continue c) h).0

word_encodes : (cs : List ℕ) → list_all is_word_byte cs ≡ true → encode_utf8_all cs ≡ cs
word_encodes [] h = refl
word_encodes (c ∷ cs) h =
    let both = and_parts (is_word_byte c) (list_all is_word_byte cs) h in
    ap (λ t. t ++ encode_utf8_all cs) (encode_ascii c (word_small c both.0)) ∙ ap (λ t. c ∷ t) (word_encodes cs both.1)

word_scalars : (cs : List ℕ) → list_all is_word_byte cs ≡ true → all_scalars cs ≡ true
word_scalars [] h = refl
word_scalars (c ∷ cs) h =
    let both = and_parts (is_word_byte c) (list_all is_word_byte cs) h in
    and_from _ (all_scalars cs) (ascii_scalar c (word_small c both.0)) (word_scalars cs both.1)

word_continues : (c : ℕ) → is_word_byte c ≡ true → is_continue c ≡ true
word_continues c h = (and_parts (nat_lt c 128) (is_continue c) h).1

word_line : (c : ℕ) → is_word_byte c ≡ true → not (c == 10) ≡ true
word_line c h = ap not (continue_line c (word_continues c h))

-- such bytes are characters
pub word_run : (a b : List Spot) (r : PassesRun is_word_byte a b) → Passes (bytes (take r.count a)) a b
word_run a b r =
    let cs = bytes (take r.count a) in
    let same : encode_utf8_all cs ≡ cs = word_encodes cs r.all in record {
      scalars = word_scalars cs r.all;
      one_line = list_all-weaker is_word_byte (λ c. not (c == 10)) cs word_line r.all;
      spelt = run_bytes is_word_byte a b r ∙ ap (λ t. t ++ bytes b) (sym same);
      left = r.left ∙ ap (λ k. drop k a) (sym (ap length same ∙ run_len is_word_byte a b r));
    }

-- the character and the bytes after it
pub word_passed : (c : ℕ) (a b d : List Spot) → BeginsWith c (bytes a) → is_continue c ≡ true → b ≡ drop (length (encode_utf8 c)) a → PassesRun is_word_byte b d → PassesWord a d
word_passed c a b d begins goes e r = let more = bytes (take r.count b) in record {
  cs = c ∷ more;
  some = omega arith;
  goes = and_from (is_continue c) (list_all is_continue more) goes (list_all-weaker is_word_byte is_continue more word_continues r.all);
  passes = passes_more (c ∷ []) more a b d (passes_one c a b begins (continue_line c goes) e) (word_run b d r);
}
