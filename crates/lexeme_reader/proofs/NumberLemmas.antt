-- The longest front that is a number.
use Rattle.std.proofs.Common.{◌≡◌, ℕ, ◌<◌, Bool, true, false, ◌==◌, ◌&&◌, ◌||◌, nat_lt, List, [], ◌∷◌, ◌++◌, refl, ap, sym, ◌∙◌, inl, inr, subst, drop, length, arith}
use Rattle.std.proofs.lemmas.Bool.{and_from, and_parts, and_left, and_right, or_cases, or_left, ne_eqb, eqb-true, cases_Bool, true≢false}
use Rattle.std.proofs.lemmas.Bool.Decides.{nat_tests}
use Rattle.std.proofs.lemmas.List.{append_assoc}
use Rattle.std.specs.Char.{encode_utf8, is_ascii_digit, is_ascii_alphanumeric}
use Rattle.std.specs.Str.{encode_utf8_all, all_scalars}
use Rattle.scan_model.specs.Spliced.{Spot}
use Rattle.scan_model.specs.Spelling.{first, is_continue, is_number, are_number, goes_on, go_on, longest}
use Rattle.scan_model.specs.Tokens.{bytes}
use Rattle.lexeme_reader.specs.Character.{BeginsWith, NoCharacter}
use Rattle.lexeme_reader.specs.Fronts.{line}
use Rattle.lexeme_reader.specs.Numbers.{last, PassesNumber, GoesOn, StopsNumber}
use Rattle.lexeme_reader.proofs.TextLemmas.{EndsAt}
use Rattle.lexeme_reader.proofs.PassLemmas.{passes_none, passes_one, passes_more, passes_longest, longest_positive, passes_shorter, first_begins, same_character, after_character}
use Rattle.lexeme_reader.proofs.NameLemmas.{continue_line}

-- ## Characters

-- what may stand after `'` in a number
abbrev pub is_separated : ℕ → Bool
is_separated c = is_ascii_alphanumeric c || c == 95

alphanumeric_small : (c : ℕ) → is_ascii_alphanumeric c ≡ true → nat_lt c 128 ≡ true
alphanumeric_small c h = grind (arith, nat_tests)

digit_alphanumeric : (c : ℕ) → is_ascii_digit c ≡ true → is_ascii_alphanumeric c ≡ true
digit_alphanumeric c h = grind (arith, nat_tests)

separated_continues : (c : ℕ) → is_separated c ≡ true → is_continue c ≡ true
unfolding is_continue
separated_continues c h = elim (or_cases (is_ascii_alphanumeric c) (c == 95) h) [
  | inl e ↦ rw (alphanumeric_small c e, e) refl
  | inr e ↦ subst (λ d. is_continue d ≡ true) (sym (eqb-true c 95 e)) refl
]

pub digit_continues : (c : ℕ) → is_ascii_digit c ≡ true → is_continue c ≡ true
digit_continues c h = separated_continues c (or_left (is_ascii_alphanumeric c) (c == 95) (digit_alphanumeric c h))

-- ## What goes on

-- but for `'`, what follows is of no account
goes_on-other : (b c d : ℕ) → (c == 39) ≡ false → goes_on b c d ≡ goes_on b c 0
goes_on-other b c d h = rw h refl

stops_quote : (b : ℕ) → goes_on b 39 0 ≡ false
unfolding is_continue
stops_quote b = refl

stops_line : (b : ℕ) → goes_on b 10 0 ≡ false
unfolding is_continue
stops_line b = refl

goes_on-more : (b c d : ℕ) → goes_on b c 0 ≡ true → goes_on b c d ≡ true
goes_on-more b c d h = elim (cases_Bool (c == 39)) [
  | inl e ↦ absurd (true≢false (sym h ∙ ap (λ x. goes_on b x 0) (eqb-true c 39 e) ∙ stops_quote b))
  | inr e ↦ goes_on-other b c d e ∙ h
]

continues_on : (b c d : ℕ) → is_continue c ≡ true → goes_on b c d ≡ true
continues_on b c d h = rw h refl

go_on-append : (b : ℕ) (cs es : List ℕ) → go_on b cs ≡ true → go_on (last b cs) es ≡ true → go_on b (cs ++ es) ≡ true
go_on-append b [] es h k = k
go_on-append b (c ∷ []) es h k = and_from (goes_on b c (first es)) (go_on c es) (goes_on-more b c (first es) (and_parts (goes_on b c 0) true h).0) k
go_on-append b (c ∷ d ∷ cs) es h k =
    let both = and_parts (goes_on b c d) (go_on c (d ∷ cs)) h in
    and_from (goes_on b c d) (go_on c (d ∷ cs ++ es)) both.0 (go_on-append c (d ∷ cs) es both.1 k)

go_on-stops : (b : ℕ) (cs es : List ℕ) → go_on (last b cs) es ≡ false → go_on b (cs ++ es) ≡ false
go_on-stops b [] es h = h
go_on-stops b (c ∷ cs) es h = and_right (goes_on b c (first (cs ++ es))) (go_on c (cs ++ es)) (go_on-stops c cs es h)

last-append : (b : ℕ) (cs ds : List ℕ) → last b (cs ++ ds) ≡ last (last b cs) ds
last-append b [] ds = refl
last-append b (c ∷ cs) ds = last-append c cs ds

head_stays : (c : ℕ) (cs es : List ℕ) → (is_ascii_digit c || (c == 46 && is_ascii_digit (first cs))) ≡ true → (is_ascii_digit c || (c == 46 && is_ascii_digit (first (cs ++ es)))) ≡ true
head_stays c [] es h = elim (or_cases (is_ascii_digit c) (c == 46 && false) h) [
  | inl e ↦ or_left (is_ascii_digit c) (c == 46 && is_ascii_digit (first es)) e
  | inr e ↦ absurd (true≢false (sym (and_parts (c == 46) false e).1))
]
head_stays c (d ∷ cs) es h = h

are_number-append : (c : ℕ) (cs es : List ℕ) → are_number (c ∷ cs) ≡ true → go_on (last c cs) es ≡ true → are_number (c ∷ (cs ++ es)) ≡ true
are_number-append c cs es h k =
    let both = and_parts (is_ascii_digit c || (c == 46 && is_ascii_digit (first cs))) (go_on c cs) h in
    and_from (is_ascii_digit c || (c == 46 && is_ascii_digit (first (cs ++ es)))) (go_on c (cs ++ es)) (head_stays c cs es both.0) (go_on-append c cs es both.1 k)

are_number-stops : (c : ℕ) (cs es : List ℕ) → go_on (last c cs) es ≡ false → are_number (c ∷ (cs ++ es)) ≡ false
are_number-stops c cs es h = and_right (is_ascii_digit c || (c == 46 && is_ascii_digit (first (cs ++ es)))) (go_on c (cs ++ es)) (go_on-stops c cs es h)

-- ## Steps of the cursor

pub number_more : (before after : ℕ) (a b d : List Spot) → PassesNumber before a b → GoesOn before after b d → PassesNumber after a d
number_more before after a b d n g = record {
  head = n.head;
  cs = n.cs ++ g.cs;
  number = are_number-append n.head n.cs g.cs n.number (ap (λ k. go_on k g.cs) n.last_is ∙ g.goes);
  passes = passes_more (n.head ∷ n.cs) g.cs a b d n.passes g.passes;
  last_is = last-append n.head n.cs g.cs ∙ ap (λ k. last k g.cs) n.last_is ∙ g.last_is;
}

pub number_smaller : (before after : ℕ) (b d : List Spot) → GoesOn before after b d → length d < length b
number_smaller before after b d g = passes_shorter g.cs b d g.passes g.some

pub number_passed : (before : ℕ) (a b : List Spot) → PassesNumber before a b → StopsNumber before (bytes b) → b ≡ drop (longest is_number (line a)) a
unfolding is_number
number_passed before a b n stops =
    let ends : EndsAt are_number (n.head ∷ n.cs) (bytes b) = λ e es v scalar there.
    are_number-stops n.head n.cs (e ∷ es) (ap (λ k. go_on k (e ∷ es)) n.last_is ∙ stops e es v scalar there) in
    n.passes.left ∙ ap (λ k. drop k a) (sym (passes_longest are_number (n.head ∷ n.cs) a b n.passes (λ z. n.number) ends))

-- where nothing is passed
pub no_number : (a : List Spot) → EndsAt are_number [] (bytes a) → longest is_number (line a) ≡ 0
unfolding is_number
no_number a ends = passes_longest are_number [] a a (passes_none a) (λ z. absurd (omega arith)) ends

-- where something is passed, a number stands
pub some_number : (before : ℕ) (a b : List Spot) → PassesNumber before a b → nat_lt 0 (longest is_number (line a)) ≡ true
unfolding is_number
some_number before a b n = longest_positive are_number (n.head ∷ n.cs) a b n.passes n.number (omega arith)

-- a character that goes on
pub goes_one : (before c : ℕ) (a b : List Spot) → BeginsWith c (bytes a) → (goes_on before c 0) ≡ true → b ≡ drop (length (encode_utf8 c)) a → GoesOn before c a b
goes_one before c a b begins goes e = record {
  cs = c ∷ [];
  some = omega arith;
  goes = and_from (goes_on before c 0) true goes refl;
  passes = passes_one c a b begins (ne_eqb c 10 (λ z. true≢false (sym goes ∙ ap (λ x. goes_on before x 0) z ∙ stops_line before))) e;
  last_is = refl;
}

separates : (b c : ℕ) → is_separated c ≡ true → goes_on b 39 c ≡ true
unfolding is_continue
separates b c h = rw h refl

-- `'` and what it separates
pub goes_separated : (before c : ℕ) (a b d : List Spot) → BeginsWith 39 (bytes a) → b ≡ drop (length (encode_utf8 39)) a → BeginsWith c (bytes b) → is_separated c ≡ true
    → d ≡ drop (length (encode_utf8 c)) b → GoesOn before c a d
goes_separated before c a b d quote e begins separated f =
    let continues = separated_continues c separated in record {
      cs = 39 ∷ c ∷ [];
      some = omega arith;
      goes = and_from (goes_on before 39 c) (goes_on 39 c 0 && true) (separates before c separated) (and_from (goes_on 39 c 0) true (continues_on 39 c 0 continues) refl);
      passes = passes_more (39 ∷ []) (c ∷ []) a b d (passes_one 39 a b quote refl e) (passes_one c b d begins (continue_line c continues) f);
      last_is = refl;
    }

-- ## Where a number stops

pub stops_here : (before c : ℕ) (t : List ℕ) → BeginsWith c t → (c == 39) ≡ false → goes_on before c 0 ≡ false → StopsNumber before t
stops_here before c t begins other stops e es v scalar there =
    let same : e ≡ c = same_character t e c (first_begins e es v t scalar there) begins in
    and_left (goes_on before e (first es)) (go_on e es) (ap (λ x. goes_on before x (first es)) same ∙ goes_on-other before c (first es) other ∙ stops)

-- the second of the characters that stand here
pub second_begins : (e f : ℕ) (es v : List ℕ) (a : List Spot) → all_scalars (e ∷ f ∷ es) ≡ true → bytes a ≡ encode_utf8 e ++ (encode_utf8_all (f ∷ es) ++ v) → BeginsWith f (bytes (drop (length (encode_utf8 e)) a))
second_begins e f es v a scalar there =
    first_begins f es v (bytes (drop (length (encode_utf8 e)) a)) (and_parts _ (all_scalars (f ∷ es)) scalar).1
    (after_character a e (encode_utf8_all (f ∷ es) ++ v) there ∙ append_assoc (encode_utf8 f) (encode_utf8_all es) v)

separates_none : (b : ℕ) (es : List ℕ) → ((f : ℕ) (fs : List ℕ) → es ≡ f ∷ fs → is_separated f ≡ false) → goes_on b 39 (first es) ≡ false
unfolding is_continue
separates_none b [] h = refl
separates_none b (f ∷ fs) h = rw (h f fs refl) refl

pub stops_separated : (before : ℕ) (a b : List Spot) → BeginsWith 39 (bytes a) → b ≡ drop (length (encode_utf8 39)) a → ((c : ℕ) → BeginsWith c (bytes b) → is_separated c ≡ false) → StopsNumber before (bytes a)
stops_separated before a b quote at none e es v scalar there =
    let same : e ≡ 39 = same_character (bytes a) e 39 (first_begins e es v (bytes a) scalar there) quote in
    and_left (goes_on before e (first es)) (go_on e es) (ap (λ x. goes_on before x (first es)) same ∙ separates_none before es (λ f fs is. none f
    (subst (λ s. BeginsWith f (bytes s)) (ap (λ x. drop (length (encode_utf8 x)) a) same ∙ sym at)
    (second_begins e f fs v a (ap (λ x. all_scalars (e ∷ x)) (sym is) ∙ scalar) (there ∙ ap (λ x. encode_utf8 e ++ (encode_utf8_all x ++ v)) is)))))

-- ## How a number starts

pub number_digit : (c : ℕ) (a b : List Spot) → BeginsWith c (bytes a) → is_ascii_digit c ≡ true → b ≡ drop (length (encode_utf8 c)) a → PassesNumber c a b
number_digit c a b begins digit e = record {
  head = c;
  cs = [];
  number = and_from (is_ascii_digit c || (c == 46 && false)) true (or_left (is_ascii_digit c) (c == 46 && false) digit) refl;
  passes = passes_one c a b begins (continue_line c (digit_continues c digit)) e;
  last_is = refl;
}

pub number_dotted : (c : ℕ) (a b d : List Spot) → BeginsWith 46 (bytes a) → b ≡ drop (length (encode_utf8 46)) a → BeginsWith c (bytes b) → is_ascii_digit c ≡ true → d ≡ drop (length (encode_utf8 c)) b → PassesNumber c a d
number_dotted c a b d dot e begins digit f = let continues = digit_continues c digit in record {
  head = 46;
  cs = c ∷ [];
  number = and_from (false || is_ascii_digit c) (goes_on 46 c 0 && true) digit (and_from (goes_on 46 c 0) true (continues_on 46 c 0 continues) refl);
  passes = passes_more (46 ∷ []) (c ∷ []) a b d (passes_one 46 a b dot refl e) (passes_one c b d begins (continue_line c continues) f);
  last_is = refl;
}

pub none_here : (c : ℕ) (a : List Spot) → BeginsWith c (bytes a) → is_ascii_digit c ≡ false → (c == 46) ≡ false → longest is_number (line a) ≡ 0
none_here c a begins digit dot = no_number a (λ e es v scalar there.
    let same : e ≡ c = same_character (bytes a) e c (first_begins e es v (bytes a) scalar there) begins in
    ap (λ x. are_number (x ∷ es)) same ∙ rw (digit, dot) refl)

pub none_at_all : (a : List Spot) → NoCharacter (bytes a) → longest is_number (line a) ≡ 0
none_at_all a none = no_number a (λ e es v scalar there. absurd (none e (first_begins e es v (bytes a) scalar there)))

pub none_dotted : (a b : List Spot) → BeginsWith 46 (bytes a) → b ≡ drop (length (encode_utf8 46)) a → ((c : ℕ) → BeginsWith c (bytes b) → is_ascii_digit c ≡ false) → longest is_number (line a) ≡ 0
none_dotted a b dot at none = no_number a (λ e es v scalar there.
    let same : e ≡ 46 = same_character (bytes a) e 46 (first_begins e es v (bytes a) scalar there) dot in
    ap (λ x. are_number (x ∷ es)) same ∙ after es (λ f fs is. none f
    (subst (λ s. BeginsWith f (bytes s)) (ap (λ x. drop (length (encode_utf8 x)) a) same ∙ sym at)
    (second_begins e f fs v a (ap (λ x. all_scalars (e ∷ x)) (sym is) ∙ scalar) (there ∙ ap (λ x. encode_utf8 e ++ (encode_utf8_all x ++ v)) is))))) where
      after : (es : List ℕ) → ((f : ℕ) (fs : List ℕ) → es ≡ f ∷ fs → is_ascii_digit f ≡ false) → are_number (46 ∷ es) ≡ false
      after [] h = refl
      after (f ∷ fs) h = rw (h f fs refl) refl
