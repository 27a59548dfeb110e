-- What tests of tokens by their places tell of a line.
use Rattle.std.proofs.Common.{◌≡◌, ℕ, zero, suc, ◌+◌, ◌-◌, ◌≤◌, Bool, true, false, ◌&&◌, ◌||◌, List, [], ◌∷◌, refl, ap, sym, ◌∙◌, drop, length, arith}
use Prim.Native.String.{String}
use Rattle.scan_model.specs.declared.token.Tok.{Tok}
use Rattle.scan_model.specs.Spelling.{spells}
use Rattle.scan_model.specs.Tokens.{are, wants_header}
use Rattle.scan_model.specs.Lines.{is_module_line}
use Rattle.reducer.specs.TokenTests.{at_tok}
use Rattle.reducer.specs.Directives.{begins_with_sharp, makes_import, makes_module, are_before_header, begins_condition, ends_in_test, may_begin}

-- ## Module lines

no_second : (a b : Bool) → ((a && false) || (b && false)) ≡ false
no_second true true = refl
no_second true false = refl
no_second false true = refl
no_second false false = refl

abbrev module_test : List Tok → ℕ → ℕ → Bool
module_test ts i k = (at_tok (λ t. spells "import" t.text) ts i && at_tok makes_import ts k) || (at_tok (λ t. spells "module" t.text) ts i && at_tok makes_module ts k)

at_front : (ts : List Tok) → module_test ts 0 1 ≡ is_module_line ts
at_front [] = refl
at_front (t ∷ []) = no_second (spells "import" t.text) (spells "module" t.text)
at_front (t ∷ u ∷ ts) = refl

at_place : (ts : List Tok) (i : ℕ) → i ≤ 1 → module_test ts i (i + 1) ≡ is_module_line (drop i ts)
at_place ts zero h = at_front ts
at_place [] (suc zero) h = refl
at_place (t ∷ ts) (suc zero) h = at_front ts
at_place ts (suc (suc i)) h = absurd (omega arith)

pub module_line_is : (ts : List Tok) (i : ℕ) (a b c d : Bool) → i ≤ 1 → a ≡ at_tok (λ t. spells "import" t.text) ts i → b ≡ at_tok makes_import ts (i + 1)
    → c ≡ at_tok (λ t. spells "module" t.text) ts i → d ≡ at_tok makes_module ts (i + 1) → ((a && b) || (c && d)) ≡ is_module_line (drop i ts)
module_line_is ts i a b c d h pa pb pc pd = rw (pa, pb, pc, pd) (at_place ts i h)

-- ## Too few tokens

one_of_two : (a b : Bool) → (a || b) ≡ (a || (b || false))
one_of_two true b = refl
one_of_two false true = refl
one_of_two false false = refl

pub two_begin : (ts : List Tok) (a b c : Bool) → length ts ≡ 2 → a ≡ at_tok (λ t. spells "export" t.text) ts 0 → b ≡ at_tok (λ t. spells "import" t.text) ts 1
    → c ≡ at_tok (λ t. spells "module" t.text) ts 1 → (a && (b || c)) ≡ may_begin ts
two_begin [] a b c h pa pb pc = absurd (omega arith)
two_begin (t ∷ []) a b c h pa pb pc = absurd (omega arith)
two_begin (t ∷ u ∷ []) a b c h pa pb pc = rw (pa, pb, pc) (ap (λ x. spells "export" t.text && x) (one_of_two (spells "import" u.text) (spells "module" u.text)))
two_begin (t ∷ u ∷ v ∷ ts) a b c h pa pb pc = absurd (omega arith)

-- ## Header names

sharp_then : (s d n : Bool) → ((s || d) && n) ≡ ((s && (n && true)) || (d && (n && true)))
sharp_then true true true = refl
sharp_then true true false = refl
sharp_then true false true = refl
sharp_then true false false = refl
sharp_then false true true = refl
sharp_then false true false = refl
sharp_then false false n = refl

or_none : (y i : Bool) → y ≡ (y || (i && false))
or_none true i = refl
or_none false true = refl
or_none false false = refl

all_true : (m : Bool) → m ≡ (m && true)
all_true true = refl
all_true false = refl

header_after_two : (s d n x i e m : Bool) → ((((s || d) && n) || ((s || d) && x)) || (e && m))
    ≡ (((((s && (n && true)) || (d && (n && true))) || ((s && (x && true)) || (d && (x && true)))) || (i && false)) || (e && (m && true)))
header_after_two s d n x i e m =
    let first = sharp_then s d n in
    let second = sharp_then s d x in
    let last = all_true m in
    (λ k. (first k || second k) || (e && last k))
    ∙ ap (λ y. y || (e && (m && true))) (or_none (((s && (n && true)) || (d && (n && true))) || ((s && (x && true)) || (d && (x && true)))) i)

pub two_before_header : (ts : List Tok) (a b x c d : Bool) → length ts ≡ 2 → a ≡ begins_with_sharp ts → b ≡ at_tok (λ t. spells "include" t.text) ts 1
    → x ≡ at_tok (λ t. spells "include_next" t.text) ts 1 → c ≡ at_tok (λ t. spells "export" t.text) ts 0 → d ≡ at_tok (λ t. spells "import" t.text) ts 1
    → (((a && b) || (a && x)) || (c && d)) ≡ are_before_header ts
two_before_header [] a b x c d h pa pb px pc pd = absurd (omega arith)
two_before_header (t ∷ []) a b x c d h pa pb px pc pd = absurd (omega arith)
two_before_header (t ∷ u ∷ []) a b x c d h pa pb px pc pd = rw (pa, pb, px, pc, pd)
    (header_after_two (spells "#" t.text) (spells "%:" t.text) (spells "include" u.text) (spells "include_next" u.text) (spells "import" t.text) (spells "export" t.text) (spells "import" u.text))
two_before_header (t ∷ u ∷ v ∷ ts) a b x c d h pa pb px pc pd = absurd (omega arith)

-- the last two tokens, of which the first has this place
last_two : (word : String) (k : ℕ) (ts : List Tok) → length ts ≡ suc (suc k)
    → are (word ∷ "(" ∷ []) (drop k ts) ≡ (at_tok (λ t. spells word t.text) ts k && (at_tok (λ t. spells "(" t.text) ts (suc k) && true))
last_two word k [] h = absurd (omega arith)
last_two word zero (t ∷ []) h = absurd (omega arith)
last_two word zero (t ∷ u ∷ []) h = refl
last_two word zero (t ∷ u ∷ v ∷ ts) h = absurd (omega arith)
last_two word (suc k) (t ∷ ts) h = last_two word k ts (omega arith)

by_last : (a b p : Bool) → p ≡ false → ((a && (p && true)) || (b && (p && true))) ≡ false
by_last a b p e = rw e (no_second a b)

and_true : (a p : Bool) → p ≡ true → (a && (p && true)) ≡ a
and_true true p e = rw e refl
and_true false p e = refl

one_ends_at : (word : String) (ts : List Tok) → 2 ≤ length ts
    → are (word ∷ "(" ∷ []) (drop (length ts - 2) ts) ≡ (at_tok (λ t. spells word t.text) ts (length ts - 2) && (at_tok (λ t. spells "(" t.text) ts (length ts - 1) && true))
one_ends_at word ts h =
    let next : suc (length ts - 2) ≡ length ts - 1 = omega arith in
    last_two word (length ts - 2) ts (omega arith) ∙ ap (λ k. at_tok (λ t. spells word t.text) ts (length ts - 2) && (at_tok (λ t. spells "(" t.text) ts k && true)) next

ends_at : (ts : List Tok) → 2 ≤ length ts
    → ends_in_test ts ≡ ((at_tok (λ t. spells "__has_include" t.text) ts (length ts - 2) && (at_tok (λ t. spells "(" t.text) ts (length ts - 1) && true))
    || (at_tok (λ t. spells "__has_include_next" t.text) ts (length ts - 2) && (at_tok (λ t. spells "(" t.text) ts (length ts - 1) && true)))
ends_at ts h =
    let plain = one_ends_at "__has_include" ts h in
    let next = one_ends_at "__has_include_next" ts h in
    λ k. plain k || next k

pub other_end : (ts : List Tok) → 2 ≤ length ts → at_tok (λ t. spells "(" t.text) ts (length ts - 1) ≡ false → false ≡ ends_in_test ts
other_end ts h e = sym (ends_at ts h ∙ by_last (at_tok (λ t. spells "__has_include" t.text) ts (length ts - 2)) (at_tok (λ t. spells "__has_include_next" t.text) ts (length ts - 2)) _ e)

pub test_end : (ts : List Tok) (a b : Bool) → 2 ≤ length ts → at_tok (λ t. spells "(" t.text) ts (length ts - 1) ≡ true
    → a ≡ at_tok (λ t. spells "__has_include" t.text) ts (length ts - 2) → b ≡ at_tok (λ t. spells "__has_include_next" t.text) ts (length ts - 2) → (a || b) ≡ ends_in_test ts
test_end ts a b h e pa pb =
    let plain = and_true (at_tok (λ t. spells "__has_include" t.text) ts (length ts - 2)) _ e in
    let next = and_true (at_tok (λ t. spells "__has_include_next" t.text) ts (length ts - 2)) _ e in
    let both : (at_tok (λ t. spells "__has_include" t.text) ts (length ts - 2) || at_tok (λ t. spells "__has_include_next" t.text) ts (length ts - 2)) ≡ ends_in_test ts =
    sym (ends_at ts h ∙ (λ k. plain k || next k)) in
    (λ k. pa k || pb k) ∙ both

with_test : (b c t : Bool) → t ≡ true → (b || c) ≡ (b || (c && t))
with_test b c t e = rw e (same b c) where
  same : (b c : Bool) → (b || c) ≡ (b || (c && true))
  same true c = refl
  same false true = refl
  same false false = refl

without_test : (b c t : Bool) → t ≡ false → b ≡ (b || (c && t))
without_test b c t e = rw e (same b c) where
  same : (b c : Bool) → b ≡ (b || (c && false))
  same true c = refl
  same false true = refl
  same false false = refl

pub wants_test : (ts : List Tok) (b c : Bool) → ends_in_test ts ≡ true → b ≡ are_before_header ts → c ≡ begins_condition ts → (b || c) ≡ wants_header ts
unfolding wants_header
wants_test ts b c h pb pc = rw (pb, pc) (with_test (are_before_header ts) (begins_condition ts) (ends_in_test ts) h)

pub wants_other : (ts : List Tok) (b : Bool) → ends_in_test ts ≡ false → b ≡ are_before_header ts → b ≡ wants_header ts
unfolding wants_header
wants_other ts b h pb = pb ∙ without_test (are_before_header ts) (begins_condition ts) (ends_in_test ts) h
