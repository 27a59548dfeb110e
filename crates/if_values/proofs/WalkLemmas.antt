-- What `next_has` gives, step by step, and the terms of the condition.
use Rattle.std.proofs.Common.{◌≡◌, ℕ, zero, suc, ◌+◌, ◌-◌, ◌<◌, ◌≤◌, Bool, true, false, cond, List, [], ◌∷◌, ◌++◌, take, drop, length, map, refl, ap, sym, ◌∙◌, subst, arith, append_assoc, length-append, inl, inr}
use Rattle.std.specs.Prelude.{Option, Some, None, IfSome}
use Rattle.std.specs.Option.{option_map, option_map_or}
use Rattle.std.proofs.lemmas.Bool.{cases_Bool}
use Rattle.scan_model.specs.declared.token.Kind.TheVariants.{Header}
use Rattle.scan_model.specs.declared.token.Tok.{Tok}
use Rattle.scan_model.specs.declared.command.Form.TheVariants.{Quoted, Angled}
use Rattle.scan_model.specs.declared.condition.HasAt.{HasAt}
use Rattle.scan_model.specs.declared.condition.HasNext.{HasNext}
use Rattle.scan_model.specs.declared.condition.HasNext.TheVariants.{End, Bad, At}
use Rattle.scan_model.specs.TokenTests.{is_of, is_sign, is_open_paren, is_close_paren, is_plain_string, unquoted}
use Rattle.scan_model.specs.HeaderName.{Named, nonempty, written_before, angled_rest, angled, name_of, header, header_or_name, before_close, has_name, is_has, is_has_next, has_at, next_has_from, next_has, Term, Plain, Has, terms}
use Rattle.if_values.specs.Known.{has_count}
use Rattle.if_values.proofs.KnownLemmas.{terms-nil, terms-plain, terms-has, terms-bad}

if_cond : {X : Type 0} (P : X → Type 0) (b : Bool) (x y : Option X) → IfSome x P → IfSome y P → IfSome (cond b x y) P
if_cond P true x y p q = p
if_cond P false x y p q = q

if_map : {X Y : Type 0} (P : X → Type 0) (Q : Y → Type 0) (f : X → Y) (o : Option X) → ((x : X) → P x → Q (f x)) → IfSome o P → IfSome (option_map f o) Q
if_map P Q f None step h = tt
if_map P Q f (Some x) step h = step x h

-- ## What follows a name is a rear part

abbrev pub RearOf : List Tok → List Tok → Type 0
RearOf s ts = (front : List Tok) × (ts ≡ front ++ s)

abbrev HasRear : List Tok → Named → Type 0
HasRear ts n = RearOf n.after ts

rear_self : (ts : List Tok) → RearOf ts ts
rear_self ts = ([], refl)

rear_more : (s : List Tok) (t : Tok) (ts : List Tok) → RearOf s ts → RearOf s (t ∷ ts)
rear_more s t ts h = (t ∷ h.0, ap (λ us. t ∷ us) h.1)

rear_map : (s : List ℕ) (t : Tok) (ts : List Tok) (o : Option Named) → IfSome o (HasRear ts) → IfSome (option_map (written_before s) o) (HasRear (t ∷ ts))
rear_map s t ts o h = if_map (HasRear ts) (HasRear (t ∷ ts)) (written_before s) o (λ n g. rear_more n.after t ts g) h

angled_rest_rear : (ts : List Tok) → IfSome (angled_rest ts) (HasRear ts)
angled_rest_rear [] = tt
angled_rest_rear (t ∷ ts) = let s = cond t.space (32 ∷ t.text) t.text in
    if_cond (HasRear (t ∷ ts)) (is_sign (">" ∷ []) t) (Some (record { form = Angled; name = []; after = ts })) (option_map (written_before s) (angled_rest ts)) (rear_more ts t ts (rear_self ts))
    (rear_map s t ts (angled_rest ts) (angled_rest_rear ts))

angled_rear : (ts : List Tok) → IfSome (angled ts) (HasRear ts)
angled_rear [] = tt
angled_rear (t ∷ ts) = if_cond (HasRear (t ∷ ts)) (is_sign (">" ∷ []) t) None (option_map (written_before t.text) (angled_rest ts)) tt (rear_map t.text t ts (angled_rest ts) (angled_rest_rear ts))

more_rear : (t : Tok) (ts : List Tok) (o : Option Named) → IfSome o (HasRear ts) → IfSome o (HasRear (t ∷ ts))
more_rear t ts None h = tt
more_rear t ts (Some n) h = rear_more n.after t ts h

name_of_rear : (ts : List Tok) → IfSome (name_of ts) (HasRear ts)
unfolding name_of
name_of_rear [] = tt
name_of_rear (t ∷ ts) =
    let quoted : Named = record { form = Quoted; name = unquoted t.text; after = ts } in
    if_cond (HasRear (t ∷ ts)) (is_plain_string t) (nonempty quoted) (cond (is_sign ("<" ∷ []) t) (angled ts) None) (if_cond (HasRear (t ∷ ts)) _ None (Some quoted) tt (rear_more ts t ts (rear_self ts)))
    (if_cond (HasRear (t ∷ ts)) (is_sign ("<" ∷ []) t) (angled ts) None (more_rear t ts (angled ts) (angled_rear ts)) tt)

header_or_name_rear : (ts : List Tok) → IfSome (header_or_name ts) (HasRear ts)
header_or_name_rear [] = tt
header_or_name_rear (t ∷ ts) = if_cond (HasRear (t ∷ ts)) (is_of Header t) (Some (header t ts)) (name_of (t ∷ ts)) (rear_more ts t ts (rear_self ts)) (name_of_rear (t ∷ ts))

-- the name in parentheses that follows a test's word
pub record IsName (ts : List Tok) (n : Named) : Type 0 where
  pub name : header_or_name (drop 1 ts) ≡ Some n
  pub rear : RearOf n.after ts
  pub closed : 0 < length n.after

has_name_is : (ts : List Tok) → IfSome (has_name ts) (IsName ts)
has_name_is [] = tt
has_name_is (t ∷ ts) = if_cond (IsName (t ∷ ts)) (is_open_paren t) (option_map_or before_close (header_or_name ts) None) None (by (header_or_name ts) refl) tt where
  closes : (n : Named) → header_or_name ts ≡ Some n → RearOf n.after (t ∷ ts) → IfSome (before_close n) (IsName (t ∷ ts))
  closes n e r = with_after n.after refl where
    with_after : (after : List Tok) → n.after ≡ after → IfSome (elim after [
      | [] ↦ None
      | u ∷ us ↦ cond (is_close_paren u) (Some n) None
    ]) (IsName (t ∷ ts))
    with_after [] q = tt
    with_after (u ∷ us) q = if_cond (IsName (t ∷ ts)) (is_close_paren u) (Some n) None (record { name = e; rear = r; closed = omega (arith, ap length q) }) tt

  by : (o : Option Named) → header_or_name ts ≡ o → IfSome (option_map_or before_close o None) (IsName (t ∷ ts))
  by None e = tt
  by (Some n) e = closes n e (rear_more n.after t ts (subst (λ (o : Option Named). IfSome o (HasRear ts)) e (header_or_name_rear ts)))

-- ## Tests by places

-- The `__has_include` or `__has_include_next` that stands at these places of all tokens, of which `ts` is a rear part after
-- k of them: the first of them in `ts`.
pub record IsTest (toks ts : List Tok) (k : ℕ) (h : HasAt) (n : Named) : Type 0 where
  pub name : header_or_name (drop h.first toks) ≡ Some n
  pub inside : h.first ≤ length toks
  pub form : h.form ≡ n.form
  pub rest : drop (h.past + 1) toks ≡ drop 1 n.after
  pub later : k < h.past + 1
  pub within : h.past + 1 ≤ length toks
  -- the tokens between, which are none
  pub passed : List Tok
  pub terms : terms ts ≡ option_map (λ us. map Plain passed ++ Has h.next n.form n.name ∷ us) (terms (drop 1 n.after))

-- what an answer of `next_has` says of the tokens' terms
abbrev pub Walked : List Tok → List Tok → ℕ → HasNext → Type 0
Walked toks ts k End = terms ts ≡ Some (map Plain ts)
Walked toks ts k (Bad place) = terms ts ≡ None
Walked toks ts k (At h) = (n : Named) × IsTest toks ts k h n

drop_front : {A : Type 0} (xs ys : List A) (j : ℕ) → drop (length xs + j) (xs ++ ys) ≡ drop j ys
drop_front [] ys j = ap (λ k. drop k ys) (omega arith)
drop_front (x ∷ xs) ys j = let e : length (x ∷ xs) + j ≡ suc (length xs + j) = omega arith in ap (λ k. drop k (x ∷ xs ++ ys)) e ∙ drop_front xs ys j

one_more : (t : Tok) (passed : List Tok) (next : Bool) (n : Named) (o : Option (List Term))
    → option_map (Plain t ∷◌) (option_map (λ us. map Plain passed ++ Has next n.form n.name ∷ us) o) ≡ option_map (λ us. map Plain (t ∷ passed) ++ Has next n.form n.name ∷ us) o
one_more t passed next n None = refl
one_more t passed next n (Some us) = refl

passed_plain : (toks : List Tok) (t : Tok) (ts : List Tok) (k : ℕ) (h : HasNext) → is_has t ≡ false → Walked toks ts (k + 1) h → Walked toks (t ∷ ts) k h
passed_plain toks t ts k End e w = terms-plain t ts e ∙ ap (option_map (Plain t ∷◌)) w
passed_plain toks t ts k (Bad place) e w = terms-plain t ts e ∙ ap (option_map (Plain t ∷◌)) w
passed_plain toks t ts k (At h) e w = let is = w.1 in (
  w.0,
  record {
    name = is.name;
    inside = is.inside;
    form = is.form;
    rest = is.rest;
    later = let l : k + 1 < h.past + 1 = is.later in omega arith;
    within = is.within;
    passed = t ∷ is.passed;
    terms = terms-plain t ts e ∙ ap (option_map (Plain t ∷◌)) is.terms ∙ one_more t is.passed h.next w.0 (terms (drop 1 w.0.after));
  },
)

found_test : (toks before : List Tok) (t : Tok) (ts : List Tok) (n : Named) → toks ≡ before ++ t ∷ ts → is_has t ≡ true → has_name ts ≡ Some n → IsName ts n →
    IsTest toks (t ∷ ts) (length before) (record { first = length before + 2; past = length toks - length n.after; form = n.form; next = is_has_next t }) n
found_test toks before t ts n whole e f is =
    let front = before ++ t ∷ is.rear.0 in
    let split : toks ≡ front ++ n.after = whole ∙ ap (λ us. before ++ t ∷ us) is.rear.1 ∙ sym (append_assoc before (t ∷ is.rear.0) n.after) in
    let lengths : length toks ≡ length front + length n.after = ap length split ∙ length-append front n.after in
    let fronts : length front ≡ length before + suc (length is.rear.0) = length-append before (t ∷ is.rear.0) in
    let past : length toks - length n.after ≡ length front = omega arith in
    record {
      name = ap header_or_name (ap (drop (length before + 2)) whole ∙ drop_front before (t ∷ ts) 2) ∙ is.name;
      inside = let r : length is.rear.0 + length n.after ≡ length ts = sym (length-append is.rear.0 n.after) ∙ ap length (sym is.rear.1) in omega (arith, is.closed);
      form = refl;
      rest = ap (λ k. drop (k + 1) toks) past ∙ ap (drop (length front + 1)) split ∙ drop_front front n.after 1;
      later = omega (arith, is.closed);
      within = omega (arith, is.closed);
      passed = [];
      terms = terms-has t ts n e f;
    }

here : (toks before : List Tok) (t : Tok) (ts : List Tok) (o : Option Named) → toks ≡ before ++ t ∷ ts → is_has t ≡ true → has_name ts ≡ o →
    Walked toks (t ∷ ts) (length before) (has_at (is_has_next t) (length toks) (length before) o)
here toks before t ts None whole e f = terms-bad t ts e f
here toks before t ts (Some n) whole e f = (n, found_test toks before t ts n whole e f (subst (λ (o : Option Named). IfSome o (IsName ts)) f (has_name_is ts)))

walk : (toks before ts : List Tok) → toks ≡ before ++ ts → Walked toks ts (length before) (next_has_from (length toks) (length before) ts)
walk toks before [] whole = terms-nil
walk toks before (t ∷ ts) whole =
    elim (cases_Bool (is_has t)) [
      | inl y ↦ subst (λ b. Walked toks (t ∷ ts) (length before) (cond b (has_at (is_has_next t) (length toks) (length before) (has_name ts)) (next_has_from (length toks) (length before + 1) ts))) (sym y)
          (here toks before t ts (has_name ts) whole y refl)
      | inr n ↦ subst (λ b. Walked toks (t ∷ ts) (length before) (cond b (has_at (is_has_next t) (length toks) (length before) (has_name ts)) (next_has_from (length toks) (length before + 1) ts))) (sym n)
          (passed_plain toks t ts (length before) (next_has_from (length toks) (length before + 1) ts) n
          (subst (λ k. Walked toks ts k (next_has_from (length toks) k ts)) (length-append before (t ∷ []) ∙ one) (walk toks (before ++ t ∷ []) ts (whole ∙ sym (append_assoc before (t ∷ []) ts)))))
    ]
  where
    one : length before + length (t ∷ []) ≡ length before + 1
    one = omega arith

halves : {A : Type 0} (xs : List A) (k : ℕ) → k ≤ length xs → (xs ≡ take k xs ++ drop k xs) × (length (take k xs) ≡ k)
halves xs zero h = (refl, refl)
halves [] (suc k) h = absurd (omega arith)
halves (x ∷ xs) (suc k) h = let more = halves xs k (omega arith) in (ap (λ ys. x ∷ ys) more.0, omega (arith, more.1))

-- The law of `next_has`: from a place on, its answer says where the next term stands that isn't a plain token, and which one
-- it is; so what it gives step by step is what the condition's terms are.
pub walked : (toks : List Tok) (from : ℕ) (h : HasNext) → from ≤ length toks → h ≡ next_has toks from → Walked toks (drop from toks) from h
unfolding next_has
walked toks from h inside is =
    let both = halves toks from inside in
    subst (λ x. Walked toks (drop from toks) from x) (sym is)
    (subst (λ k. Walked toks (drop from toks) k (next_has_from (length toks) k (drop from toks))) both.1 (walk toks (take from toks) (drop from toks) both.0))

-- ## Counting

abbrev pub and_more : ℕ → List Term → ℕ
and_more n ts = n + has_count ts

none_plain : (ts : List Tok) → has_count (map Plain ts) ≡ 0
none_plain [] = refl
none_plain (t ∷ ts) = none_plain ts

past_plain : (ts : List Tok) (us : List Term) → has_count (map Plain ts ++ us) ≡ has_count us
past_plain [] us = refl
past_plain (t ∷ ts) us = past_plain ts us

count_step : (n : ℕ) (passed : List Tok) (next : Bool) (name : Named) (o : Option (List Term)) → option_map (and_more n) (option_map (λ us. map Plain passed ++ Has next name.form name.name ∷ us) o) ≡ option_map (and_more (n + 1)) o
count_step n passed next name None = refl
count_step n passed next name (Some us) =
    let more = past_plain passed (Has next name.form name.name ∷ us) in
    ap (λ k. Some k) {x = n + has_count (map Plain passed ++ Has next name.form name.name ∷ us)} {y = n + 1 + has_count us} (omega (arith, more))

pub count_end : (toks ts : List Tok) (k n : ℕ) → Walked toks ts k End → option_map (and_more n) (terms ts) ≡ Some n
count_end toks ts k n w = ap (option_map (and_more n)) w ∙ ap (λ j. Some j) {x = n + has_count (map Plain ts)} {y = n} (omega (arith, none_plain ts))

pub count_bad : (toks ts : List Tok) (k place n : ℕ) → Walked toks ts k (Bad place) → option_map (and_more n) (terms ts) ≡ None
count_bad toks ts k place n w = ap (option_map (and_more n)) w

pub count_at : (toks ts : List Tok) (k n : ℕ) (h : HasAt) → (w : Walked toks ts k (At h)) → option_map (and_more n) (terms ts) ≡ option_map (and_more (n + 1)) (terms (drop (h.past + 1) toks))
count_at toks ts k n h w = ap (option_map (and_more n)) w.1.terms ∙ (count_step n w.1.passed h.next w.0 (terms (drop 1 w.0.after)) ∙ ap (λ us. option_map (and_more (n + 1)) (terms us)) (sym w.1.rest))
