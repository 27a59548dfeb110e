-- The terms of tokens, one after another.
use Rattle.std.proofs.Common.{◌≡◌, ℕ, ◌+◌, ◌<◌, ◌≤◌, zero, suc, Bool, true, false, cond, List, [], ◌∷◌, ◌++◌, length, take, drop, get_or, ap, sym, ◌∙◌, refl, arith, length-drop}
use Rattle.std.specs.Prelude.{Option, Some, None, IfSome, ◌==◌, ◌&&◌}
use Rattle.std.specs.Option.{option_map, option_map_or}
use Rattle.std.proofs.lemmas.Option.{IfSome_then, some_pair_parts}
use Rattle.scan_model.specs.declared.token.Kind.TheVariants.{Header, Ident, Punct}
use Rattle.scan_model.specs.declared.token.Tok.{Tok}
use Rattle.scan_model.specs.declared.command.Form.{Form}
use Rattle.scan_model.specs.declared.command.Form.TheVariants.{Quoted}
use Rattle.std.specs.List.{AllPass, prefix_len}
use Rattle.std.proofs.lemmas.List.Elements.{All-nil, All-cons}
use Rattle.scan_model.specs.ConditionTree.{Spelt, operator_of, unary_operators}
use Rattle.if_values.specs.UnaryRows.{is_unary_operator}
use Rattle.if_values.specs.Names.{shape}
use Rattle.if_values.specs.Items.{first_of}
use Rattle.scan_model.specs.TokenTests.{begins_with, is_of, is_sign, is_open_paren, is_close_paren, is_plain_string, unquoted}
use Rattle.scan_model.specs.HeaderName.{Named, Term, Plain, Has, nonempty, written_before, angled_rest, angled, name_of, header, header_or_name, before_close, has_name, is_has, is_has_next, has_term, terms_up_to, terms}
use Rattle.scan_model.specs.Condition.{with_has, has_literal}
use Rattle.if_values.specs.Known.{has_count, HasEntries, known}

-- ---- what follows a name is shorter

IfSome-cond : {X : Type 0} (P : X → Type 0) (b : Bool) (x y : Option X) → IfSome x P → IfSome y P → IfSome (cond b x y) P
IfSome-cond P true x y p q = p
IfSome-cond P false x y p q = q

abbrev pub AfterWithin : ℕ → Named → Type 0
AfterWithin k n = length n.after ≤ k

within_more : (j k : ℕ) (o : Option Named) → j ≤ k → IfSome o (AfterWithin j) → IfSome o (AfterWithin k)
within_more j k None h p = tt
within_more j k (Some n) h p = omega arith

written_within : (k : ℕ) (s : List ℕ) (o : Option Named) → IfSome o (AfterWithin k) → IfSome (option_map (written_before s) o) (AfterWithin k)
written_within k s None p = tt
written_within k s (Some n) p = p

angled_rest_within : (ts : List Tok) → IfSome (angled_rest ts) (AfterWithin (length ts))
angled_rest_within [] = tt
angled_rest_within (t ∷ ts) = let k = length (t ∷ ts) in
    IfSome-cond (AfterWithin k) (is_sign (">" ∷ []) t) _ (option_map (written_before (cond t.space (32 ∷ t.text) t.text)) (angled_rest ts)) (omega arith)
    (written_within k (cond t.space (32 ∷ t.text) t.text) (angled_rest ts) (within_more (length ts) k (angled_rest ts) (omega arith) (angled_rest_within ts)))

angled_within : (ts : List Tok) → IfSome (angled ts) (AfterWithin (length ts))
angled_within [] = tt
angled_within (t ∷ ts) = let k = length (t ∷ ts) in
    IfSome-cond (AfterWithin k) (is_sign (">" ∷ []) t) None (option_map (written_before t.text) (angled_rest ts)) tt
    (written_within k t.text (angled_rest ts) (within_more (length ts) k (angled_rest ts) (omega arith) (angled_rest_within ts)))

name_of_within : (ts : List Tok) → IfSome (name_of ts) (AfterWithin (length ts))
unfolding name_of
name_of_within [] = tt
name_of_within (t ∷ ts) = let k = length (t ∷ ts) in
    let quoted : Named = record { form = Quoted; name = unquoted t.text; after = ts } in
    IfSome-cond (AfterWithin k) (is_plain_string t) (nonempty quoted) (cond (is_sign ("<" ∷ []) t) (angled ts) None) (IfSome-cond (AfterWithin k) _ None (Some quoted) tt (omega arith))
    (IfSome-cond (AfterWithin k) (is_sign ("<" ∷ []) t) (angled ts) None (within_more (length ts) k (angled ts) (omega arith) (angled_within ts)) tt)

header_or_name_within : (ts : List Tok) → IfSome (header_or_name ts) (AfterWithin (length ts))
header_or_name_within [] = tt
header_or_name_within (t ∷ ts) = let k = length (t ∷ ts) in
    IfSome-cond (AfterWithin k) (is_of Header t) (Some (header t ts)) (name_of (t ∷ ts)) (omega arith) (name_of_within (t ∷ ts))

before_close_within : (k : ℕ) (n : Named) → length n.after ≤ k → IfSome (before_close n) (AfterWithin k)
before_close_within k n h =
    elim (n.after) as (λ v. IfSome (elim v [
      | [] ↦ None
      | t ∷ ts ↦ cond (is_close_paren t) (Some n) None
    ]) (AfterWithin k)) [
      | [] ↦ tt
      | t ∷ ts ↦ IfSome-cond (AfterWithin k) (is_close_paren t) (Some n) None h tt
    ]

map_or_within : (k : ℕ) (o : Option Named) → IfSome o (AfterWithin k) → IfSome (option_map_or before_close o None) (AfterWithin k)
map_or_within k None p = tt
map_or_within k (Some n) p = before_close_within k n p

pub has_name_within : (ts : List Tok) → IfSome (has_name ts) (AfterWithin (length ts))
has_name_within [] = tt
has_name_within (t ∷ ts) = let k = length (t ∷ ts) in
    IfSome-cond (AfterWithin k) (is_open_paren t) (option_map_or before_close (header_or_name ts) None) None
    (map_or_within k (header_or_name ts) (within_more (length ts) k (header_or_name ts) (omega arith) (header_or_name_within ts))) tt

-- ---- any fuel that suffices gives the same terms

has_term_same : (next : Bool) (n m : ℕ) (o : Option Named) → IfSome o (λ f. terms_up_to n (drop 1 f.after) ≡ terms_up_to m (drop 1 f.after)) → has_term next o (terms_up_to n) ≡ has_term next o (terms_up_to m)
has_term_same next n m None h = refl
has_term_same next n m (Some f) h = ap (option_map (Has next f.form f.name ∷◌)) h

cond_same : {X : Type 0} (t : Bool) (a b x y : X) → a ≡ b → x ≡ y → cond t a x ≡ cond t b y
cond_same true a b x y p q = p
cond_same false a b x y p q = q

same_fuel : (n m : ℕ) (ts : List Tok) → length ts ≤ n → length ts ≤ m → terms_up_to n ts ≡ terms_up_to m ts
same_fuel zero zero ts h k = refl
same_fuel zero (suc m) [] h k = refl
same_fuel (suc n) zero [] h k = refl
same_fuel (suc n) (suc m) [] h k = refl
same_fuel zero (suc m) (t ∷ ts) h k = absurd (omega arith)
same_fuel (suc n) zero (t ∷ ts) h k = absurd (omega arith)
same_fuel (suc n) (suc m) (t ∷ ts) h k =
    let plain = same_fuel n m ts (omega arith) (omega arith) in
    let has = has_term_same (is_has_next t) n m (has_name ts) (IfSome_then (has_name ts) (has_name_within ts) (λ f w. same_fuel n m (drop 1 f.after) (omega (arith, length-drop 1 f.after)) (omega (arith, length-drop 1 f.after)))) in
    cond_same (is_has t) _ _ _ _ has (ap (option_map (Plain t ∷◌)) plain)

-- ---- one term after another

pub terms-plain : (t : Tok) (ts : List Tok) → is_has t ≡ false → terms (t ∷ ts) ≡ option_map (Plain t ∷◌) (terms ts)
unfolding terms
terms-plain t ts e = rw e refl

pub terms-has : (t : Tok) (ts : List Tok) (n : Named) → is_has t ≡ true → has_name ts ≡ Some n → terms (t ∷ ts) ≡ option_map (Has (is_has_next t) n.form n.name ∷◌) (terms (drop 1 n.after))
unfolding terms
terms-has t ts n e f =
    let within : length n.after ≤ length ts = let w = has_name_within ts in rw f at w in
    rw (e, f) (ap (option_map (Has (is_has_next t) n.form n.name ∷◌)) (same_fuel (length ts) (length (drop 1 n.after)) (drop 1 n.after) (omega (arith, length-drop 1 n.after)) (omega arith)))

pub terms-bad : (t : Tok) (ts : List Tok) → is_has t ≡ true → has_name ts ≡ None → terms (t ∷ ts) ≡ None
unfolding terms
terms-bad t ts e f = rw (e, f) refl

pub terms-nil : terms [] ≡ Some []
unfolding terms
terms-nil = refl

-- ---- the tokens that are known, one after another

known-nil : (has : List Bool) → known [] has ≡ []
known-nil has = rw terms-nil refl

plain_by : (t : Tok) (has : List Bool) (o : Option (List Term)) → option_map has_count (option_map (Plain t ∷◌) o) ≡ Some (length has)
    → (option_map_or (λ ts. with_has ts has) (option_map (Plain t ∷◌) o) [] ≡ t ∷ option_map_or (λ ts. with_has ts has) o []) × (option_map has_count o ≡ Some (length has))
plain_by t has None h = cc
plain_by t has (Some ts) h = (refl, h)

pub known-plain : (toks : List Tok) (t : Tok) (has : List Bool) → 0 < length toks → t ≡ get_or toks 0 t → is_has t ≡ false → HasEntries toks has → (known toks has ≡ t ∷ known (drop 1 toks) has) × HasEntries (drop 1 toks) has
known-plain [] t has p e f h = absurd (omega arith)
known-plain (u ∷ us) t has p e f h =
    let g : is_has u ≡ false = rw e at f in
    let k : option_map has_count (option_map (Plain u ∷◌) (terms us)) ≡ Some (length has) = rw (terms-plain u us g) at h in
    let both = plain_by u has (terms us) k in
    (rw (terms-plain u us g, e) both.0, both.1)

-- what the entry of a `__has_include` leaves
pub record PassesHas (toks after : List Tok) (has : List Bool) : Type 0 where
  pub entry : 0 < length has
  pub known_is : known toks has ≡ has_literal (get_or has 0 false) ∷ known (drop 1 after) (drop 1 has)
  pub entries : HasEntries (drop 1 after) (drop 1 has)

pub record PassesBy (next : Bool) (o : Option (List Term)) (n : Named) (has : List Bool) : Type 0 where
  pub entry : 0 < length has
  pub known_is : option_map_or (λ ts. with_has ts has) (option_map (Has next n.form n.name ∷◌) o) [] ≡ has_literal (get_or has 0 false) ∷ option_map_or (λ ts. with_has ts (drop 1 has)) o []
  pub entries : option_map has_count o ≡ Some (length (drop 1 has))

same_count : (m n : ℕ) → Some (1 + m) ≡ Some (suc n) → Some m ≡ Some n
same_count m n e = let k : 1 + m ≡ suc n = cc in ap (λ j. Some j) (omega arith)

has_by : (next : Bool) (n : Named) (has : List Bool) (o : Option (List Term)) → option_map has_count (option_map (Has next n.form n.name ∷◌) o) ≡ Some (length has) → PassesBy next o n has
has_by next n has None h = cc
has_by next n [] (Some ts) h = let k : 1 + has_count ts ≡ 0 = cc in absurd (omega arith)
has_by next n (b ∷ bs) (Some ts) h = record { entry = omega arith; known_is = refl; entries = same_count (has_count ts) (length bs) h }

passes_by : (t : Tok) (ts : List Tok) (n : Named) (after : List Tok) (has : List Bool) → is_has t ≡ true → has_name ts ≡ Some n → n.after ≡ after → HasEntries (t ∷ ts) has → PassesHas (t ∷ ts) after has
passes_by t ts n after has e f g h =
    let k : option_map has_count (option_map (Has (is_has_next t) n.form n.name ∷◌) (terms (drop 1 n.after))) ≡ Some (length has) = rw (terms-has t ts n e f) at h in
    let all = has_by (is_has_next t) n has (terms (drop 1 n.after)) k in
    record {
      entry = all.entry;
      known_is = rw (terms-has t ts n e f, ← g) all.known_is;
      entries = rw (← g) all.entries;
    }

same_after : (f g : Form) (a b : List Tok) → ◌≡◌ {A = Option (Form × List Tok)} (Some (f, a)) (Some (g, b)) → b ≡ a
same_after f g a b e = sym (some_pair_parts f g a b e).1

shaped : (t : Tok) (ts : List Tok) (o : Option Named) (form : Form) (after : List Tok) (has : List Bool) → is_has t ≡ true → has_name ts ≡ o → ◌≡◌ {A = Option (Form × List Tok)} (Some (form, after)) (option_map shape o) → HasEntries (t ∷ ts) has → PassesHas (t ∷ ts) after has
shaped t ts None form after has e f g h = cc
shaped t ts (Some n) form after has e f g h = passes_by t ts n after has e f (same_after form n.form after n.after g) h

pub known-has : (toks : List Tok) (t : Tok) (form : Form) (after : List Tok) (has : List Bool) → 0 < length toks → t ≡ get_or toks 0 t → is_has t ≡ true → ◌≡◌ {A = Option (Form × List Tok)} (Some (form, after)) (option_map shape (has_name (drop 1 toks))) → HasEntries toks has → PassesHas toks after has
known-has [] t form after has p e f g h = absurd (omega arith)
known-has (u ∷ us) t form after has p e f g h = let f' : is_has u ≡ true = rw e at f in shaped u us (has_name us) form after has f' refl g h

bad_by : (t : Tok) (ts : List Tok) (o : Option Named) (has : List Bool) → is_has t ≡ true → has_name ts ≡ o → None ≡ option_map shape o → HasEntries (t ∷ ts) has → ⊥
bad_by t ts None has e f g h = let k = rw (terms-bad t ts e f) at h in cc
bad_by t ts (Some n) has e f g h = cc

pub known-bad : (toks : List Tok) (t : Tok) (has : List Bool) → 0 < length toks → t ≡ get_or toks 0 t → is_has t ≡ true → None ≡ option_map shape (has_name (drop 1 toks)) → HasEntries toks has → ⊥
known-bad [] t has p e f g h = absurd (omega arith)
known-bad (u ∷ us) t has p e f g h = let f' : is_has u ≡ true = rw e at f in bad_by u us (has_name us) has f' refl g h

-- the entry stands, whatever follows
entry_by : (t : Tok) (ts : List Tok) (o : Option Named) (has : List Bool) → is_has t ≡ true → has_name ts ≡ o → HasEntries (t ∷ ts) has → (0 < length has) × (first_of (known (t ∷ ts) has) ≡ Some (has_literal (get_or has 0 false)))
entry_by t ts None has e f h = absurd (bad_by t ts None has e f refl h)
entry_by t ts (Some n) has e f h = let all = passes_by t ts n n.after has e f refl h in (all.entry, ap first_of all.known_is)

pub known-entry : (toks : List Tok) (t : Tok) (has : List Bool) → 0 < length toks → t ≡ get_or toks 0 t → is_has t ≡ true → HasEntries toks has → (0 < length has) × (first_of (known toks has) ≡ Some (has_literal (get_or has 0 false)))
known-entry [] t has p e f h = absurd (omega arith)
known-entry (u ∷ us) t has p e f h = let f' : is_has u ≡ true = rw e at f in entry_by u us (has_name us) has f' refl h

pub known-nothing : (toks : List Tok) (has : List Bool) → length toks ≡ 0 → known toks has ≡ []
known-nothing [] has e = known-nil has
known-nothing (t ∷ ts) has e = absurd (omega arith)

-- ---- unary operators in a row

operator_of-none : {X : Type 0} (os : List (Spelt X)) (t : Tok) → is_of Punct t ≡ false → operator_of os t ≡ None
operator_of-none [] t e = refl
operator_of-none (o ∷ os) t e = rw e (operator_of-none os t e)

plain_by_kind : (t : Tok) (b : Bool) → is_of Punct t ≡ b → is_unary_operator t ≡ true → is_of Ident t ≡ false
plain_by_kind t true e h = grind (arith, e)
plain_by_kind t false e h = let none = operator_of-none unary_operators t e in let f : is_unary_operator t ≡ false = rw none refl in cc

unary-plain : (t : Tok) → is_unary_operator t ≡ true → is_has t ≡ false
unary-plain t h = let e = plain_by_kind t (is_of Punct t) refl h in rw e refl

-- what a row and the tokens after it are
pub record InRow (toks : List Tok) (has : List Bool) (n : ℕ) : Type 0 where
  pub row : known toks has ≡ take n toks ++ known (drop n toks) has
  pub entries : HasEntries (drop n toks) has
  pub all : AllPass is_unary_operator (take n toks)
  pub ended : begins_with is_unary_operator (known (drop n toks) has) ≡ false

first_not : (ts : List Tok) (u : Tok) → first_of ts ≡ Some u → is_unary_operator u ≡ false → begins_with is_unary_operator ts ≡ false
first_not [] u e h = cc
first_not (t ∷ ts) u e h = let same : t ≡ u = cc in rw same h

row_ends : (t : Tok) (ts : List Tok) (has : List Bool) (b : Bool) → is_has t ≡ b → is_unary_operator t ≡ false → HasEntries (t ∷ ts) has → begins_with is_unary_operator (known (t ∷ ts) has) ≡ false
row_ends t ts has true e f h = first_not (known (t ∷ ts) has) (has_literal (get_or has 0 false)) (known-entry (t ∷ ts) t has (omega arith) refl e h).1 refl
row_ends t ts has false e f h = let k = (known-plain (t ∷ ts) t has (omega arith) refl e h).0 in rw k f

row_by : (t : Tok) (ts : List Tok) (has : List Bool) (b : Bool) → is_unary_operator t ≡ b → HasEntries (t ∷ ts) has → (HasEntries ts has → InRow ts has (prefix_len is_unary_operator ts)) → InRow (t ∷ ts) has (cond b (1 + prefix_len is_unary_operator ts) 0)
row_by t ts has false e h k = record { row = refl; entries = h; all = All-nil (λ x. is_unary_operator x ≡ true); ended = row_ends t ts has (is_has t) refl e h }
row_by t ts has true e h k =
    let plain = known-plain (t ∷ ts) t has (omega arith) refl (unary-plain t e) h in
    let more = k plain.1 in
    let one : 1 + prefix_len is_unary_operator ts ≡ suc (prefix_len is_unary_operator ts) = omega arith in
    rw one (record {
      row = plain.0 ∙ ap (λ (us : List Tok). t ∷ us) more.row;
      entries = more.entries;
      all = All-cons (λ x. is_unary_operator x ≡ true) t (take (prefix_len is_unary_operator ts) ts) e more.all;
      ended = more.ended;
    })

pub known-row : (toks : List Tok) (has : List Bool) → HasEntries toks has → InRow toks has (prefix_len is_unary_operator toks)
known-row [] has h = record { row = refl; entries = h; all = All-nil (λ x. is_unary_operator x ≡ true); ended = let k = known-nil has in rw k refl }
known-row (t ∷ ts) has h = row_by t ts has (is_unary_operator t) refl h (λ k. known-row ts has k)

-- ---- how many there are

count_plain_by : (t : Tok) (o : Option (List Term)) → option_map has_count (option_map (Plain t ∷◌) o) ≡ option_map has_count o
count_plain_by t None = refl
count_plain_by t (Some ts) = refl

count_has_by : (next : Bool) (n : Named) (o : Option (List Term)) → option_map has_count (option_map (Has next n.form n.name ∷◌) o) ≡ option_map (λ k. 1 + k) (option_map has_count o)
count_has_by next n None = refl
count_has_by next n (Some ts) = refl

pub count-plain : (toks rest : List Tok) (t : Tok) → 0 < length toks → t ≡ get_or toks 0 t → is_has t ≡ false → rest ≡ drop 1 toks → option_map has_count (terms rest) ≡ option_map has_count (terms toks)
count-plain [] rest t p e f r = absurd (omega arith)
count-plain (u ∷ us) rest t p e f r = let g : is_has u ≡ false = rw e at f in rw (terms-plain u us g, r) (sym (count_plain_by u (terms us)))

count_shaped : (t : Tok) (ts : List Tok) (o : Option Named) (form : Form) (after : List Tok) → is_has t ≡ true → has_name ts ≡ o → ◌≡◌ {A = Option (Form × List Tok)} (Some (form, after)) (option_map shape o) → option_map (λ k. 1 + k) (option_map has_count (terms (drop 1 after))) ≡ option_map has_count (terms (t ∷ ts))
count_shaped t ts None form after e f g = cc
count_shaped t ts (Some n) form after e f g = let same : n.after ≡ after = same_after form n.form after n.after g in rw (terms-has t ts n e f, ← same) (sym (count_has_by (is_has_next t) n (terms (drop 1 n.after))))

pub count-has : (toks rest : List Tok) (t : Tok) (form : Form) (after : List Tok) → 0 < length toks → t ≡ get_or toks 0 t → is_has t ≡ true → rest ≡ drop 1 toks → ◌≡◌ {A = Option (Form × List Tok)} (Some (form, after)) (option_map shape (has_name rest)) → option_map (λ k. 1 + k) (option_map has_count (terms (drop 1 after))) ≡ option_map has_count (terms toks)
count-has [] rest t form after p e f r g = absurd (omega arith)
count-has (u ∷ us) rest t form after p e f r g =
    let k : is_has u ≡ true = rw e at f in
    let h : ◌≡◌ {A = Option (Form × List Tok)} (Some (form, after)) (option_map shape (has_name us)) = rw r at g in
    count_shaped u us (has_name us) form after k refl h

count_bad_by : (t : Tok) (ts : List Tok) (o : Option Named) → is_has t ≡ true → has_name ts ≡ o → None ≡ option_map shape o → None ≡ option_map has_count (terms (t ∷ ts))
count_bad_by t ts None e f g = rw (terms-bad t ts e f) refl
count_bad_by t ts (Some n) e f g = cc

pub count-bad : (toks rest : List Tok) (t : Tok) → 0 < length toks → t ≡ get_or toks 0 t → is_has t ≡ true → rest ≡ drop 1 toks → None ≡ option_map shape (has_name rest) → None ≡ option_map has_count (terms toks)
count-bad [] rest t p e f r g = absurd (omega arith)
count-bad (u ∷ us) rest t p e f r g = let k : is_has u ≡ true = rw e at f in let h : None ≡ option_map shape (has_name us) = rw r at g in count_bad_by u us (has_name us) k refl h

pub count-nil : (toks : List Tok) → length toks ≡ 0 → Some 0 ≡ option_map has_count (terms toks)
count-nil [] e = rw terms-nil refl
count-nil (t ∷ ts) e = absurd (omega arith)

-- so many were counted before the rest
pub record Counts (toks rest : List Tok) (found : ℕ) : Type 0 where
  pub within : found + length rest ≤ length toks
  pub same : option_map has_count (terms toks) ≡ option_map (λ k. found + k) (option_map has_count (terms rest))

pub counts-plain : (toks rest after : List Tok) (t : Tok) (found : ℕ) → Counts toks rest found → 0 < length rest → t ≡ get_or rest 0 t → is_has t ≡ false → after ≡ drop 1 rest → Counts toks after found
counts-plain toks rest after t found c p e f r = record {
  within = let w = c.within in let l = ap length r in omega (arith, w, l, length-drop 1 rest);
  same = c.same ∙ ap (option_map (λ k. found + k)) (sym (count-plain rest after t p e f r));
}

one_counted : (found : ℕ) (o : Option ℕ) → option_map (λ k. found + k) (option_map (λ k. 1 + k) o) ≡ option_map (λ k. found + 1 + k) o
one_counted found None = refl
one_counted found (Some n) = ap (λ k. Some k) (omega arith)

pub counts-has : (toks rest after further : List Tok) (t : Tok) (found : ℕ) (form : Form) (left : List Tok) → Counts toks rest found → 0 < length rest → t ≡ get_or rest 0 t → is_has t ≡ true → after ≡ drop 1 rest → ◌≡◌ {A = Option (Form × List Tok)} (Some (form, left)) (option_map shape (has_name after)) → length left + 2 ≤ length after → further ≡ drop 1 left → Counts toks further (found + 1)
counts-has toks rest after further t found form left c p e f r g w k = record {
  within = let v = c.within in let l = ap length r in let m = ap length k in omega (arith, v, l, m, length-drop 1 rest, length-drop 1 left);
  same = c.same ∙ (ap (option_map (λ k. found + k)) (sym (count-has rest after t form left p e f r g)) ∙ (one_counted found (option_map has_count (terms (drop 1 left))) ∙ ap (λ (ts : List Tok). option_map (λ k. found + 1 + k) (option_map has_count (terms ts))) (sym k)));
}

pub counts-bad : (toks rest after : List Tok) (t : Tok) (found : ℕ) → Counts toks rest found → 0 < length rest → t ≡ get_or rest 0 t → is_has t ≡ true → after ≡ drop 1 rest → None ≡ option_map shape (has_name after) → None ≡ option_map has_count (terms toks)
counts-bad toks rest after t found c p e f r g = sym (c.same ∙ ap (option_map (λ k. found + k)) (sym (count-bad rest after t p e f r g)))

pub counts-end : (toks rest : List Tok) (found : ℕ) → Counts toks rest found → length rest ≡ 0 → Some found ≡ option_map has_count (terms toks)
counts-end toks rest found c e = sym (c.same ∙ (ap (option_map (λ k. found + k)) (sym (count-nil rest e)) ∙ ap (λ k. Some k) (omega arith)))
