-- Where a list's first parentheses and commas are, and what that says of its parts.
use Rattle.std.proofs.Common.{◌≡◌, sym, ◌∙◌, ap, subst, refl, ℕ, zero, suc, ◌+◌, ◌-◌, ◌<◌, Bool, true, false, ◌&&◌, ◌||◌, ◌==◌, nat_eq, if◌then◌else◌, List, [], ◌∷◌, ◌++◌, length, append_assoc, length-append, arith}
use Rattle.std.proofs.Common.{inl, inr}
use Rattle.std.proofs.lemmas.Bool.{cases_Bool, eqb-true, false≢true}
use Rattle.std.specs.Prelude.{Option, Some, None}
use Rattle.std.specs.Option.{option_map}
use Rattle.std.specs.List.{onto_first}
use Rattle.scan_model.specs.declared.token.Tok.{Tok}
use Rattle.scan_model.specs.declared.token.Kind.TheVariants.{Punct}
use Rattle.scan_model.specs.Spelling.{is_one_of}
use Rattle.scan_model.specs.TokenTests.{is_of, is_comma, is_open_paren, is_close_paren}
use Rattle.scan_model.specs.Parentheses.{Enclosed, onto_inside, enclosed, depth_after}
use Rattle.substitution.specs.declared.marked.Marked.{Marked}
use Rattle.list_stack.specs.Places.{found_at, is_stop}
use Rattle.list_stack.specs.Stacks.{cut_lists}

-- ## Tokens

and-false : (b : Bool) → (b && false || false) ≡ false
and-false true = refl
and-false false = refl

signs-apart : (text : List ℕ) → is_one_of (")" ∷ []) text ≡ true → is_one_of ("(" ∷ []) text ≡ false
signs-apart [] h = refl
signs-apart (c ∷ []) h = elim (cases_Bool (nat_eq 40 c)) [
  | inl y ↦ absurd (false≢true (subst (λ (x : ℕ). (nat_eq 41 x && true || false) ≡ true) (sym (eqb-true 40 c y)) h))
  | inr n ↦ rw n
]
signs-apart (c ∷ d ∷ r) h = and-false (nat_eq 40 c)

kind-apart : (k a b : Bool) → (a ≡ true → b ≡ false) → (k && a) ≡ true → (k && b) ≡ false
kind-apart true a b f h = f h
kind-apart false a b f h = refl

pub close-is_no_open : (t : Tok) → is_close_paren t ≡ true → is_open_paren t ≡ false
close-is_no_open t h = kind-apart (is_of Punct t) (is_one_of (")" ∷ []) t.text) (is_one_of ("(" ∷ []) t.text) (signs-apart t.text) h

-- ## Found places

less-if : (b : Bool) (n q : ℕ) (o : Option ℕ) → (o ≡ Some q → q < n) → (if b then Some n else o) ≡ Some q → q < suc n
less-if true n q o f h = let e : n ≡ q = cc in omega arith
less-if false n q o f h = let l : q < n = f h in omega arith

pub found-less : (test : Tok → Bool) (depth : ℕ) (ms : List Marked) (q : ℕ) → found_at test depth ms ≡ Some q → q < length ms
found-less test depth [] q h = absurd (cc)
found-less test depth (m ∷ ms) q h =
    less-if (depth == 0 && test m.tok) (length ms) q (found_at test (depth_after m.tok depth) ms) (found-less test (depth_after m.tok depth) ms q) h

in-if : (b : Bool) (n k q : ℕ) (o o' : Option ℕ) → (o ≡ Some q → o' ≡ Some (q + k)) → (if b then Some n else o) ≡ Some q → (if b then Some (n + k) else o') ≡ Some (q + k)
in-if true n k q o o' f h = let e : n ≡ q = cc in ap (λ (x : ℕ). let found : Option ℕ = Some (x + k) in found) e
in-if false n k q o o' f h = f h

-- what is found in a list is found with more behind it
pub found-in : (test : Tok → Bool) (depth : ℕ) (ms ns : List Marked) (q : ℕ) → found_at test depth ms ≡ Some q → found_at test depth (ms ++ ns) ≡ Some (q + length ns)
found-in test depth [] ns q h = absurd (cc)
found-in test depth (m ∷ ms) ns q h =
    ap (λ (n : ℕ). if depth == 0 && test m.tok then Some n else found_at test (depth_after m.tok depth) (ms ++ ns)) (length-append ms ns)
    ∙ in-if (depth == 0 && test m.tok) (length ms) (length ns) q (found_at test (depth_after m.tok depth) ms) (found_at test (depth_after m.tok depth) (ms ++ ns))
    (found-in test (depth_after m.tok depth) ms ns q) h

out-if : (b : Bool) (n n' k q : ℕ) (o o' : Option ℕ) → (o ≡ None → o' ≡ Some q → q < k) → (if b then Some n else o) ≡ None → (if b then Some n' else o') ≡ Some q → q < k
out-if true n n' k q o o' f h g = absurd (cc)
out-if false n n' k q o o' f h g = f h g

-- what isn't found in a list, and is with more behind it, is behind it
pub found-behind : (test : Tok → Bool) (depth : ℕ) (ms ns : List Marked) (q : ℕ) → found_at test depth ms ≡ None → found_at test depth (ms ++ ns) ≡ Some q → q < length ns
found-behind test depth [] ns q h g = found-less test depth ns q g
found-behind test depth (m ∷ ms) ns q h g =
    out-if (depth == 0 && test m.tok) (length ms) (length (ms ++ ns)) (length ns) q (found_at test (depth_after m.tok depth) ms) (found_at test (depth_after m.tok depth) (ms ++ ns))
    (found-behind test (depth_after m.tok depth) ms ns q) h g

-- ## Past a `)`

nil-append : (ms ns : List Marked) → length (ms ++ ns) ≡ length ns → ms ≡ []
nil-append [] ns h = refl
nil-append (m ∷ ms) ns h = absurd (omega (arith, length-append ms ns))

pub choose-then : {X : Type 0} (b : Bool) (x y : X) → b ≡ true → (if b then x else y) ≡ x
choose-then b x y h = rw h

pub choose-else : {X : Type 0} (b : Bool) (x y : X) → b ≡ false → (if b then x else y) ≡ y
choose-else b x y h = rw h

pub found-here : (test : Tok → Bool) (depth : ℕ) (m : Marked) (ms : List Marked) → (depth == 0 && test m.tok) ≡ true → found_at test depth (m ∷ ms) ≡ Some (length ms)
found-here test depth m ms h = choose-then (depth == 0 && test m.tok) _ _ h

pub found-further : (test : Tok → Bool) (depth : ℕ) (m : Marked) (ms : List Marked) → (depth == 0 && test m.tok) ≡ false → found_at test depth (m ∷ ms) ≡ found_at test (depth_after m.tok depth) ms
found-further test depth m ms h = choose-else (depth == 0 && test m.tok) _ _ h

-- the test holds, and no parenthesis is open
pub at_top : (depth : ℕ) (b : Bool) → (depth == 0 && b) ≡ true → (depth ≡ 0) × (b ≡ true)
at_top depth b h = elim (cases_Bool (depth == 0)) [
  | inl y ↦ (eqb-true depth 0 y, sym (ap (λ (x : Bool). x && b) y) ∙ h)
  | inr n ↦ absurd (false≢true (sym (ap (λ (x : Bool). x && b) n) ∙ h))
]

not_top : (depth : ℕ) (b : Bool) → (suc depth == 0 && b) ≡ false
not_top depth b = elim (cases_Bool (suc depth == 0)) [
  | inl y ↦ let impossible : suc depth ≡ 0 = eqb-true (suc depth) 0 y in absurd (omega arith)
  | inr n ↦ rw n
]

deeper-top : (o c : Bool) → c ≡ false → (if o then 1 + 1 else if c then 1 - 1 else 1) ≡ suc (if o then 0 + 1 else if c then 0 - 1 else 0)
deeper-top true c h = refl
deeper-top false true h = absurd (cc)
deeper-top false false h = refl

deeper-on : (o c : Bool) (d : ℕ) → (if o then suc (suc d) + 1 else if c then suc (suc d) - 1 else suc (suc d)) ≡ suc (if o then suc d + 1 else if c then suc d - 1 else suc d)
deeper-on true c d = omega arith
deeper-on false true d = omega arith
deeper-on false false d = refl

deeper : (t : Tok) (depth : ℕ) → (depth == 0 && is_close_paren t) ≡ false → depth_after t (suc depth) ≡ suc (depth_after t depth)
deeper t zero h = deeper-top (is_open_paren t) (is_close_paren t) h
deeper t (suc d) h = deeper-on (is_open_paren t) (is_close_paren t) d

-- the `)` of the outer parenthesis comes after that of the inner one
pub found-past : (test : Tok → Bool) (depth : ℕ) (ms ns : List Marked) → found_at is_close_paren depth (ms ++ ns) ≡ Some (length ns) → found_at test (suc depth) (ms ++ ns) ≡ found_at test 0 ns
found-past test depth [] ns h = absurd (omega (arith, found-less is_close_paren depth ns (length ns) h))
found-past test depth (m ∷ ms) ns h = found-further test (suc depth) m (ms ++ ns) (not_top depth (test m.tok)) ∙ elim (cases_Bool (depth == 0 && is_close_paren m.tok)) [
  | inl y ↦
      let here = sym (found-here is_close_paren depth m (ms ++ ns) y) ∙ h in
      let none : ms ≡ [] = nil-append ms ns (cc) in
      let top = at_top depth (is_close_paren m.tok) y in
      let closed : depth_after m.tok (suc depth) ≡ 0 = choose-else (is_open_paren m.tok) _ _ (close-is_no_open m.tok top.1) ∙ choose-then (is_close_paren m.tok) _ _ top.1 ∙ omega arith in
      ap (λ (k : ℕ). found_at test k (ms ++ ns)) closed ∙ ap (λ (xs : List Marked). found_at test 0 (xs ++ ns)) none
  | inr n ↦
      ap (λ (k : ℕ). found_at test k (ms ++ ns)) (deeper m.tok depth n)
      ∙ found-past test (depth_after m.tok depth) ms ns (sym (found-further is_close_paren depth m (ms ++ ns) n) ∙ h)
]

-- where nothing closes the inner parenthesis, nothing is found past it
pub found-never : (test : Tok → Bool) (depth : ℕ) (ms : List Marked) → found_at is_close_paren depth ms ≡ None → found_at test (suc depth) ms ≡ None
found-never test depth [] h = refl
found-never test depth (m ∷ ms) h = found-further test (suc depth) m ms (not_top depth (test m.tok)) ∙ elim (cases_Bool (depth == 0 && is_close_paren m.tok)) [
  | inl y ↦ let impossible = sym (found-here is_close_paren depth m ms y) ∙ h in absurd (cc)
  | inr n ↦
      ap (λ (k : ℕ). found_at test k ms) (deeper m.tok depth n)
      ∙ found-never test (depth_after m.tok depth) ms (sym (found-further is_close_paren depth m ms n) ∙ h)
]

-- ## Parentheses

after-if : (b : Bool) (m : Marked) (ms : List Marked) (o : Option (Enclosed Marked)) (o' : Option ℕ) → o' ≡ option_map (λ e. length e.after) o →
    (if b then Some (length ms) else o') ≡ option_map (λ e. length e.after) (if b then Some (record { inside = []; close = m; after = ms }) else option_map (onto_inside m) o)
after-if true m ms o o' h = refl
after-if false m ms None o' h = h
after-if false m ms (Some e) o' h = h

pub found-enclosed : (depth : ℕ) (ms : List Marked) → found_at is_close_paren depth ms ≡ option_map (λ e. length e.after) (enclosed (λ m. m.tok) depth ms)
found-enclosed depth [] = refl
found-enclosed depth (m ∷ ms) = after-if (depth == 0 && is_close_paren m.tok) m ms (enclosed (λ m. m.tok) (depth_after m.tok depth) ms) (found_at is_close_paren (depth_after m.tok depth) ms) (found-enclosed (depth_after m.tok depth) ms)

-- ## Lists cut at commas

-- the first list begins with these tokens
abbrev pub prefix : List Marked → List (List Marked) → List (List Marked)
prefix xs [] = xs ∷ []
prefix xs (w ∷ ws) = (xs ++ w) ∷ ws

pub prefix-nil : (k depth : ℕ) (ms : List Marked) → prefix [] (cut_lists k depth ms) ≡ cut_lists k depth ms
prefix-nil k depth [] = refl
prefix-nil zero depth (m ∷ ms) = refl
prefix-nil (suc k) depth (m ∷ ms) =
    prefix-if (depth == 0 && is_comma m.tok) ([] ∷ cut_lists k depth ms) (onto_first m (cut_lists (suc k) (depth_after m.tok depth) ms)) refl
    (prefix-onto m (cut_lists (suc k) (depth_after m.tok depth) ms))
  where
    prefix-onto : (m : Marked) (ws : List (List Marked)) → prefix [] (onto_first m ws) ≡ onto_first m ws
    prefix-onto m [] = refl
    prefix-onto m (w ∷ ws) = refl

    prefix-if : (b : Bool) (x y : List (List Marked)) → prefix [] x ≡ x → prefix [] y ≡ y → prefix [] (if b then x else y) ≡ (if b then x else y)
    prefix-if true x y h k = h
    prefix-if false x y h k = k

pub prefix-prefix : (xs ys : List Marked) (ws : List (List Marked)) → prefix xs (prefix ys ws) ≡ prefix (xs ++ ys) ws
prefix-prefix xs ys [] = refl
prefix-prefix xs ys (w ∷ ws) = ap (λ (x : List Marked). x ∷ ws) (sym (append_assoc xs ys w))

prefix-one : (m : Marked) (ws : List (List Marked)) → onto_first m ws ≡ prefix (m ∷ []) ws
prefix-one m [] = refl
prefix-one m (w ∷ ws) = refl

cut-here : (k depth : ℕ) (m : Marked) (ms : List Marked) → (depth == 0 && is_comma m.tok) ≡ true → cut_lists (suc k) depth (m ∷ ms) ≡ [] ∷ cut_lists k depth ms
cut-here k depth m ms h = choose-then (depth == 0 && is_comma m.tok) _ _ h

cut-further : (k depth : ℕ) (m : Marked) (ms : List Marked) → (depth == 0 && is_comma m.tok) ≡ false → cut_lists (suc k) depth (m ∷ ms) ≡ prefix (m ∷ []) (cut_lists (suc k) (depth_after m.tok depth) ms)
cut-further k depth m ms h = choose-else (depth == 0 && is_comma m.tok) _ _ h ∙ prefix-one m (cut_lists (suc k) (depth_after m.tok depth) ms)

-- the list's first stop, and how the list is cut there
pub record Stops (depth : ℕ) (ms : List Marked) (following : ℕ) : Type 0 where
  pub front : List Marked
  pub stop : Marked
  pub rest : List Marked
  pub parts : ms ≡ front ++ stop ∷ rest
  pub follow : length rest ≡ following
  pub cuts : is_comma stop.tok ≡ true → (k : ℕ) → cut_lists (suc k) depth ms ≡ front ∷ cut_lists k 0 rest
  pub goes : is_comma stop.tok ≡ false → (k : ℕ) → cut_lists (suc k) depth ms ≡ prefix (front ++ stop ∷ []) (cut_lists (suc k) 0 rest)

comma-at_stop : (d c s : Bool) → (d && (c || s)) ≡ false → (d && c) ≡ false
comma-at_stop true true s h = h
comma-at_stop true false s h = refl
comma-at_stop false c s h = refl

-- a `)` that nothing opened
close-at_top : (t : Tok) → (is_comma t || is_close_paren t) ≡ true → is_comma t ≡ false → depth_after t 0 ≡ 0
close-at_top t h n =
    let closes : is_close_paren t ≡ true = sym (ap (λ (b : Bool). b || is_close_paren t) n) ∙ h in
    choose-else (is_open_paren t) _ _ (close-is_no_open t closes) ∙ choose-then (is_close_paren t) _ _ closes

stops-here : (m : Marked) (ms : List Marked) → is_stop m.tok ≡ true → Stops 0 (m ∷ ms) (length ms)
stops-here m ms h = record {
  front = [];
  stop = m;
  rest = ms;
  parts = refl;
  follow = refl;
  cuts = λ c k. cut-here k 0 m ms c;
  goes = λ n k. cut-further k 0 m ms n ∙ ap (λ (d : ℕ). prefix (m ∷ []) (cut_lists (suc k) d ms)) (close-at_top m.tok h n);
}

stops-further : (depth : ℕ) (m : Marked) (ms : List Marked) (following : ℕ) → (depth == 0 && is_comma m.tok) ≡ false → Stops (depth_after m.tok depth) ms following → Stops depth (m ∷ ms) following
stops-further depth m ms following n s = record {
  front = m ∷ s.front;
  stop = s.stop;
  rest = s.rest;
  parts = ap (λ (xs : List Marked). m ∷ xs) s.parts;
  follow = s.follow;
  cuts = λ c k. cut-further k depth m ms n ∙ ap (prefix (m ∷ [])) (s.cuts c k);
  goes = λ g k. cut-further k depth m ms n ∙ ap (prefix (m ∷ [])) (s.goes g k) ∙ prefix-prefix (m ∷ []) (s.front ++ s.stop ∷ []) (cut_lists (suc k) 0 s.rest);
}

pub stops : (depth : ℕ) (ms : List Marked) (following : ℕ) → found_at is_stop depth ms ≡ Some following → Stops depth ms following
stops depth [] following h = absurd (cc)
stops depth (m ∷ ms) following h = elim (cases_Bool (depth == 0 && is_stop m.tok)) [
  | inl y ↦
      let top = at_top depth (is_stop m.tok) y in
      let same : length ms ≡ following = some-same (length ms) following (sym (found-here is_stop depth m ms y) ∙ h) in
      subst (λ (d : ℕ). Stops d (m ∷ ms) following) (sym top.0) (subst (Stops 0 (m ∷ ms)) same (stops-here m ms top.1))
  | inr n ↦ stops-further depth m ms following (comma-at_stop (depth == 0) (is_comma m.tok) (is_close_paren m.tok) n)
      (stops (depth_after m.tok depth) ms following (sym (found-further is_stop depth m ms n) ∙ h))
]
  where
    some-same : (n q : ℕ) → (let o : Option ℕ = Some n in o) ≡ Some q → n ≡ q
    some-same n q h = cc

-- a list with no stop is not cut
pub whole-unstopped : (k depth : ℕ) (ms : List Marked) → found_at is_stop depth ms ≡ None → cut_lists k depth ms ≡ ms ∷ []
whole-unstopped k depth [] h = refl
whole-unstopped zero depth (m ∷ ms) h = refl
whole-unstopped (suc k) depth (m ∷ ms) h = elim (cases_Bool (depth == 0 && is_stop m.tok)) [
  | inl y ↦ absurd (some-none (length ms) (sym (found-here is_stop depth m ms y) ∙ h))
  | inr n ↦ cut-further k depth m ms (comma-at_stop (depth == 0) (is_comma m.tok) (is_close_paren m.tok) n)
      ∙ ap (prefix (m ∷ [])) (whole-unstopped (suc k) (depth_after m.tok depth) ms (sym (found-further is_stop depth m ms n) ∙ h))
]
  where
    some-none : (n : ℕ) → (let o : Option ℕ = Some n in o) ≡ None → ⊥
    some-none n h = cc

-- a list that may not be cut
pub whole-none : (depth : ℕ) (ms : List Marked) → cut_lists 0 depth ms ≡ ms ∷ []
whole-none depth [] = refl
whole-none depth (m ∷ ms) = refl

-- ## One split of a list

pub record Same (xs xs' : List Marked) (x x' : Marked) (ys ys' : List Marked) : Type 0 where
  pub front : xs ≡ xs'
  pub middle : x ≡ x'
  pub rest : ys ≡ ys'

pub same-split : (xs xs' : List Marked) (x x' : Marked) (ys ys' : List Marked) → xs ++ x ∷ ys ≡ xs' ++ x' ∷ ys' → length ys ≡ length ys' → Same xs xs' x x' ys ys'
same-split [] [] x x' ys ys' e l = record { front = refl; middle = cc; rest = cc }
same-split [] (z ∷ zs) x x' ys ys' e l = absurd (omega (arith, ap (length {A = Marked}) e, length-append zs (x' ∷ ys')))
same-split (z ∷ zs) [] x x' ys ys' e l = absurd (omega (arith, ap (length {A = Marked}) e, length-append zs (x ∷ ys)))
same-split (z ∷ zs) (w ∷ ws) x x' ys ys' e l =
    let heads : z ≡ w = cc in
    let s = same-split zs ws x x' ys ys' (cc) l in
    record { front = rw heads (ap (λ (vs : List Marked). w ∷ vs) s.front); middle = s.middle; rest = s.rest }
