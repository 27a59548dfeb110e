-- What a replacement gives doesn't depend on how an argument is written, where the list doesn't take it as written.
use Rattle.std.proofs.Common.{◌≡◌, ◌∙◌, ap, subst, refl, ℕ, zero, suc, Bool, true, false, not, ◌&&◌, ◌||◌, ◌==◌, if◌then◌else◌, List, [], ◌∷◌, ◌++◌, length, Option, Some, None, IfSome, is_some, option_map, option_and_then}
use Rattle.std.specs.Option.{option_map_or}
use Rattle.std.proofs.lemmas.Slice.Eq.{bytes_eq-Decides}
use Rattle.std.proofs.lemmas.Bool.{or_left, or_right, and_from}
use Rattle.scan_model.specs.declared.token.Kind.TheVariants.{Ident}
use Rattle.scan_model.specs.declared.token.Tok.{Tok}
use Rattle.scan_model.specs.TokenTests.{is_of, same, is_named, is_hash, is_paste, is_comma, is_open_paren, is_close_paren, begins_with}
use Rattle.scan_model.specs.Parentheses.{Enclosed, onto_inside, depth_after, enclosed, in_parens}
use Rattle.scan_model.specs.MacroDefinition.{is_opt}
use Rattle.scan_model.specs.Expansion.{arg_named}
use Rattle.scan_model.specs.Substitution as spec
use Rattle.scan_model.specs.Substitution.{Arg, Call, Item, Part, items_up_to, joined}
use Rattle.substitution.specs.Written.{is_operand, stands_as_operand, IsAlike, AreAlike, GivesTheSame, ServesByPlace}

-- ## Tests

either-holds : (a a' b b' : Bool) → (a ≡ true → a' ≡ true) → (b ≡ true → b' ≡ true) → (a || b) ≡ true → (a' || b') ≡ true
either-holds true a' b b' f g h = or_left a' b' (f refl)
either-holds false a' b b' f g h = or_right a' b' (g h)

both-hold : (a b b' : Bool) → (b ≡ true → b' ≡ true) → (a && b) ≡ true → (a && b') ≡ true
both-hold true b b' f h = f h
both-hold false b b' f h = h

and-first : (a b : Bool) → (a && b) ≡ true → a ≡ true
and-first true b h = refl
and-first false b h = h

and-second : (a b : Bool) → (a && b) ≡ true → b ≡ true
and-second true b h = h
and-second false b h = absurd cc

-- ## Operands in a part of a list

operand-behind : (name : List ℕ) (last ts : List Tok) → stands_as_operand name [] ts ≡ true → stands_as_operand name last ts ≡ true
operand-behind name last [] h = h
operand-behind name last (t ∷ ts) h =
    either-holds (is_named name t && is_operand [] ts) (is_named name t && is_operand last ts) _ _
    (both-hold (is_named name t) (is_operand [] ts) (is_operand last ts) (λ k. or_right (begins_with is_hash last) _ (or_right (begins_with is_paste last) _ k))) (λ k. k) h

operand-after : (name : List ℕ) (last xs ts : List Tok) → stands_as_operand name [] ts ≡ true → stands_as_operand name last (xs ++ ts) ≡ true
operand-after name last [] ts h = operand-behind name last ts h
operand-after name last (x ∷ xs) ts h = or_right (is_named name x && is_operand last (xs ++ ts)) _ (operand-after name (x ∷ []) xs ts h)

paste-before : (xs ys : List Tok) → begins_with is_paste xs ≡ true → begins_with is_paste (xs ++ ys) ≡ true
paste-before [] ys h = absurd cc
paste-before (x ∷ xs) ys h = h

operand-before : (name : List ℕ) (last xs ys : List Tok) → stands_as_operand name last xs ≡ true → stands_as_operand name last (xs ++ ys) ≡ true
operand-before name last [] ys h = absurd cc
operand-before name last (x ∷ xs) ys h =
    either-holds (is_named name x && is_operand last xs) (is_named name x && is_operand last (xs ++ ys)) _ _
    (both-hold (is_named name x) (is_operand last xs) (is_operand last (xs ++ ys))
    (either-holds (begins_with is_hash last) (begins_with is_hash last) _ _ (λ k. k) (either-holds (begins_with is_paste last) (begins_with is_paste last) _ _ (λ k. k) (paste-before xs ys))))
    (operand-before name (x ∷ []) xs ys) h

-- a parameter that begins the list
operand-here : (last : List Tok) (t : Tok) (ts : List Tok) → is_of Ident t ≡ true → is_operand last ts ≡ true → stands_as_operand t.text last (t ∷ ts) ≡ true
operand-here last t ts h k =
    let itself : same t.text t.text ≡ true = (bytes_eq-Decides t.text t.text).1 refl in
    or_left (is_named t.text t && is_operand last ts) _ (and_from (is_named t.text t) (is_operand last ts) (and_from (is_of Ident t) (same t.text t.text) h itself) k)

-- ## Lists each of whose operands is taken

abbrev Covers : (List ℕ → Bool) → List Tok → List Tok → Type 0
Covers taken last ts = (name : List ℕ) → stands_as_operand name last ts ≡ true → taken name ≡ true

covers-nothing : (taken : List ℕ → Bool) → Covers taken [] []
covers-nothing taken = λ name h. absurd cc

covers-rest : (taken : List ℕ → Bool) (last : List Tok) (t : Tok) (ts : List Tok) → Covers taken last (t ∷ ts) → Covers taken (t ∷ []) ts
covers-rest taken last t ts c = λ name h. c name (or_right (is_named name t && is_operand last ts) _ h)

abbrev IsIn : List Tok → Enclosed Tok → Type 0
IsIn ts e = ts ≡ e.inside ++ e.close ∷ e.after

some-if : {X : Type 0} (P : X → Type 0) (b : Bool) (o p : Option X) → IfSome o P → IfSome p P → IfSome (if b then o else p) P
some-if P true o p h k = h
some-if P false o p h k = k

some-map : {X Y : Type 0} (P : X → Type 0) (Q : Y → Type 0) (f : X → Y) (o : Option X) → IfSome o P → ((x : X) → P x → Q (f x)) → IfSome (option_map f o) Q
some-map P Q f None h each = tt
some-map P Q f (Some x) h each = each x h

some-each : {X : Type 0} (P Q : X → Type 0) (o : Option X) → IfSome o P → ((x : X) → P x → Q x) → IfSome o Q
some-each P Q None h each = tt
some-each P Q (Some x) h each = each x h

enclosed-parts : (depth : ℕ) (ts : List Tok) → IfSome (enclosed (λ t. t) depth ts) (IsIn ts)
enclosed-parts depth [] = tt
enclosed-parts depth (t ∷ ts) =
    some-if (IsIn (t ∷ ts)) (depth == 0 && is_close_paren t) (Some (record { inside = []; close = t; after = ts })) _ refl
    (some-map (IsIn ts) (IsIn (t ∷ ts)) (onto_inside t) (enclosed (λ t. t) (depth_after t depth) ts) (enclosed-parts (depth_after t depth) ts) (λ e k. ap (t ∷◌) k))

abbrev CoversEnclosed : (List ℕ → Bool) → Enclosed Tok → Type 0
CoversEnclosed taken e = Covers taken [] e.inside × Covers taken [] e.after

covers-enclosed : (taken : List ℕ → Bool) (last : List Tok) (t : Tok) (ts : List Tok) (e : Enclosed Tok) → Covers taken last (t ∷ ts) → IsIn ts e → CoversEnclosed taken e
covers-enclosed taken last t ts e c h =
    let whole : (name : List ℕ) → stands_as_operand name last (t ∷ (e.inside ++ e.close ∷ e.after)) ≡ true → taken name ≡ true =
    subst (λ (s : List Tok). Covers taken last (t ∷ s)) h c in (
      λ name k. whole name (operand-after name last (t ∷ []) (e.inside ++ e.close ∷ e.after) (operand-before name [] e.inside (e.close ∷ e.after) k)),
      λ name k. whole name (operand-after name last (t ∷ e.inside) (e.close ∷ e.after) (or_right (is_named name e.close && is_operand [] e.after) _ (operand-behind name (e.close ∷ []) e.after k))),
    )

covers-parens : (taken : List ℕ → Bool) (last ts : List Tok) → Covers taken last ts → IfSome (in_parens (λ t. t) ts) (CoversEnclosed taken)
covers-parens taken last [] c = tt
covers-parens taken last (t ∷ ts) c =
    some-if (CoversEnclosed taken) (is_open_paren t) (enclosed (λ t. t) 0 ts) None
    (some-each (IsIn ts) (CoversEnclosed taken) (enclosed (λ t. t) 0 ts) (enclosed-parts 0 ts) (λ e h. covers-enclosed taken last t ts e c h)) tt

-- ## Parts that are the same, and after which the list goes on

-- what follows the part is covered, with this token before it, a `##` if the part was one
record Follows (taken : List ℕ → Bool) (p : Part) : Type 0 where
  last : List Tok
  pasted : p.pasted ≡ true → begins_with is_paste last ≡ true
  covered : Covers taken last p.after

record AreSame (taken : List ℕ → Bool) (o o' : Option Part) : Type 0 where
  same : o ≡ o'
  follows : IfSome o (Follows taken)

follows-part : (taken : List ℕ → Bool) (last : List Tok) (items : List Item) (after : List Tok) → Covers taken last after → Follows taken (spec.part items after)
follows-part taken last items after c = record { last = last; pasted = λ h. absurd cc; covered = c }

follows-map : {X : Type 0} (taken : List ℕ → Bool) (last : List Tok) (f : X → List Item) (after : List Tok) (o : Option X) → Covers taken last after → IfSome (option_map (λ x. spec.part (f x) after) o) (Follows taken)
follows-map taken last f after None c = tt
follows-map taken last f after (Some x) c = follows-part taken last (f x) after c

same-if : (taken : List ℕ → Bool) (b b' : Bool) (x x' y y' : Option Part) → b ≡ b' → (b ≡ true → AreSame taken x x') → (b ≡ false → AreSame taken y y') → AreSame taken (if b then x else y) (if b' then x' else y')
same-if taken true true x x' y y' e h k = h refl
same-if taken true false x x' y y' e h k = absurd cc
same-if taken false true x x' y y' e h k = absurd cc
same-if taken false false x x' y y' e h k = k refl

each-same : (taken : List ℕ → Bool) (o : Option Part) (f f' : Part → Option (List Item)) → IfSome o (Follows taken) → ((p : Part) → Follows taken p → f p ≡ f' p) → option_and_then f o ≡ option_and_then f' o
each-same taken None f f' h e = refl
each-same taken (Some p) f f' h e = e p h

then-same : (taken : List ℕ → Bool) (o o' : Option Part) (f f' : Part → Option (List Item)) → AreSame taken o o' → ((p : Part) → Follows taken p → f p ≡ f' p) → option_and_then f o ≡ option_and_then f' o'
then-same taken o o' f f' h e = each-same taken o f f' h.follows e ∙ ap (option_and_then f') h.same

-- ## Arguments

-- two arguments that are alike, and taken as written
alike-same : (taken : Bool) (o o' : Option Arg) → AreAlike taken o o' → (is_some o ≡ true → taken ≡ true) → o ≡ o'
alike-same taken None None h t = refl
alike-same taken None (Some b) h t = absurd h
alike-same taken (Some a) None h t = absurd h
alike-same taken (Some a) (Some b) h t =
    ap (λ (w : List spec.Marked). let made : Arg = record { written = w; replaced = a.replaced } in Some made) (h.written (t refl))
    ∙ ap (λ (r : List spec.Marked). let made : Arg = record { written = b.written; replaced = r } in Some made) h.replaced

replaced-same : (taken : Bool) (o o' : Option Arg) → AreAlike taken o o' → option_map_or (λ (a : Arg). not (length a.replaced == 0)) o false ≡ option_map_or (λ (a : Arg). not (length a.replaced == 0)) o' false
replaced-same taken None None h = refl
replaced-same taken None (Some b) h = absurd h
replaced-same taken (Some a) None h = absurd h
replaced-same taken (Some a) (Some b) h = ap (λ (r : List spec.Marked). not (length r == 0)) h.replaced

alike-if : (taken b : Bool) (o o' : Option Arg) → AreAlike taken o o' → AreAlike taken (if b then o else None) (if b then o' else None)
alike-if taken true o o' h = h
alike-if taken false o o' h = tt

some-tested : (b : Bool) (o : Option Arg) → is_some (if b then o else None) ≡ true → b ≡ true
some-tested true o h = refl
some-tested false o h = h

-- what a part takes of an argument: as written where `next` says so
taken-same : (next : Bool) (a b : Arg) → a.replaced ≡ b.replaced → (next ≡ true → a.written ≡ b.written) → (if next then a.written else a.replaced) ≡ (if next then b.written else b.replaced)
taken-same true a b r w = w refl
taken-same false a b r w = r

-- ## Two calls that differ in how their arguments are written
module _ (variadic : Option (List ℕ)) (line : ℕ) (g g' : List ℕ → Option Arg) (taken : List ℕ → Bool) (alike : (name : List ℕ) → AreAlike (taken name) (g name) (g' name)) where
  abbrev one : Call
  one = record { function = true; variadic = variadic; arg = g; line = line }

  abbrev other : Call
  other = record { function = true; variadic = variadic; arg = g'; line = line }

  at-alike : (t : Tok) → AreAlike (taken t.text) (spec.arg_at one t) (spec.arg_at other t)
  at-alike t = alike-if (taken t.text) (is_of Ident t) (g t.text) (g' t.text) (alike t.text)

  -- the argument of a parameter that is an operand
  at-same : (last : List Tok) (t : Tok) (ts : List Tok) → Covers taken last (t ∷ ts) → is_operand last ts ≡ true → spec.arg_at one t ≡ spec.arg_at other t
  at-same last t ts c h =
      alike-same (taken t.text) (spec.arg_at one t) (spec.arg_at other t) (at-alike t)
      (λ k. c t.text (operand-here last t ts (some-tested (is_of Ident t) (g t.text) k) h))

  variable-same : (v : Option (List ℕ)) → option_map_or (λ name. option_map_or (λ (a : Arg). not (length a.replaced == 0)) (g name) false) v false ≡ option_map_or (λ name. option_map_or (λ (a : Arg). not (length a.replaced == 0)) (g' name) false) v false
  variable-same None = refl
  variable-same (Some name) = replaced-same (taken name) (g name) (g' name) (alike name)

  opt-same : (o o' : Option (List Item)) → o ≡ o' → spec.opt_items one o ≡ spec.opt_items other o'
  opt-same o o' e =
      ap (λ (b : Bool). if b then o else Some (spec.Placemarker ∷ [])) (variable-same variadic)
      ∙ ap (λ (p : Option (List Item)). if spec.has_variable other then p else Some (spec.Placemarker ∷ [])) e

  -- In the following, `inner` and `inner'` treat the content of `__VA_OPT__`.
  module _ (inner inner' : List Tok → Option (List Item)) (agree : (content : List Tok) → Covers taken [] content → inner content ≡ inner' content) where
    string_opt-same : (t : Tok) (o : Option (Enclosed Tok)) → IfSome o (CoversEnclosed taken) → AreSame taken (spec.string_opt_part one inner t o) (spec.string_opt_part other inner' t o)
    string_opt-same t None h = record { same = refl; follows = follows-part taken [] [] [] (covers-nothing taken) }
    string_opt-same t (Some e) h =
        let string = λ (items : List Item). spec.string_of one t (spec.toks (spec.without_placemarkers items)) in
        record {
          same = ap (λ (o : Option (List Item)). option_map (λ items. spec.part items e.after) (option_and_then string o)) (opt-same (inner e.inside) (inner' e.inside) (agree e.inside h.0));
          follows = follows-map taken [] (λ items. items) e.after (option_and_then string (spec.opt_items one (inner e.inside))) h.1;
        }

    opt_part-same : (t : Tok) (o : Option (Enclosed Tok)) → IfSome o (CoversEnclosed taken) → AreSame taken (spec.opt_part one inner t o) (spec.opt_part other inner' t o)
    opt_part-same t None h = record { same = refl; follows = follows-part taken [] [] [] (covers-nothing taken) }
    opt_part-same t (Some e) h =
        let spaced = λ (items : List Item). spec.first_item_spaced t.space (spec.or_placemarker items) in
        record {
          same = ap (option_map (λ items. spec.part (spaced items) e.after)) (opt-same (inner e.inside) (inner' e.inside) (agree e.inside h.0));
          follows = follows-map taken [] spaced e.after (spec.opt_items one (inner e.inside)) h.1;
        }

    string_part-same : (t u : Tok) (after : List Tok) (o : Option Arg) → Covers taken (u ∷ []) after → AreSame taken (spec.string_part one t after o) (spec.string_part other t after o)
    string_part-same t u after None c = record { same = refl; follows = follows-part taken (u ∷ []) _ after c }
    string_part-same t u after (Some a) c = record { same = refl; follows = follows-map taken (u ∷ []) (λ items. items) after (spec.string_of one t (spec.toks a.written)) c }

    abbrev by_argument : Call → (List Tok → Option (List Item)) → Tok → Tok → List Tok → Option Arg → Option Part
    by_argument c inside t u after o =
        if is_some o then spec.string_part c t after o
        else if is_some variadic && is_opt u then spec.string_opt_part c inside t (in_parens (λ t. t) after)
        else Some (spec.part (spec.Operand (spec.own c t) ∷ []) (u ∷ after))

    by_argument-same : (t u : Tok) (after : List Tok) (o : Option Arg) → Covers taken (t ∷ []) (u ∷ after) → AreSame taken (by_argument one inner t u after o) (by_argument other inner' t u after o)
    by_argument-same t u after o c =
        let rest : (name : List ℕ) → stands_as_operand name (u ∷ []) after ≡ true → taken name ≡ true = covers-rest taken (t ∷ []) u after c in
        same-if taken (is_some o) (is_some o) _ _ _ _ refl (λ h. string_part-same t u after o rest)
        (λ h. same-if taken (is_some variadic && is_opt u) (is_some variadic && is_opt u) _ _ _ _ refl
        (λ k. string_opt-same t (in_parens (λ t. t) after) (covers-parens taken (u ∷ []) after rest))
        (λ k. record { same = refl; follows = follows-part taken (t ∷ []) _ (u ∷ after) c }))

    hash-same : (t : Tok) (ts : List Tok) → is_hash t ≡ true → Covers taken (t ∷ []) ts → AreSame taken (spec.hash_part one inner t ts) (spec.hash_part other inner' t ts)
    hash-same t [] h c = record { same = refl; follows = follows-part taken [] _ [] (covers-nothing taken) }
    hash-same t (u ∷ after) h c =
        let same_arg : spec.arg_at one u ≡ spec.arg_at other u = at-same (t ∷ []) u after c (or_left (is_hash t) _ h) in
        subst (λ (o : Option Arg). AreSame taken (by_argument one inner t u after (spec.arg_at one u)) (by_argument other inner' t u after o)) same_arg
        (by_argument-same t u after (spec.arg_at one u) c)

    variable-named : (v : Option (List ℕ)) (t : Tok) → option_map_or (λ name. is_named name t) v false ≡ true → is_of Ident t ≡ true
    variable-named None t h = absurd cc
    variable-named (Some name) t h = and-first (is_of Ident t) (same name t.text) h

    comma-same : (t : Tok) (ts : List Tok) → Covers taken (t ∷ []) ts → AreSame taken (spec.comma_part one t ts) (spec.comma_part other t ts)
    comma-same t [] c = record { same = refl; follows = tt }
    comma-same t (p ∷ []) c = record { same = refl; follows = tt }
    comma-same t (p ∷ v ∷ after) c =
        let pasted : (name : List ℕ) → stands_as_operand name (p ∷ []) (v ∷ after) ≡ true → taken name ≡ true = covers-rest taken (t ∷ []) p (v ∷ after) c in
        let rest : (name : List ℕ) → stands_as_operand name (v ∷ []) after ≡ true → taken name ≡ true = covers-rest taken (p ∷ []) v after pasted in
        let items = λ (a : Arg). spec.comma_items one t v a (begins_with is_paste after) in
        let test = is_comma t && is_paste p && spec.is_variable one v in
        same-if taken test test _ _ _ _ refl
        (λ h.
        let named : is_of Ident v ≡ true = variable-named variadic v (and-second (is_comma t && is_paste p) (spec.is_variable one v) h) in
        let paste : is_paste p ≡ true = and-second (is_comma t) (is_paste p) (and-first (is_comma t && is_paste p) (spec.is_variable one v) h) in
        let operand : is_operand (p ∷ []) after ≡ true = or_right (is_hash p) _ (or_left (is_paste p) _ paste) in
        record {
          same = ap (option_map (λ a. spec.part (items a) after)) (alike-same (taken v.text) (g v.text) (g' v.text) (alike v.text) (λ k. pasted v.text (operand-here (p ∷ []) v after named operand)));
          follows = follows-map taken (v ∷ []) items after (g v.text) rest;
        })
        (λ h. record { same = refl; follows = tt })

    plain-part : (pasted : Bool) (t : Tok) (after : List Tok) (o o' : Option Arg) → AreAlike (taken t.text) o o' → (is_some o ≡ true → (pasted || begins_with is_paste after) ≡ true → taken t.text ≡ true) → spec.plain_part one pasted t after o ≡ spec.plain_part other pasted t after o'
    plain-part pasted t after None None h k = refl
    plain-part pasted t after None (Some b) h k = absurd h
    plain-part pasted t after (Some a) None h k = absurd h
    plain-part pasted t after (Some a) (Some b) h k =
        ap (λ (ms : List spec.Marked). spec.part (spec.items_of (spec.first_spaced t.space ms)) after)
        (taken-same (pasted || begins_with is_paste after) a b h.replaced (λ n. h.written (k refl n)))

    plain-follows : (pasted : Bool) (t : Tok) (after : List Tok) (o : Option Arg) → Covers taken (t ∷ []) after → Follows taken (spec.plain_part one pasted t after o)
    plain-follows pasted t after None c = follows-part taken (t ∷ []) _ after c
    plain-follows pasted t after (Some a) c = follows-part taken (t ∷ []) _ after c

    plain-same : (pasted : Bool) (last : List Tok) (t : Tok) (after : List Tok) → (pasted ≡ true → begins_with is_paste last ≡ true) → Covers taken last (t ∷ after) → AreSame taken (Some (spec.plain_part one pasted t after (spec.arg_at one t))) (Some (spec.plain_part other pasted t after (spec.arg_at other t)))
    plain-same pasted last t after p c = record {
      same = ap Some (plain-part pasted t after (spec.arg_at one t) (spec.arg_at other t) (at-alike t)
          (λ h n. c t.text (operand-here last t after (some-tested (is_of Ident t) (g t.text) h)
          (or_right (begins_with is_hash last) _ (either-holds pasted (begins_with is_paste last) _ _ p (λ k. k) n)))));
      follows = plain-follows pasted t after (spec.arg_at one t) (covers-rest taken last t after c);
    }

    part-same : (pasted : Bool) (last : List Tok) (t : Tok) (after : List Tok) → (pasted ≡ true → begins_with is_paste last ≡ true) → Covers taken last (t ∷ after) → AreSame taken (spec.one_part one inner pasted t after) (spec.one_part other inner' pasted t after)
    part-same pasted last t after p c =
        let rest : (name : List ℕ) → stands_as_operand name (t ∷ []) after ≡ true → taken name ≡ true = covers-rest taken last t after c in
        let comma = comma-same t after rest in
        same-if taken (is_hash t) (is_hash t) _ _ _ _ refl (λ h. hash-same t after h rest)
        (λ _. same-if taken (is_paste t) (is_paste t) _ _ _ _ refl
        (λ h. record { same = refl; follows = record { last = t ∷ []; pasted = λ _. h; covered = rest } })
        (λ _. same-if taken (is_some (spec.comma_part one t after)) (is_some (spec.comma_part other t after)) _ _ _ _ (ap is_some comma.same) (λ _. comma)
        (λ _. same-if taken (is_some variadic && is_opt t) (is_some variadic && is_opt t) _ _ _ _ refl
        (λ _. opt_part-same t (in_parens (λ t. t) after) (covers-parens taken (t ∷ []) after rest))
        (λ _. plain-same pasted last t after p c))))

  items-same : (n : ℕ) (pasted : Bool) (last ts : List Tok) → (pasted ≡ true → begins_with is_paste last ≡ true) → Covers taken last ts → items_up_to n one pasted ts ≡ items_up_to n other pasted ts
  items-same zero pasted last ts p c = refl
  items-same (suc n) pasted last [] p c = refl
  items-same (suc n) pasted last (t ∷ ts) p c =
      then-same taken _ _ (λ (q : Part). option_map (q.items ++◌) (items_up_to n one q.pasted q.after)) (λ (q : Part). option_map (q.items ++◌) (items_up_to n other q.pasted q.after))
      (part-same (λ content. option_and_then joined (items_up_to n one false content)) (λ content. option_and_then joined (items_up_to n other false content))
      (λ content k. ap (option_and_then joined) (items-same n false [] content (λ e. absurd cc) k)) pasted last t ts p c)
      (λ q f. ap (option_map (q.items ++◌)) (items-same n q.pasted f.last q.after f.pasted f.covered))

-- ## The laws

pub subst-alike : GivesTheSame
unfolding spec.subst
subst-alike variadic line g g' space body h =
    ap (λ (o : Option (List Item)). option_map (λ items. spec.first_spaced space (spec.without_placemarkers items)) (option_and_then joined o))
    (items-same variadic line g g' (λ name. stands_as_operand name [] body) h (length body) false [] body (λ e. absurd cc) (λ name k. k))

-- an argument found by a name that is the same as the parameter's
named-if : (body : List Tok) (p name : List ℕ) (b : Bool) (a a' : Arg) (o o' : Option Arg) → (b ≡ true → p ≡ name) → IsAlike (stands_as_operand p [] body) a a' → AreAlike (stands_as_operand name [] body) o o' →
    AreAlike (stands_as_operand name [] body) (if b then Some a else o) (if b then Some a' else o')
named-if body p name true a a' o o' e h k = subst (λ (s : List ℕ). IsAlike (stands_as_operand s [] body) a a') (e refl) h
named-if body p name false a a' o o' e h k = k

pub args-serve : ServesByPlace
args-serve body [] args args' h name = tt
args-serve body (p ∷ ps) [] [] h name = tt
args-serve body (p ∷ ps) [] (b ∷ bs) h name = absurd h
args-serve body (p ∷ ps) (a ∷ args) [] h name = absurd h
args-serve body (p ∷ ps) (a ∷ args) (b ∷ bs) h name =
    named-if body p name (same p name) a b (arg_named ps args name) (arg_named ps bs name) ((bytes_eq-Decides p name).0) h.0 (args-serve body ps args bs h.1 name)
