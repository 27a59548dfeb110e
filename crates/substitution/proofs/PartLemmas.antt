-- What each part of a list gives.
use Rattle.std.proofs.Common.{◌≡◌, sym, ◌∙◌, ap, subst, refl, ◌<◌, Bool, true, false, not, ◌&&◌, if◌then◌else◌, List, [], ◌∷◌, length, get_or, drop, Option, Some, None, option_map, is_some, ◌==◌, arith}
use Rattle.std.proofs.lemmas.List.{length-map}
use Rattle.hide_sets.specs.Sets.{Sets}
use Rattle.scan_model.specs.declared.token.Tok.{Tok}
use Rattle.scan_model.specs.TokenTests.{is_hash, is_paste}
use Rattle.scan_model.specs.Parentheses.{in_parens}
use Rattle.scan_model.specs.MacroDefinition.{is_opt}
use Rattle.scan_model.specs.Substitution as spec
use Rattle.substitution.specs.declared.marked.Marked.{Marked}
use Rattle.substitution.specs.declared.marked.Arg.{Arg}
use Rattle.substitution.specs.declared.item.Item.{Item}
use Rattle.substitution.specs.declared.call.PartEnd.{PartEnd}
use Rattle.substitution.specs.Strings.{toks_of}
use Rattle.substitution.specs.Meaning.{marked_of, all_marked_of, arg_of}
use Rattle.substitution.specs.Calls.{Adds, AddsString, GivesPart, opt_after_hash}

abbrev pub Inner : Type 0
Inner = List Tok → Option (List spec.Item)

pub toks_of-meant : (sets : Sets) (ms : List Marked) → spec.toks (all_marked_of sets ms) ≡ toks_of ms
toks_of-meant sets [] = refl
toks_of-meant sets (m ∷ ms) = ap (λ (s : List Tok). m.tok ∷ s) (toks_of-meant sets ms)

-- ## Strings

pub gives-no_string : (sets : Sets) (old new : List Item) (string : Option (List spec.Item)) (after : List Tok) → AddsString sets old new string false → GivesPart sets old new (option_map (λ items. spec.part items after) string) None
gives-no_string sets old new None after h = tt
gives-no_string sets old new (Some items) after h = h

pub gives-string : (sets : Sets) (old new : List Item) (string : Option (List spec.Item)) (after : List Tok) (end : PartEnd) → AddsString sets old new string true → false ≡ end.pasted → after ≡ end.after.now → GivesPart sets old new (option_map (λ items. spec.part items after) string) (Some end)
gives-string sets old new None after end h p e = h
gives-string sets old new (Some items) after end h p e = record { added = h; pasted = p; after = e }

-- ## `#`

abbrev pub by_hash : spec.Call → Inner → Tok → Tok → List Tok → Option spec.Arg → Option spec.Part
by_hash c inner t u after o =
    if is_some o then spec.string_part c t after o
    else if is_some c.variadic && is_opt u then spec.string_opt_part c inner t (in_parens (λ t. t) after)
    else Some (spec.part (spec.Operand (spec.own c t) ∷ []) (u ∷ after))

pub hash-argument : (c : spec.Call) (inner : Inner) (t : Tok) (xs : List Tok) (u : Tok) (a : spec.Arg) → 0 < length xs → u ≡ get_or xs 0 u → Some a ≡ spec.arg_at c u → spec.hash_part c inner t xs ≡ option_map (λ items. spec.part items (drop 1 xs)) (spec.string_of c t (spec.toks a.written))
hash-argument c inner t [] u a h e f = absurd (omega arith)
hash-argument c inner t (x ∷ after) u a h e f = ap (by_hash c inner t x after) (sym (f ∙ ap (spec.arg_at c) e))

pub hash-other : (c : spec.Call) (inner : Inner) (t : Tok) (xs : List Tok) (u : Tok) → 0 < length xs → u ≡ get_or xs 0 u → None ≡ spec.arg_at c u → opt_after_hash c xs ≡ false → spec.hash_part c inner t xs ≡ Some (spec.part (spec.Operand (spec.own c t) ∷ []) xs)
hash-other c inner t [] u h e f k = absurd (omega arith)
hash-other c inner t (x ∷ after) u h e f k =
    let none : spec.arg_at c x ≡ None = sym (f ∙ ap (spec.arg_at c) e) in
    let no_opt : (is_some c.variadic && is_opt x) ≡ false = sym (ap (λ (o : Option spec.Arg). not (is_some o) && (is_some c.variadic && is_opt x)) none) ∙ k in
    ap (by_hash c inner t x after) none ∙ ap (λ (b : Bool). if b then spec.string_opt_part c inner t (in_parens (λ t. t) after) else Some (spec.part (spec.Operand (spec.own c t) ∷ []) (x ∷ after))) no_opt

-- ## The comma rule

abbrev pub by_tests : spec.Call → Inner → Bool → Tok → List Tok → Bool → Bool → Option spec.Part → Option spec.Part
by_tests c inner pasted t after hash paste comma =
    if hash then spec.hash_part c inner t after
    else if paste then Some (record { items = spec.Paste (spec.own c t) ∷ []; pasted = true; after = after })
    else if is_some comma then comma
    else if is_some c.variadic && is_opt t then spec.opt_part c inner t (in_parens (λ t. t) after)
    else Some (spec.plain_part c pasted t after (spec.arg_at c t))

pub comma-comes : (c : spec.Call) (inner : Inner) (pasted : Bool) (t : Tok) (after : List Tok) (p : spec.Part) → false ≡ (c.function && is_hash t) → false ≡ is_paste t → spec.comma_part c t after ≡ Some p → spec.one_part c inner pasted t after ≡ Some p
comma-comes c inner pasted t after p h k e =
    ap (λ (b : Bool). by_tests c inner pasted t after b (is_paste t) (spec.comma_part c t after)) (sym h)
    ∙ ap (λ (b : Bool). by_tests c inner pasted t after false b (spec.comma_part c t after)) (sym k)
    ∙ ap (by_tests c inner pasted t after false false) e

pub comma-some : (sets : Sets) (c : spec.Call) (t v : Tok) (a : Arg) (next : Bool) → false ≡ (length a.written == 0) → spec.Operand (spec.own c t) ∷ spec.given v (arg_of sets a) next ≡ spec.comma_items c t v (arg_of sets a) next
comma-some sets c t v a next h =
    let same : (length (all_marked_of sets a.written) == 0) ≡ false = ap (λ n. n == 0) (length-map a.written (marked_of sets)) ∙ sym h in
    sym (ap (λ (b : Bool). if b then spec.Placemarker ∷ [] else spec.Operand (spec.own c t) ∷ spec.given v (arg_of sets a) next) same)

-- ## Parts by what they are

pub gives-by : (sets : Sets) (old new : List Item) (part : Option spec.Part) (items : List spec.Item) (after : List Tok) (end : PartEnd) → part ≡ Some (spec.part items after) → Adds sets old new items → false ≡ end.pasted → after ≡ end.after.now → GivesPart sets old new part (Some end)
gives-by sets old new part items after end e a p f =
    subst (λ (q : Option spec.Part). GivesPart sets old new q (Some end)) (sym e) (record { added = a; pasted = p; after = f })

pub gives-string-by : (sets : Sets) (old new : List Item) (part : Option spec.Part) (string : Option (List spec.Item)) (after : List Tok) (end : PartEnd) → part ≡ option_map (λ items. spec.part items after) string → AddsString sets old new string true → false ≡ end.pasted → after ≡ end.after.now → GivesPart sets old new part (Some end)
gives-string-by sets old new part string after end e a p f =
    subst (λ (q : Option spec.Part). GivesPart sets old new q (Some end)) (sym e) (gives-string sets old new string after end a p f)
