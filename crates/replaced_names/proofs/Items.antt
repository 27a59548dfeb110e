-- What a replacement puts in.
use Rattle.std.proofs.Common.{◌≡◌, ℕ, zero, suc, Bool, true, false, cond, List, [], ◌∷◌, ◌++◌, map, length, refl, sym, ap, ◌∙◌}
use Rattle.std.specs.Prelude.{⊤, Option, Some, None, IfSome, IsTrue, IsUtf8, not, ◌&&◌, ◌||◌, ◌==◌, is_some}
use Rattle.std.specs.List.{AllByRecursion}
use Rattle.std.specs.Option.{option_map, option_map_or, option_and_then}
use Rattle.std.proofs.lemmas.Str.{IsUtf8-from_is_utf8}
use Rattle.scan_model.specs.declared.token.Kind.TheVariants.{Ident, Number, Char, Str, Punct}
use Rattle.scan_model.specs.declared.token.Tok.{Tok}
use Rattle.scan_model.specs.TokenTests.{is_of, is_hash, is_paste, is_comma, begins_with}
use Rattle.scan_model.specs.Parentheses.{Enclosed, in_parens}
use Rattle.scan_model.specs.Spelling.{is_name, is_ident, is_alternative, is_number, is_char, is_str, is_punct}
use Rattle.scan_model.specs.Tokens.{kind_of}
use Rattle.scan_model.specs.MacroDefinition.{is_opt}
use Rattle.scan_model.specs.Paste.{is_one_token, paste}
use Rattle.scan_model.specs.Substitution.{Marked, Arg, Call, Item, Placemarker, Operand, Paste, own, spaced, first_spaced, first_item_spaced, items_of, without_placemarkers, shown_tokens, string_of, join_marked, join, joined_onto, joined, Part, part, given, is_variable, arg_at, has_variable, opt_items, or_placemarker, toks, string_part, string_opt_part, hash_part, opt_part, comma_items, comma_part, plain_part, one_part, items_up_to, subst}
use Rattle.scan_model.specs.Utf8Names.{HasUtf8Name}
use Rattle.replaced_names.proofs.Lists.{never, Good, GoodMark, GoodMarks, marks_append, marks_toks, marks_first_spaced, if_cond, if_map, if_then, GoodParens, parens_good}

-- ## Items

abbrev pub GoodItem : Item → Type 0
GoodItem Placemarker = ⊤
GoodItem (Operand m) = GoodMark m
GoodItem (Paste m) = GoodMark m

abbrev pub GoodItems : List Item → Type 0
GoodItems items = AllByRecursion GoodItem items

items_append : (xs ys : List Item) → GoodItems xs → GoodItems ys → GoodItems (xs ++ ys)
items_append [] ys h k = k
items_append (x ∷ xs) ys h k = (h.0, items_append xs ys h.1 k)

operands_good : (ms : List Marked) → GoodMarks ms → GoodItems (map Operand ms)
operands_good [] h = tt
operands_good (m ∷ ms) h = (h.0, operands_good ms h.1)

items_of_good : (ms : List Marked) → GoodMarks ms → GoodItems (items_of ms)
items_of_good [] h = (tt, tt)
items_of_good (m ∷ ms) h = operands_good (m ∷ ms) h

without_good : (items : List Item) → GoodItems items → GoodMarks (without_placemarkers items)
without_good [] h = tt
without_good (Placemarker ∷ items) h = without_good items h.1
without_good (Operand m ∷ items) h = (h.0, without_good items h.1)
without_good (Paste m ∷ items) h = (h.0, without_good items h.1)

first_item_good : (space : Bool) (items : List Item) → GoodItems items → GoodItems (first_item_spaced space items)
first_item_good space [] h = tt
first_item_good space (Placemarker ∷ items) h = (tt, first_item_good space items h.1)
first_item_good space (Operand m ∷ items) h = (h.0, h.1)
first_item_good space (Paste m ∷ items) h = (h.0, h.1)

or_placemarker_good : (items : List Item) → GoodItems items → GoodItems (or_placemarker items)
or_placemarker_good [] h = (tt, tt)
or_placemarker_good (x ∷ items) h = h

-- ## Tokens that are made

string_good : (c : Call) (t : Tok) (ts : List Tok) → IfSome (string_of c t ts) GoodItems
string_good c t ts = let text = 34 ∷ shown_tokens ts ++ 34 ∷ [] in
    if_cond GoodItems (is_str text) (Some (Operand (own c (record t { kind = Str; text = text })) ∷ [])) None ((λ h. never h), tt) tt

ident_text : (s : List ℕ) → is_ident s ≡ true → IsUtf8 s
unfolding is_ident is_name
ident_text s h = IsUtf8-from_is_utf8 s (front _ _ (front _ _ h)) where
  front : (a b : Bool) → (a && b) ≡ true → a ≡ true
  front true b e = refl
  front false b e = cc

-- a spelling of this kind is an identifier only where it is well-formed
kind_good : (s : List ℕ) (punct ident number char : Bool) → is_ident s ≡ ident → IsTrue (is_of Ident (record { kind = cond punct Punct (cond ident Ident (cond number Number (cond char Char Str))); text = s; space = false; line = 0 })) → IsUtf8 s
kind_good s true ident number char e h = never h
kind_good s false true number char e h = ident_text s e
kind_good s false false true char e h = never h
kind_good s false false false true e h = never h
kind_good s false false false false e h = never h

paste_good : (left right : Tok) → IfSome (paste left right) HasUtf8Name
unfolding paste
paste_good left right = let s = left.text ++ right.text in
    if_cond HasUtf8Name (is_one_token s) (Some (record left { kind = kind_of s; text = s })) None (kind_good s (is_punct s) (is_ident s) (is_number s) (is_char s) refl) tt

join_marked_good : (m n : Marked) → IfSome (join_marked m n) GoodItem
join_marked_good m n =
    if_map HasUtf8Name GoodItem (λ t. Operand (record { tok = t; hides = λ name. m.hides name && n.hides name })) (paste m.tok n.tok) (λ t h. h) (paste_good m.tok n.tok)

join_good : (x y : Item) → GoodItem x → GoodItem y → IfSome (join x y) GoodItem
join_good Placemarker Placemarker h k = tt
join_good Placemarker (Operand m) h k = k
join_good Placemarker (Paste m) h k = k
join_good (Operand m) Placemarker h k = h
join_good (Operand m) (Operand n) h k = join_marked_good m n
join_good (Operand m) (Paste n) h k = join_marked_good m n
join_good (Paste m) Placemarker h k = h
join_good (Paste m) (Operand n) h k = join_marked_good m n
join_good (Paste m) (Paste n) h k = join_marked_good m n

onto_good : (x : Item) (items : List Item) → GoodItem x → GoodItems items → IfSome (joined_onto x items) GoodItems
onto_good x [] h k = (h, tt)
onto_good x (Paste m ∷ []) h k = (h, tt)
onto_good x (Paste m ∷ y ∷ items) h k = if_then GoodItem GoodItems (λ z. joined_onto z items) (join x y) (λ z g. onto_good z items g k.1.1) (join_good x y h k.1.0)
onto_good x (Placemarker ∷ items) h k = if_map GoodItems GoodItems (x ∷◌) (joined_onto Placemarker items) (λ zs g. (h, g)) (onto_good Placemarker items tt k.1)
onto_good x (Operand m ∷ items) h k = if_map GoodItems GoodItems (x ∷◌) (joined_onto (Operand m) items) (λ zs g. (h, g)) (onto_good (Operand m) items k.0 k.1)

joined_good : (items : List Item) → GoodItems items → IfSome (joined items) GoodItems
joined_good [] h = tt
joined_good (x ∷ items) h = onto_good x items h.0 h.1

-- ## Parts

abbrev pub GoodArg : Arg → Type 0
GoodArg a = GoodMarks a.written × GoodMarks a.replaced

abbrev pub GoodCall : Call → Type 0
GoodCall c = (name : List ℕ) → IfSome (c.arg name) GoodArg

abbrev GoodPart : Part → Type 0
GoodPart p = GoodItems p.items × Good p.after

module _ (c : Call) (args : GoodCall c) where
  arg_at_good : (t : Tok) → IfSome (arg_at c t) GoodArg
  arg_at_good t = if_cond GoodArg (is_of Ident t) (c.arg t.text) None (args t.text) tt

  given_good : (t : Tok) (a : Arg) (next : Bool) → GoodArg a → GoodItems (given t a next)
  given_good t a true h = items_of_good (first_spaced t.space a.written) (marks_first_spaced t.space a.written h.0)
  given_good t a false h = items_of_good (first_spaced t.space a.replaced) (marks_first_spaced t.space a.replaced h.1)

  opt_items_good : (inner : Option (List Item)) → IfSome inner GoodItems → IfSome (opt_items c inner) GoodItems
  opt_items_good inner h = if_cond GoodItems (has_variable c) inner (Some (Placemarker ∷ [])) h (tt, tt)

  string_part_good : (t : Tok) (after : List Tok) (o : Option Arg) → HasUtf8Name t → Good after → IfSome (string_part c t after o) GoodPart
  string_part_good t after None h k = ((h, tt), k)
  string_part_good t after (Some a) h k = if_map GoodItems GoodPart (λ items. part items after) (string_of c t (toks a.written)) (λ items g. (g, k)) (string_good c t (toks a.written))

  -- `inner` treats a content that is good
  module _ (inner : List Tok → Option (List Item)) (inside : (content : List Tok) → Good content → IfSome (inner content) GoodItems) where
    string_opt_good : (t : Tok) (o : Option (Enclosed Tok)) → IfSome o (GoodParens (λ t. t) HasUtf8Name) → IfSome (string_opt_part c inner t o) GoodPart
    string_opt_good t None h = (tt, tt)
    string_opt_good t (Some e) h =
        if_map GoodItems GoodPart (λ items. part items e.after) (option_and_then (λ items. string_of c t (toks (without_placemarkers items))) (opt_items c (inner e.inside))) (λ items g. (g, h.1))
        (if_then GoodItems GoodItems (λ items. string_of c t (toks (without_placemarkers items))) (opt_items c (inner e.inside)) (λ items g. string_good c t (toks (without_placemarkers items)))
        (opt_items_good (inner e.inside) (inside e.inside h.0)))

    hash_part_good : (t : Tok) (after : List Tok) → HasUtf8Name t → Good after → IfSome (hash_part c inner t after) GoodPart
    hash_part_good t [] h k = ((h, tt), tt)
    hash_part_good t (u ∷ after) h k =
        if_cond GoodPart (is_some (arg_at c u)) (string_part c t after (arg_at c u))
        (cond (is_some c.variadic && is_opt u) (string_opt_part c inner t (in_parens (λ t. t) after)) (Some (part (Operand (own c t) ∷ []) (u ∷ after))))
        (string_part_good t after (arg_at c u) h k.1)
        (if_cond GoodPart (is_some c.variadic && is_opt u) (string_opt_part c inner t (in_parens (λ t. t) after)) (Some (part (Operand (own c t) ∷ []) (u ∷ after)))
        (string_opt_good t (in_parens (λ t. t) after) (parens_good (λ t. t) HasUtf8Name after k.1)) ((h, tt), k))

    opt_part_good : (t : Tok) (o : Option (Enclosed Tok)) → IfSome o (GoodParens (λ t. t) HasUtf8Name) → IfSome (opt_part c inner t o) GoodPart
    opt_part_good t None h = (tt, tt)
    opt_part_good t (Some e) h =
        if_map GoodItems GoodPart (λ items. part (first_item_spaced t.space (or_placemarker items)) e.after) (opt_items c (inner e.inside))
        (λ items g. (first_item_good t.space (or_placemarker items) (or_placemarker_good items g), h.1)) (opt_items_good (inner e.inside) (inside e.inside h.0))

    comma_items_good : (t v : Tok) (a : Arg) (next : Bool) → HasUtf8Name t → GoodArg a → GoodItems (comma_items c t v a next)
    comma_items_good t v a next h g = by (length a.written == 0) where
      by : (b : Bool) → GoodItems (cond b (Placemarker ∷ []) (Operand (own c t) ∷ given v a next))
      by true = (tt, tt)
      by false = (h, given_good v a next g)

    comma_part_good : (t : Tok) (after : List Tok) → HasUtf8Name t → Good after → IfSome (comma_part c t after) GoodPart
    comma_part_good t [] h k = tt
    comma_part_good t (p ∷ []) h k = tt
    comma_part_good t (p ∷ v ∷ after) h k =
        if_cond GoodPart (is_comma t && is_paste p && is_variable c v) (option_map (λ a. part (comma_items c t v a (begins_with is_paste after)) after) (c.arg v.text)) None
        (if_map GoodArg GoodPart (λ a. part (comma_items c t v a (begins_with is_paste after)) after) (c.arg v.text) (λ a g. (comma_items_good t v a (begins_with is_paste after) h g, k.1.1)) (args v.text)) tt

    plain_part_good : (pasted : Bool) (t : Tok) (after : List Tok) (o : Option Arg) → HasUtf8Name t → Good after → IfSome o GoodArg → GoodPart (plain_part c pasted t after o)
    plain_part_good pasted t after (Some a) h k g = (given_good t a (pasted || begins_with is_paste after) g, k)
    plain_part_good pasted t after None h k g = ((h, tt), k)

    one_part_good : (pasted : Bool) (t : Tok) (after : List Tok) → HasUtf8Name t → Good after → IfSome (one_part c inner pasted t after) GoodPart
    one_part_good pasted t after h k =
        let hash = hash_part c inner t after in
        let opt = opt_part c inner t (in_parens (λ t. t) after) in
        let comma = comma_part c t after in
        let plain = Some (plain_part c pasted t after (arg_at c t)) in
        let pastes = Some (record { items = Paste (own c t) ∷ []; pasted = true; after = after }) in
        if_cond GoodPart (c.function && is_hash t) hash (cond (is_paste t) pastes (cond (is_some comma) comma (cond (is_some c.variadic && is_opt t) opt plain))) (hash_part_good t after h k)
        (if_cond GoodPart (is_paste t) pastes (cond (is_some comma) comma (cond (is_some c.variadic && is_opt t) opt plain)) ((h, tt), k)
        (if_cond GoodPart (is_some comma) comma (cond (is_some c.variadic && is_opt t) opt plain) (comma_part_good t after h k)
        (if_cond GoodPart (is_some c.variadic && is_opt t) opt plain (opt_part_good t (in_parens (λ t. t) after) (parens_good (λ t. t) HasUtf8Name after k))
        (plain_part_good pasted t after (arg_at c t) h k (arg_at_good t)))))

  items_good : (n : ℕ) (pasted : Bool) (ts : List Tok) → Good ts → IfSome (items_up_to n c pasted ts) GoodItems
  items_good zero pasted ts h = tt
  items_good (suc n) pasted [] h = tt
  items_good (suc n) pasted (t ∷ ts) h =
      let inner = λ (content : List Tok). option_and_then joined (items_up_to n c false content) in
      if_then GoodPart GoodItems (λ p. option_map (p.items ++◌) (items_up_to n c p.pasted p.after)) (one_part c inner pasted t ts)
      (λ p g. if_map GoodItems GoodItems (p.items ++◌) (items_up_to n c p.pasted p.after) (λ items k. items_append p.items items g.0 k) (items_good n p.pasted p.after g.1))
      (one_part_good inner (λ content g. if_then GoodItems GoodItems joined (items_up_to n c false content) (λ items k. joined_good items k) (items_good n false content g)) pasted t ts h.0 h.1)

  pub subst_good : (space : Bool) (body : List Tok) → Good body → IfSome (subst c space body) GoodMarks
  unfolding subst
  subst_good space body h =
      if_map GoodItems GoodMarks (λ items. first_spaced space (without_placemarkers items)) (option_and_then joined (items_up_to (length body) c false body))
      (λ items g. marks_first_spaced space (without_placemarkers items) (without_good items g))
      (if_then GoodItems GoodItems joined (items_up_to (length body) c false body) (λ items g. joined_good items g) (items_good (length body) false body h))
