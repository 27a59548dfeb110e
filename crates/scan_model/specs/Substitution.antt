-- The replacement list with the arguments put in ([cpp.subst], [cpp.stringize], [cpp.concat]).
use Rattle.std.specs.Prelude.{ℕ, zero, suc, Bool, true, false, not, ◌&&◌, ◌||◌, ◌==◌, if◌then◌else◌, List, [], ◌∷◌, ◌++◌, map, length, Option, Some, None, is_some}
use Rattle.std.specs.Option.{option_map, option_map_or, option_and_then}
use Rattle.std.specs.List.{list_any}
use Rattle.scan_model.specs.declared.token.Kind.TheVariants.{Ident, Char, Str}
use Rattle.scan_model.specs.declared.token.Tok.{Tok}
use Rattle.scan_model.specs.declared.macros.FunctionDef.{FunctionDef}
use Rattle.scan_model.specs.Spliced.{at_newline}
use Rattle.scan_model.specs.Spelling.{is_str}
use Rattle.scan_model.specs.TokenTests.{is_of, same, is_named, is_hash, is_paste, is_comma, begins_with}
use Rattle.scan_model.specs.Parentheses.{Enclosed, in_parens}
use Rattle.scan_model.specs.Paste.{paste}
use Rattle.scan_model.specs.MacroDefinition.{is_opt}

-- a token, and which names its hide set has
pub record Marked : Type 0 where
  pub tok : Tok
  pub hides : List ℕ → Bool

abbrev pub no_name : List ℕ → Bool
no_name name = false

-- an argument as it is written, and fully replaced by itself
pub record Arg : Type 0 where
  pub written : List Marked
  pub replaced : List Marked

-- What a replacement needs beside the list: whether `#` is an operator, the name of the variable part, the argument of
-- each parameter (none of a name that isn't one), and the line of the name that is replaced.
pub record Call : Type 0 where
  pub function : Bool
  pub variadic : Option (List ℕ)
  pub arg : List ℕ → Option Arg
  pub line : ℕ

-- what stands in a list until each `##` is done
pub data Item : Type 0 where
  Placemarker : Item
  Operand : Marked → Item
  Paste : Marked → Item

-- ## Words

-- a token of the replacement list
abbrev pub own : Call → Tok → Marked
own c t = record { tok = record t { line = c.line }; hides = no_name }

abbrev pub spaced : Bool → Marked → Marked
spaced space m = record m { tok = record m.tok { space = space } }

-- the same list, whose first token has this `space`
abbrev pub first_spaced : Bool → List Marked → List Marked
first_spaced space [] = []
first_spaced space (m ∷ ms) = spaced space m ∷ ms

-- the same for the first item that isn't a placemarker
abbrev pub first_item_spaced : Bool → List Item → List Item
first_item_spaced space [] = []
first_item_spaced space (Placemarker ∷ items) = Placemarker ∷ first_item_spaced space items
first_item_spaced space (Operand m ∷ items) = Operand (spaced space m) ∷ items
first_item_spaced space (Paste m ∷ items) = Paste (spaced space m) ∷ items

-- a placemarker stands for an empty list
abbrev pub items_of : List Marked → List Item
items_of [] = Placemarker ∷ []
items_of (m ∷ ms) = map Operand (m ∷ ms)

abbrev pub without_placemarkers : List Item → List Marked
without_placemarkers [] = []
without_placemarkers (Placemarker ∷ items) = without_placemarkers items
without_placemarkers (Operand m ∷ items) = m ∷ without_placemarkers items
without_placemarkers (Paste m ∷ items) = m ∷ without_placemarkers items

-- ## Strings by `#`

-- inside a string: a newline as `\n`, and a backslash before `"` and `\` where the token is quoted text
abbrev pub shown_bytes : Bool → List ℕ → List ℕ
shown_bytes quoted [] = []
shown_bytes quoted (c ∷ s) = let rest = shown_bytes quoted s in
    if c == 13 && at_newline (c ∷ s) then rest
    else if c == 10 then 92 ∷ 110 ∷ rest
    else if quoted && (c == 34 || c == 92) then 92 ∷ c ∷ rest
    else c ∷ rest

abbrev pub shown_token : Tok → List ℕ
shown_token t = shown_bytes (is_of Char t || is_of Str t) t.text

abbrev pub shown_after_first : List Tok → List ℕ
shown_after_first [] = []
shown_after_first (t ∷ ts) = (if t.space then 32 ∷ shown_token t else shown_token t) ++ shown_after_first ts

abbrev pub shown_tokens : List Tok → List ℕ
shown_tokens [] = []
shown_tokens (t ∷ ts) = shown_token t ++ shown_after_first ts

-- the string that `#`, the token t, makes of the tokens, if that is one string
abbrev pub string_of : Call → Tok → List Tok → Option (List Item)
string_of c t toks = let text = 34 ∷ shown_tokens toks ++ 34 ∷ [] in
    if is_str text then Some (Operand (own c (record t { kind = Str; text = text })) ∷ []) else None

-- ## Joins by `##`

abbrev pub join_marked : Marked → Marked → Option Item
join_marked left right =
    option_map (λ t. Operand (record { tok = t; hides = λ name. left.hides name && right.hides name })) (paste left.tok right.tok)

abbrev pub join : Item → Item → Option Item
join Placemarker Placemarker = Some Placemarker
join Placemarker (Operand m) = Some (Operand m)
join Placemarker (Paste m) = Some (Operand m)
join (Operand m) Placemarker = Some (Operand m)
join (Operand m) (Operand n) = join_marked m n
join (Operand m) (Paste n) = join_marked m n
join (Paste m) Placemarker = Some (Operand m)
join (Paste m) (Operand n) = join_marked m n
join (Paste m) (Paste n) = join_marked m n

-- the item and then the list, after each `##` is done, from left to right
abbrev pub joined_onto : Item → List Item → Option (List Item)
joined_onto x [] = Some (x ∷ [])
joined_onto x (Paste m ∷ []) = Some (x ∷ [])
joined_onto x (Paste m ∷ y ∷ items) = option_and_then (λ z. joined_onto z items) (join x y)
joined_onto x (Placemarker ∷ items) = option_map (x ∷◌) (joined_onto Placemarker items)
joined_onto x (Operand m ∷ items) = option_map (x ∷◌) (joined_onto (Operand m) items)

abbrev pub joined : List Item → Option (List Item)
joined [] = Some []
joined (x ∷ items) = joined_onto x items

-- ## What each part of the list gives

-- the items that a part gives, whether it was a `##`, and what follows it
pub record Part : Type 0 where
  pub items : List Item
  pub pasted : Bool
  pub after : List Tok

abbrev pub part : List Item → List Tok → Part
part items after = record { items = items; pasted = false; after = after }

-- the argument next to `##` as written, and replaced elsewhere; its first token takes the parameter's `space`
abbrev pub given : Tok → Arg → Bool → List Item
given t a next_to_paste = items_of (first_spaced t.space (if next_to_paste then a.written else a.replaced))

abbrev pub is_variable : Call → Tok → Bool
is_variable c t = option_map_or (λ name. is_named name t) c.variadic false

abbrev pub arg_at : Call → Tok → Option Arg
arg_at c t = if is_of Ident t then c.arg t.text else None

-- the replaced variable part has a token
abbrev pub has_variable : Call → Bool
has_variable c = option_map_or (λ name. option_map_or (λ a. not (length a.replaced == 0)) (c.arg name) false) c.variadic false

-- what `__VA_OPT__` with this content gives; `inner` treats the content as a replacement list
abbrev pub opt_items : Call → Option (List Item) → Option (List Item)
opt_items c inner = if has_variable c then inner else Some (Placemarker ∷ [])

-- a placemarker stands for no items
abbrev pub or_placemarker : List Item → List Item
or_placemarker [] = Placemarker ∷ []
or_placemarker (x ∷ items) = x ∷ items

abbrev pub toks : List Marked → List Tok
toks ms = map (λ m. m.tok) ms

-- `#` before a parameter
abbrev pub string_part : Call → Tok → List Tok → Option Arg → Option Part
string_part c t after None = Some (part (Operand (own c t) ∷ []) after)
string_part c t after (Some a) = option_map (λ items. part items after) (string_of c t (toks a.written))

-- `# __VA_OPT__(content)`
abbrev pub string_opt_part : Call → (List Tok → Option (List Item)) → Tok → Option (Enclosed Tok) → Option Part
string_opt_part c inner t None = Some (part [] [])
string_opt_part c inner t (Some e) = let content = inner e.inside in
    option_map (λ items. part items e.after)
    (option_and_then (λ items. string_of c t (toks (without_placemarkers items))) (opt_items c content))

abbrev pub hash_part : Call → (List Tok → Option (List Item)) → Tok → List Tok → Option Part
hash_part c inner t [] = Some (part (Operand (own c t) ∷ []) [])
hash_part c inner t (u ∷ after) =
    let string = string_part c t after (arg_at c u) in
    let opt = string_opt_part c inner t (in_parens (λ t. t) after) in
    let plain = Some (part (Operand (own c t) ∷ []) (u ∷ after)) in
    if is_some (arg_at c u) then string else if is_some c.variadic && is_opt u then opt else plain

-- `__VA_OPT__(content)`
abbrev pub opt_part : Call → (List Tok → Option (List Item)) → Tok → Option (Enclosed Tok) → Option Part
opt_part c inner t None = Some (part [] [])
opt_part c inner t (Some e) = let content = inner e.inside in
    option_map (λ items. part (first_item_spaced t.space (or_placemarker items)) e.after) (opt_items c content)

-- `, ## V`, where V is the variable part, v: nothing, or the comma and V as if there were no `##`
abbrev pub comma_items : Call → Tok → Tok → Arg → Bool → List Item
comma_items c t v a next_to_paste =
    if length a.written == 0 then Placemarker ∷ [] else Operand (own c t) ∷ given v a next_to_paste

abbrev pub comma_part : Call → Tok → List Tok → Option Part
comma_part c t (p ∷ v ∷ after) =
    if is_comma t && is_paste p && is_variable c v
    then option_map (λ a. part (comma_items c t v a (begins_with is_paste after)) after) (c.arg v.text) else None
comma_part c t after = None

-- a parameter, or any other token
abbrev pub plain_part : Call → Bool → Tok → List Tok → Option Arg → Part
plain_part c pasted t after (Some a) = part (given t a (pasted || begins_with is_paste after)) after
plain_part c pasted t after None = part (Operand (own c t) ∷ []) after

abbrev pub one_part : Call → (List Tok → Option (List Item)) → Bool → Tok → List Tok → Option Part
one_part c inner pasted t after =
    let hash = hash_part c inner t after in
    let opt = opt_part c inner t (in_parens (λ t. t) after) in
    let comma = comma_part c t after in
    let plain = Some (plain_part c pasted t after (arg_at c t)) in
    if c.function && is_hash t then hash
    else if is_paste t then Some (record { items = Paste (own c t) ∷ []; pasted = true; after = after })
    else if is_some comma then comma
    else if is_some c.variadic && is_opt t then opt
    else plain

-- The items of the list, each `##` still there; `pasted` says that a `##` stands before it. Each part takes a token at
-- least, so a list of n tokens has at most n parts.
abbrev pub items_up_to : ℕ → Call → Bool → List Tok → Option (List Item)
items_up_to zero c pasted ts = Some []
items_up_to (suc n) c pasted [] = Some []
items_up_to (suc n) c pasted (t ∷ ts) =
    option_and_then (λ p. option_map (p.items ++◌) (items_up_to n c p.pasted p.after))
    (one_part c (λ content. option_and_then joined (items_up_to n c false content)) pasted t ts)

-- the list put in for the name; none where a join or a string is bad
unfoldable pub subst : Call → Bool → List Tok → Option (List Marked)
subst c space body =
    option_map (λ items. first_spaced space (without_placemarkers items)) (option_and_then joined (items_up_to (length body) c false body))

-- ## Which arguments are replaced by themselves

-- The parameter of this name stands somewhere with neither `#` or `##` before it nor `##` after it, or, as the variable
-- part, after a comma and `##`. The tokens p and q stand before the list.
abbrev pub stands_alone : Bool → List ℕ → List Tok → List Tok → List Tok → Bool
stands_alone variable name p q [] = false
stands_alone variable name p q (t ∷ ts) =
    (is_named name t && not (begins_with is_hash q) && (not (begins_with is_paste q) || (variable && begins_with is_comma p)) && not (begins_with is_paste ts))
    || stands_alone variable name q (t ∷ []) ts

abbrev pub is_variable_part : Option (List ℕ) → List ℕ → Bool
is_variable_part variadic name = option_map_or (λ v. same v name) variadic false

unfoldable pub is_replaced : FunctionDef → List ℕ → Bool
is_replaced f name = let variable = is_variable_part f.variadic name in
    stands_alone variable name [] [] f.body || (variable && list_any is_opt f.body)
