-- What a macro makes of tokens without keywords has none.
use Rattle.std.proofs.Common.{ℕ, zero, suc, Bool, true, false, not, ◌&&◌, ◌||◌, ◌==◌, if◌then◌else◌, List, [], ◌∷◌, ◌++◌, length, refl, Option, Some, None, codes}
use Rattle.std.specs.Prelude.{⊤, is_some}
use Rattle.std.specs.Option.{option_map, option_and_then}
use Rattle.std.specs.List.{AllByRecursion}
use Rattle.scan_model.specs.declared.token.Kind.TheVariants.{Ident, Str}
use Rattle.scan_model.specs.declared.token.Tok.{Tok}
use Rattle.scan_model.specs.declared.macros.Def.{Def}
use Rattle.scan_model.specs.declared.macros.Def.TheVariants as DefIs
use Rattle.scan_model.specs.Spelling.{is_str}
use Rattle.scan_model.specs.Tokens.{kind_of}
use Rattle.scan_model.specs.TokenTests.{is_of, is_sign, is_hash, is_paste, is_comma, is_open_paren, is_close_paren, begins_with}
use Rattle.scan_model.specs.Paste.{is_one_token, paste}
use Rattle.scan_model.specs.Parentheses.{Enclosed, in_parens}
use Rattle.scan_model.specs.MacroDefinition.{Head, with_param, variadic_head, more_params, head, all_params, are_distinct, has_operands, body_fits, function_def, object_def, def_of, is_forbidden, read_define, is_opt}
use Rattle.scan_model.specs.Substitution.{Marked, Arg, Call, Item, Placemarker, Operand, Paste, own, first_spaced, first_item_spaced, items_of, without_placemarkers, shown_tokens, string_of, join_marked, join, joined_onto, joined, Part, part, given, is_variable, arg_at, has_variable, opt_items, or_placemarker, toks, string_part, string_opt_part, hash_part, opt_part, comma_items, comma_part, plain_part, one_part, items_up_to, subst}
use Rattle.unit_laws.proofs.PlainText.{IsPlain, kind_plain}
use Rattle.unit_laws.proofs.Parts.{OnSome, some_if, some_map, some_then, all_append, all_map, all_if, InAndAfter, all_in_parens}

abbrev pub PlainTok : Tok → Type 0
PlainTok t = IsPlain t.kind

abbrev pub PlainToks : List Tok → Type 0
PlainToks ts = AllByRecursion PlainTok ts

abbrev pub PlainMarked : List Marked → Type 0
PlainMarked ms = AllByRecursion (λ m. IsPlain m.tok.kind) ms

-- ## Definitions

abbrev pub PlainDef : Def → Type 0
PlainDef (DefIs.Object body) = PlainToks body
PlainDef (DefIs.Function f) = PlainToks f.body
PlainDef (DefIs.BuiltIn which) = ⊤

abbrev PlainHead : Head → Type 0
PlainHead h = PlainToks h.body

variadic_plain : (name : List ℕ) (ts : List Tok) → PlainToks ts → OnSome PlainHead (variadic_head name ts)
variadic_plain name [] h = tt
variadic_plain name (t ∷ ts) h = some_if PlainHead (is_close_paren t) (Some (record { params = []; variadic = Some name; body = ts })) None h.1 tt

params_plain : (ts : List Tok) → PlainToks ts → OnSome PlainHead (more_params ts)
params_plain [] h = tt
params_plain (t ∷ []) h = tt
params_plain (t ∷ u ∷ ts) h =
    some_if PlainHead (is_sign ("..." ∷ []) t) _ _ (variadic_plain (codes "__VA_ARGS__") (u ∷ ts) h.1)
    (some_if PlainHead (not (is_of Ident t)) None _ tt
    (some_if PlainHead (is_close_paren u) (Some (record { params = t.text ∷ []; variadic = None; body = ts })) _ h.1.1
    (some_if PlainHead (is_sign ("..." ∷ []) u) _ _ (variadic_plain t.text ts h.1.1)
    (some_if PlainHead (is_comma u) _ None (some_map PlainHead PlainHead (with_param t.text) (more_params ts) (params_plain ts h.1.1) (λ d k. k)) tt))))

head_plain : (ts : List Tok) → PlainToks ts → OnSome PlainHead (head ts)
head_plain [] h = tt
head_plain (t ∷ ts) h =
    some_if PlainHead (is_close_paren t) (Some (record { params = []; variadic = None; body = ts })) (more_params (t ∷ ts)) h.1 (params_plain (t ∷ ts) h)

function_plain : (d : Head) → PlainHead d → OnSome PlainDef (function_def d)
function_plain d h =
    some_if PlainDef (are_distinct (all_params d.params d.variadic) && has_operands d.body && body_fits (all_params d.params d.variadic) (is_some d.variadic) d.body)
    (Some (DefIs.Function (record { params = d.params; variadic = d.variadic; body = d.body }))) None h tt

object_plain : (ts : List Tok) → PlainToks ts → OnSome PlainDef (object_def ts)
object_plain ts h = some_if PlainDef (has_operands ts) (Some (DefIs.Object ts)) None h tt

def_plain : (ts : List Tok) → PlainToks ts → OnSome PlainDef (def_of ts)
def_plain [] h = object_plain [] h
def_plain (t ∷ ts) h =
    some_if PlainDef (is_open_paren t && not t.space) _ _ (some_then PlainHead PlainDef function_def (head ts) (head_plain ts h.1) function_plain) (object_plain (t ∷ ts) h)

abbrev pub PlainDefined : (List ℕ × Def) → Type 0
PlainDefined d = PlainDef d.1

pub define_plain : (ts : List Tok) → PlainToks ts → OnSome PlainDefined (read_define ts)
unfolding read_define
define_plain [] h = tt
define_plain (t ∷ ts) h =
    some_if PlainDefined (is_of Ident t && not (is_forbidden t.text)) _ None
    (some_map PlainDef PlainDefined (λ def. (t.text, def)) (def_of ts) (def_plain ts h.1) (λ d k. k)) tt

-- ## Items

abbrev PlainItem : Item → Type 0
PlainItem Placemarker = ⊤
PlainItem (Operand m) = IsPlain m.tok.kind
PlainItem (Paste m) = IsPlain m.tok.kind

abbrev PlainItems : List Item → Type 0
PlainItems items = AllByRecursion PlainItem items

first_plain : (space : Bool) (ms : List Marked) → PlainMarked ms → PlainMarked (first_spaced space ms)
first_plain space [] h = tt
first_plain space (m ∷ ms) h = h

first_item_plain : (space : Bool) (items : List Item) → PlainItems items → PlainItems (first_item_spaced space items)
first_item_plain space [] h = tt
first_item_plain space (Placemarker ∷ items) h = (tt, first_item_plain space items h.1)
first_item_plain space (Operand m ∷ items) h = h
first_item_plain space (Paste m ∷ items) h = h

items_plain : (ms : List Marked) → PlainMarked ms → PlainItems (items_of ms)
items_plain [] h = (tt, tt)
items_plain (m ∷ ms) h = all_map (λ m. IsPlain m.tok.kind) PlainItem Operand (m ∷ ms) h (λ m k. k)

without_plain : (items : List Item) → PlainItems items → PlainMarked (without_placemarkers items)
without_plain [] h = tt
without_plain (Placemarker ∷ items) h = without_plain items h.1
without_plain (Operand m ∷ items) h = (h.0, without_plain items h.1)
without_plain (Paste m ∷ items) h = (h.0, without_plain items h.1)

paste_plain : (left right : Tok) → OnSome PlainTok (paste left right)
unfolding paste
paste_plain left right =
    let s = left.text ++ right.text in some_if PlainTok (is_one_token s) (Some (record left { kind = kind_of s; text = s })) None (kind_plain s) tt

join_marked_plain : (left right : Marked) → OnSome PlainItem (join_marked left right)
join_marked_plain left right = some_map PlainTok PlainItem _ (paste left.tok right.tok) (paste_plain left.tok right.tok) (λ t k. k)

join_plain : (x y : Item) → PlainItem x → PlainItem y → OnSome PlainItem (join x y)
join_plain Placemarker Placemarker h k = tt
join_plain Placemarker (Operand m) h k = k
join_plain Placemarker (Paste m) h k = k
join_plain (Operand m) Placemarker h k = h
join_plain (Operand m) (Operand n) h k = join_marked_plain m n
join_plain (Operand m) (Paste n) h k = join_marked_plain m n
join_plain (Paste m) Placemarker h k = h
join_plain (Paste m) (Operand n) h k = join_marked_plain m n
join_plain (Paste m) (Paste n) h k = join_marked_plain m n

onto_plain : (x : Item) (items : List Item) → PlainItem x → PlainItems items → OnSome PlainItems (joined_onto x items)
onto_plain x [] h k = (h, tt)
onto_plain x (Paste m ∷ []) h k = (h, tt)
onto_plain x (Paste m ∷ y ∷ items) h k = some_then PlainItem PlainItems (λ z. joined_onto z items) (join x y) (join_plain x y h k.1.0) (λ z p. onto_plain z items p k.1.1)
onto_plain x (Placemarker ∷ items) h k = some_map PlainItems PlainItems (x ∷◌) (joined_onto Placemarker items) (onto_plain Placemarker items tt k.1) (λ xs p. (h, p))
onto_plain x (Operand m ∷ items) h k = some_map PlainItems PlainItems (x ∷◌) (joined_onto (Operand m) items) (onto_plain (Operand m) items k.0 k.1) (λ xs p. (h, p))

joined_plain : (items : List Item) → PlainItems items → OnSome PlainItems (joined items)
joined_plain [] h = tt
joined_plain (x ∷ items) h = onto_plain x items h.0 h.1

string_plain : (c : Call) (t : Tok) (ts : List Tok) → OnSome PlainItems (string_of c t ts)
string_plain c t ts =
    let text = 34 ∷ shown_tokens ts ++ 34 ∷ [] in
    some_if PlainItems (is_str text) (Some (Operand (own c (record t { kind = Str; text = text })) ∷ [])) None (refl, tt) tt

-- ## Parts of a replacement list

abbrev pub PlainArg : Arg → Type 0
PlainArg a = PlainMarked a.written × PlainMarked a.replaced

abbrev pub PlainCall : Call → Type 0
PlainCall c = (name : List ℕ) → OnSome PlainArg (c.arg name)

abbrev PlainPart : Part → Type 0
PlainPart p = PlainItems p.items × PlainToks p.after

module _ (c : Call) (args : PlainCall c) where
  at_plain : (t : Tok) → OnSome PlainArg (arg_at c t)
  at_plain t = some_if PlainArg (is_of Ident t) (c.arg t.text) None (args t.text) tt

  given_plain : (t : Tok) (a : Arg) (next : Bool) → PlainArg a → PlainItems (given t a next)
  given_plain t a next h =
      items_plain (first_spaced t.space (if next then a.written else a.replaced))
      (first_plain t.space (if next then a.written else a.replaced) (all_if (λ m. IsPlain m.tok.kind) next a.written a.replaced h.0 h.1))

  string_part_plain : (t : Tok) (after : List Tok) (a : Option Arg) → PlainTok t → PlainToks after → OnSome PlainPart (string_part c t after a)
  string_part_plain t after None h k = ((h, tt), k)
  string_part_plain t after (Some a) h k =
      some_map PlainItems PlainPart (λ items. part items after) (string_of c t (toks a.written)) (string_plain c t (toks a.written)) (λ items p. (p, k))

  plain_part_plain : (pasted : Bool) (t : Tok) (after : List Tok) (a : Option Arg) → OnSome PlainArg a → PlainTok t → PlainToks after → PlainPart (plain_part c pasted t after a)
  plain_part_plain pasted t after None j h k = ((h, tt), k)
  plain_part_plain pasted t after (Some a) j h k = (given_plain t a (pasted || begins_with is_paste after) j, k)

  comma_items_plain : (t v : Tok) (a : Arg) (next : Bool) → PlainTok t → PlainArg a → PlainItems (comma_items c t v a next)
  comma_items_plain t v a next h j = all_if PlainItem (length a.written == 0) (Placemarker ∷ []) (Operand (own c t) ∷ given v a next) (tt, tt) (h, given_plain v a next j)

  comma_part_plain : (t : Tok) (after : List Tok) → PlainTok t → PlainToks after → OnSome PlainPart (comma_part c t after)
  comma_part_plain t [] h k = tt
  comma_part_plain t (p ∷ []) h k = tt
  comma_part_plain t (p ∷ v ∷ after) h k =
      some_if PlainPart (is_comma t && is_paste p && is_variable c v) _ None
      (some_map PlainArg PlainPart (λ a. part (comma_items c t v a (begins_with is_paste after)) after) (c.arg v.text) (args v.text)
      (λ a j. (comma_items_plain t v a (begins_with is_paste after) h j, k.1.1))) tt

  module _ (inner : List Tok → Option (List Item)) (inside : (ts : List Tok) → PlainToks ts → OnSome PlainItems (inner ts)) where
    opt_items_plain : (content : Option (List Item)) → OnSome PlainItems content → OnSome PlainItems (opt_items c content)
    opt_items_plain content h = some_if PlainItems (has_variable c) content (Some (Placemarker ∷ [])) h (tt, tt)

    or_plain : (items : List Item) → PlainItems items → PlainItems (or_placemarker items)
    or_plain [] h = (tt, tt)
    or_plain (x ∷ items) h = h

    string_opt_plain : (t : Tok) (e : Option (Enclosed Tok)) → OnSome (InAndAfter PlainTok) e → OnSome PlainPart (string_opt_part c inner t e)
    string_opt_plain t None h = (tt, tt)
    string_opt_plain t (Some e) h =
        some_map PlainItems PlainPart (λ items. part items e.after) _
        (some_then PlainItems PlainItems (λ items. string_of c t (toks (without_placemarkers items))) (opt_items c (inner e.inside))
        (opt_items_plain (inner e.inside) (inside e.inside h.0)) (λ items p. string_plain c t (toks (without_placemarkers items))))
        (λ items p. (p, h.1))

    opt_part_plain : (t : Tok) (e : Option (Enclosed Tok)) → OnSome (InAndAfter PlainTok) e → OnSome PlainPart (opt_part c inner t e)
    opt_part_plain t None h = (tt, tt)
    opt_part_plain t (Some e) h =
        some_map PlainItems PlainPart (λ items. part (first_item_spaced t.space (or_placemarker items)) e.after) (opt_items c (inner e.inside))
        (opt_items_plain (inner e.inside) (inside e.inside h.0)) (λ items p. (first_item_plain t.space (or_placemarker items) (or_plain items p), h.1))

    hash_part_plain : (t : Tok) (after : List Tok) → PlainTok t → PlainToks after → OnSome PlainPart (hash_part c inner t after)
    hash_part_plain t [] h k = ((h, tt), tt)
    hash_part_plain t (u ∷ after) h k =
        some_if PlainPart (is_some (arg_at c u)) (string_part c t after (arg_at c u)) _ (string_part_plain t after (arg_at c u) h k.1)
        (some_if PlainPart (is_some c.variadic && is_opt u) (string_opt_part c inner t (in_parens (λ t. t) after)) (Some (part (Operand (own c t) ∷ []) (u ∷ after)))
        (string_opt_plain t (in_parens (λ t. t) after) (all_in_parens PlainTok (λ t. t) after k.1)) ((h, tt), k))

    one_plain : (pasted : Bool) (t : Tok) (after : List Tok) → PlainTok t → PlainToks after → OnSome PlainPart (one_part c inner pasted t after)
    one_plain pasted t after h k =
        some_if PlainPart (c.function && is_hash t) (hash_part c inner t after) _ (hash_part_plain t after h k)
        (some_if PlainPart (is_paste t) (Some (record { items = Paste (own c t) ∷ []; pasted = true; after = after })) _ ((h, tt), k)
        (some_if PlainPart (is_some (comma_part c t after)) (comma_part c t after) _ (comma_part_plain t after h k)
        (some_if PlainPart (is_some c.variadic && is_opt t) (opt_part c inner t (in_parens (λ t. t) after)) (Some (plain_part c pasted t after (arg_at c t)))
        (opt_part_plain t (in_parens (λ t. t) after) (all_in_parens PlainTok (λ t. t) after k))
        (plain_part_plain pasted t after (arg_at c t) (at_plain t) h k))))

  up_to_plain : (n : ℕ) (pasted : Bool) (ts : List Tok) → PlainToks ts → OnSome PlainItems (items_up_to n c pasted ts)
  up_to_plain zero pasted ts h = tt
  up_to_plain (suc n) pasted [] h = tt
  up_to_plain (suc n) pasted (t ∷ ts) h =
      some_then PlainPart PlainItems (λ p. option_map (p.items ++◌) (items_up_to n c p.pasted p.after))
      (one_part c (λ content. option_and_then joined (items_up_to n c false content)) pasted t ts)
      (one_plain (λ content. option_and_then joined (items_up_to n c false content))
      (λ content k. some_then PlainItems PlainItems joined (items_up_to n c false content) (up_to_plain n false content k) joined_plain) pasted t ts h.0 h.1)
      (λ p k. some_map PlainItems PlainItems (p.items ++◌) (items_up_to n c p.pasted p.after) (up_to_plain n p.pasted p.after k.1) (λ items j. all_append PlainItem p.items items k.0 j))

pub subst_plain : (c : Call) (space : Bool) (body : List Tok) → PlainCall c → PlainToks body → OnSome PlainMarked (subst c space body)
unfolding subst
subst_plain c space body args h =
    some_map PlainItems PlainMarked (λ items. first_spaced space (without_placemarkers items)) (option_and_then joined (items_up_to (length body) c false body))
    (some_then PlainItems PlainItems joined (items_up_to (length body) c false body) (up_to_plain c args (length body) false body h) joined_plain)
    (λ items k. first_plain space (without_placemarkers items) (without_plain items k))
