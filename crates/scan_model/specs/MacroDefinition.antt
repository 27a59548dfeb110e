-- What the tokens after `define` define ([cpp.replace]).
use Rattle.std.specs.Prelude.{ℕ, Bool, true, false, not, ◌&&◌, ◌||◌, if◌then◌else◌, List, [], ◌∷◌, ◌++◌, Option, Some, None, is_some, codes}
use Rattle.std.specs.Option.{option_map, option_map_or, option_to_list, option_and_then}
use Rattle.std.specs.List.{list_any}
use Rattle.scan_model.specs.declared.token.Kind.TheVariants.{Ident}
use Rattle.scan_model.specs.declared.token.Tok.{Tok}
use Rattle.scan_model.specs.declared.macros.Def.{Def}
use Rattle.scan_model.specs.declared.macros.Def.TheVariants.{Object, Function}
use Rattle.scan_model.specs.Spelling.{is_one_of}
use Rattle.scan_model.specs.TokenTests.{is_of, is_among, is_word, is_sign, is_hash, is_paste, is_comma, is_open_paren, is_close_paren, begins_with, ends_with}
use Rattle.scan_model.specs.Parentheses.{in_parens}

-- ## The parameter list

-- the parameters, the name of the variable part, and what follows the `)`
pub record Head : Type 0 where
  pub params : List (List ℕ)
  pub variadic : Option (List ℕ)
  pub body : List Tok

abbrev pub with_param : List ℕ → Head → Head
with_param name h = record h { params = name ∷ h.params }

-- the end of a list whose last is the variable part
abbrev pub variadic_head : List ℕ → List Tok → Option Head
variadic_head name [] = None
variadic_head name (t ∷ ts) = if is_close_paren t then Some (record { params = []; variadic = Some name; body = ts }) else None

-- what stands after the `(` or a comma of the list
abbrev pub more_params : List Tok → Option Head
more_params [] = None
more_params (t ∷ []) = None
more_params (t ∷ u ∷ ts) =
    let more = option_map (with_param t.text) (more_params ts) in
    if is_sign ("..." ∷ []) t then variadic_head (codes "__VA_ARGS__") (u ∷ ts)
    else if not (is_of Ident t) then None
    else if is_close_paren u then Some (record { params = t.text ∷ []; variadic = None; body = ts })
    else if is_sign ("..." ∷ []) u then variadic_head t.text ts
    else if is_comma u then more
    else None

-- what stands after the `(`
abbrev pub head : List Tok → Option Head
head [] = None
head (t ∷ ts) = let more = more_params (t ∷ ts) in
    if is_close_paren t then Some (record { params = []; variadic = None; body = ts }) else more

-- the parameters, and last the name of the variable part
abbrev pub all_params : List (List ℕ) → Option (List ℕ) → List (List ℕ)
all_params params variadic = params ++ option_to_list variadic

abbrev pub are_distinct : List (List ℕ) → Bool
are_distinct [] = true
are_distinct (s ∷ ss) = not (is_among ss s) && are_distinct ss

-- ## The replacement list

-- no `##` begins or ends it
abbrev pub has_operands : List Tok → Bool
has_operands ts = not (begins_with is_paste ts || ends_with is_paste ts)

-- each `#` stands before what it may make a string of
abbrev pub hashes_fit : (Tok → Bool) → List Tok → Bool
hashes_fit is_operand [] = true
hashes_fit is_operand (t ∷ ts) = (not (is_hash t) || begins_with is_operand ts) && hashes_fit is_operand ts

abbrev pub is_opt : Tok → Bool
is_opt t = is_word "__VA_OPT__" t

-- what follows `__VA_OPT__`
abbrev pub opt_fits : List Tok → Bool
opt_fits ts = option_map_or (λ e. has_operands e.inside && not (list_any is_opt e.inside)) (in_parens (λ t. t) ts) false

abbrev pub opts_fit : List Tok → Bool
opts_fit [] = true
opts_fit (t ∷ ts) = (not (is_opt t) || opt_fits ts) && opts_fit ts

abbrev pub is_param : List (List ℕ) → Tok → Bool
is_param names t = is_of Ident t && is_among names t.text

-- of a list with the variable part, and of one without
abbrev pub body_fits : List (List ℕ) → Bool → List Tok → Bool
body_fits names true ts = hashes_fit (λ t. is_param names t || is_opt t) ts && opts_fit ts && not (is_among names (codes "__VA_OPT__"))
body_fits names false ts = hashes_fit (is_param names) ts

abbrev pub function_def : Head → Option Def
function_def h =
    let names = all_params h.params h.variadic in
    if are_distinct names && has_operands h.body && body_fits names (is_some h.variadic) h.body
    then Some (Function (record { params = h.params; variadic = h.variadic; body = h.body })) else None

-- ## The whole

-- what follows the name: a `(` with no space before it makes a function-like macro
abbrev pub object_def : List Tok → Option Def
object_def ts = if has_operands ts then Some (Object ts) else None

abbrev pub def_of : List Tok → Option Def
def_of [] = object_def []
def_of (t ∷ ts) =
    let function = option_and_then function_def (head ts) in
    if is_open_paren t && not t.space then function else object_def (t ∷ ts)

-- no macro may have this name
abbrev pub is_forbidden : List ℕ → Bool
is_forbidden name = is_one_of ("defined" ∷ "__has_include" ∷ "__has_include_next" ∷ "__has_cpp_attribute" ∷ "__VA_ARGS__" ∷ "__VA_OPT__" ∷ []) name

-- the name and its definition, or none for a bad one
unfoldable pub read_define : List Tok → Option (List ℕ × Def)
read_define [] = None
read_define (t ∷ ts) = let defined = option_map (λ def. (t.text, def)) (def_of ts) in
    if is_of Ident t && not (is_forbidden t.text) then defined else None
