-- Macros whose identifiers are well-formed UTF-8 ([cpp.replace]).
use Rattle.std.proofs.Common.{◌≡◌, ℕ, Bool, true, false, cond, List, [], ◌∷◌, refl, sym, ap, ◌∙◌, subst}
use Rattle.std.specs.Prelude.{⊤, Option, Some, None, Result, Ok, Err, OnOk, OnErr, IfSome, IsTrue, All, not, ◌&&◌, codes, is_some}
use Rattle.std.specs.Option.{option_map, option_and_then}
use Rattle.std.specs.List.{AllByRecursion}
use Rattle.std.proofs.lemmas.List.Elements.{All-nil, All-cons, All-head, All-tail}
use Rattle.std.proofs.Math.Logic.{∥∥₁_map, ∥∥₁_prop}
use Rattle.scan_model.specs.declared.memory.NoMemory.{NoMemory}
use Rattle.scan_model.specs.declared.token.Kind.TheVariants.{Ident, Number}
use Rattle.scan_model.specs.declared.token.Tok.{Tok}
use Rattle.scan_model.specs.declared.macros.Def.{Def}
use Rattle.scan_model.specs.declared.macros.Def.TheVariants.{Object, Function, BuiltIn as Known}
use Rattle.scan_model.specs.declared.macros.BuiltIn.TheVariants as BuiltInIs
use Rattle.scan_model.specs.declared.command.Dialect.{Dialect}
use Rattle.scan_model.specs.declared.command.Dialect.TheVariants.{Cxx20, Cxx23}
use Rattle.scan_model.specs.Spelling.{spells}
use Rattle.scan_model.specs.TokenTests.{same, is_of, is_sign, is_comma, is_open_paren, is_close_paren}
use Rattle.scan_model.specs.MacroDefinition.{Head, with_param, variadic_head, more_params, head, all_params, are_distinct, has_operands, body_fits, function_def, object_def, def_of, is_forbidden, read_define}
use Rattle.scan_model.specs.Macros.{Macros, put, built_in, built_ins, define, undef, push, pop, restored, cplusplus_23, first_macros}
use Rattle.scan_model.specs.Utf8Names.{HasUtf8Name, HaveUtf8Names}
use Rattle.replaced_names.specs.Names.{HasUtf8Body, HaveUtf8Bodies, IsUtf8Map}
use Rattle.macro_table.specs.Table.{SlotView, macros_of}
use Rattle.macro_table.specs.Definition.{is_replacement, IsDefinition}
use Rattle.plain_lines.specs.declared.state.UnitState.{UnitState}
use Rattle.replaced_names.proofs.Lists.{never, Good, good_of, names_of, if_cond, if_map, if_then}

-- ## Changes of the map

put_at : {X : Type 0} (P : X → Type 0) (f : List ℕ → X) (name : List ℕ) (x : X) → P x → ((other : List ℕ) → P (f other)) → (other : List ℕ) → P (put f name x other)
put_at P f name x here all other = by (same name other) where
  by : (b : Bool) → P (cond b x (f other))
  by true = here
  by false = all other

abbrev MayHave : Option Def → Type 0
MayHave def = IfSome def HasUtf8Body

abbrev MaySave : List (Option Def) → Type 0
MaySave defs = All MayHave defs

pub utf8-define : (m : Macros) (name : List ℕ) (def : Def) → HasUtf8Body def → IsUtf8Map m → IsUtf8Map (define m name def)
utf8-define m name def body h = record { current = put_at MayHave m.defs name (Some def) body h.current; saved = h.saved }

pub utf8-undef : (m : Macros) (name : List ℕ) → IsUtf8Map m → IsUtf8Map (undef m name)
utf8-undef m name h = record { current = put_at MayHave m.defs name None tt h.current; saved = h.saved }

pub utf8-push : (m : Macros) (name : List ℕ) → IsUtf8Map m → IsUtf8Map (push m name)
utf8-push m name h = record {
  current = h.current;
  saved = put_at MaySave m.saved name (m.defs name ∷ m.saved name) (All-cons MayHave (m.defs name) (m.saved name) (h.current name) (h.saved name)) h.saved;
}

utf8-restored : (m : Macros) (name : List ℕ) (defs : List (Option Def)) → MaySave defs → IsUtf8Map m → IsUtf8Map (restored m name defs)
utf8-restored m name [] all h = h
utf8-restored m name (def ∷ defs) all h = record {
  current = put_at MayHave m.defs name def (All-head MayHave def defs all) h.current;
  saved = put_at MaySave m.saved name defs (All-tail MayHave def defs all) h.saved;
}

pub utf8-pop : (m : Macros) (name : List ℕ) → IsUtf8Map m → IsUtf8Map (pop m name)
utf8-pop m name h = utf8-restored m name (m.saved name) (h.saved name) h

-- ## What `#define` reads

abbrev GoodHead : Head → Type 0
GoodHead h = Good h.body

variadic_head_good : (name : List ℕ) (ts : List Tok) → Good ts → IfSome (variadic_head name ts) GoodHead
variadic_head_good name [] h = tt
variadic_head_good name (t ∷ ts) h = if_cond GoodHead (is_close_paren t) (Some (record { params = []; variadic = Some name; body = ts })) None h.1 tt

more_params_good : (ts : List Tok) → Good ts → IfSome (more_params ts) GoodHead
more_params_good [] h = tt
more_params_good (t ∷ []) h = tt
more_params_good (t ∷ u ∷ ts) h =
    let more = option_map (with_param t.text) (more_params ts) in
    let last = Some (record { params = t.text ∷ []; variadic = None; body = ts }) in
    let on_comma = cond (is_comma u) more None in
    let on_dots = cond (is_sign ("..." ∷ []) u) (variadic_head t.text ts) on_comma in
    let on_close = cond (is_close_paren u) last on_dots in
    if_cond GoodHead (is_sign ("..." ∷ []) t) (variadic_head (codes "__VA_ARGS__") (u ∷ ts)) (cond (not (is_of Ident t)) None on_close) (variadic_head_good (codes "__VA_ARGS__") (u ∷ ts) h.1)
    (if_cond GoodHead (not (is_of Ident t)) None on_close tt
    (if_cond GoodHead (is_close_paren u) last on_dots h.1.1
    (if_cond GoodHead (is_sign ("..." ∷ []) u) (variadic_head t.text ts) on_comma (variadic_head_good t.text ts h.1.1)
    (if_cond GoodHead (is_comma u) more None (if_map GoodHead GoodHead (with_param t.text) (more_params ts) (λ x g. g) (more_params_good ts h.1.1)) tt))))

head_good : (ts : List Tok) → Good ts → IfSome (head ts) GoodHead
head_good [] h = tt
head_good (t ∷ ts) h = if_cond GoodHead (is_close_paren t) (Some (record { params = []; variadic = None; body = ts })) (more_params (t ∷ ts)) h.1 (more_params_good (t ∷ ts) h)

function_def_good : (x : Head) → Good x.body → IfSome (function_def x) HasUtf8Body
function_def_good x h =
    let names = all_params x.params x.variadic in
    if_cond HasUtf8Body (are_distinct names && has_operands x.body && body_fits names (is_some x.variadic) x.body) (Some (Function (record { params = x.params; variadic = x.variadic; body = x.body }))) None (names_of x.body h) tt

object_def_good : (ts : List Tok) → Good ts → IfSome (object_def ts) HasUtf8Body
object_def_good ts h = if_cond HasUtf8Body (has_operands ts) (Some (Object ts)) None (names_of ts h) tt

def_of_good : (ts : List Tok) → Good ts → IfSome (def_of ts) HasUtf8Body
def_of_good [] h = object_def_good [] h
def_of_good (t ∷ ts) h =
    if_cond HasUtf8Body (is_open_paren t && not t.space) (option_and_then function_def (head ts)) (object_def (t ∷ ts))
    (if_then GoodHead HasUtf8Body function_def (head ts) (λ x g. function_def_good x g) (head_good ts h.1)) (object_def_good (t ∷ ts) h)

pub read_define_good : (ts : List Tok) → HaveUtf8Names ts → IfSome (read_define ts) (λ d. HasUtf8Body d.1)
unfolding read_define
read_define_good [] h = tt
read_define_good (t ∷ ts) h =
    let P = λ (d : List ℕ × Def). HasUtf8Body d.1 in
    if_cond P (is_of Ident t && not (is_forbidden t.text)) (option_map (λ def. (t.text, def)) (def_of ts)) None
    (if_map HasUtf8Body P (λ def. (t.text, def)) (def_of ts) (λ x g. g) (def_of_good ts (good_of (t ∷ ts) h).1)) tt

-- what the code's `read_define` gives
pub defined_good : (ts : List Tok) (name : List ℕ) (def : Def) → HaveUtf8Names ts → Some (name, def) ≡ read_define ts → HasUtf8Body def
defined_good ts name def h e = subst (λ (o : Option (List ℕ × Def)). IfSome o (λ d. HasUtf8Body d.1)) (sym e) (read_define_good ts h)

-- ## The map that a unit begins with

chain_good : (a b d e f g h i j : Bool) → IfSome (cond a (Some (Known BuiltInIs.File)) (cond b (Some (Known BuiltInIs.Line)) (cond d (Some (Known BuiltInIs.Date)) (cond e (Some (Known BuiltInIs.Time)) (cond f (Some (Known BuiltInIs.Counter)) (cond g (Some (Known BuiltInIs.Cplusplus)) (cond h (Some (Known BuiltInIs.HasInclude)) (cond i (Some (Known BuiltInIs.HasIncludeNext)) (cond j (Some (Known BuiltInIs.HasAttribute)) None))))))))) HasUtf8Body
chain_good true b d e f g h i j = tt
chain_good false true d e f g h i j = tt
chain_good false false true e f g h i j = tt
chain_good false false false true f g h i j = tt
chain_good false false false false true g h i j = tt
chain_good false false false false false true h i j = tt
chain_good false false false false false false true i j = tt
chain_good false false false false false false false true j = tt
chain_good false false false false false false false false true = tt
chain_good false false false false false false false false false = tt

built_in_good : (name : List ℕ) → IfSome (built_in name) HasUtf8Body
built_in_good name =
    chain_good (spells "__FILE__" name) (spells "__LINE__" name) (spells "__DATE__" name) (spells "__TIME__" name) (spells "__COUNTER__" name) (spells "__cplusplus" name) (spells "__has_include" name) (spells "__has_include_next" name) (spells "__has_cpp_attribute" name)

number_good : HasUtf8Body cplusplus_23
number_good = let toks : List Tok = record { kind = Number; text = codes "202302L"; space = false; line = 0 } ∷ [] in let h : Good toks = ((λ h. never h), tt) in names_of toks h

pub utf8-first : (dialect : Dialect) → IsUtf8Map (first_macros dialect)
unfolding built_ins
utf8-first Cxx20 = record { current = built_in_good; saved = λ name. All-nil MayHave }
utf8-first Cxx23 = record { current = put_at MayHave built_in (codes "__cplusplus") (Some cplusplus_23) number_good built_in_good; saved = λ name. All-nil MayHave }

-- what C++23 defines may be defined
pub fits_23 : (name : List ℕ) (def : Def) → name ≡ codes "__cplusplus" → def ≡ cplusplus_23 → IsDefinition name def
unfolding IsDefinition
fits_23 name def e f =
    let here : IsTrue (not (is_forbidden (codes "__cplusplus")) && is_replacement cplusplus_23) = refl in
    subst (λ n. IsTrue (not (is_forbidden n) && is_replacement def)) (sym e) (subst (λ d. IsTrue (not (is_forbidden (codes "__cplusplus")) && is_replacement d)) (sym f) here)

-- ## The state of a unit

-- a change that may lack memory
pub utf8-changed : {X : Type 0} (r : Result X NoMemory) (old new : List (List ℕ × SlotView)) (m : Macros) → ∥ IsUtf8Map (macros_of old) ∥₁ → (IsUtf8Map (macros_of old) → IsUtf8Map m) →
    OnOk r (macros_of new ≡ m) → OnErr r (new ≡ old) → ∥ IsUtf8Map (macros_of new) ∥₁
utf8-changed (Ok x) old new m utf8 step ok err = ∥∥₁_map utf8 (λ (h : IsUtf8Map (macros_of old)). subst IsUtf8Map (sym ok) (step h))
utf8-changed (Err e) old new m utf8 step ok err = subst (λ t. ∥ IsUtf8Map (macros_of t) ∥₁) (sym err) utf8

pub utf8-changes : (old new : List (List ℕ × SlotView)) (m : Macros) → ∥ IsUtf8Map (macros_of old) ∥₁ → (IsUtf8Map (macros_of old) → IsUtf8Map m) → macros_of new ≡ m → ∥ IsUtf8Map (macros_of new) ∥₁
utf8-changes old new m utf8 step e = ∥∥₁_map utf8 (λ (h : IsUtf8Map (macros_of old)). subst IsUtf8Map (sym e) (step h))

pub utf8-begins : (new : List (List ℕ × SlotView)) (dialect : Dialect) → macros_of new ≡ first_macros dialect → ∥ IsUtf8Map (macros_of new) ∥₁
utf8-begins new dialect e = ∣ subst IsUtf8Map (sym e) (utf8-first dialect) ∣₁

-- a unit whose macros are the same is the same
pub unit_stays : {X E : Type 0} (r : Result X E) (unit : UnitState) (macros : List (List ℕ × SlotView)) (utf8 : ∥ IsUtf8Map (macros_of macros) ∥₁) → macros ≡ unit.macros
    → OnErr r (◌≡◌ {A = UnitState} (record { macros = macros; once = unit.once; builder = unit.builder; utf8 = utf8 }) unit)
unit_stays (Ok x) unit macros utf8 e = tt
unit_stays (Err x) unit macros utf8 e =
    subst (λ (m : List (List ℕ × SlotView)). (u : ∥ IsUtf8Map (macros_of m) ∥₁) → ◌≡◌ {A = UnitState} (record { macros = m; once = unit.once; builder = unit.builder; utf8 = u }) unit) (sym e)
    (λ u. ap (λ (v : ∥ IsUtf8Map (macros_of unit.macros) ∥₁). let made : UnitState = record { macros = unit.macros; once = unit.once; builder = unit.builder; utf8 = v } in made) (∥∥₁_prop u unit.utf8)) utf8
