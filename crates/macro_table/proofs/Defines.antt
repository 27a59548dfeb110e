-- What the tokens after `define` define, step by step.
use Rattle.std.proofs.Common.{◌≡◌, ℕ, Bool, true, false, List, [], ◌∷◌, ◌-◌, length, take, drop, get_or, slice_get, arith, length-drop, refl, sym, ap, ◌∙◌}
use Rattle.std.specs.Prelude.{Option, Some, None, not, ◌&&◌, if◌then◌else◌, is_some}
use Rattle.std.specs.Option.{option_map, option_and_then}
use Rattle.std.specs.Borrow.{Bor}
use Rattle.scan_model.specs.declared.token.Tok.{Tok}
use Rattle.scan_model.specs.declared.macros.Def.{Def}
use Rattle.scan_model.specs.declared.macros.Def.TheVariants.{Object, Function}
use Rattle.scan_model.specs.TokenTests.{begins_with, is_among, is_of, is_open_paren}
use Rattle.scan_model.specs.declared.token.Kind.TheVariants.{Ident}
use Rattle.scan_model.specs.MacroDefinition.{Head, head, all_params, are_distinct, has_operands, body_fits, object_def, function_def, def_of, read_define, is_forbidden}
use Rattle.macro_table.specs.Names.{has_name, fits_by}
use Rattle.macro_table.specs.Definition.{is_function, is_replacement, is_name, IsDefinition}
use Rattle.std.proofs.lemmas.Bool.{and_parts}
use Rattle.std.proofs.lemmas.List.{take_all}
use Rattle.macro_table.specs.Heads.{text}

-- ## A function-like macro

by_names : (names : List (List ℕ)) (is_variadic : Bool) (body : List Tok) → fits_by (is_among names) is_variadic body ≡ body_fits names is_variadic body
by_names names true body = refl
by_names names false body = refl

pub is_function-by_set : (keys : List (Bor (List ℕ))) (names params : List (List ℕ)) (variadic : Option (List ℕ)) (body : List Tok) → names ≡ all_params params variadic
    → true ≡ are_distinct names → has_name keys ≡ is_among names → true ≡ has_operands body → fits_by (has_name keys) (is_some variadic) body ≡ is_function params variadic body
is_function-by_set keys names params variadic body all distinct same operands =
    let v = is_some variadic in
    ap (λ has. fits_by has v body) same ∙ by_names names v body
    ∙ ap (λ b. true && b && body_fits names v body) operands
    ∙ ap (λ b. b && has_operands body && body_fits names v body) distinct
    ∙ ap (λ ns. are_distinct ns && has_operands body && body_fits ns v body) all

pub is_some-text : (name : Option (Bor (List ℕ))) → is_some name ≡ is_some (text name)
is_some-text None = refl
is_some-text (Some name) = refl

pub is_function-no_operands : (params : List (List ℕ)) (variadic : Option (List ℕ)) (body : List Tok) → false ≡ has_operands body → false ≡ is_function params variadic body
is_function-no_operands params variadic body none = rw (← none) (none_fit (are_distinct (all_params params variadic)) (body_fits (all_params params variadic) (is_some variadic) body)) where
  none_fit : (a b : Bool) → false ≡ (a && false && b)
  none_fit true b = refl
  none_fit false b = refl

-- ## The name

pub read_define-refused : (ts : List Tok) → false ≡ begins_with is_name ts → None ≡ read_define ts
unfolding read_define
read_define-refused [] e = refl
read_define-refused (t ∷ ts) e = rw (← e) refl

pub read_define-named : (ts : List Tok) (d : Tok) → true ≡ begins_with is_name ts → option_map (λ def. ((get_or ts 0 d).text, def)) (def_of (drop 1 ts)) ≡ read_define ts
unfolding read_define
read_define-named [] d e = cc
read_define-named (t ∷ ts) d e = rw (← e) refl

pub read_define-undefined : (ts : List Tok) → true ≡ begins_with is_name ts → None ≡ def_of (drop 1 ts) → None ≡ read_define ts
unfolding read_define
read_define-undefined [] e none = cc
read_define-undefined (t ∷ ts) e none = rw (← e) (ap (option_map (λ (def : Def). (t.text, def))) none)

-- what stands after the name
pub rest_is : (ts : List Tok) → take (length ts - 1) (drop 1 ts) ≡ drop 1 ts
rest_is ts = take_all (length ts - 1) (drop 1 ts) (omega (arith, length-drop 1 ts))

-- ## What is read goes by the rules

chosen : (b : Bool) (d def : Def) → (if b then Some d else None) ≡ Some def → is_replacement d ≡ b → is_replacement def ≡ true
chosen true d def e r = let same : d ≡ def = cc in ap is_replacement (sym same) ∙ r
chosen false d def e r = cc

def_of-function : (h : Option Head) (def : Def) → option_and_then function_def h ≡ Some def → is_replacement def ≡ true
def_of-function None def e = cc
def_of-function (Some h) def e = chosen (is_function h.params h.variadic h.body) (Function (record { params = h.params; variadic = h.variadic; body = h.body })) def e refl

def_of-object : (ts : List Tok) (def : Def) → object_def ts ≡ Some def → is_replacement def ≡ true
def_of-object ts def e = chosen (has_operands ts) (Object ts) def e refl

one_of : (b : Bool) (o p : Option Def) (def : Def) → (o ≡ Some def → is_replacement def ≡ true) → (p ≡ Some def → is_replacement def ≡ true) → (if b then o else p) ≡ Some def → is_replacement def ≡ true
one_of true o p def f g e = f e
one_of false o p def f g e = g e

def_of-replacement : (ts : List Tok) (def : Def) → def_of ts ≡ Some def → is_replacement def ≡ true
def_of-replacement [] def e = def_of-object [] def e
def_of-replacement (t ∷ ts) def e = one_of (is_open_paren t && not t.space) _ _ def (def_of-function (head ts) def) (def_of-object (t ∷ ts) def) e

pub IsDefinition-read : (ts : List Tok) (name : List ℕ) (def : Def) (d : Tok) → true ≡ begins_with is_name ts → name ≡ (get_or ts 0 d).text → def_of (drop 1 ts) ≡ Some def → IsDefinition name def
unfolding IsDefinition
IsDefinition-read [] name def d begins is e = cc
IsDefinition-read (t ∷ ts) name def d begins is e =
    let free = (and_parts (is_of Ident t) (not (is_forbidden t.text)) (sym begins)).1 in
    rw is (ap (λ b. b && is_replacement def) free ∙ def_of-replacement ts def e)

-- ## What a definition that is read has

abbrev with_name : List ℕ → Def → List ℕ × Def
with_name s def = (s, def)

named_as : (s name : List ℕ) (def : Def) (o : Option Def) → option_map (with_name s) o ≡ Some (name, def) → (s ≡ name) × (o ≡ Some def)
named_as s name def None e = cc
named_as s name def (Some d) e = let pair : with_name s d ≡ with_name name def = cc in (ap (λ (p : List ℕ × Def). p.0) pair, ap (λ (p : List ℕ × Def). Some p.1) pair)

-- it goes by the rules, and its name is spelled as the first token
pub read_define-gives : (ts : List Tok) (name : List ℕ) (def : Def) → read_define ts ≡ Some (name, def) → IsDefinition name def × (option_map (λ (t : Tok). t.text) (slice_get ts 0) ≡ Some name)
unfolding read_define
read_define-gives [] name def e = cc
read_define-gives (t ∷ ts) name def e = by (is_name t) refl e where
  by : (b : Bool) → is_name t ≡ b → (if b then option_map (with_name t.text) (def_of ts) else None) ≡ Some (name, def)
      → IsDefinition name def × (option_map (λ (t : Tok). t.text) (slice_get (t ∷ ts) 0) ≡ Some name)
  by true begins e = let both = named_as t.text name def (def_of ts) e in (IsDefinition-read (t ∷ ts) name def t (sym begins) (sym both.0) both.1, ap Some both.0)
  by false begins e = cc
