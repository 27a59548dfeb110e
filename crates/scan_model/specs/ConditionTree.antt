-- The syntax tree that the grammar of conditions gives for tokens ([cpp.cond], [expr]).
use Rattle.std.specs.Prelude.{ℕ, zero, suc, ◌+◌, false, not, ◌&&◌, ◌||◌, ◌==◌, if◌then◌else◌, List, [], ◌∷◌, length, Option, Some, None}
use Rattle.std.specs.Option.{option_map, option_and_then}
use Prim.Native.String.{String}
use Rattle.scan_model.specs.declared.token.Kind.TheVariants.{Ident, Number, Char}
use Rattle.scan_model.specs.declared.token.Tok.{Tok}
use Rattle.scan_model.specs.declared.condition.CondValue.{CondValue}
use Rattle.scan_model.specs.Spelling.{spells}
use Rattle.scan_model.specs.TokenTests.{is_of, is_word, is_sign, is_open_paren, is_close_paren}
use Rattle.scan_model.specs.HeaderName.{is_has}
use Rattle.scan_model.specs.Literals.{integer, char_value}

-- ## The syntax tree

pub data Binary : Type 0 where
  OrElse AndAlso BitOr BitXor BitAnd Equal Unequal Less Greater AtMost AtLeast ShiftLeft ShiftRight Plus Minus Times Over Modulo : Binary

pub data Unary : Type 0 where
  Not Complement Negative Positive : Unary

pub data Tree : Type 0 where
  Literal : CondValue → Tree
  Prefix : Unary → Tree → Tree
  Infix : Binary → Tree → Tree → Tree
  Choice : Tree → Tree → Tree → Tree

-- an operator and its spellings
abbrev pub Spelt : Type 0 → Type 0
Spelt X = List String × X

abbrev pub operator_of : {X : Type 0} → List (Spelt X) → Tok → Option X
operator_of [] t = None
operator_of (o ∷ os) t = if is_sign o.0 t then Some o.1 else operator_of os t

-- the binary operators by levels, the loosest first
abbrev pub levels : List (List (Spelt Binary))
levels =
    (("||" ∷ "or" ∷ [], OrElse) ∷ []) ∷ (("&&" ∷ "and" ∷ [], AndAlso) ∷ []) ∷ (("|" ∷ "bitor" ∷ [], BitOr) ∷ []) ∷ (("^" ∷ "xor" ∷ [], BitXor) ∷ [])
    ∷ (("&" ∷ "bitand" ∷ [], BitAnd) ∷ []) ∷ (("==" ∷ [], Equal) ∷ ("!=" ∷ "not_eq" ∷ [], Unequal) ∷ [])
    ∷ (("<" ∷ [], Less) ∷ (">" ∷ [], Greater) ∷ ("<=" ∷ [], AtMost) ∷ (">=" ∷ [], AtLeast) ∷ []) ∷ (("<<" ∷ [], ShiftLeft) ∷ (">>" ∷ [], ShiftRight) ∷ [])
    ∷ (("+" ∷ [], Plus) ∷ ("-" ∷ [], Minus) ∷ []) ∷ (("*" ∷ [], Times) ∷ ("/" ∷ [], Over) ∷ ("%" ∷ [], Modulo) ∷ []) ∷ []

abbrev pub unary_operators : List (Spelt Unary)
unary_operators = ("!" ∷ "not" ∷ [], Not) ∷ ("~" ∷ "compl" ∷ [], Complement) ∷ ("-" ∷ [], Negative) ∷ ("+" ∷ [], Positive) ∷ []

-- ## The grammar

-- a tree, and what follows it
pub record Parsed : Type 0 where
  pub tree : Tree
  pub after : List Tok

abbrev pub Parser : Type 0
Parser = List Tok → Option Parsed

abbrev pub literal : Option CondValue → List Tok → Option Parsed
literal value ts = option_map (λ v. record { tree = Literal v; after = ts }) value

abbrev pub signed_value : ℕ → CondValue
signed_value n = record { bits = n; unsigned = false }

abbrev pub attribute_value : List ℕ → ℕ
attribute_value name =
    if spells "carries_dependency" name then 200809 else if spells "deprecated" name then 201309 else if spells "fallthrough" name then 201603
    else if spells "likely" name then 201803 else if spells "maybe_unused" name then 201603 else if spells "no_unique_address" name then 201803
    else if spells "nodiscard" name then 201907 else if spells "noreturn" name then 200809 else if spells "unlikely" name then 201803 else 0

-- after `__has_cpp_attribute`: `( X )` or `( X :: Y )`
abbrev pub attribute : Parser
attribute (p ∷ x ∷ q ∷ y ∷ r ∷ ts) =
    if not (is_open_paren p && is_of Ident x) then None
    else if is_close_paren q then literal (Some (signed_value (attribute_value x.text))) (y ∷ r ∷ ts)
    else if is_sign ("::" ∷ []) q && is_of Ident y && is_close_paren r then literal (Some (signed_value 0)) ts
    else None
attribute (p ∷ x ∷ q ∷ ts) =
    if is_open_paren p && is_of Ident x && is_close_paren q then literal (Some (signed_value (attribute_value x.text))) ts else None
attribute ts = None

abbrev pub identifier : Tok → Parser
identifier t ts = let has_attribute = attribute ts in
    if is_word "__has_cpp_attribute" t then has_attribute
    else if is_word "defined" t || is_has t then None
    else literal (Some (signed_value (if is_word "true" t then 1 else 0))) ts

-- the tree, which `)` follows
abbrev pub closed : Option Parsed → Option Parsed
closed None = None
closed (Some p) = elim (p.after) [
  | [] ↦ None
  | t ∷ ts ↦ if is_close_paren t then Some (record p { after = ts }) else None
]

-- a literal, an identifier or a condition in parentheses, which `inner` reads
abbrev pub primary : Parser → Tok → Parser
primary inner t ts =
    let number = literal (integer t.text) ts in
    let char = literal (char_value t.text) ts in
    let name = identifier t ts in
    let parens = closed (inner ts) in
    if is_of Number t then number
    else if is_of Char t then char
    else if is_of Ident t then name
    else if is_open_paren t then parens
    else None

abbrev pub prefixed : Unary → Parsed → Parsed
prefixed op p = record p { tree = Prefix op p.tree }

abbrev pub unary_or : Parser → Option Unary → Parser → Parser
unary_or further None operand ts = operand ts
unary_or further (Some op) operand ts = option_map (prefixed op) (further ts)

-- unary operators, at most n of them, before a primary
abbrev pub unary : ℕ → Parser → Parser
unary zero inner ts = None
unary (suc n) inner [] = None
unary (suc n) inner (t ∷ ts) = unary_or (unary n inner) (operator_of unary_operators t) (primary inner t) ts

-- more operands of the level, at most n of them, to the right of a tree
abbrev pub more_operands : ℕ → List (Spelt Binary) → Parser → Parsed → Option Parsed
more_operands zero ops operand left = Some left
more_operands (suc n) ops operand left = elim (left.after) [
  | [] ↦ Some left
  | t ∷ ts ↦ elim (operator_of ops t) [
    | None ↦ Some left
    | Some op ↦ option_and_then (λ right. more_operands n ops operand (record { tree = Infix op left.tree right.tree; after = right.after })) (operand ts)
  ]
]

-- the levels, of which the last is the tightest, over operands
abbrev pub binary : List (List (Spelt Binary)) → Parser → Parser
binary [] operand ts = operand ts
binary (ops ∷ tighter) operand ts = option_and_then (more_operands (length ts) ops (binary tighter operand)) (binary tighter operand ts)

abbrev pub chosen_from : Tree → Tree → Parsed → Parsed
chosen_from condition first second = record second { tree = Choice condition first second.tree }

-- after a condition: `?`, two conditions with `:` between them
abbrev pub second_choice : Parser → Tree → Parsed → Option Parsed
second_choice inner condition chosen = elim (chosen.after) [
  | [] ↦ None
  | t ∷ ts ↦ let other = option_map (chosen_from condition chosen.tree) (inner ts) in
      if is_sign (":" ∷ []) t then other else None
]

abbrev pub choice : Parser → Parsed → Option Parsed
choice inner p = elim (p.after) [
  | [] ↦ Some p
  | t ∷ ts ↦ let chosen = option_and_then (second_choice inner p.tree) (inner ts) in
      if is_sign ("?" ∷ []) t then chosen else Some p
]

-- A condition, in which parentheses and choices stand at most n deep; each takes a token at least.
abbrev pub conditional : ℕ → Parser
conditional zero ts = None
conditional (suc n) ts = option_and_then (choice (conditional n)) (binary levels (unary (length ts) (conditional n)) ts)

-- the tree that all of the tokens make
abbrev pub complete : Parsed → Option Tree
complete p = if length p.after == 0 then Some p.tree else None

unfoldable pub tree : List Tok → Option Tree
tree ts = option_and_then complete (conditional (length ts + 1) ts)
