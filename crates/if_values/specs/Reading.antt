-- The grammar of conditions, read for operands in place of trees.
use Rattle.std.specs.Prelude.{◌≡◌, ℕ, zero, suc, ◌<◌, ◌≤◌, if◌then◌else◌, List, [], ◌∷◌, length, Option, Some, None}
use Rattle.std.specs.Option.{option_map, option_map_or, option_and_then}
use Rattle.scan_model.specs.declared.token.Kind.TheVariants.{Ident, Number, Char}
use Rattle.scan_model.specs.declared.token.Tok.{Tok}
use Rattle.scan_model.specs.TokenTests.{is_of, is_sign, is_open_paren, is_close_paren}
use Rattle.scan_model.specs.Literals.{integer, char_value}
use Rattle.scan_model.specs.ConditionTree.{Binary, Unary, Spelt, levels, operator_of, unary_operators, Parsed, literal, identifier}
use Rattle.if_values.specs.declared.operand.Operand.{Operand}
use Rattle.if_values.specs.Operands.{operand_of, prefix_operand, infix_operand, choice_operand}

-- an operand, and what follows it
pub record Read : Type 0 where
  pub operand : Operand
  pub after : List Tok

abbrev pub reading : List Tok → Operand → Read
reading after o = record { operand = o; after = after }

abbrev pub read_of : Parsed → Read
read_of p = record { operand = operand_of p.tree; after = p.after }

abbrev pub Reader : Type 0
Reader = List Tok → Option Read

abbrev pub closed_read : Operand → Reader
closed_read o [] = None
closed_read o (t ∷ ts) = if is_close_paren t then Some (reading ts o) else None

abbrev pub in_parens_read : Reader → Reader
in_parens_read inner ts = option_and_then (λ r. closed_read r.operand r.after) (inner ts)

abbrev pub primary_read : Reader → Tok → Reader
primary_read inner t ts =
    let number = option_map read_of (literal (integer t.text) ts) in
    let char = option_map read_of (literal (char_value t.text) ts) in
    let name = option_map read_of (identifier t ts) in
    let parens = in_parens_read inner ts in
    if is_of Number t then number
    else if is_of Char t then char
    else if is_of Ident t then name
    else if is_open_paren t then parens
    else None

abbrev pub first_read : Reader → Reader
first_read inner [] = None
first_read inner (t ∷ ts) = primary_read inner t ts

abbrev pub prefixed_read : Unary → Read → Read
prefixed_read op r = record r { operand = prefix_operand op r.operand }

abbrev pub unary_or_read : Reader → Option Unary → Reader → Reader
unary_or_read further None operand ts = operand ts
unary_or_read further (Some op) operand ts = option_map (prefixed_read op) (further ts)

abbrev pub unary_read : ℕ → Reader → Reader
unary_read zero inner ts = None
unary_read (suc n) inner [] = None
unary_read (suc n) inner (t ∷ ts) = unary_or_read (unary_read n inner) (operator_of unary_operators t) (primary_read inner t) ts

abbrev pub more_read : ℕ → List (Spelt Binary) → Reader → Operand → Reader
more_read zero ops operand o ts = Some (reading ts o)
more_read (suc n) ops operand o [] = Some (reading [] o)
more_read (suc n) ops operand o (t ∷ ts) =
    option_map_or (λ op. option_and_then (λ r. more_read n ops operand (infix_operand op o r.operand) r.after) (operand ts)) (operator_of ops t) (Some (reading (t ∷ ts) o))

abbrev pub binary_read : List (List (Spelt Binary)) → Reader → Reader
binary_read [] operand ts = operand ts
binary_read (ops ∷ tighter) operand ts =
    option_and_then (λ r. more_read (length ts) ops (binary_read tighter operand) r.operand r.after) (binary_read tighter operand ts)

abbrev pub other_read : Reader → Operand → Operand → Reader
other_read inner c o [] = None
other_read inner c o (t ∷ ts) = let other = option_map (λ r. reading r.after (choice_operand c o r.operand)) (inner ts) in
    if is_sign (":" ∷ []) t then other else None

abbrev pub choice_read : Reader → Operand → Reader
choice_read inner c [] = Some (reading [] c)
choice_read inner c (t ∷ ts) = let chosen = option_and_then (λ r. other_read inner c r.operand r.after) (inner ts) in
    if is_sign ("?" ∷ []) t then chosen else Some (reading (t ∷ ts) c)

abbrev pub conditional_read : ℕ → Reader
conditional_read zero ts = None
conditional_read (suc n) ts =
    option_and_then (λ r. choice_read (conditional_read n) r.operand r.after) (binary_read levels (unary_read (length ts) (conditional_read n)) ts)

-- ## What the code reads: an operand in front of the old tokens, before the new ones, or none

abbrev pub Gives : Option Read → Option Operand → List Tok → Type 0
Gives read result new = read ≡ option_map (reading new) result

abbrev pub ReadsConditional : List Tok → Option Operand → List Tok → Type 0
ReadsConditional old result new = (n : ℕ) → length old < n → Gives (conditional_read n old) result new

abbrev pub ReadsInParens : List Tok → Option Operand → List Tok → Type 0
ReadsInParens old result new = (n : ℕ) → length old < n → Gives (in_parens_read (conditional_read n) old) result new

abbrev pub ReadsFirst : List Tok → Option Operand → List Tok → Type 0
ReadsFirst old result new = (n : ℕ) → length old ≤ n → Gives (first_read (conditional_read n) old) result new

abbrev pub ReadsLevels : List (List (Spelt Binary)) → List Tok → Option Operand → List Tok → Type 0
ReadsLevels levels old result new =
    (m n : ℕ) → length old ≤ m → length old ≤ n → Gives (binary_read levels (unary_read m (conditional_read n)) old) result new
