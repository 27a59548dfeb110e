-- The operands that are read are those of the trees.
use Rattle.std.proofs.Common.{◌≡◌, ℕ, zero, suc, Bool, true, false, cond, List, [], ◌∷◌, length, ap, ◌∙◌, refl}
use Rattle.std.specs.Prelude.{Option, Some, None}
use Rattle.std.specs.Option.{option_map, option_map_or, option_and_then}
use Rattle.scan_model.specs.declared.token.Kind.TheVariants.{Ident, Number, Char}
use Rattle.scan_model.specs.declared.token.Tok.{Tok}
use Rattle.scan_model.specs.TokenTests.{is_of, is_sign, is_open_paren, is_close_paren}
use Rattle.scan_model.specs.Literals.{integer, char_value}
use Rattle.scan_model.specs.ConditionTree.{Binary, Unary, Infix, Spelt, Tree, levels, operator_of, unary_operators, Parsed, Parser, literal, identifier, closed, primary, prefixed, unary_or, unary, more_operands, binary, chosen_from, second_choice, choice, conditional}
use Rattle.if_values.specs.Operands.{operand_of, infix_operand, choice_operand}
use Rattle.if_values.specs.Reading.{Read, Reader, reading, read_of, closed_read, primary_read, prefixed_read, unary_or_read, unary_read, more_read, binary_read, other_read, choice_read, conditional_read}

-- the reader reads the operand of each tree
abbrev Follows : Parser → Reader → Type 0
Follows parser reader = (ts : List Tok) → option_map read_of (parser ts) ≡ reader ts

map-cond : {X Y : Type 0} (f : X → Y) (b : Bool) (x y : Option X) → option_map f (cond b x y) ≡ cond b (option_map f x) (option_map f y)
map-cond f true x y = refl
map-cond f false x y = refl

cond-same : {X : Type 0} (b : Bool) (x y u v : X) → x ≡ u → y ≡ v → cond b x y ≡ cond b u v
cond-same true x y u v p q = p
cond-same false x y u v p q = q

then_follows : (f : Parsed → Option Parsed) (g : Read → Option Read) → ((p : Parsed) → option_map read_of (f p) ≡ g (read_of p)) → (o : Option Parsed) → option_map read_of (option_and_then f o) ≡ option_and_then g (option_map read_of o)
then_follows f g h None = refl
then_follows f g h (Some p) = h p

map_follows : (f : Parsed → Parsed) (g : Read → Read) → ((p : Parsed) → read_of (f p) ≡ g (read_of p)) → (o : Option Parsed) → option_map read_of (option_map f o) ≡ option_map g (option_map read_of o)
map_follows f g h None = refl
map_follows f g h (Some p) = ap (λ r. Some r) (h p)

closed_at : (tree : Tree) (ts : List Tok) → option_map read_of (closed (Some (record { tree = tree; after = ts }))) ≡ closed_read (operand_of tree) ts
closed_at tree [] = refl
closed_at tree (t ∷ ts) = map-cond read_of (is_close_paren t) (Some (record { tree = tree; after = ts })) None

closed_follows : (o : Option Parsed) → option_map read_of (closed o) ≡ option_and_then (λ r. closed_read r.operand r.after) (option_map read_of o)
closed_follows None = refl
closed_follows (Some p) = closed_at p.tree p.after

primary_follows : (parser : Parser) (reader : Reader) → Follows parser reader → (t : Tok) → Follows (primary parser t) (primary_read reader t)
primary_follows parser reader h t ts =
    let number = literal (integer t.text) ts in
    let char = literal (char_value t.text) ts in
    let name = identifier t ts in
    let parens = closed (parser ts) in
    let closes = closed_follows (parser ts) ∙ ap (option_and_then (λ (r : Read). closed_read r.operand r.after)) (h ts) in
    map-cond read_of (is_of Number t) number (cond (is_of Char t) char (cond (is_of Ident t) name (cond (is_open_paren t) parens None)))
    ∙ cond-same (is_of Number t) _ _ _ _ refl (map-cond read_of (is_of Char t) char (cond (is_of Ident t) name (cond (is_open_paren t) parens None))
    ∙ cond-same (is_of Char t) _ _ _ _ refl (map-cond read_of (is_of Ident t) name (cond (is_open_paren t) parens None)
    ∙ cond-same (is_of Ident t) _ _ _ _ refl (map-cond read_of (is_open_paren t) parens None
    ∙ cond-same (is_open_paren t) _ _ _ _ closes refl)))

unary_or_follows : (p q : Parser) (r s : Reader) → Follows p r → Follows q s → (op : Option Unary) (ts : List Tok) → option_map read_of (unary_or p op q ts) ≡ unary_or_read r op s ts
unary_or_follows p q r s h k None ts = k ts
unary_or_follows p q r s h k (Some op) ts = map_follows (prefixed op) (prefixed_read op) (λ x. refl) (p ts) ∙ ap (option_map (prefixed_read op)) (h ts)

unary_follows : (n : ℕ) (parser : Parser) (reader : Reader) → Follows parser reader → Follows (unary n parser) (unary_read n reader)
unary_follows zero parser reader h ts = refl
unary_follows (suc n) parser reader h [] = refl
unary_follows (suc n) parser reader h (t ∷ ts) =
    unary_or_follows (unary n parser) (primary parser t) (unary_read n reader) (primary_read reader t) (unary_follows n parser reader h) (primary_follows parser reader h t) (operator_of unary_operators t) ts

more_by : (ops : List (Spelt Binary)) (parser : Parser) (reader : Reader) → Follows parser reader → (n : ℕ) (tree : Tree) (t : Tok) (ts : List Tok) (op : Option Binary)
    → ((u : Tree) (us : List Tok) → option_map read_of (more_operands n ops parser (record { tree = u; after = us })) ≡ more_read n ops reader (operand_of u) us)
    → option_map read_of (elim op [
      | None ↦ Some (record { tree = tree; after = t ∷ ts })
      | Some o ↦ option_and_then (λ right. more_operands n ops parser (record { tree = Infix o tree right.tree; after = right.after })) (parser ts)
    ]) ≡ option_map_or (λ o. option_and_then (λ r. more_read n ops reader (infix_operand o (operand_of tree) r.operand) r.after) (reader ts)) op (Some (reading (t ∷ ts) (operand_of tree)))
more_by ops parser reader h n tree t ts None k = refl
more_by ops parser reader h n tree t ts (Some o) k =
    then_follows (λ right. more_operands n ops parser (record { tree = Infix o tree right.tree; after = right.after })) (λ r. more_read n ops reader (infix_operand o (operand_of tree) r.operand) r.after)
    (λ p. k (Infix o tree p.tree) p.after) (parser ts)
    ∙ ap (option_and_then (λ (r : Read). more_read n ops reader (infix_operand o (operand_of tree) r.operand) r.after)) (h ts)

more_follows : (ops : List (Spelt Binary)) (parser : Parser) (reader : Reader) → Follows parser reader → (n : ℕ) (tree : Tree) (ts : List Tok) → option_map read_of (more_operands n ops parser (record { tree = tree; after = ts })) ≡ more_read n ops reader (operand_of tree) ts
more_follows ops parser reader h zero tree ts = refl
more_follows ops parser reader h (suc n) tree [] = refl
more_follows ops parser reader h (suc n) tree (t ∷ ts) = more_by ops parser reader h n tree t ts (operator_of ops t) (λ u us. more_follows ops parser reader h n u us)

binary_follows : (levels : List (List (Spelt Binary))) (parser : Parser) (reader : Reader) → Follows parser reader → Follows (binary levels parser) (binary_read levels reader)
binary_follows [] parser reader h ts = h ts
binary_follows (ops ∷ tighter) parser reader h ts =
    let below = binary_follows tighter parser reader h in
    then_follows (more_operands (length ts) ops (binary tighter parser)) (λ r. more_read (length ts) ops (binary_read tighter reader) r.operand r.after)
    (λ p. more_follows ops (binary tighter parser) (binary_read tighter reader) below (length ts) p.tree p.after) (binary tighter parser ts)
    ∙ ap (option_and_then (λ (r : Read). more_read (length ts) ops (binary_read tighter reader) r.operand r.after)) (below ts)

second_at : (parser : Parser) (reader : Reader) → Follows parser reader → (c chosen : Tree) (ts : List Tok) → option_map read_of (second_choice parser c (record { tree = chosen; after = ts })) ≡ other_read reader (operand_of c) (operand_of chosen) ts
second_at parser reader h c chosen [] = refl
second_at parser reader h c chosen (t ∷ ts) =
    map-cond read_of (is_sign (":" ∷ []) t) (option_map (chosen_from c chosen) (parser ts)) None
    ∙ cond-same (is_sign (":" ∷ []) t) _ _ _ _ (map_follows (chosen_from c chosen) (λ r. reading r.after (choice_operand (operand_of c) (operand_of chosen) r.operand)) (λ x. refl) (parser ts)
    ∙ ap (option_map (λ (r : Read). reading r.after (choice_operand (operand_of c) (operand_of chosen) r.operand))) (h ts)) refl

choice_at : (parser : Parser) (reader : Reader) → Follows parser reader → (c : Tree) (ts : List Tok) → option_map read_of (choice parser (record { tree = c; after = ts })) ≡ choice_read reader (operand_of c) ts
choice_at parser reader h c [] = refl
choice_at parser reader h c (t ∷ ts) =
    map-cond read_of (is_sign ("?" ∷ []) t) (option_and_then (second_choice parser c) (parser ts)) (Some (record { tree = c; after = t ∷ ts }))
    ∙ cond-same (is_sign ("?" ∷ []) t) _ _ _ _ (then_follows (second_choice parser c) (λ r. other_read reader (operand_of c) r.operand r.after) (λ p. second_at parser reader h c p.tree p.after) (parser ts)
    ∙ ap (option_and_then (λ (r : Read). other_read reader (operand_of c) r.operand r.after)) (h ts)) refl

pub conditional_follows : (n : ℕ) → Follows (conditional n) (conditional_read n)
conditional_follows zero ts = refl
conditional_follows (suc n) ts =
    let inner = conditional_follows n in
    let below = binary_follows levels (unary (length ts) (conditional n)) (unary_read (length ts) (conditional_read n)) (unary_follows (length ts) (conditional n) (conditional_read n) inner) in
    then_follows (choice (conditional n)) (λ r. choice_read (conditional_read n) r.operand r.after) (λ p. choice_at (conditional n) (conditional_read n) inner p.tree p.after) (binary levels (unary (length ts) (conditional n)) ts)
    ∙ ap (option_and_then (λ (r : Read). choice_read (conditional_read n) r.operand r.after)) (below ts)
