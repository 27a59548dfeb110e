-- An expansion has turns enough: more of them give the same.
use Rattle.std.proofs.Common.{◌≡◌, ℕ, zero, suc, ◌+◌, ◌-◌, ◌<◌, ◌≤◌, nat_lt, Bool, true, false, not, ◌&&◌, if◌then◌else◌, List, [], ◌∷◌, ◌++◌, map, length, refl, ap, ◌∙◌, arith}
use Rattle.std.specs.Prelude.{⊤, Option, Some, None, ◌==◌, is_some}
use Rattle.std.specs.List.{onto_first, AllByRecursion}
use Rattle.std.specs.Option.{option_map}
use Rattle.std.specs.Fmt.{decimal}
use Rattle.std.proofs.lemmas.Bool.{ltb-false}
use Rattle.std.proofs.lemmas.List.{length-append, length-map}
use Rattle.scan_model.specs.declared.token.Kind.{Kind}
use Rattle.scan_model.specs.declared.token.Kind.TheVariants.{Ident, Number}
use Rattle.scan_model.specs.declared.macros.FunctionDef.{FunctionDef}
use Rattle.scan_model.specs.declared.macros.Def.{Def}
use Rattle.scan_model.specs.declared.macros.Def.TheVariants as DefIs
use Rattle.scan_model.specs.declared.macros.BuiltIn.{BuiltIn}
use Rattle.scan_model.specs.declared.macros.BuiltIn.TheVariants as BuiltInIs
use Rattle.scan_model.specs.declared.expansion.Expanded.TheVariants as Gives
use Rattle.scan_model.specs.Spelling.{spells}
use Rattle.scan_model.specs.TokenTests.{is_of, is_comma, is_open_paren, is_close_paren}
use Rattle.scan_model.specs.Parentheses.{depth_after, Enclosed, onto_inside, enclosed, in_parens}
use Rattle.scan_model.specs.MacroDefinition.{all_params}
use Rattle.scan_model.specs.Substitution.{Marked, no_name, Arg, subst, is_replaced}
use Rattle.scan_model.specs.Expansion.{Scope, cost_limit, expand_up_to, Ran, Went, Failed, Replaced, Args, NotReplaced, cut_at_commas, exactly, plain_args, variadic_args, written_args, paid, out, in_condition, in_text, instead, also, hidden_by, arg_named, rescanned, built_in_out, built_in, with_arg, after_arg, replaced_args, called, call_with, call, is_called, by_def, defined_name, defined_out, first_and_rest, first_counter, answer_of, expand}
use Rattle.expansion_laws.specs.Turns.{MoreTurns, ExpandsInFull, expands, EndsWithNothing, TakesTheFirst, ExpandsTheList}

abbrev Again : Type 0
Again = List Marked → ℕ → ℕ → Ran

either : (b : Bool) (x x' y y' : Ran) → x ≡ x' → y ≡ y' → (if b then x else y) ≡ (if b then x' else y')
either true x x' y y' h k = h
either false x x' y y' h k = k

-- ## What is paid

-- the cost afterwards is no less than before, and within the limit
abbrev Within : ℕ → Ran → Type 0
Within cost (Went ms c k) = (cost ≤ c) × (c ≤ cost_limit)
Within cost (Failed answer) = ⊤

abbrev Pays : Again → Type 0
Pays again = (ms : List Marked) (cost counter : ℕ) → cost ≤ cost_limit → Within cost (again ms cost counter)

within_more : (cost c : ℕ) (ran : Ran) → cost ≤ c → Within c ran → Within cost ran
within_more cost c (Went ms d k) le h = (omega arith, h.1)
within_more cost c (Failed answer) le h = tt

within_if : (b : Bool) (cost : ℕ) (x y : Ran) → Within cost x → Within cost y → Within cost (if b then x else y)
within_if true cost x y h k = h
within_if false cost x y h k = k

out_within : (m : Marked) (cost : ℕ) (ran : Ran) → Within cost ran → Within cost (out m ran)
out_within m cost (Went ms c k) h = h
out_within m cost (Failed answer) h = tt

paid_if : (b : Bool) (cost c : ℕ) (ran : Ran) → nat_lt cost_limit c ≡ b → cost ≤ c → (c ≤ cost_limit → Within c ran) →
    Within cost (if b then Failed Gives.TooLong else ran)
paid_if true cost c ran e le h = tt
paid_if false cost c ran e le h = within_more cost c ran le (h (ltb-false cost_limit c e))

paid_within : (cost c : ℕ) (ran : Ran) → cost ≤ c → (c ≤ cost_limit → Within c ran) → Within cost (paid c ran)
paid_within cost c ran = paid_if (nat_lt cost_limit c) cost c ran refl

module _ (e : Scope) (again : Again) (pays : Pays again) where
  rescanned_within : (added : List ℕ → Bool) (rest : List Marked) (cost counter : ℕ) (list : Option (List Marked)) →
      Within cost (rescanned again e added rest cost counter list)
  rescanned_within added rest cost counter None = tt
  rescanned_within added rest cost counter (Some list) =
      paid_within cost (cost + 1 + length list) (again (map (hidden_by added) list ++ rest) (cost + 1 + length list) counter) (omega arith)
      (λ le. pays (map (hidden_by added) list ++ rest) (cost + 1 + length list) counter le)

  token_within : (kind : Kind) (text : List ℕ) (m : Marked) (rest : List Marked) (cost counter : ℕ) → Within cost (built_in_out again e kind text m rest cost counter)
  token_within kind text m rest cost counter =
      paid_within cost (cost + 2) (out (instead kind text m) (again rest (cost + 2) counter)) (omega arith)
      (λ le. out_within (instead kind text m) (cost + 2) (again rest (cost + 2) counter) (pays rest (cost + 2) counter le))

  goes_within : (m : Marked) (rest : List Marked) (cost counter : ℕ) → cost ≤ cost_limit → Within cost (out m (again rest cost counter))
  goes_within m rest cost counter le = out_within m cost (again rest cost counter) (pays rest cost counter le)

  built_in_within : (which : BuiltIn) (m : Marked) (rest : List Marked) (cost counter : ℕ) → cost ≤ cost_limit → Within cost (built_in again e which m rest cost counter)
  built_in_within BuiltInIs.File m rest cost counter le = token_within _ _ m rest cost counter
  built_in_within BuiltInIs.Line m rest cost counter le = token_within _ _ m rest cost counter
  built_in_within BuiltInIs.Date m rest cost counter le = token_within _ _ m rest cost counter
  built_in_within BuiltInIs.Time m rest cost counter le = token_within _ _ m rest cost counter
  built_in_within BuiltInIs.Cplusplus m rest cost counter le = token_within _ _ m rest cost counter
  built_in_within BuiltInIs.Counter m rest cost counter le =
      within_if (in_text e.mode) cost (paid (cost + 2) (out (instead Number (decimal counter) m) (again rest (cost + 2) (counter + 1)))) (Failed Gives.Counter)
      (paid_within cost (cost + 2) (out (instead Number (decimal counter) m) (again rest (cost + 2) (counter + 1))) (omega arith)
      (λ le. out_within (instead Number (decimal counter) m) (cost + 2) (again rest (cost + 2) (counter + 1)) (pays rest (cost + 2) (counter + 1) le))) tt
  built_in_within BuiltInIs.HasInclude m rest cost counter le = goes_within m rest cost counter le
  built_in_within BuiltInIs.HasIncludeNext m rest cost counter le = goes_within m rest cost counter le
  built_in_within BuiltInIs.HasAttribute m rest cost counter le = goes_within m rest cost counter le

  -- ## What arguments pay

  abbrev ArgsWithin : ℕ → Replaced → Type 0
  ArgsWithin cost (Args args c k) = (cost ≤ c) × (c ≤ cost_limit)
  ArgsWithin cost (NotReplaced answer) = ⊤

  args_more : (cost c : ℕ) (r : Replaced) → cost ≤ c → ArgsWithin c r → ArgsWithin cost r
  args_more cost c (Args args d k) le h = (omega arith, h.1)
  args_more cost c (NotReplaced answer) le h = tt

  with_arg_within : (a : Arg) (cost : ℕ) (r : Replaced) → ArgsWithin cost r → ArgsWithin cost (with_arg again e a r)
  with_arg_within a cost (Args args c k) h = h
  with_arg_within a cost (NotReplaced answer) h = tt

  after_arg_within : (further : List Marked → ℕ → ℕ → Replaced) (cost : ℕ) (ran : Ran) → Within cost ran →
      ((ms : List Marked) (c k : ℕ) → c ≤ cost_limit → ArgsWithin c (further ms c k)) → ArgsWithin cost (after_arg again e further ran)
  after_arg_within further cost (Went ms c k) h each = args_more cost c (further ms c k) h.0 (each ms c k h.1)
  after_arg_within further cost (Failed answer) h each = tt

  args_if : (b : Bool) (cost : ℕ) (x y : Replaced) → ArgsWithin cost x → ArgsWithin cost y → ArgsWithin cost (if b then x else y)
  args_if true cost x y h k = h
  args_if false cost x y h k = k

  args_within : (f : FunctionDef) (names : List (List ℕ)) (written : List (List Marked)) (cost counter : ℕ) → cost ≤ cost_limit →
      ArgsWithin cost (replaced_args again e f names written cost counter)
  args_within f [] written cost counter le = (omega arith, le)
  args_within f (name ∷ names) [] cost counter le = (omega arith, le)
  args_within f (name ∷ names) (w ∷ written) cost counter le =
      args_if (is_replaced f name) cost _ _
      (after_arg_within (λ ms c k. with_arg again e (record { written = w; replaced = ms }) (replaced_args again e f names written c k)) cost (again w cost counter) (pays w cost counter le)
      (λ ms c k h. with_arg_within (record { written = w; replaced = ms }) c (replaced_args again e f names written c k) (args_within f names written c k h)))
      (with_arg_within (record { written = w; replaced = w }) cost (replaced_args again e f names written cost counter) (args_within f names written cost counter le))

  called_within : (f : FunctionDef) (m : Marked) (close : List ℕ → Bool) (rest : List Marked) (cost : ℕ) (r : Replaced) → ArgsWithin cost r →
      Within cost (called again e f m close rest r)
  called_within f m close rest cost (NotReplaced answer) h = tt
  called_within f m close rest cost (Args args c k) h = within_more cost c _ h.0
      (rescanned_within (also m.tok.text (λ name. m.hides name && close name)) rest c k
      (subst (record { function = true; variadic = f.variadic; arg = arg_named (all_params f.params f.variadic) args; line = m.tok.line }) m.tok.space f.body))

  call_with_within : (f : FunctionDef) (m : Marked) (parens : Enclosed Marked) (cost counter : ℕ) (written : Option (List (List Marked))) → cost ≤ cost_limit →
      Within cost (call_with again e f m parens cost counter written)
  call_with_within f m parens cost counter None le = tt
  call_with_within f m parens cost counter (Some written) le =
      called_within f m parens.close.hides parens.after cost (replaced_args again e f (all_params f.params f.variadic) written cost counter)
      (args_within f (all_params f.params f.variadic) written cost counter le)

  call_within : (f : FunctionDef) (m : Marked) (cost counter : ℕ) (parens : Option (Enclosed Marked)) → cost ≤ cost_limit → Within cost (call again e f m cost counter parens)
  call_within f m cost counter None le = tt
  call_within f m cost counter (Some parens) le = call_with_within f m parens cost counter (written_args f parens.inside) le

  by_def_within : (m : Marked) (rest : List Marked) (cost counter : ℕ) (def : Option Def) → cost ≤ cost_limit → Within cost (by_def again e m rest cost counter def)
  by_def_within m rest cost counter None le = goes_within m rest cost counter le
  by_def_within m rest cost counter (Some (DefIs.BuiltIn which)) le = built_in_within which m rest cost counter le
  by_def_within m rest cost counter (Some (DefIs.Object body)) le =
      rescanned_within (also m.tok.text m.hides) rest cost counter (subst (record { function = false; variadic = None; arg = λ name. None; line = m.tok.line }) m.tok.space body)
  by_def_within m rest cost counter (Some (DefIs.Function f)) le =
      within_if (is_called again e rest) cost _ _ (call_within f m cost counter (in_parens (λ m. m.tok) rest) le) (goes_within m rest cost counter le)

  defined_within : (m : Marked) (rest : List Marked) (cost counter : ℕ) (found : Option (List ℕ × List Marked)) → cost ≤ cost_limit →
      Within cost (defined_out again e m rest cost counter found)
  defined_within m rest cost counter None le = goes_within m rest cost counter le
  defined_within m rest cost counter (Some found) le = goes_within _ found.1 cost counter le

  first_within : (m : Marked) (rest : List Marked) (cost counter : ℕ) → cost ≤ cost_limit → Within cost (first_and_rest again e m rest cost counter)
  first_within m rest cost counter le =
      within_if (not (is_of Ident m.tok)) cost _ _ (goes_within m rest cost counter le)
      (within_if (in_condition e.mode && spells "defined" m.tok.text) cost _ _ (defined_within m rest cost counter (defined_name again e rest) le)
      (within_if (m.hides m.tok.text) cost _ _ (goes_within m rest cost counter le) (by_def_within m rest cost counter (e.defs m.tok.text) le)))

pub expansion_within : (n : ℕ) (e : Scope) → Pays (expand_up_to n e)
expansion_within zero e ms cost counter le = tt
expansion_within (suc n) e [] cost counter le = (omega arith, le)
expansion_within (suc n) e (m ∷ ms) cost counter le = first_within e (expand_up_to n e) (expansion_within n e) m ms cost counter le

-- ## Lengths: what stands in a call's parentheses, and its arguments

abbrev Encloses : ℕ → Option (Enclosed Marked) → Type 0
Encloses n None = ⊤
Encloses n (Some p) = length p.inside + length p.after + 1 ≤ n

encloses_if : (b : Bool) (n : ℕ) (x y : Option (Enclosed Marked)) → Encloses n x → Encloses n y → Encloses n (if b then x else y)
encloses_if true n x y h k = h
encloses_if false n x y h k = k

encloses_further : (m : Marked) (n : ℕ) (p : Option (Enclosed Marked)) → Encloses n p → Encloses (suc n) (option_map (onto_inside m) p)
encloses_further m n None h = tt
encloses_further m n (Some p) h = omega arith

enclosed_fits : (depth : ℕ) (ms : List Marked) → Encloses (length ms) (enclosed (λ m. m.tok) depth ms)
enclosed_fits depth [] = tt
enclosed_fits depth (m ∷ ms) =
    encloses_if (depth == 0 && is_close_paren m.tok) (suc (length ms)) (Some (record { inside = []; close = m; after = ms })) _
    (omega arith) (encloses_further m (length ms) (enclosed (λ m. m.tok) (depth_after m.tok depth) ms) (enclosed_fits (depth_after m.tok depth) ms))

parens_fit : (ms : List Marked) → Encloses (length ms) (in_parens (λ m. m.tok) ms)
parens_fit [] = tt
parens_fit (m ∷ ms) = encloses_if (is_open_paren m.tok) (suc (length ms)) (enclosed (λ m. m.tok) 0 ms) None
    (encloses_more (length ms) (enclosed (λ m. m.tok) 0 ms) (enclosed_fits 0 ms)) tt where
      encloses_more : (n : ℕ) (p : Option (Enclosed Marked)) → Encloses n p → Encloses (suc n) p
      encloses_more n None h = tt
      encloses_more n (Some p) h = omega arith

-- no argument is longer than n
abbrev Short : ℕ → List (List Marked) → Type 0
Short n ws = AllByRecursion (λ w. length w ≤ n) ws

abbrev ShortArgs : ℕ → Option (List (List Marked)) → Type 0
ShortArgs n None = ⊤
ShortArgs n (Some ws) = Short n ws

short_more : (n : ℕ) (ws : List (List Marked)) → Short n ws → Short (suc n) ws
short_more n [] h = tt
short_more n (w ∷ ws) h = (omega (arith, h.0), short_more n ws h.1)

short_first : (m : Marked) (n : ℕ) (ws : List (List Marked)) → Short n ws → Short (suc n) (onto_first m ws)
short_first m n [] h = (omega arith, tt)
short_first m n (w ∷ ws) h = (omega (arith, h.0), short_more n ws h.1)

short_if : (b : Bool) (n : ℕ) (x y : List (List Marked)) → Short n x → Short n y → Short n (if b then x else y)
short_if true n x y h k = h
short_if false n x y h k = k

cut_short : (k depth : ℕ) (ms : List Marked) → Short (length ms) (cut_at_commas k depth ms)
cut_short k depth [] = (omega arith, tt)
cut_short zero depth (m ∷ ms) = (omega arith, tt)
cut_short (suc k) depth (m ∷ ms) =
    short_if (depth == 0 && is_comma m.tok) (suc (length ms)) ([] ∷ cut_at_commas k depth ms) (onto_first m (cut_at_commas (suc k) (depth_after m.tok depth) ms))
    (omega arith, short_more (length ms) (cut_at_commas k depth ms) (cut_short k depth ms))
    (short_first m (length ms) (cut_at_commas (suc k) (depth_after m.tok depth) ms) (cut_short (suc k) (depth_after m.tok depth) ms))

args_short_if : (b : Bool) (n : ℕ) (x y : Option (List (List Marked))) → ShortArgs n x → ShortArgs n y → ShortArgs n (if b then x else y)
args_short_if true n x y h k = h
args_short_if false n x y h k = k

exactly_short : (n k : ℕ) (ws : List (List Marked)) → Short k ws → ShortArgs k (exactly n ws)
exactly_short n k ws h = args_short_if (length ws == n) k (Some ws) None h tt

plain_short : (n : ℕ) (ms : List Marked) → ShortArgs (length ms) (plain_args n ms)
plain_short zero [] = tt
plain_short zero (m ∷ ms) = tt
plain_short (suc n) ms = exactly_short (suc n) (length ms) (cut_at_commas (length ms) 0 ms) (cut_short (length ms) 0 ms)

short_and_empty : (n : ℕ) (ws : List (List Marked)) → Short n ws → Short n (ws ++ [] ∷ [])
short_and_empty n [] h = (omega arith, tt)
short_and_empty n (w ∷ ws) h = (h.0, short_and_empty n ws h.1)

variadic_short : (n : ℕ) (ms : List Marked) → ShortArgs (length ms) (variadic_args n ms)
variadic_short n ms =
    args_short_if (length (cut_at_commas n 0 ms) == n) (length ms) (Some (cut_at_commas n 0 ms ++ [] ∷ [])) (exactly (n + 1) (cut_at_commas n 0 ms))
    (short_and_empty (length ms) (cut_at_commas n 0 ms) (cut_short n 0 ms)) (exactly_short (n + 1) (length ms) (cut_at_commas n 0 ms) (cut_short n 0 ms))

written_short : (f : FunctionDef) (ms : List Marked) → ShortArgs (length ms) (written_args f ms)
written_short f ms =
    args_short_if (is_some f.variadic) (length ms) (variadic_args (length f.params) ms) (plain_args (length f.params) ms)
    (variadic_short (length f.params) ms) (plain_short (length f.params) ms)

-- ## More turns

-- both give the same wherever n turns are enough
abbrev SameUpTo : ℕ → Again → Again → Type 0
SameUpTo n again more = (ms : List Marked) (cost counter : ℕ) → cost ≤ cost_limit → length ms + (cost_limit - cost) < n → again ms cost counter ≡ more ms cost counter

paid_same_if : (b : Bool) (c : ℕ) (x y : Ran) → nat_lt cost_limit c ≡ b → (c ≤ cost_limit → x ≡ y) → (if b then Failed Gives.TooLong else x) ≡ (if b then Failed Gives.TooLong else y)
paid_same_if true c x y e h = refl
paid_same_if false c x y e h = h (ltb-false cost_limit c e)

paid_same : (c : ℕ) (x y : Ran) → (c ≤ cost_limit → x ≡ y) → paid c x ≡ paid c y
paid_same c x y h = paid_same_if (nat_lt cost_limit c) c x y refl h

module _ (e : Scope) (again more : Again) (n : ℕ) (pays : Pays again) (same : SameUpTo n again more) where
  -- the rest of a list, of which n turns are enough
  abbrev Enough : List Marked → ℕ → Type 0
  Enough rest cost = length rest + (cost_limit - cost) < n

  goes_same : (m : Marked) (rest : List Marked) (cost counter : ℕ) → cost ≤ cost_limit → Enough rest cost →
      out m (again rest cost counter) ≡ out m (more rest cost counter)
  goes_same m rest cost counter le enough = ap (out m) (same rest cost counter le enough)

  rescanned_enough : (added : List ℕ → Bool) (list rest : List Marked) (cost : ℕ) → cost + 1 + length list ≤ cost_limit → length rest + (cost_limit - cost) < suc n →
      length (map (hidden_by added) list ++ rest) + (cost_limit - (cost + 1 + length list)) < n
  rescanned_enough added list rest cost le enough = rw (length-append, length-map) (omega arith)

  rescanned_same : (added : List ℕ → Bool) (rest : List Marked) (cost counter : ℕ) (list : Option (List Marked)) → length rest + (cost_limit - cost) < suc n →
      rescanned again e added rest cost counter list ≡ rescanned more e added rest cost counter list
  rescanned_same added rest cost counter None enough = refl
  rescanned_same added rest cost counter (Some list) enough =
      paid_same (cost + 1 + length list) (again (map (hidden_by added) list ++ rest) (cost + 1 + length list) counter) (more (map (hidden_by added) list ++ rest) (cost + 1 + length list) counter)
      (λ le. same (map (hidden_by added) list ++ rest) (cost + 1 + length list) counter le (rescanned_enough added list rest cost le enough))

  token_same : (kind : Kind) (text : List ℕ) (m : Marked) (rest : List Marked) (cost counter : ℕ) → Enough rest cost →
      built_in_out again e kind text m rest cost counter ≡ built_in_out more e kind text m rest cost counter
  token_same kind text m rest cost counter enough =
      paid_same (cost + 2) (out (instead kind text m) (again rest (cost + 2) counter)) (out (instead kind text m) (more rest (cost + 2) counter))
      (λ le. goes_same (instead kind text m) rest (cost + 2) counter le (omega arith))

  built_in_same : (which : BuiltIn) (m : Marked) (rest : List Marked) (cost counter : ℕ) → cost ≤ cost_limit → Enough rest cost →
      built_in again e which m rest cost counter ≡ built_in more e which m rest cost counter
  built_in_same BuiltInIs.File m rest cost counter le enough = token_same _ _ m rest cost counter enough
  built_in_same BuiltInIs.Line m rest cost counter le enough = token_same _ _ m rest cost counter enough
  built_in_same BuiltInIs.Date m rest cost counter le enough = token_same _ _ m rest cost counter enough
  built_in_same BuiltInIs.Time m rest cost counter le enough = token_same _ _ m rest cost counter enough
  built_in_same BuiltInIs.Cplusplus m rest cost counter le enough = token_same _ _ m rest cost counter enough
  built_in_same BuiltInIs.Counter m rest cost counter le enough =
      either (in_text e.mode) _ _ _ _
      (paid_same (cost + 2) (out (instead Number (decimal counter) m) (again rest (cost + 2) (counter + 1))) (out (instead Number (decimal counter) m) (more rest (cost + 2) (counter + 1)))
      (λ le. goes_same (instead Number (decimal counter) m) rest (cost + 2) (counter + 1) le (omega arith))) refl
  built_in_same BuiltInIs.HasInclude m rest cost counter le enough = goes_same m rest cost counter le enough
  built_in_same BuiltInIs.HasIncludeNext m rest cost counter le enough = goes_same m rest cost counter le enough
  built_in_same BuiltInIs.HasAttribute m rest cost counter le enough = goes_same m rest cost counter le enough

  arg_added_alike : (a : Arg) (r : Replaced) → with_arg again e a r ≡ with_arg more e a r
  arg_added_alike a (Args args c k) = refl
  arg_added_alike a (NotReplaced answer) = refl

  with_arg_same : (a : Arg) (r s : Replaced) → r ≡ s → with_arg again e a r ≡ with_arg more e a s
  with_arg_same a r s h = arg_added_alike a r ∙ ap (with_arg more e a) h

  after_arg_same : (further other : List Marked → ℕ → ℕ → Replaced) (cost : ℕ) (ran : Ran) → Within cost ran →
      ((ms : List Marked) (c k : ℕ) → cost ≤ c → c ≤ cost_limit → further ms c k ≡ other ms c k) → after_arg again e further ran ≡ after_arg more e other ran
  after_arg_same further other cost (Went ms c k) h each = each ms c k h.0 h.1
  after_arg_same further other cost (Failed answer) h each = refl

  replaced_either : (b : Bool) (x x' y y' : Replaced) → x ≡ x' → y ≡ y' → (if b then x else y) ≡ (if b then x' else y')
  replaced_either true x x' y y' h k = h
  replaced_either false x x' y y' h k = k

  -- of arguments that are shorter than what n turns are enough for
  args_same : (f : FunctionDef) (names : List (List ℕ)) (written : List (List Marked)) (size cost counter : ℕ) → cost ≤ cost_limit →
      Short size written → size + (cost_limit - cost) < n →
      replaced_args again e f names written cost counter ≡ replaced_args more e f names written cost counter
  args_same f [] written size cost counter le short enough = refl
  args_same f (name ∷ names) [] size cost counter le short enough = refl
  args_same f (name ∷ names) (w ∷ written) size cost counter le short enough =
      replaced_either (is_replaced f name) _ _ _ _
      (after_arg_same (λ ms c k. with_arg again e (record { written = w; replaced = ms }) (replaced_args again e f names written c k))
      (λ ms c k. with_arg more e (record { written = w; replaced = ms }) (replaced_args more e f names written c k)) cost (again w cost counter) (pays w cost counter le)
      (λ ms c k ge below. with_arg_same (record { written = w; replaced = ms }) _ _ (args_same f names written size c k below short.1 (omega arith)))
      ∙ ap (after_arg more e (λ ms c k. with_arg more e (record { written = w; replaced = ms }) (replaced_args more e f names written c k)))
      (same w cost counter le (omega (arith, short.0))))
      (with_arg_same (record { written = w; replaced = w }) _ _ (args_same f names written size cost counter le short.1 enough))

  called_same : (f : FunctionDef) (m : Marked) (close : List ℕ → Bool) (rest : List Marked) (cost : ℕ) (r : Replaced) → ArgsWithin e again pays cost r → Enough rest cost →
      called again e f m close rest r ≡ called more e f m close rest r
  called_same f m close rest cost (NotReplaced answer) h enough = refl
  called_same f m close rest cost (Args args c k) h enough =
      rescanned_same (also m.tok.text (λ name. m.hides name && close name)) rest c k
      (subst (record { function = true; variadic = f.variadic; arg = arg_named (all_params f.params f.variadic) args; line = m.tok.line }) m.tok.space f.body)
      (omega arith)

  call_with_same : (f : FunctionDef) (m : Marked) (parens : Enclosed Marked) (cost counter : ℕ) (written : Option (List (List Marked))) → cost ≤ cost_limit →
      ShortArgs (length parens.inside) written → length parens.inside + (cost_limit - cost) < n → Enough parens.after cost →
      call_with again e f m parens cost counter written ≡ call_with more e f m parens cost counter written
  call_with_same f m parens cost counter None le short inside enough = refl
  call_with_same f m parens cost counter (Some written) le short inside enough =
      called_same f m parens.close.hides parens.after cost (replaced_args again e f (all_params f.params f.variadic) written cost counter)
      (args_within e again pays f (all_params f.params f.variadic) written cost counter le) enough
      ∙ ap (called more e f m parens.close.hides parens.after) (args_same f (all_params f.params f.variadic) written (length parens.inside) cost counter le short inside)

  call_same : (f : FunctionDef) (m : Marked) (size cost counter : ℕ) (parens : Option (Enclosed Marked)) → cost ≤ cost_limit → Encloses size parens → size + (cost_limit - cost) < n →
      call again e f m cost counter parens ≡ call more e f m cost counter parens
  call_same f m size cost counter None le fits enough = refl
  call_same f m size cost counter (Some parens) le fits enough =
      call_with_same f m parens cost counter (written_args f parens.inside) le (written_short f parens.inside) (omega arith) (omega arith)

  by_def_same : (m : Marked) (rest : List Marked) (cost counter : ℕ) (def : Option Def) → cost ≤ cost_limit → Enough rest cost →
      by_def again e m rest cost counter def ≡ by_def more e m rest cost counter def
  by_def_same m rest cost counter None le enough = goes_same m rest cost counter le enough
  by_def_same m rest cost counter (Some (DefIs.BuiltIn which)) le enough = built_in_same which m rest cost counter le enough
  by_def_same m rest cost counter (Some (DefIs.Object body)) le enough =
      rescanned_same (also m.tok.text m.hides) rest cost counter (subst (record { function = false; variadic = None; arg = λ name. None; line = m.tok.line }) m.tok.space body) (omega arith)
  by_def_same m [] cost counter (Some (DefIs.Function f)) le enough = goes_same m [] cost counter le enough
  by_def_same m (r ∷ rest) cost counter (Some (DefIs.Function f)) le enough =
      either (is_open_paren r.tok) _ _ _ _
      (call_same f m (length (r ∷ rest)) cost counter (in_parens (λ m. m.tok) (r ∷ rest)) le (parens_fit (r ∷ rest)) enough)
      (goes_same m (r ∷ rest) cost counter le enough)

  -- what stands after `defined X` or `defined(X)` is no longer than what stood after `defined`
  abbrev NoLonger : ℕ → Option (List ℕ × List Marked) → Type 0
  NoLonger size None = ⊤
  NoLonger size (Some found) = length found.1 ≤ size

  no_longer_if : (b : Bool) (size : ℕ) (x y : Option (List ℕ × List Marked)) → NoLonger size x → NoLonger size y → NoLonger size (if b then x else y)
  no_longer_if true size x y h k = h
  no_longer_if false size x y h k = k

  defined_no_longer : (rest : List Marked) → NoLonger (length rest) (defined_name again e rest)
  defined_no_longer [] = tt
  defined_no_longer (p ∷ []) = no_longer_if (is_of Ident p.tok) 1 (Some (p.tok.text, [])) None (omega arith) tt
  defined_no_longer (p ∷ x ∷ []) = no_longer_if (is_of Ident p.tok) 2 (Some (p.tok.text, x ∷ [])) None (omega arith) tt
  defined_no_longer (p ∷ x ∷ q ∷ rest) =
      no_longer_if (is_of Ident p.tok) (length (p ∷ x ∷ q ∷ rest)) (Some (p.tok.text, x ∷ q ∷ rest)) _ (omega arith)
      (no_longer_if (is_open_paren p.tok && is_of Ident x.tok && is_close_paren q.tok) (length (p ∷ x ∷ q ∷ rest)) (Some (x.tok.text, rest)) None (omega arith) tt)

  defined_name_same : (rest : List Marked) → defined_name again e rest ≡ defined_name more e rest
  defined_name_same [] = refl
  defined_name_same (p ∷ []) = refl
  defined_name_same (p ∷ x ∷ []) = refl
  defined_name_same (p ∷ x ∷ q ∷ rest) = refl

  defined_same : (m : Marked) (rest : List Marked) (cost counter : ℕ) (found : Option (List ℕ × List Marked)) → cost ≤ cost_limit →
      NoLonger (length rest) found → Enough rest cost → defined_out again e m rest cost counter found ≡ defined_out more e m rest cost counter found
  defined_same m rest cost counter None le short enough = goes_same m rest cost counter le enough
  defined_same m rest cost counter (Some found) le short enough = goes_same _ found.1 cost counter le (omega arith)

  first_same : (m : Marked) (rest : List Marked) (cost counter : ℕ) → cost ≤ cost_limit → Enough rest cost →
      first_and_rest again e m rest cost counter ≡ first_and_rest more e m rest cost counter
  first_same m rest cost counter le enough =
      either (not (is_of Ident m.tok)) _ _ _ _ (goes_same m rest cost counter le enough)
      (either (in_condition e.mode && spells "defined" m.tok.text) _ _ _ _
      (defined_same m rest cost counter (defined_name again e rest) le (defined_no_longer rest) enough ∙ ap (defined_out more e m rest cost counter) (defined_name_same rest))
      (either (m.hides m.tok.text) _ _ _ _ (goes_same m rest cost counter le enough) (by_def_same m rest cost counter (e.defs m.tok.text) le enough)))

-- any two numbers of turns that are enough give the same
pub enough_turns : (n k : ℕ) (e : Scope) (ms : List Marked) (cost counter : ℕ) → cost ≤ cost_limit →
    length ms + (cost_limit - cost) < n → length ms + (cost_limit - cost) < k → expand_up_to n e ms cost counter ≡ expand_up_to k e ms cost counter
enough_turns zero k e ms cost counter le fits fits' = absurd (omega arith)
enough_turns (suc n) zero e ms cost counter le fits fits' = absurd (omega arith)
enough_turns (suc n) (suc k) e [] cost counter le fits fits' = refl
enough_turns (suc n) (suc k) e (m ∷ ms) cost counter le fits fits' =
    first_same e (expand_up_to n e) (expand_up_to k e) (length (m ∷ ms) + (cost_limit - cost)) (expansion_within n e)
    (λ xs c counter le enough. enough_turns n k e xs c counter le (omega arith) (omega arith)) m ms cost counter le (omega arith)

pub more_turns : MoreTurns
more_turns e ms cost counter more le =
    enough_turns (length ms + 1 + (cost_limit - cost) + more) (length ms + 1 + (cost_limit - cost)) e ms cost counter le (omega arith) (omega arith)

pub expands_in_full : ExpandsInFull
unfolding expand
expands_in_full defs site mode toks more =
    let e : Scope = record { defs = defs; site = site; mode = mode } in
    let marked : List Marked = map (λ t. record { tok = t; hides = no_name }) toks in
    let same_length : length marked ≡ length toks = length-map toks _ in
    ap answer_of (enough_turns (length toks + 1 + cost_limit) (length toks + 1 + cost_limit + more) e marked 0 (first_counter mode) (omega arith) (omega arith) (omega arith))

-- ## Without a count of turns

pub expands_none : EndsWithNothing
unfolding expands
expands_none e cost counter = ends (length {A = Marked} [] + 1 + (cost_limit - cost)) (omega arith)
  where
    ends : (n : ℕ) → 0 < n → expand_up_to n e [] cost counter ≡ Went [] cost counter
    ends zero h = absurd (omega arith)
    ends (suc n) h = refl

pub expands_first : TakesTheFirst
unfolding expands
expands_first e m ms cost counter le =
    enough_turns (length (m ∷ ms) + 1 + (cost_limit - cost)) (suc (length ms + 1 + (cost_limit - cost))) e (m ∷ ms) cost counter le (omega arith) (omega arith)
    ∙ first_same e (expand_up_to (length ms + 1 + (cost_limit - cost)) e) (expands e) (length ms + 1 + (cost_limit - cost)) (expansion_within (length ms + 1 + (cost_limit - cost)) e)
    (λ xs c k le enough. enough_turns (length ms + 1 + (cost_limit - cost)) (length xs + 1 + (cost_limit - c)) e xs c k le enough (omega arith)) m ms cost counter le (omega arith)

pub expands_list : ExpandsTheList
unfolding expand expands
expands_list defs site mode toks =
    let e : Scope = record { defs = defs; site = site; mode = mode } in
    let marked : List Marked = map (λ t. record { tok = t; hides = no_name }) toks in
    let same_length : length marked ≡ length toks = length-map toks _ in
    ap answer_of (enough_turns (length toks + 1 + cost_limit) (length marked + 1 + (cost_limit - 0)) e marked 0 (first_counter mode) (omega arith) (omega arith) (omega arith))
