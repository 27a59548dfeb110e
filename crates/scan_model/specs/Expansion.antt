-- Macro replacement, from the left ([cpp.rescan]).
use Rattle.std.specs.Prelude.{ℕ, zero, suc, ◌+◌, Bool, true, false, not, ◌&&◌, ◌||◌, ◌==◌, nat_lt, if◌then◌else◌, List, [], ◌∷◌, ◌++◌, map, length, Option, Some, None, is_some, codes}
use Rattle.std.specs.List.{onto_first}
use Rattle.std.specs.Fmt.{decimal}
use Rattle.scan_model.specs.declared.token.Kind.{Kind}
use Rattle.scan_model.specs.declared.token.Kind.TheVariants.{Ident, Number, Str}
use Rattle.scan_model.specs.declared.token.Tok.{Tok}
use Rattle.scan_model.specs.declared.macros.FunctionDef.{FunctionDef}
use Rattle.scan_model.specs.declared.macros.Def.{Def}
use Rattle.scan_model.specs.declared.macros.Def.TheVariants as DefIs
use Rattle.scan_model.specs.declared.macros.BuiltIn.{BuiltIn}
use Rattle.scan_model.specs.declared.macros.BuiltIn.TheVariants as BuiltInIs
use Rattle.scan_model.specs.declared.expansion.Site.{Site}
use Rattle.scan_model.specs.declared.expansion.Mode.{Mode}
use Rattle.scan_model.specs.declared.expansion.Mode.TheVariants as ModeIs
use Rattle.scan_model.specs.declared.expansion.Expanded.{Expanded}
use Rattle.scan_model.specs.declared.expansion.Expanded.TheVariants as Gives
use Rattle.scan_model.specs.Spelling.{spells}
use Rattle.scan_model.specs.TokenTests.{is_of, same, is_comma, is_open_paren, is_close_paren}
use Rattle.scan_model.specs.Parentheses.{depth_after, Enclosed, in_parens}
use Rattle.scan_model.specs.MacroDefinition.{all_params}
use Rattle.scan_model.specs.Site.{presumed}
use Rattle.scan_model.specs.Substitution.{Marked, no_name, Arg, subst, is_replaced}

abbrev pub cost_limit : ℕ
cost_limit = 1048576

-- what an expansion is done in
pub record Scope : Type 0 where
  pub defs : List ℕ → Option Def
  pub site : Site
  pub mode : Mode

-- the tokens that went out, and the cost and the counter after them; or the answer that isn't Done
pub data Ran : Type 0 where
  Went : List Marked → ℕ → ℕ → Ran
  Failed : Expanded → Ran

-- ## Arguments

-- the list cut at its first k commas outside parentheses, of which `depth` are open
abbrev pub cut_at_commas : ℕ → ℕ → List Marked → List (List Marked)
cut_at_commas k depth [] = [] ∷ []
cut_at_commas zero depth (m ∷ ms) = (m ∷ ms) ∷ []
cut_at_commas (suc k) depth (m ∷ ms) =
    let cut = [] ∷ cut_at_commas k depth ms in
    let further = onto_first m (cut_at_commas (suc k) (depth_after m.tok depth) ms) in
    if depth == 0 && is_comma m.tok then cut else further

abbrev pub exactly : ℕ → List (List Marked) → Option (List (List Marked))
exactly n args = if length args == n then Some args else None

-- one argument for each of n parameters; none for no parameter
abbrev pub plain_args : ℕ → List Marked → Option (List (List Marked))
plain_args zero [] = Some []
plain_args zero (m ∷ ms) = None
plain_args (suc n) ms = exactly (suc n) (cut_at_commas (length ms) 0 ms)

-- the same, and then the variable part, whose comma may be missing
abbrev pub variadic_args : ℕ → List Marked → Option (List (List Marked))
variadic_args n ms = let args = cut_at_commas n 0 ms in
    if length args == n then Some (args ++ [] ∷ []) else exactly (n + 1) args

abbrev pub written_args : FunctionDef → List Marked → Option (List (List Marked))
written_args f ms = let n = length f.params in
    let plain = plain_args n ms in
    let variadic = variadic_args n ms in
    if is_some f.variadic then variadic else plain

abbrev pub arg_named : List (List ℕ) → List Arg → List ℕ → Option Arg
arg_named [] args name = None
arg_named (p ∷ ps) [] name = None
arg_named (p ∷ ps) (a ∷ args) name = if same p name then Some a else arg_named ps args name

-- the arguments, and the cost and the counter after they were replaced; or what ended that
pub data Replaced : Type 0 where
  Args : List Arg → ℕ → ℕ → Replaced
  NotReplaced : Expanded → Replaced

-- ## One replacement

-- goes on, unless the cost has passed the limit
abbrev pub paid : ℕ → Ran → Ran
paid cost ran = if nat_lt cost_limit cost then Failed Gives.TooLong else ran

abbrev pub out : Marked → Ran → Ran
out m (Went ms cost counter) = Went (m ∷ ms) cost counter
out m (Failed answer) = Failed answer

abbrev pub in_condition : Mode → Bool
in_condition ModeIs.Condition = true
in_condition mode = false

abbrev pub in_text : Mode → Bool
in_text (ModeIs.Text counter) = true
in_text mode = false

-- the name t as a token of another kind and spelling
abbrev pub instead : Kind → List ℕ → Marked → Marked
instead kind text m = record m { tok = record m.tok { kind = kind; text = text } }

-- the names that a replacement adds: the hide set and the name
abbrev pub also : List ℕ → (List ℕ → Bool) → List ℕ → Bool
also name hides other = hides other || same name other

abbrev pub hidden_by : (List ℕ → Bool) → Marked → Marked
hidden_by added m = record m { hides = λ name. m.hides name || added name }

-- In the following, `again` expands a list, with the cost and the counter so far.
module _ (again : List Marked → ℕ → ℕ → Ran) (e : Scope) where
  -- the list in place of the name, put before the rest
  abbrev pub rescanned : (List ℕ → Bool) → List Marked → ℕ → ℕ → Option (List Marked) → Ran
  rescanned added rest cost counter None = Failed Gives.Bad
  rescanned added rest cost counter (Some list) =
      let paid_cost = cost + 1 + length list in
      let ran = again (map (hidden_by added) list ++ rest) paid_cost counter in
      paid paid_cost ran

  abbrev pub built_in_out : Kind → List ℕ → Marked → List Marked → ℕ → ℕ → Ran
  built_in_out kind text m rest cost counter =
      let ran = out (instead kind text m) (again rest (cost + 2) counter) in paid (cost + 2) ran

  abbrev pub built_in : BuiltIn → Marked → List Marked → ℕ → ℕ → Ran
  built_in BuiltInIs.File m rest cost counter = built_in_out Str e.site.file m rest cost counter
  built_in BuiltInIs.Line m rest cost counter = built_in_out Number (decimal (presumed e.site m.tok.line)) m rest cost counter
  built_in BuiltInIs.Date m rest cost counter = built_in_out Str (codes "\"Jan  1 1970\"") m rest cost counter
  built_in BuiltInIs.Time m rest cost counter = built_in_out Str (codes "\"00:00:00\"") m rest cost counter
  built_in BuiltInIs.Cplusplus m rest cost counter = built_in_out Number (codes "202002L") m rest cost counter
  built_in BuiltInIs.Counter m rest cost counter =
      let ran = out (instead Number (decimal counter) m) (again rest (cost + 2) (counter + 1)) in
      if in_text e.mode then paid (cost + 2) ran else Failed Gives.Counter
  built_in BuiltInIs.HasInclude m rest cost counter = out m (again rest cost counter)
  built_in BuiltInIs.HasIncludeNext m rest cost counter = out m (again rest cost counter)
  built_in BuiltInIs.HasAttribute m rest cost counter = out m (again rest cost counter)

  abbrev pub with_arg : Arg → Replaced → Replaced
  with_arg a (Args args cost counter) = Args (a ∷ args) cost counter
  with_arg a (NotReplaced answer) = NotReplaced answer

  abbrev pub after_arg : (List Marked → ℕ → ℕ → Replaced) → Ran → Replaced
  after_arg further (Went ms cost counter) = further ms cost counter
  after_arg further (Failed answer) = NotReplaced answer

  -- the arguments that are replaced by themselves, in the order of the parameters
  abbrev pub replaced_args : FunctionDef → List (List ℕ) → List (List Marked) → ℕ → ℕ → Replaced
  replaced_args f [] written cost counter = Args [] cost counter
  replaced_args f (name ∷ names) [] cost counter = Args [] cost counter
  replaced_args f (name ∷ names) (w ∷ written) cost counter =
      let replaced = after_arg (λ ms c k. with_arg (record { written = w; replaced = ms }) (replaced_args f names written c k)) (again w cost counter) in
      let kept = with_arg (record { written = w; replaced = w }) (replaced_args f names written cost counter) in
      if is_replaced f name then replaced else kept

  -- a call, whose `)` is marked with `close`
  abbrev pub called : FunctionDef → Marked → (List ℕ → Bool) → List Marked → Replaced → Ran
  called f m close rest (NotReplaced answer) = Failed answer
  called f m close rest (Args args cost counter) =
      rescanned (also m.tok.text (λ name. m.hides name && close name)) rest cost counter
      (subst (record { function = true; variadic = f.variadic; arg = arg_named (all_params f.params f.variadic) args; line = m.tok.line }) m.tok.space f.body)

  abbrev pub call_with : FunctionDef → Marked → Enclosed Marked → ℕ → ℕ → Option (List (List Marked)) → Ran
  call_with f m parens cost counter None = Failed Gives.Bad
  call_with f m parens cost counter (Some written) =
      called f m parens.close.hides parens.after (replaced_args f (all_params f.params f.variadic) written cost counter)

  abbrev pub call : FunctionDef → Marked → ℕ → ℕ → Option (Enclosed Marked) → Ran
  call f m cost counter None = Failed Gives.Bad
  call f m cost counter (Some parens) = call_with f m parens cost counter (written_args f parens.inside)

  abbrev pub is_called : List Marked → Bool
  is_called [] = false
  is_called (m ∷ ms) = is_open_paren m.tok

  abbrev pub by_def : Marked → List Marked → ℕ → ℕ → Option Def → Ran
  by_def m rest cost counter None = out m (again rest cost counter)
  by_def m rest cost counter (Some (DefIs.BuiltIn which)) = built_in which m rest cost counter
  by_def m rest cost counter (Some (DefIs.Object body)) =
      rescanned (also m.tok.text m.hides) rest cost counter
      (subst (record { function = false; variadic = None; arg = λ name. None; line = m.tok.line }) m.tok.space body)
  by_def m rest cost counter (Some (DefIs.Function f)) =
      let called = call f m cost counter (in_parens (λ m. m.tok) rest) in
      let goes = out m (again rest cost counter) in
      if is_called rest then called else goes

  -- `defined X` and `defined(X)`, after `defined`: X, and what follows
  abbrev pub defined_name : List Marked → Option (List ℕ × List Marked)
  defined_name (p ∷ x ∷ q ∷ rest) =
      if is_of Ident p.tok then Some (p.tok.text, x ∷ q ∷ rest)
      else if is_open_paren p.tok && is_of Ident x.tok && is_close_paren q.tok then Some (x.tok.text, rest) else None
  defined_name (p ∷ rest) = if is_of Ident p.tok then Some (p.tok.text, rest) else None
  defined_name [] = None

  abbrev pub defined_out : Marked → List Marked → ℕ → ℕ → Option (List ℕ × List Marked) → Ran
  defined_out m rest cost counter None = out m (again rest cost counter)
  defined_out m rest cost counter (Some found) =
      out (instead Number (if is_some (e.defs found.0) then codes "1" else codes "0") m) (again found.1 cost counter)

  abbrev pub first_and_rest : Marked → List Marked → ℕ → ℕ → Ran
  first_and_rest m rest cost counter =
      let goes = out m (again rest cost counter) in
      let defined = defined_out m rest cost counter (defined_name rest) in
      let by = by_def m rest cost counter (e.defs m.tok.text) in
      if not (is_of Ident m.tok) then goes
      else if in_condition e.mode && spells "defined" m.tok.text then defined
      else if m.hides m.tok.text then goes
      else by

-- Each turn takes a token away, or its replacement by n tokens costs n + 1. So while the cost c is within the limit, no
-- list of k tokens needs more than k + 1 + (the limit - c) turns, one inside the other.
abbrev pub expand_up_to : ℕ → Scope → List Marked → ℕ → ℕ → Ran
expand_up_to zero e ms cost counter = Failed Gives.TooLong
expand_up_to (suc n) e [] cost counter = Went [] cost counter
expand_up_to (suc n) e (m ∷ ms) cost counter = first_and_rest (expand_up_to n e) e m ms cost counter

abbrev pub first_counter : Mode → ℕ
first_counter (ModeIs.Text counter) = counter
first_counter mode = 0

abbrev pub answer_of : Ran → Expanded
answer_of (Went ms cost counter) = Gives.Done (map (λ m. m.tok) ms) counter
answer_of (Failed answer) = answer

-- the tokens replaced, from the left
unfoldable pub expand : (List ℕ → Option Def) → Site → Mode → List Tok → Expanded
expand defs site mode toks =
    answer_of (expand_up_to (length toks + 1 + cost_limit) (record { defs = defs; site = site; mode = mode })
    (map (λ t. record { tok = t; hides = no_name }) toks) 0 (first_counter mode))
