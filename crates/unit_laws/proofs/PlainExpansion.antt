-- What an expansion gives has no keyword of the stream, where neither its tokens nor its macros have one.
use Rattle.std.proofs.Common.{ℕ, zero, suc, ◌+◌, nat_lt, Bool, true, false, not, ◌&&◌, ◌==◌, if◌then◌else◌, List, [], ◌∷◌, ◌++◌, map, length, refl, Option, Some, None, codes}
use Rattle.std.specs.Prelude.{⊤, is_some}
use Rattle.std.specs.List.{onto_first, AllByRecursion}
use Rattle.std.specs.Fmt.{decimal}
use Rattle.scan_model.specs.declared.token.Kind.{Kind}
use Rattle.scan_model.specs.declared.token.Kind.TheVariants.{Ident, Number, Str}
use Rattle.scan_model.specs.declared.token.Tok.{Tok}
use Rattle.scan_model.specs.declared.macros.FunctionDef.{FunctionDef}
use Rattle.scan_model.specs.declared.macros.Def.{Def}
use Rattle.scan_model.specs.declared.macros.Def.TheVariants as DefIs
use Rattle.scan_model.specs.declared.macros.BuiltIn.{BuiltIn}
use Rattle.scan_model.specs.declared.macros.BuiltIn.TheVariants as BuiltInIs
use Rattle.scan_model.specs.declared.expansion.Site.{Site}
use Rattle.scan_model.specs.declared.expansion.Mode.{Mode}
use Rattle.scan_model.specs.declared.expansion.Expanded.{Expanded}
use Rattle.scan_model.specs.declared.expansion.Expanded.TheVariants as Gives
use Rattle.scan_model.specs.Spelling.{spells}
use Rattle.scan_model.specs.TokenTests.{is_of, same, is_comma, is_open_paren, is_close_paren}
use Rattle.scan_model.specs.Parentheses.{depth_after, Enclosed, in_parens}
use Rattle.scan_model.specs.MacroDefinition.{all_params}
use Rattle.scan_model.specs.Substitution.{Marked, no_name, Arg, Call, subst, is_replaced}
use Rattle.scan_model.specs.Expansion.{Scope, cost_limit, expand_up_to, Ran, Went, Failed, Replaced, Args, NotReplaced, cut_at_commas, exactly, plain_args, variadic_args, written_args, arg_named, paid, out, in_condition, in_text, instead, also, hidden_by, rescanned, built_in_out, built_in, with_arg, after_arg, replaced_args, called, call_with, call, is_called, by_def, defined_name, defined_out, first_and_rest, first_counter, answer_of, expand}
use Rattle.unit_laws.proofs.PlainText.{IsPlain}
use Rattle.unit_laws.proofs.Parts.{OnSome, some_if, all_append, all_map, all_if, InAndAfter, all_in_parens}
use Rattle.unit_laws.proofs.PlainMacros.{PlainTok, PlainToks, PlainMarked, PlainDef, PlainArg, subst_plain}

abbrev PlainOne : Marked → Type 0
PlainOne m = IsPlain m.tok.kind

abbrev pub PlainAnswer : Expanded → Type 0
PlainAnswer (Gives.Done ts counter) = PlainToks ts
PlainAnswer other = ⊤

abbrev PlainRan : Ran → Type 0
PlainRan (Went ms cost counter) = PlainMarked ms
PlainRan (Failed answer) = PlainAnswer answer

abbrev pub PlainDefs : (List ℕ → Option Def) → Type 0
PlainDefs defs = (name : List ℕ) → OnSome PlainDef (defs name)

abbrev Again : Type 0
Again = List Marked → ℕ → ℕ → Ran

abbrev KeepsPlain : Again → Type 0
KeepsPlain again = (ms : List Marked) (cost counter : ℕ) → PlainMarked ms → PlainRan (again ms cost counter)

ran_if : (b : Bool) (x y : Ran) → PlainRan x → PlainRan y → PlainRan (if b then x else y)
ran_if true x y h k = h
ran_if false x y h k = k

out_plain : (m : Marked) (ran : Ran) → PlainOne m → PlainRan ran → PlainRan (out m ran)
out_plain m (Went ms cost counter) h k = (h, k)
out_plain m (Failed answer) h k = k

paid_plain : (cost : ℕ) (ran : Ran) → PlainRan ran → PlainRan (paid cost ran)
paid_plain cost ran h = ran_if (nat_lt cost_limit cost) (Failed Gives.TooLong) ran tt h

-- ## Arguments

abbrev PlainLists : List (List Marked) → Type 0
PlainLists ws = AllByRecursion PlainMarked ws

onto_first_plain : (m : Marked) (ws : List (List Marked)) → PlainOne m → PlainLists ws → PlainLists (onto_first m ws)
onto_first_plain m [] h k = ((h, tt), tt)
onto_first_plain m (w ∷ ws) h k = ((h, k.0), k.1)

cut_plain : (k depth : ℕ) (ms : List Marked) → PlainMarked ms → PlainLists (cut_at_commas k depth ms)
cut_plain k depth [] h = (tt, tt)
cut_plain zero depth (m ∷ ms) h = (h, tt)
cut_plain (suc k) depth (m ∷ ms) h =
    all_if PlainMarked (depth == 0 && is_comma m.tok) ([] ∷ cut_at_commas k depth ms) (onto_first m (cut_at_commas (suc k) (depth_after m.tok depth) ms))
    (tt, cut_plain k depth ms h.1) (onto_first_plain m (cut_at_commas (suc k) (depth_after m.tok depth) ms) h.0 (cut_plain (suc k) (depth_after m.tok depth) ms h.1))

exactly_plain : (n : ℕ) (ws : List (List Marked)) → PlainLists ws → OnSome PlainLists (exactly n ws)
exactly_plain n ws h = some_if PlainLists (length ws == n) (Some ws) None h tt

plain_args_plain : (n : ℕ) (ms : List Marked) → PlainMarked ms → OnSome PlainLists (plain_args n ms)
plain_args_plain zero [] h = tt
plain_args_plain zero (m ∷ ms) h = tt
plain_args_plain (suc n) ms h = exactly_plain (suc n) (cut_at_commas (length ms) 0 ms) (cut_plain (length ms) 0 ms h)

variadic_args_plain : (n : ℕ) (ms : List Marked) → PlainMarked ms → OnSome PlainLists (variadic_args n ms)
variadic_args_plain n ms h =
    let ws = cut_at_commas n 0 ms in
    some_if PlainLists (length ws == n) (Some (ws ++ [] ∷ [])) (exactly (n + 1) ws)
    (all_append PlainMarked ws ([] ∷ []) (cut_plain n 0 ms h) (tt, tt)) (exactly_plain (n + 1) ws (cut_plain n 0 ms h))

written_plain : (f : FunctionDef) (ms : List Marked) → PlainMarked ms → OnSome PlainLists (written_args f ms)
written_plain f ms h =
    let n = length f.params in
    some_if PlainLists (is_some f.variadic) (variadic_args n ms) (plain_args n ms) (variadic_args_plain n ms h) (plain_args_plain n ms h)

abbrev PlainArgs : List Arg → Type 0
PlainArgs args = AllByRecursion PlainArg args

named_plain : (names : List (List ℕ)) (args : List Arg) → PlainArgs args → (name : List ℕ) → OnSome PlainArg (arg_named names args name)
named_plain [] args h name = tt
named_plain (p ∷ names) [] h name = tt
named_plain (p ∷ names) (a ∷ args) h name = some_if PlainArg (same p name) (Some a) (arg_named names args name) h.0 (named_plain names args h.1 name)

abbrev PlainReplaced : Replaced → Type 0
PlainReplaced (Args args cost counter) = PlainArgs args
PlainReplaced (NotReplaced answer) = PlainAnswer answer

replaced_if : (b : Bool) (x y : Replaced) → PlainReplaced x → PlainReplaced y → PlainReplaced (if b then x else y)
replaced_if true x y h k = h
replaced_if false x y h k = k

-- ## One replacement

module _ (e : Scope) (defs : PlainDefs e.defs) (again : Again) (keeps : KeepsPlain again) where
  goes_plain : (m : Marked) (rest : List Marked) (cost counter : ℕ) → PlainOne m → PlainMarked rest → PlainRan (out m (again rest cost counter))
  goes_plain m rest cost counter h k = out_plain m (again rest cost counter) h (keeps rest cost counter k)

  rescanned_plain : (added : List ℕ → Bool) (rest : List Marked) (cost counter : ℕ) (list : Option (List Marked)) → PlainMarked rest → OnSome PlainMarked list →
      PlainRan (rescanned again e added rest cost counter list)
  rescanned_plain added rest cost counter None h k = tt
  rescanned_plain added rest cost counter (Some list) h k =
      paid_plain (cost + 1 + length list) (again (map (hidden_by added) list ++ rest) (cost + 1 + length list) counter)
      (keeps (map (hidden_by added) list ++ rest) (cost + 1 + length list) counter
      (all_append PlainOne (map (hidden_by added) list) rest (all_map PlainOne PlainOne (hidden_by added) list k (λ m p. p)) h))

  token_plain : (kind : Kind) (text : List ℕ) (m : Marked) (rest : List Marked) (cost counter : ℕ) → IsPlain kind → PlainMarked rest →
      PlainRan (built_in_out again e kind text m rest cost counter)
  token_plain kind text m rest cost counter h k =
      paid_plain (cost + 2) (out (instead kind text m) (again rest (cost + 2) counter)) (goes_plain (instead kind text m) rest (cost + 2) counter h k)

  built_in_plain : (which : BuiltIn) (m : Marked) (rest : List Marked) (cost counter : ℕ) → PlainOne m → PlainMarked rest → PlainRan (built_in again e which m rest cost counter)
  built_in_plain BuiltInIs.File m rest cost counter h k = token_plain Str _ m rest cost counter refl k
  built_in_plain BuiltInIs.Line m rest cost counter h k = token_plain Number _ m rest cost counter refl k
  built_in_plain BuiltInIs.Date m rest cost counter h k = token_plain Str _ m rest cost counter refl k
  built_in_plain BuiltInIs.Time m rest cost counter h k = token_plain Str _ m rest cost counter refl k
  built_in_plain BuiltInIs.Cplusplus m rest cost counter h k = token_plain Number _ m rest cost counter refl k
  built_in_plain BuiltInIs.Counter m rest cost counter h k =
      ran_if (in_text e.mode) (paid (cost + 2) (out (instead Number (decimal counter) m) (again rest (cost + 2) (counter + 1)))) (Failed Gives.Counter)
      (paid_plain (cost + 2) (out (instead Number (decimal counter) m) (again rest (cost + 2) (counter + 1)))
      (goes_plain (instead Number (decimal counter) m) rest (cost + 2) (counter + 1) refl k)) tt
  built_in_plain BuiltInIs.HasInclude m rest cost counter h k = goes_plain m rest cost counter h k
  built_in_plain BuiltInIs.HasIncludeNext m rest cost counter h k = goes_plain m rest cost counter h k
  built_in_plain BuiltInIs.HasAttribute m rest cost counter h k = goes_plain m rest cost counter h k

  with_arg_plain : (a : Arg) (r : Replaced) → PlainArg a → PlainReplaced r → PlainReplaced (with_arg again e a r)
  with_arg_plain a (Args args cost counter) h k = (h, k)
  with_arg_plain a (NotReplaced answer) h k = k

  after_arg_plain : (further : List Marked → ℕ → ℕ → Replaced) (ran : Ran) → PlainRan ran → ((ms : List Marked) (c k : ℕ) → PlainMarked ms → PlainReplaced (further ms c k)) →
      PlainReplaced (after_arg again e further ran)
  after_arg_plain further (Went ms c k) h each = each ms c k h
  after_arg_plain further (Failed answer) h each = h

  args_plain : (f : FunctionDef) (names : List (List ℕ)) (written : List (List Marked)) (cost counter : ℕ) → PlainLists written →
      PlainReplaced (replaced_args again e f names written cost counter)
  args_plain f [] written cost counter h = tt
  args_plain f (name ∷ names) [] cost counter h = tt
  args_plain f (name ∷ names) (w ∷ written) cost counter h =
      replaced_if (is_replaced f name) _ _
      (after_arg_plain (λ ms c k. with_arg again e (record { written = w; replaced = ms }) (replaced_args again e f names written c k)) (again w cost counter) (keeps w cost counter h.0)
      (λ ms c k p. with_arg_plain (record { written = w; replaced = ms }) (replaced_args again e f names written c k) (h.0, p) (args_plain f names written c k h.1)))
      (with_arg_plain (record { written = w; replaced = w }) (replaced_args again e f names written cost counter) (h.0, h.0) (args_plain f names written cost counter h.1))

  called_plain : (f : FunctionDef) (m : Marked) (close : List ℕ → Bool) (rest : List Marked) (r : Replaced) → PlainToks f.body → PlainMarked rest → PlainReplaced r →
      PlainRan (called again e f m close rest r)
  called_plain f m close rest (NotReplaced answer) b h k = k
  called_plain f m close rest (Args args cost counter) b h k =
      let c : Call = record { function = true; variadic = f.variadic; arg = arg_named (all_params f.params f.variadic) args; line = m.tok.line } in
      rescanned_plain (also m.tok.text (λ name. m.hides name && close name)) rest cost counter (subst c m.tok.space f.body) h
      (subst_plain c m.tok.space f.body (named_plain (all_params f.params f.variadic) args k) b)

  call_with_plain : (f : FunctionDef) (m : Marked) (parens : Enclosed Marked) (cost counter : ℕ) (written : Option (List (List Marked))) → PlainToks f.body →
      PlainMarked parens.after → OnSome PlainLists written → PlainRan (call_with again e f m parens cost counter written)
  call_with_plain f m parens cost counter None b h k = tt
  call_with_plain f m parens cost counter (Some written) b h k =
      called_plain f m parens.close.hides parens.after (replaced_args again e f (all_params f.params f.variadic) written cost counter) b h
      (args_plain f (all_params f.params f.variadic) written cost counter k)

  call_plain : (f : FunctionDef) (m : Marked) (cost counter : ℕ) (parens : Option (Enclosed Marked)) → PlainToks f.body → OnSome (InAndAfter PlainOne) parens →
      PlainRan (call again e f m cost counter parens)
  call_plain f m cost counter None b h = tt
  call_plain f m cost counter (Some parens) b h = call_with_plain f m parens cost counter (written_args f parens.inside) b h.1 (written_plain f parens.inside h.0)

  by_def_plain : (m : Marked) (rest : List Marked) (cost counter : ℕ) (def : Option Def) → OnSome PlainDef def → PlainOne m → PlainMarked rest →
      PlainRan (by_def again e m rest cost counter def)
  by_def_plain m rest cost counter None d h k = goes_plain m rest cost counter h k
  by_def_plain m rest cost counter (Some (DefIs.BuiltIn which)) d h k = built_in_plain which m rest cost counter h k
  by_def_plain m rest cost counter (Some (DefIs.Object body)) d h k =
      let c : Call = record { function = false; variadic = None; arg = λ name. None; line = m.tok.line } in
      rescanned_plain (also m.tok.text m.hides) rest cost counter (subst c m.tok.space body) k (subst_plain c m.tok.space body (λ name. tt) d)
  by_def_plain m rest cost counter (Some (DefIs.Function f)) d h k =
      ran_if (is_called again e rest) (call again e f m cost counter (in_parens (λ m. m.tok) rest)) (out m (again rest cost counter))
      (call_plain f m cost counter (in_parens (λ m. m.tok) rest) d (all_in_parens PlainOne (λ m. m.tok) rest k)) (goes_plain m rest cost counter h k)

  abbrev PlainFound : (List ℕ × List Marked) → Type 0
  PlainFound found = PlainMarked found.1

  defined_name_plain : (rest : List Marked) → PlainMarked rest → OnSome PlainFound (defined_name again e rest)
  defined_name_plain [] h = tt
  defined_name_plain (p ∷ []) h = some_if PlainFound (is_of Ident p.tok) (Some (p.tok.text, [])) None tt tt
  defined_name_plain (p ∷ x ∷ []) h = some_if PlainFound (is_of Ident p.tok) (Some (p.tok.text, x ∷ [])) None h.1 tt
  defined_name_plain (p ∷ x ∷ q ∷ rest) h =
      some_if PlainFound (is_of Ident p.tok) (Some (p.tok.text, x ∷ q ∷ rest)) _ h.1
      (some_if PlainFound (is_open_paren p.tok && is_of Ident x.tok && is_close_paren q.tok) (Some (x.tok.text, rest)) None h.1.1.1 tt)

  defined_plain : (m : Marked) (rest : List Marked) (cost counter : ℕ) (found : Option (List ℕ × List Marked)) → OnSome PlainFound found → PlainOne m → PlainMarked rest →
      PlainRan (defined_out again e m rest cost counter found)
  defined_plain m rest cost counter None f h k = goes_plain m rest cost counter h k
  defined_plain m rest cost counter (Some found) f h k =
      goes_plain (instead Number (if is_some (e.defs found.0) then codes "1" else codes "0") m) found.1 cost counter refl f

  one_plain : (m : Marked) (rest : List Marked) (cost counter : ℕ) → PlainOne m → PlainMarked rest → PlainRan (first_and_rest again e m rest cost counter)
  one_plain m rest cost counter h k =
      ran_if (not (is_of Ident m.tok)) _ _ (goes_plain m rest cost counter h k)
      (ran_if (in_condition e.mode && spells "defined" m.tok.text) _ _ (defined_plain m rest cost counter (defined_name again e rest) (defined_name_plain rest k) h k)
      (ran_if (m.hides m.tok.text) _ _ (goes_plain m rest cost counter h k) (by_def_plain m rest cost counter (e.defs m.tok.text) (defs m.tok.text) h k)))

turns_plain : (n : ℕ) (e : Scope) → PlainDefs e.defs → KeepsPlain (expand_up_to n e)
turns_plain zero e defs ms cost counter h = tt
turns_plain (suc n) e defs [] cost counter h = tt
turns_plain (suc n) e defs (m ∷ ms) cost counter h = one_plain e defs (expand_up_to n e) (turns_plain n e defs) m ms cost counter h.0 h.1

-- ## The whole

answer_plain : (ran : Ran) → PlainRan ran → PlainAnswer (answer_of ran)
answer_plain (Went ms cost counter) h = all_map PlainOne PlainTok (λ m. m.tok) ms h (λ m p. p)
answer_plain (Failed answer) h = h

pub expand_plain : (defs : List ℕ → Option Def) (site : Site) (mode : Mode) (ts : List Tok) → PlainDefs defs → PlainToks ts → PlainAnswer (expand defs site mode ts)
unfolding expand
expand_plain defs site mode ts plain h =
    let e : Scope = record { defs = defs; site = site; mode = mode } in
    let marked : List Marked = map (λ t. record { tok = t; hides = no_name }) ts in
    answer_plain (expand_up_to (length ts + 1 + cost_limit) e marked 0 (first_counter mode))
    (turns_plain (length ts + 1 + cost_limit) e plain marked 0 (first_counter mode) (all_map PlainTok PlainOne _ ts h (λ t p. p)))
