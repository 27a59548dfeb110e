-- What an expansion gives.
use Rattle.std.proofs.Common.{◌≡◌, ℕ, zero, suc, ◌+◌, Bool, true, false, cond, if◌then◌else◌, List, [], ◌∷◌, ◌++◌, map, length, refl, sym, ap, ◌∙◌, subst as along}
use Rattle.std.specs.Prelude.{⊤, Option, Some, None, IfSome, not, ◌&&◌, ◌==◌, nat_lt, is_some, codes}
use Rattle.std.specs.List.{AllByRecursion, onto_first}
use Rattle.std.specs.Fmt.{decimal}
use Rattle.scan_model.specs.declared.token.Kind.{Kind}
use Rattle.scan_model.specs.declared.token.Kind.TheVariants.{Ident, Number, Str}
use Rattle.scan_model.specs.declared.token.Tok.{Tok}
use Rattle.scan_model.specs.declared.macros.FunctionDef.{FunctionDef}
use Rattle.scan_model.specs.declared.macros.Def.{Def}
use Rattle.scan_model.specs.declared.macros.Def.TheVariants as DefIs
use Rattle.scan_model.specs.declared.macros.BuiltIn.{BuiltIn}
use Rattle.scan_model.specs.declared.macros.BuiltIn.TheVariants as BuiltInIs
use Rattle.scan_model.specs.declared.expansion.Expanded.{Expanded}
use Rattle.scan_model.specs.declared.expansion.Expanded.TheVariants as Gives
use Rattle.scan_model.specs.Spelling.{spells}
use Rattle.scan_model.specs.TokenTests.{is_of, same, is_comma, is_open_paren, is_close_paren}
use Rattle.scan_model.specs.Parentheses.{depth_after, Enclosed, in_parens}
use Rattle.scan_model.specs.MacroDefinition.{all_params}
use Rattle.scan_model.specs.Site.{presumed}
use Rattle.scan_model.specs.Substitution.{Marked, no_name, Arg, Call, subst, is_replaced}
use Rattle.scan_model.specs.Expansion.{Scope, cost_limit, expand_up_to, Ran, Went, Failed, Replaced, Args, NotReplaced, cut_at_commas, exactly, plain_args, variadic_args, written_args, paid, out, in_condition, in_text, instead, also, hidden_by, arg_named, rescanned, built_in_out, built_in, with_arg, after_arg, replaced_args, called, call_with, call, is_called, by_def, defined_name, defined_out, first_and_rest, first_counter, answer_of, expand}
use Rattle.scan_model.specs.Utf8Names.{HasUtf8Name, HaveUtf8Names}
use Rattle.replaced_names.specs.Names.{HasUtf8Body, HaveUtf8Bodies, NamesStay}
use Rattle.replaced_names.proofs.Lists.{never, Good, good_of, names_of, GoodMark, GoodMarks, marks_append, marks_toks, if_cond, GoodParens, parens_good}
use Rattle.replaced_names.proofs.Items.{GoodArg, GoodCall, subst_good}

-- ## Arguments

abbrev GoodLists : List (List Marked) → Type 0
GoodLists lists = AllByRecursion GoodMarks lists

lists_append : (xs ys : List (List Marked)) → GoodLists xs → GoodLists ys → GoodLists (xs ++ ys)
lists_append [] ys h k = k
lists_append (x ∷ xs) ys h k = (h.0, lists_append xs ys h.1 k)

onto_first_good : (m : Marked) (lists : List (List Marked)) → GoodMark m → GoodLists lists → GoodLists (onto_first m lists)
onto_first_good m [] h k = ((h, tt), tt)
onto_first_good m (ms ∷ lists) h k = ((h, k.0), k.1)

cond_lists : (b : Bool) (x y : List (List Marked)) → GoodLists x → GoodLists y → GoodLists (cond b x y)
cond_lists true x y h k = h
cond_lists false x y h k = k

cut_good : (k depth : ℕ) (ms : List Marked) → GoodMarks ms → GoodLists (cut_at_commas k depth ms)
cut_good k depth [] h = (tt, tt)
cut_good zero depth (m ∷ ms) h = (h, tt)
cut_good (suc k) depth (m ∷ ms) h =
    cond_lists (depth == 0 && is_comma m.tok) ([] ∷ cut_at_commas k depth ms) (onto_first m (cut_at_commas (suc k) (depth_after m.tok depth) ms))
    (tt, cut_good k depth ms h.1) (onto_first_good m (cut_at_commas (suc k) (depth_after m.tok depth) ms) h.0 (cut_good (suc k) (depth_after m.tok depth) ms h.1))

exactly_good : (n : ℕ) (args : List (List Marked)) → GoodLists args → IfSome (exactly n args) GoodLists
exactly_good n args h = if_cond GoodLists (length args == n) (Some args) None h tt

plain_args_good : (n : ℕ) (ms : List Marked) → GoodMarks ms → IfSome (plain_args n ms) GoodLists
plain_args_good zero [] h = tt
plain_args_good zero (m ∷ ms) h = tt
plain_args_good (suc n) ms h = exactly_good (suc n) (cut_at_commas (length ms) 0 ms) (cut_good (length ms) 0 ms h)

variadic_args_good : (n : ℕ) (ms : List Marked) → GoodMarks ms → IfSome (variadic_args n ms) GoodLists
variadic_args_good n ms h = let args = cut_at_commas n 0 ms in
    if_cond GoodLists (length args == n) (Some (args ++ [] ∷ [])) (exactly (n + 1) args) (lists_append args ([] ∷ []) (cut_good n 0 ms h) (tt, tt)) (exactly_good (n + 1) args (cut_good n 0 ms h))

written_args_good : (f : FunctionDef) (ms : List Marked) → GoodMarks ms → IfSome (written_args f ms) GoodLists
written_args_good f ms h = let n = length f.params in
    if_cond GoodLists (is_some f.variadic) (variadic_args n ms) (plain_args n ms) (variadic_args_good n ms h) (plain_args_good n ms h)

arg_named_good : (names : List (List ℕ)) (args : List Arg) → AllByRecursion GoodArg args → (name : List ℕ) → IfSome (arg_named names args name) GoodArg
arg_named_good [] args h name = tt
arg_named_good (p ∷ ps) [] h name = tt
arg_named_good (p ∷ ps) (a ∷ args) h name = if_cond GoodArg (same p name) (Some a) (arg_named ps args name) h.0 (arg_named_good ps args h.1 name)

-- ## What goes out

abbrev GoodAnswer : Expanded → Type 0
GoodAnswer (Gives.Done toks counter) = Good toks
GoodAnswer answer = ⊤

abbrev GoodRan : Ran → Type 0
GoodRan (Went ms cost counter) = GoodMarks ms
GoodRan (Failed answer) = GoodAnswer answer

abbrev GoodReplaced : Replaced → Type 0
GoodReplaced (Args args cost counter) = AllByRecursion GoodArg args
GoodReplaced (NotReplaced answer) = GoodAnswer answer

cond_ran : (b : Bool) (x y : Ran) → GoodRan x → GoodRan y → GoodRan (cond b x y)
cond_ran true x y h k = h
cond_ran false x y h k = k

cond_replaced : (b : Bool) (x y : Replaced) → GoodReplaced x → GoodReplaced y → GoodReplaced (cond b x y)
cond_replaced true x y h k = h
cond_replaced false x y h k = k

paid_good : (cost : ℕ) (ran : Ran) → GoodRan ran → GoodRan (paid cost ran)
paid_good cost ran h = cond_ran (nat_lt cost_limit cost) (Failed Gives.TooLong) ran tt h

out_good : (m : Marked) (ran : Ran) → GoodMark m → GoodRan ran → GoodRan (out m ran)
out_good m (Went ms cost counter) h k = (h, k)
out_good m (Failed answer) h k = k

hidden_good : (added : List ℕ → Bool) (ms : List Marked) → GoodMarks ms → GoodMarks (map (hidden_by added) ms)
hidden_good added [] h = tt
hidden_good added (m ∷ ms) h = (h.0, hidden_good added ms h.1)

with_arg_good : (again : List Marked → ℕ → ℕ → Ran) (e : Scope) (a : Arg) (r : Replaced) → GoodArg a → GoodReplaced r → GoodReplaced (with_arg again e a r)
with_arg_good again e a (Args args cost counter) h k = (h, k)
with_arg_good again e a (NotReplaced answer) h k = k

after_arg_good : (again : List Marked → ℕ → ℕ → Ran) (e : Scope) (further : List Marked → ℕ → ℕ → Replaced) (ran : Ran) →
    ((ms : List Marked) (cost counter : ℕ) → GoodMarks ms → GoodReplaced (further ms cost counter)) → GoodRan ran → GoodReplaced (after_arg again e further ran)
after_arg_good again e further (Went ms cost counter) h k = h ms cost counter k
after_arg_good again e further (Failed answer) h k = k

defined_name_good : (again : List Marked → ℕ → ℕ → Ran) (e : Scope) (ms : List Marked) → GoodMarks ms → IfSome (defined_name again e ms) (λ found. GoodMarks found.1)
defined_name_good again e [] h = tt
defined_name_good again e (p ∷ []) h = if_cond (λ (found : List ℕ × List Marked). GoodMarks found.1) (is_of Ident p.tok) (Some (p.tok.text, [])) None tt tt
defined_name_good again e (p ∷ x ∷ []) h = if_cond (λ (found : List ℕ × List Marked). GoodMarks found.1) (is_of Ident p.tok) (Some (p.tok.text, x ∷ [])) None h.1 tt
defined_name_good again e (p ∷ x ∷ q ∷ rest) h =
    let P = λ (found : List ℕ × List Marked). GoodMarks found.1 in
    let called = cond (is_open_paren p.tok && is_of Ident x.tok && is_close_paren q.tok) (Some (x.tok.text, rest)) None in
    if_cond P (is_of Ident p.tok) (Some (p.tok.text, x ∷ q ∷ rest)) called h.1 (if_cond P _ (Some (x.tok.text, rest)) None h.1.1.1 tt)

-- ## One replacement, where what follows it is good

module _ (again : List Marked → ℕ → ℕ → Ran) (good : (ms : List Marked) (cost counter : ℕ) → GoodMarks ms → GoodRan (again ms cost counter)) (e : Scope) (bodies : HaveUtf8Bodies e.defs) where
  rescanned_good : (added : List ℕ → Bool) (rest : List Marked) (cost counter : ℕ) (o : Option (List Marked)) → GoodMarks rest → IfSome o GoodMarks → GoodRan (rescanned again e added rest cost counter o)
  rescanned_good added rest cost counter None h k = tt
  rescanned_good added rest cost counter (Some list) h k =
      paid_good _ (again (map (hidden_by added) list ++ rest) (cost + 1 + length list) counter) (good (map (hidden_by added) list ++ rest) (cost + 1 + length list) counter (marks_append (map (hidden_by added) list) rest (hidden_good added list k) h))

  built_out_good : (kind : Kind) (text : List ℕ) (m : Marked) (rest : List Marked) (cost counter : ℕ) → GoodMark (instead kind text m) → GoodMarks rest → GoodRan (built_in_out again e kind text m rest cost counter)
  built_out_good kind text m rest cost counter h k =
      paid_good (cost + 2) (out (instead kind text m) (again rest (cost + 2) counter)) (out_good (instead kind text m) (again rest (cost + 2) counter) h (good rest (cost + 2) counter k))

  built_in_good : (which : BuiltIn) (m : Marked) (rest : List Marked) (cost counter : ℕ) → GoodMark m → GoodMarks rest → GoodRan (built_in again e which m rest cost counter)
  built_in_good BuiltInIs.File m rest cost counter h k = built_out_good Str e.site.file m rest cost counter (λ x. never x) k
  built_in_good BuiltInIs.Line m rest cost counter h k = built_out_good Number (decimal (presumed e.site m.tok.line)) m rest cost counter (λ x. never x) k
  built_in_good BuiltInIs.Date m rest cost counter h k = built_out_good Str (codes "\"Jan  1 1970\"") m rest cost counter (λ x. never x) k
  built_in_good BuiltInIs.Time m rest cost counter h k = built_out_good Str (codes "\"00:00:00\"") m rest cost counter (λ x. never x) k
  built_in_good BuiltInIs.Cplusplus m rest cost counter h k = built_out_good Number (codes "202002L") m rest cost counter (λ x. never x) k
  built_in_good BuiltInIs.Counter m rest cost counter h k =
      let ran = out (instead Number (decimal counter) m) (again rest (cost + 2) (counter + 1)) in
      cond_ran (in_text e.mode) (paid (cost + 2) ran) (Failed Gives.Counter)
      (paid_good (cost + 2) ran (out_good (instead Number (decimal counter) m) (again rest (cost + 2) (counter + 1)) (λ x. never x) (good rest (cost + 2) (counter + 1) k))) tt
  built_in_good BuiltInIs.HasInclude m rest cost counter h k = out_good m (again rest cost counter) h (good rest cost counter k)
  built_in_good BuiltInIs.HasIncludeNext m rest cost counter h k = out_good m (again rest cost counter) h (good rest cost counter k)
  built_in_good BuiltInIs.HasAttribute m rest cost counter h k = out_good m (again rest cost counter) h (good rest cost counter k)

  replaced_args_good : (f : FunctionDef) (names : List (List ℕ)) (written : List (List Marked)) (cost counter : ℕ) → GoodLists written → GoodReplaced (replaced_args again e f names written cost counter)
  replaced_args_good f [] written cost counter h = tt
  replaced_args_good f (name ∷ names) [] cost counter h = tt
  replaced_args_good f (name ∷ names) (w ∷ written) cost counter h =
      let further = λ (ms : List Marked) (c k : ℕ). with_arg again e (record { written = w; replaced = ms }) (replaced_args again e f names written c k) in
      cond_replaced (is_replaced f name) (after_arg again e further (again w cost counter)) (with_arg again e (record { written = w; replaced = w }) (replaced_args again e f names written cost counter))
      (after_arg_good again e further (again w cost counter)
      (λ ms c k g. with_arg_good again e (record { written = w; replaced = ms }) (replaced_args again e f names written c k) (h.0, g) (replaced_args_good f names written c k h.1)) (good w cost counter h.0))
      (with_arg_good again e (record { written = w; replaced = w }) (replaced_args again e f names written cost counter) (h.0, h.0) (replaced_args_good f names written cost counter h.1))

  called_good : (f : FunctionDef) (m : Marked) (close : List ℕ → Bool) (rest : List Marked) (r : Replaced) → Good f.body → GoodMarks rest → GoodReplaced r → GoodRan (called again e f m close rest r)
  called_good f m close rest (NotReplaced answer) b h k = k
  called_good f m close rest (Args args cost counter) b h k =
      let c : Call = record { function = true; variadic = f.variadic; arg = arg_named (all_params f.params f.variadic) args; line = m.tok.line } in
      rescanned_good (also m.tok.text (λ name. m.hides name && close name)) rest cost counter _ h (subst_good c (arg_named_good (all_params f.params f.variadic) args k) m.tok.space f.body b)

  call_with_good : (f : FunctionDef) (m : Marked) (parens : Enclosed Marked) (cost counter : ℕ) (o : Option (List (List Marked))) → Good f.body → GoodMarks parens.after → IfSome o GoodLists →
      GoodRan (call_with again e f m parens cost counter o)
  call_with_good f m parens cost counter None b h k = tt
  call_with_good f m parens cost counter (Some written) b h k =
      called_good f m parens.close.hides parens.after (replaced_args again e f (all_params f.params f.variadic) written cost counter) b h (replaced_args_good f (all_params f.params f.variadic) written cost counter k)

  call_good : (f : FunctionDef) (m : Marked) (cost counter : ℕ) (o : Option (Enclosed Marked)) → Good f.body → IfSome o (GoodParens (λ m. m.tok) GoodMark) → GoodRan (call again e f m cost counter o)
  call_good f m cost counter None b h = tt
  call_good f m cost counter (Some parens) b h = call_with_good f m parens cost counter (written_args f parens.inside) b h.1 (written_args_good f parens.inside h.0)

  by_def_good : (m : Marked) (rest : List Marked) (cost counter : ℕ) (o : Option Def) → GoodMark m → GoodMarks rest → IfSome o HasUtf8Body → GoodRan (by_def again e m rest cost counter o)
  by_def_good m rest cost counter None h k b = out_good m (again rest cost counter) h (good rest cost counter k)
  by_def_good m rest cost counter (Some (DefIs.BuiltIn which)) h k b = built_in_good which m rest cost counter h k
  by_def_good m rest cost counter (Some (DefIs.Object body)) h k b =
      let c : Call = record { function = false; variadic = None; arg = λ (name : List ℕ). None; line = m.tok.line } in
      rescanned_good (also m.tok.text m.hides) rest cost counter _ k (subst_good c (λ name. tt) m.tok.space body (good_of body b))
  by_def_good m rest cost counter (Some (DefIs.Function f)) h k b =
      cond_ran (is_called again e rest) (call again e f m cost counter (in_parens (λ m. m.tok) rest)) (out m (again rest cost counter))
      (call_good f m cost counter (in_parens (λ m. m.tok) rest) (good_of f.body b) (parens_good (λ m. m.tok) GoodMark rest k)) (out_good m (again rest cost counter) h (good rest cost counter k))

  defined_out_good : (m : Marked) (rest : List Marked) (cost counter : ℕ) (o : Option (List ℕ × List Marked)) → GoodMark m → GoodMarks rest → IfSome o (λ found. GoodMarks found.1) →
      GoodRan (defined_out again e m rest cost counter o)
  defined_out_good m rest cost counter None h k g = out_good m (again rest cost counter) h (good rest cost counter k)
  defined_out_good m rest cost counter (Some found) h k g = out_good (instead Number (if is_some (e.defs found.0) then codes "1" else codes "0") m) (again found.1 cost counter) (λ x. never x) (good found.1 cost counter g)

  first_good : (m : Marked) (rest : List Marked) (cost counter : ℕ) → GoodMark m → GoodMarks rest → GoodRan (first_and_rest again e m rest cost counter)
  first_good m rest cost counter h k =
      let goes = out m (again rest cost counter) in
      let defined = defined_out again e m rest cost counter (defined_name again e rest) in
      let by = by_def again e m rest cost counter (e.defs m.tok.text) in
      let out_is = out_good m (again rest cost counter) h (good rest cost counter k) in
      cond_ran (not (is_of Ident m.tok)) goes (cond (in_condition e.mode && spells "defined" m.tok.text) defined (cond (m.hides m.tok.text) goes by)) out_is
      (cond_ran (in_condition e.mode && spells "defined" m.tok.text) defined (cond (m.hides m.tok.text) goes by)
      (defined_out_good m rest cost counter (defined_name again e rest) h k (defined_name_good again e rest k))
      (cond_ran (m.hides m.tok.text) goes by out_is (by_def_good m rest cost counter (e.defs m.tok.text) h k (bodies m.tok.text))))

-- ## The whole

expand_good : (n : ℕ) (e : Scope) → HaveUtf8Bodies e.defs → (ms : List Marked) (cost counter : ℕ) → GoodMarks ms → GoodRan (expand_up_to n e ms cost counter)
expand_good zero e b ms cost counter h = tt
expand_good (suc n) e b [] cost counter h = tt
expand_good (suc n) e b (m ∷ ms) cost counter h = first_good (expand_up_to n e) (expand_good n e b) e b m ms cost counter h.0 h.1

marked_good : (ts : List Tok) → Good ts → GoodMarks (map (λ t. record { tok = t; hides = no_name }) ts)
marked_good [] h = tt
marked_good (t ∷ ts) h = (h.0, marked_good ts h.1)

answer_good : (ran : Ran) (out : List Tok) (counter : ℕ) → GoodRan ran → answer_of ran ≡ Gives.Done out counter → Good out
answer_good (Went ms cost k) out counter h e = let same : map (λ m. m.tok) ms ≡ out = cc in along Good same (marks_toks ms h)
answer_good (Failed answer) out counter h e = along GoodAnswer e h

pub names_stay : NamesStay
unfolding expand
names_stay defs site mode toks out counter b h e =
    names_of out (answer_good _ out counter (expand_good (length toks + 1 + cost_limit) (record { defs = defs; site = site; mode = mode }) b (map (λ t. record { tok = t; hides = no_name }) toks) 0 (first_counter mode) (marked_good toks (good_of toks h))) e)
