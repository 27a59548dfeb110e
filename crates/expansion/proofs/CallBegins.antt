-- A call is cut into its arguments.
use Rattle.std.proofs.Common.{◌≡◌, sym, ◌∙◌, ap, subst, refl, ℕ, suc, ◌+◌, ◌<◌, ◌≤◌, ◌&&◌, ◌==◌, Bool, true, false, ⊎_elim, if◌then◌else◌, List, [], ◌∷◌, ◌++◌, map, reverse, take, drop, length, get_or, arith}
use Rattle.std.specs.Prelude.{Option, Some, None, Vec, All, slice_index_or}
use Rattle.std.specs.Option.{option_map}
use Rattle.std.specs.declared.alloc.Global.{Global}
use Rattle.std.proofs.lemmas.Bool.{cases_lt}
use Rattle.std.proofs.lemmas.List.{length-append}
use Rattle.std.proofs.lemmas.List.Sums.{sum_by-append}
use Rattle.std.proofs.lemmas.List.Elements.{All-head, All-tail, All-nil, All-cons, All-append, All-same}
use Rattle.hide_sets.specs.Sets.{IsSet, hides_of}
use Rattle.scan_model.specs.declared.expansion.Expanded.TheVariants as Gives
use Rattle.scan_model.specs.declared.macros.FunctionDef.{FunctionDef}
use Rattle.scan_model.specs.TokenTests.{is_open_paren, is_close_paren}
use Rattle.scan_model.specs.Parentheses.{Enclosed, onto_inside, enclosed, in_parens, depth_after}
use Rattle.scan_model.specs.Substitution as spec
use Rattle.scan_model.specs.Substitution.{is_replaced}
use Rattle.scan_model.specs.Expansion as expansion
use Rattle.scan_model.specs.Expansion.{Ran, Went, Failed, Replaced, Args, NotReplaced, with_arg, after_arg, replaced_args, called, call_with, written_args, rescanned, also, arg_named}
use Rattle.substitution.specs.declared.marked.Marked.{Marked}
use Rattle.substitution.specs.declared.marked.Arg.{Arg}
use Rattle.substitution.specs.Meaning.{marked_of, all_marked_of, arg_of, IsMarked, AreMarked, IsArg}
use Rattle.substitution.specs.Written.{IsAlike, ArgsAlike, stands_as_operand}
use Rattle.substitution.proofs.WrittenLemmas.{subst-alike, args-serve}
use Rattle.expansion_laws.specs.Turns.{expands}
use Rattle.expansion_laws.proofs.TurnLemmas.{expands_none}
use Rattle.list_stack.specs.Stacks.{Stack, OpensAt}
use Rattle.list_stack.proofs.MeaningLemmas.{enclosed_of, in_parens-meant}
use Rattle.expansion.specs.declared.machine.Call.{Call}
use Rattle.expansion.specs.declared.machine.Machine.{Machine}
use Rattle.expansion.specs.Cuts.{filled, AreCut}
use Rattle.expansion.specs.Meaning.{outs, with_args, kept_written, no_arg, args_of}
use Rattle.expansion.specs.States.{names_of, IsCall, IsMachine, IsMachineBeside, all_resumed, continued, called_on, weight, weight_of_lists}
use Rattle.expansion.proofs.ListLemmas.{take-front, drop-beyond, get_or-beyond, weight_of_lists-cons}
use Rattle.expansion.proofs.ArgLemmas.{filled-short, filled-full}
use Rattle.expansion.proofs.RescanLemmas.{ends-as}

-- ## What is kept of the arguments is all that a replacement takes

filled-cons : {X : Type 0} (none x : X) (n : ℕ) (xs : List X) → filled none (suc n) (x ∷ xs) ≡ x ∷ filled none n xs
filled-cons {X} none x n xs = ⊎_elim
    (λ (lt : length xs < n). filled-short none (suc n) (x ∷ xs) (omega (arith, lt)) ∙ ap (λ (ys : List X). x ∷ ys) (sym (filled-short none n xs lt)))
    (λ (le : n ≤ length xs). filled-full none (suc n) (x ∷ xs) (omega (arith, le)) ∙ ap (λ (ys : List X). x ∷ ys) (sym (filled-full none n xs le)))
    (cases_lt (length xs) n)

-- the same end, or arguments that are alike for a replacement by this list
abbrev SameArgs : FunctionDef → List (List ℕ) → Replaced → Replaced → Type 0
SameArgs f names (Args args c k) (Args args' c' k') = ArgsAlike f.body names args args' × (c ≡ c') × (k ≡ k')
SameArgs f names (Args args c k) (NotReplaced answer) = ⊥
SameArgs f names (NotReplaced answer) (Args args' c' k') = ⊥
SameArgs f names (NotReplaced answer) (NotReplaced answer') = answer ≡ answer'

module _ (e : expansion.Scope) (f : FunctionDef) where
  same-with_arg : (name : List ℕ) (names : List (List ℕ)) (a b : spec.Arg) (r r' : Replaced) → IsAlike (stands_as_operand name [] f.body) a b → SameArgs f names r r' →
      SameArgs f (name ∷ names) (with_arg (expands e) e a r) (with_arg (expands e) e b r')
  same-with_arg name names a b (Args args c k) (Args args' c' k') h same = ((h, same.0), same.1, same.2)
  same-with_arg name names a b (Args args c k) (NotReplaced answer') h same = same
  same-with_arg name names a b (NotReplaced answer) (Args args' c' k') h same = same
  same-with_arg name names a b (NotReplaced answer) (NotReplaced answer') h same = same

  same-after : (names : List (List ℕ)) (g g' : List spec.Marked → ℕ → ℕ → Replaced) (ran : Ran) → ((ms : List spec.Marked) (c k : ℕ) → SameArgs f names (g ms c k) (g' ms c k)) →
      SameArgs f names (after_arg (expands e) e g ran) (after_arg (expands e) e g' ran)
  same-after names g g' (Went ms c k) h = h ms c k
  same-after names g g' (Failed answer) h = refl

  same-if : (b : Bool) (names : List (List ℕ)) (x x' y y' : Replaced) → SameArgs f names x x' → SameArgs f names y y' → SameArgs f names (if b then x else y) (if b then x' else y')
  same-if true names x x' y y' h k = h
  same-if false names x x' y y' h k = k

  kept-alike : (name : List ℕ) (w ms : List spec.Marked) → IsAlike (stands_as_operand name [] f.body) (record { written = kept_written f name w; replaced = ms }) (record { written = w; replaced = ms })
  kept-alike name w ms = record { replaced = refl; written = λ taken. rw taken refl }

  -- one of no tokens is the same, whether it is replaced by itself or not
  nothing-replaced : (name : List ℕ) (names : List (List ℕ)) (cost counter : ℕ) → SameArgs f (name ∷ names) (Args (no_arg ∷ []) cost counter) (replaced_args (expands e) e f (name ∷ names) ([] ∷ []) cost counter)
  nothing-replaced name names cost counter =
      let kept : Replaced = with_arg (expands e) e no_arg (replaced_args (expands e) e f names [] cost counter) in
      let alike = same-with_arg name names no_arg no_arg (Args [] cost counter) (replaced_args (expands e) e f names [] cost counter) (record { replaced = refl; written = λ taken. refl }) (none names) in
      subst (λ (ran : Ran). SameArgs f (name ∷ names) (Args (no_arg ∷ []) cost counter)
      (if is_replaced f name then after_arg (expands e) e (λ ms c k. with_arg (expands e) e (record { written = []; replaced = ms }) (replaced_args (expands e) e f names [] c k)) ran else kept))
      (sym (expands_none e cost counter))
      (same-if-to (is_replaced f name) kept alike)
    where
      none : (names : List (List ℕ)) → SameArgs f names (Args [] cost counter) (replaced_args (expands e) e f names [] cost counter)
      none [] = (tt, refl, refl)
      none (name ∷ names) = (tt, refl, refl)

      same-if-to : (b : Bool) (x : Replaced) → SameArgs f (name ∷ names) (Args (no_arg ∷ []) cost counter) x → SameArgs f (name ∷ names) (Args (no_arg ∷ []) cost counter) (if b then x else x)
      same-if-to true x h = h
      same-if-to false x h = h

  args_of-same : (names : List (List ℕ)) (lists : List (List spec.Marked)) (cost counter : ℕ) →
      SameArgs f names (args_of e f names lists cost counter) (replaced_args (expands e) e f names (filled [] (length names) lists) cost counter)
  args_of-same [] lists cost counter = (tt, refl, refl)
  args_of-same (name ∷ names) [] cost counter =
      subst (λ (ls : List (List spec.Marked)). SameArgs f (name ∷ names) (Args (no_arg ∷ []) cost counter) (replaced_args (expands e) e f (name ∷ names) ls cost counter))
      (sym (filled-short [] (length (name ∷ names)) [] (omega arith))) (nothing-replaced name names cost counter)
  args_of-same (name ∷ names) (w ∷ lists) cost counter =
      let full : List (List spec.Marked) = filled [] (length names) lists in
      subst (λ (ls : List (List spec.Marked)). SameArgs f (name ∷ names) (args_of e f (name ∷ names) (w ∷ lists) cost counter) (replaced_args (expands e) e f (name ∷ names) ls cost counter))
      (sym (filled-cons [] w (length names) lists))
      (same-if (is_replaced f name) (name ∷ names) _ _ _ _
      (same-after (name ∷ names) (λ ms c k. with_arg (expands e) e (record { written = kept_written f name w; replaced = ms }) (args_of e f names lists c k))
      (λ ms c k. with_arg (expands e) e (record { written = w; replaced = ms }) (replaced_args (expands e) e f names full c k)) (expands e w cost counter)
      (λ ms c k. same-with_arg name names _ _ (args_of e f names lists c k) (replaced_args (expands e) e f names full c k) (kept-alike name w ms) (args_of-same names lists c k)))
      (same-with_arg name names _ _ (args_of e f names lists cost counter) (replaced_args (expands e) e f names full cost counter) (record { replaced = refl; written = λ taken. refl }) (args_of-same names lists cost counter)))

  called-same : (name : spec.Marked) (close : List ℕ → Bool) (rest : List spec.Marked) (r r' : Replaced) → SameArgs f (names_of f) r r' →
      called (expands e) e f name close rest r ≡ called (expands e) e f name close rest r'
  called-same name close rest (Args args c k) (Args args' c' k') same =
      let ran : ℕ → ℕ → Option (List spec.Marked) → Ran = rescanned (expands e) e (also name.tok.text (λ n. name.hides n && close n)) rest in
      let given : List spec.Arg → Option (List spec.Marked) = λ (as' : List spec.Arg). spec.subst (record { function = true; variadic = f.variadic; arg = arg_named (names_of f) as'; line = name.tok.line }) name.tok.space f.body in
      ap (ran c k) (subst-alike f.variadic name.tok.line (arg_named (names_of f) args) (arg_named (names_of f) args') name.tok.space f.body (args-serve f.body (names_of f) args args' same.0))
      ∙ ap (λ (n : ℕ). ran n k (given args')) same.1
      ∙ ap (λ (n : ℕ). ran c' n (given args')) same.2
  called-same name close rest (Args args c k) (NotReplaced answer') same = absurd same
  called-same name close rest (NotReplaced answer) (Args args' c' k') same = absurd same
  called-same name close rest (NotReplaced answer) (NotReplaced answer') same = ap Failed same

with_args-none : (r : Replaced) → with_args [] r ≡ r
with_args-none (Args args c k) = refl
with_args-none (NotReplaced answer) = refl

-- ## What parentheses enclose, as a part of the list

abbrev Parts : List Marked → Option (Enclosed Marked) → Type 0
Parts ms None = Unit {0}
Parts ms (Some found) = ms ≡ found.inside ++ found.close ∷ found.after

parts-onto : (m : Marked) (ms : List Marked) (o : Option (Enclosed Marked)) → Parts ms o → Parts (m ∷ ms) (option_map (onto_inside m) o)
parts-onto m ms None h = tt
parts-onto m ms (Some found) h = ap (λ (xs : List Marked). m ∷ xs) h

parts-if : (b : Bool) (ms : List Marked) (x y : Option (Enclosed Marked)) → Parts ms x → Parts ms y → Parts ms (if b then x else y)
parts-if true ms x y h k = h
parts-if false ms x y h k = k

enclosed-parts : (depth : ℕ) (ms : List Marked) → Parts ms (enclosed (λ m. m.tok) depth ms)
enclosed-parts depth [] = tt
enclosed-parts depth (m ∷ ms) =
    parts-if (depth == 0 && is_close_paren m.tok) (m ∷ ms) (Some (record { inside = []; close = m; after = ms })) (option_map (onto_inside m) (enclosed (λ m. m.tok) (depth_after m.tok depth) ms))
    refl (parts-onto m ms (enclosed (λ m. m.tok) (depth_after m.tok depth) ms) (enclosed-parts (depth_after m.tok depth) ms))

-- the first token is the parenthesis
abbrev AllParts : List Marked → Option (Enclosed Marked) → Type 0
AllParts ms None = Unit {0}
AllParts ms (Some found) = (first : Marked) × (ms ≡ first ∷ (found.inside ++ found.close ∷ found.after))

all-parts-if : (b : Bool) (m : Marked) (ms : List Marked) (o : Option (Enclosed Marked)) → Parts ms o → AllParts (m ∷ ms) (if b then o else None)
all-parts-if true m ms None h = tt
all-parts-if true m ms (Some found) h = (m, ap (λ (xs : List Marked). m ∷ xs) h)
all-parts-if false m ms o h = tt

in_parens-parts : (ms : List Marked) → AllParts ms (in_parens (λ m. m.tok) ms)
in_parens-parts [] = tt
in_parens-parts (m ∷ ms) = all-parts-if (is_open_paren m.tok) m ms (enclosed (λ m. m.tok) 0 ms) (enclosed-parts 0 ms)

split : (P : Marked → Type 0) (xs ys : List Marked) → All P (xs ++ ys) → All P xs × All P ys
split P [] ys h = (All-nil P, h)
split P (x ∷ xs) ys h =
    let rest = split P xs ys (All-tail P x (xs ++ ys) h) in
    (All-cons P x xs (All-head P x (xs ++ ys) h) rest.0, rest.1)

-- ## A call that is no call

pub call-unclosed : (e : expansion.Scope) (m : Machine) (f : FunctionDef) (name : Marked) → in_parens (λ m. m.tok) m.todo.first ≡ None →
    Gives.Bad ≡ expansion.answer_of (continued e m (expansion.call (expands e) e f (marked_of m.sets name) m.cost m.counter (in_parens (λ m. m.tok) (all_marked_of m.sets m.todo.first))))
call-unclosed e m f name none =
    ends-as e m _ Gives.Bad (ap (expansion.call (expands e) e f (marked_of m.sets name) m.cost m.counter)
    (sym (in_parens-meant m.sets m.todo.first) ∙ ap (option_map (enclosed_of m.sets)) none))

module _ (m : Machine) (opened : Stack) (close : ℕ) (h : OpensAt m.todo opened close) where
  -- the call by its parentheses
  closed : (e : expansion.Scope) (f : FunctionDef) (name : spec.Marked) →
      expansion.call (expands e) e f name m.cost m.counter (in_parens (λ m. m.tok) (all_marked_of m.sets m.todo.first))
      ≡ call_with (expands e) e f name (enclosed_of m.sets h.found) m.cost m.counter (written_args f (all_marked_of m.sets h.found.inside))
  closed e f name = ap (expansion.call (expands e) e f name m.cost m.counter)
      (sym (in_parens-meant m.sets m.todo.first) ∙ ap (option_map (enclosed_of m.sets)) h.parens)

  pub call-misfit : (e : expansion.Scope) (f : FunctionDef) (name : Marked) → written_args f (all_marked_of m.sets opened.first) ≡ None →
      Gives.Bad ≡ expansion.answer_of (continued e m (expansion.call (expands e) e f (marked_of m.sets name) m.cost m.counter (in_parens (λ m. m.tok) (all_marked_of m.sets m.todo.first))))
  call-misfit e f name misfit =
      let inside : opened.first ≡ h.found.inside = ap (λ (s : Stack). s.first) h.stack in
      ends-as e m _ Gives.Bad (closed e f (marked_of m.sets name)
      ∙ ap (call_with (expands e) e f (marked_of m.sets name) (enclosed_of m.sets h.found) m.cost m.counter) (ap (λ (ms : List Marked). written_args f (all_marked_of m.sets ms)) (sym inside) ∙ misfit))

  all_parts : AllParts m.todo.first (Some h.found)
  all_parts = subst (AllParts m.todo.first) h.parens (in_parens-parts m.todo.first)

  known_parts : AreMarked m.sets m.todo.first → AreMarked m.sets h.found.inside × IsMarked m.sets h.found.close × AreMarked m.sets h.found.after
  known_parts k =
      let all : AreMarked m.sets (all_parts.0 ∷ (h.found.inside ++ h.found.close ∷ h.found.after)) = All-same (IsMarked m.sets) _ m.todo.first (sym all_parts.1) k in
      let parts = split (IsMarked m.sets) h.found.inside (h.found.close ∷ h.found.after) (All-tail (IsMarked m.sets) all_parts.0 _ all) in
      (parts.0, All-head (IsMarked m.sets) h.found.close h.found.after parts.1, All-tail (IsMarked m.sets) h.found.close h.found.after parts.1)

  size_parts : length m.todo.first ≡ length h.found.inside + length h.found.after + 2
  size_parts =
      let all : length m.todo.first ≡ length (all_parts.0 ∷ (h.found.inside ++ h.found.close ∷ h.found.after)) = ap length all_parts.1 in
      omega (arith, length-append h.found.inside (h.found.close ∷ h.found.after))

-- ## A call begins

module _ (m : Machine) (opened todo : Stack) (c : Call) (out : Vec Marked Global) (h : OpensAt m.todo opened c.close) (cut : AreCut (written_args c.definition) (length (names_of c.definition)) opened todo c.further)
    (none : c.args.items ≡ []) (before : c.before.items ≡ m.out.items) (empty : out.items ≡ []) where
  inside_is : opened.first ≡ h.found.inside
  inside_is = ap (λ (s : Stack). s.first) h.stack

  -- the arguments, what follows the `)`, and the lists of the calls around
  lists_are : todo.first ∷ todo.others ≡ cut.args ++ h.found.after ∷ m.todo.others
  lists_are = cut.lists ∙ ap (λ (s : Stack). cut.args ++ s.others) h.stack

  lists_known : IsMachine m → All (AreMarked m.sets) (todo.first ∷ todo.others)
  lists_known k =
      let parts = known_parts m opened c.close h k.first in
      let args = cut.known m.sets (subst (AreMarked m.sets) (sym inside_is) parts.0) in
      All-same (AreMarked m.sets) (todo.first ∷ todo.others) (cut.args ++ h.found.after ∷ m.todo.others) lists_are
      (All-append (AreMarked m.sets) cut.args (h.found.after ∷ m.todo.others) args (All-cons (AreMarked m.sets) h.found.after m.todo.others parts.2 k.others))

  pub IsMachine-begun : IsMachine m → IsMachineBeside (record m { todo = todo; out = out }) c.further
  IsMachine-begun k =
      let count : length (todo.first ∷ todo.others) ≡ length cut.args + length (h.found.after ∷ m.todo.others) = ap length lists_are ∙ length-append cut.args (h.found.after ∷ m.todo.others) in
      record {
        first = All-head (AreMarked m.sets) todo.first todo.others (lists_known k);
        others = All-tail (AreMarked m.sets) todo.first todo.others (lists_known k);
        out = subst (AreMarked m.sets) (sym empty) (All-nil (IsMarked m.sets));
        calls = k.calls;
        lists = omega (arith, count, cut.count_is, k.lists);
        cost = k.cost;
        counter = k.counter;
      }

  pub IsCall-begun_call : IsMachine m → IsMarked m.sets c.name → IsCall m.sets c (length c.args.items)
  IsCall-begun_call k name = record {
    name = name;
    close = subst (IsSet m.sets) (sym h.close_is) (known_parts m opened c.close h k.first).1;
    args = subst (λ (xs : List Arg). All (IsArg m.sets) xs) (sym none) (All-nil (IsArg m.sets));
    before = subst (AreMarked m.sets) (sym before) k.out;
    fits = let no_args : length c.args.items ≡ length {A = Arg} [] = ap length none in omega (arith, no_args, cut.enough, cut.count_is);
  }

  pub weight-begun : weight (record m { todo = todo; out = out }) + 1 ≤ weight m
  weight-begun =
      let whole : weight_of_lists (todo.first ∷ todo.others) ≡ weight_of_lists cut.args + weight_of_lists (h.found.after ∷ m.todo.others) =
      ap weight_of_lists lists_are ∙ sum_by-append (λ (l : List Marked). suc (length l)) cut.args (h.found.after ∷ m.todo.others) in
      let inside : length opened.first ≡ length h.found.inside = ap length inside_is in
      omega (arith, whole, inside, cut.size, size_parts m opened c.close h, weight_of_lists-cons todo.first todo.others, weight_of_lists-cons h.found.after m.todo.others)

  pub call-begins : (e : expansion.Scope) → called_on e (record m { todo = todo; out = out }) c
      ≡ continued e m (expansion.call (expands e) e c.definition (marked_of m.sets c.name) m.cost m.counter (in_parens (λ m. m.tok) (all_marked_of m.sets m.todo.first)))
  call-begins e =
      let f = c.definition in
      let name = marked_of m.sets c.name in
      let names : List (List ℕ) = names_of f in
      let lists : List (List Marked) = cut.args ++ h.found.after ∷ m.todo.others in
      let args : List (List spec.Marked) = map (all_marked_of m.sets) cut.args in
      let after : List spec.Marked = all_marked_of m.sets h.found.after in
      let around : Ran → Ran = all_resumed e m.sets (reverse m.calls.items) m.todo.others in
      let hides = hides_of m.sets c.close in
      let by_lists : List (List Marked) → ℕ → Ran = λ (ls : List (List Marked)) (k : ℕ). all_resumed e m.sets (reverse m.calls.items) (drop (suc k) ls)
      (outs (all_marked_of m.sets c.before.items) (called (expands e) e f name hides (all_marked_of m.sets (slice_index_or ls k []))
      (with_args (map (arg_of m.sets) c.args.items) (args_of e f (drop (length c.args.items) names) (map (all_marked_of m.sets) (take k ls)) m.cost m.counter)))) in
      let by_parts : List Marked → (List (List Marked)) → (List (List Marked)) → Ran = λ (a : List Marked) (os : List (List Marked)) (as' : List (List Marked)). all_resumed e m.sets (reverse m.calls.items) os
      (outs (all_marked_of m.sets c.before.items) (called (expands e) e f name hides (all_marked_of m.sets a)
      (with_args (map (arg_of m.sets) c.args.items) (args_of e f (drop (length c.args.items) names) (map (all_marked_of m.sets) as') m.cost m.counter)))) in
      let by_args : List Arg → Ran = λ (xs : List Arg). around (outs (all_marked_of m.sets c.before.items) (called (expands e) e f name hides after
      (with_args (map (arg_of m.sets) xs) (args_of e f (drop (length xs) names) args m.cost m.counter)))) in
      let by_replaced : Replaced → Ran = λ (r : Replaced). around (outs (all_marked_of m.sets c.before.items) (called (expands e) e f name hides after r)) in
      let replaced : Replaced = replaced_args (expands e) e f names (filled [] (length names) args) m.cost m.counter in
      let fits : Some (filled [] (length names) args) ≡ written_args f (all_marked_of m.sets h.found.inside) =
      sym (cut.meant m.sets) ∙ ap (λ (ms : List Marked). written_args f (all_marked_of m.sets ms)) inside_is in
      ap (λ (ls : List (List Marked)). by_lists ls c.further) lists_are
      ∙ ap (by_lists lists) cut.count_is
      ∙ ap (λ (os : List (List Marked)). by_parts (get_or lists (length cut.args) []) os (take (length cut.args) lists)) (drop-beyond cut.args m.todo.others h.found.after)
      ∙ ap (λ (a : List Marked). by_parts a m.todo.others (take (length cut.args) lists)) (get_or-beyond cut.args m.todo.others h.found.after [])
      ∙ ap (by_parts h.found.after m.todo.others) (take-front cut.args (h.found.after ∷ m.todo.others))
      ∙ ap by_args none
      ∙ ap by_replaced (with_args-none (args_of e f names args m.cost m.counter))
      ∙ ap (λ (r : Ran). around (outs (all_marked_of m.sets c.before.items) r)) (called-same e f name hides after (args_of e f names args m.cost m.counter) replaced (args_of-same e f names args m.cost m.counter))
      ∙ ap (λ (b : List Marked). around (outs (all_marked_of m.sets b) (called (expands e) e f name hides after replaced))) before
      ∙ ap (λ (s : ℕ). continued e m (called (expands e) e f name (hides_of m.sets s) after replaced)) h.close_is
      ∙ ap (λ (o : Option (List (List spec.Marked))). continued e m (call_with (expands e) e f name (enclosed_of m.sets h.found) m.cost m.counter o)) fits
      ∙ ap (continued e m) (sym (closed m opened c.close h e f name))
