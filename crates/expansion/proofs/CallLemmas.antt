-- What a call comes to, argument by argument.
use Rattle.std.proofs.Common.{◌≡◌, sym, ◌∙◌, ap, subst, refl, ℕ, suc, ◌+◌, ◌-◌, ◌<◌, ◌≤◌, Bool, true, false, ◌&&◌, nat_lt, if◌then◌else◌, List, [], ◌∷◌, ◌++◌, map, reverse, take, drop, length, append_assoc, drop-cons, arith}
use Rattle.std.specs.Prelude.{Option, Some, None, Vec, sum_by, All, slice_index_or}
use Rattle.std.specs.Option.{option_map}
use Rattle.std.specs.declared.alloc.Global.{Global}
use Rattle.scan_model.specs.declared.token.Tok.{Tok}
use Rattle.scan_model.specs.declared.macros.FunctionDef.{FunctionDef}
use Rattle.scan_model.specs.declared.expansion.Expanded.{Expanded}
use Rattle.scan_model.specs.declared.expansion.Expanded.TheVariants as Gives
use Rattle.std.proofs.lemmas.Bool.{ltb-true, ltb-false}
use Rattle.std.proofs.lemmas.List.{map-append, append-nil, drop_all, length-append}
use Rattle.std.proofs.lemmas.List.Sums.{sum_by_push}
use Rattle.std.proofs.lemmas.List.Elements.{All-push, All-head, All-tail, All-nil, All-pop}
use Rattle.hide_sets.specs.Sets.{Sets, IsSet, hides_of, Extends, Makes}
use Rattle.hide_sets.proofs.Growing.{hides_of-Extends}
use Rattle.scan_model.specs.Substitution as spec
use Rattle.scan_model.specs.Substitution.{is_replaced}
use Rattle.scan_model.specs.Expansion as expansion
use Rattle.scan_model.specs.Expansion.{Ran, Went, Failed, Replaced, Args, NotReplaced, with_arg, after_arg, called, also}
use Rattle.substitution.specs.declared.marked.Marked.{Marked}
use Rattle.substitution.specs.declared.marked.Arg.{Arg}
use Rattle.substitution.specs.Meaning.{marked_of, all_marked_of, arg_of, IsMarked, AreMarked, IsArg}
use Rattle.substitution.specs.Written.{is_taken_as_written}
use Rattle.expansion_laws.specs.Turns.{expands}
use Rattle.list_stack.specs.Stacks.{Stack}
use Rattle.expansion.specs.declared.machine.Call.{Call}
use Rattle.expansion.specs.declared.machine.Pending.{Pending}
use Rattle.expansion.specs.declared.machine.Machine.{Machine}
use Rattle.expansion.specs.Cuts.{filled, empty_arg}
use Rattle.expansion.specs.Meaning as meaning
use Rattle.expansion.specs.Meaning.{outs, with_args, kept_written, no_arg, args_of, call_ran, ran_of_call, resumed}
use Rattle.expansion.specs.States.{names_of, next_name, call_of, pending_of, IsCall, IsPending, IsMachineBeside, IsMachine, AddsArg, TakesArg, GoesOn, all_resumed, continued, called_on, weight, weight_of_lists}
use Rattle.expansion.proofs.ListLemmas.{reverse-push, weight_of_lists-cons}

-- ## Words of the definition

pub outs-nil : (ran : Ran) → outs [] ran ≡ ran
outs-nil (Went ms c k) = refl
outs-nil (Failed answer) = refl

with_args-push : (e : expansion.Scope) (before : List spec.Arg) (a : spec.Arg) (r : Replaced) → with_args (before ++ a ∷ []) r ≡ with_args before (with_arg (expands e) e a r)
with_args-push e before a (Args args c k) = ap (λ (xs : List spec.Arg). Args xs c k) (append_assoc before (a ∷ []) args)
with_args-push e before a (NotReplaced answer) = refl

choose-replaced : (b : Bool) (x y : Replaced) → b ≡ true → (if b then x else y) ≡ x
choose-replaced b x y h = rw h

choose-kept : (b : Bool) (x y : Replaced) → b ≡ false → (if b then x else y) ≡ y
choose-kept b x y h = rw h

-- ## The next argument

-- the call with one argument less that follows
abbrev pub one_less : Call → Call
one_less c = record c { further = c.further - 1 }

module _ (e : expansion.Scope) (sets : Sets) (c : Call) (list : List Marked) (lists : List (List Marked)) (cost counter : ℕ) (known : IsCall sets c (length c.args.items)) (another : 0 < c.further) where
  -- the call by its next argument
  next_first : ran_of_call e (call_of sets c (length c.args.items) (list ∷ lists)) cost counter
      ≡ call_ran e (call_of sets (one_less c) (suc (length c.args.items)) lists)
      (args_of e c.definition (next_name c ∷ drop (suc (length c.args.items)) (names_of c.definition)) (all_marked_of sets list ∷ map (all_marked_of sets) (take (c.further - 1) lists)) cost counter)
  next_first =
      let n = length c.args.items in
      let f = c.definition in
      let names : List (List ℕ) = names_of f in
      let args : List spec.Arg = map (arg_of sets) c.args.items in
      let ran : List (List ℕ) → ℕ → Ran = λ (ns : List (List ℕ)) (k : ℕ). outs (all_marked_of sets c.before.items)
      (called (expands e) e f (marked_of sets c.name) (hides_of sets c.close) (all_marked_of sets (slice_index_or (list ∷ lists) k []))
      (with_args args (args_of e f ns (map (all_marked_of sets) (take k (list ∷ lists))) cost counter))) in
      let more : c.further ≡ suc (c.further - 1) = omega (arith, another) in
      ap (ran (drop n names)) more
      ∙ ap (λ (ns : List (List ℕ)). ran ns (suc (c.further - 1))) (drop-cons names n [] (omega (arith, known.fits, another)))

  pub next-replaced : is_replaced c.definition (next_name c) ≡ true →
      ran_of_call e (call_of sets c (length c.args.items) (list ∷ lists)) cost counter
      ≡ resumed e (record { call = call_of sets (one_less c) (suc (length c.args.items)) lists; written = kept_written c.definition (next_name c) (all_marked_of sets list) }) (expands e (all_marked_of sets list) cost counter)
  next-replaced h = next_first ∙ ap (call_ran e (call_of sets (one_less c) (suc (length c.args.items)) lists)) (choose-replaced (is_replaced c.definition (next_name c)) _ _ h)

  pub next-kept : is_replaced c.definition (next_name c) ≡ false →
      ran_of_call e (call_of sets c (length c.args.items) (list ∷ lists)) cost counter
      ≡ call_ran e (call_of sets (one_less c) (suc (length c.args.items)) lists)
      (with_arg (expands e) e (record { written = all_marked_of sets list; replaced = all_marked_of sets list })
      (args_of e c.definition (drop (suc (length c.args.items)) (names_of c.definition)) (map (all_marked_of sets) (take (c.further - 1) lists)) cost counter))
  next-kept h = next_first ∙ ap (call_ran e (call_of sets (one_less c) (suc (length c.args.items)) lists)) (choose-kept (is_replaced c.definition (next_name c)) _ _ h)

-- ## An argument is done

module _ (sets : Sets) (old new : Call) (written : Vec Marked Global) (replaced : Option (Vec Marked Global)) (added : AddsArg old written replaced new) where
  pub one_more : length new.args.items ≡ suc (length old.args.items)
  one_more = ap length added.args ∙ length-append old.args.items (record { written = written.items; replaced = option_map (λ v. v.items) replaced } ∷ []) ∙ omega arith

  call_of-added : (lists : List (List Marked)) → call_of sets new (length new.args.items) lists
      ≡ record (call_of sets old (suc (length old.args.items)) lists) { args = map (arg_of sets) old.args.items ++ arg_of sets (record { written = written.items; replaced = option_map (λ v. v.items) replaced }) ∷ [] }
  call_of-added lists =
      let definition : new.definition ≡ old.definition = added.definition in
      let name = ap (marked_of sets) added.name in
      let close = ap (hides_of sets) added.close in
      let args = ap (map (arg_of sets)) added.args ∙ map-append (arg_of sets) old.args.items (record { written = written.items; replaced = option_map (λ v. v.items) replaced } ∷ []) in
      let names = ap (λ (n : ℕ). drop n (names_of new.definition)) one_more ∙ ap (λ (f : FunctionDef). drop (suc (length old.args.items)) (names_of f)) definition in
      let further = ap (λ (k : ℕ). map (all_marked_of sets) (take k lists)) added.further in
      let before = ap (all_marked_of sets) added.before in
      let rest = ap (λ (k : ℕ). all_marked_of sets (slice_index_or lists k [])) added.further in
      cc

  pub ran_of_call-added : (e : expansion.Scope) (lists : List (List Marked)) (cost counter : ℕ) →
      ran_of_call e (call_of sets new (length new.args.items) lists) cost counter
      ≡ call_ran e (call_of sets old (suc (length old.args.items)) lists)
      (with_arg (expands e) e (arg_of sets (record { written = written.items; replaced = option_map (λ v. v.items) replaced }))
      (args_of e old.definition (drop (suc (length old.args.items)) (names_of old.definition)) (map (all_marked_of sets) (take old.further lists)) cost counter))
  ran_of_call-added e lists cost counter =
      ap (λ (c : meaning.Call). ran_of_call e c cost counter) (call_of-added lists)
      ∙ ap (λ (r : Replaced). outs (all_marked_of sets old.before.items) (called (expands e) e old.definition (marked_of sets old.name) (hides_of sets old.close) (all_marked_of sets (slice_index_or lists old.further [])) r))
      (with_args-push e (map (arg_of sets) old.args.items) (arg_of sets (record { written = written.items; replaced = option_map (λ v. v.items) replaced }))
      (args_of e old.definition (drop (suc (length old.args.items)) (names_of old.definition)) (map (all_marked_of sets) (take old.further lists)) cost counter))

  pub IsCall-added : IsCall sets old (suc (length old.args.items)) → IsArg sets (record { written = written.items; replaced = option_map (λ v. v.items) replaced }) → IsCall sets new (length new.args.items)
  IsCall-added h a = record {
    name = subst (IsMarked sets) (sym added.name) h.name;
    close = subst (IsSet sets) (sym added.close) h.close;
    args = subst (λ (xs : List Arg). All (IsArg sets) xs) (sym added.args) (All-push (IsArg sets) old.args.items _ h.args a);
    before = subst (AreMarked sets) (sym added.before) h.before;
    fits =
        let names : length (names_of new.definition) ≡ length (names_of old.definition) = ap (λ (d : FunctionDef). length (names_of d)) added.definition in
        omega (arith, h.fits, one_more, added.further, names);
  }

-- an argument less follows, and one more is begun
pub IsCall-begun : (sets : Sets) (c : Call) → IsCall sets c (length c.args.items) → 0 < c.further → IsCall sets (one_less c) (suc (length c.args.items))
IsCall-begun sets c h another = record { name = h.name; close = h.close; args = h.args; before = h.before; fits = omega (arith, h.fits, another) }

-- ## An argument begins

pub begin-goes : (e : expansion.Scope) (m : Machine) (c : Call) (written : Vec Marked Global) (calls : Vec Pending Global) (out : Vec Marked Global) →
    IsMachineBeside m c.further → IsCall m.sets c (length c.args.items) → 0 < c.further → is_replaced c.definition (next_name c) ≡ true →
    written.items ≡ kept_written c.definition (next_name c) m.todo.first → calls.items ≡ m.calls.items ++ record { call = one_less c; written = written } ∷ [] → out.items ≡ [] →
    GoesOn e (called_on e m c) (weight m + 1) (record m { calls = calls; out = out })
begin-goes e m c written calls out valid call another replaced w cs o =
    let p : Pending = record { call = one_less c; written = written } in
    let counted : sum_by (λ p. suc p.call.further) calls.items ≡ sum_by (λ p. suc p.call.further) m.calls.items + suc (c.further - 1) =
    ap (sum_by (λ (p : Pending). suc p.call.further)) cs ∙ sum_by_push (λ (p : Pending). suc p.call.further) m.calls.items p in
    let begun = IsCall-begun m.sets c call another in
    let kept = kept-known m.sets c.definition (next_name c) m.todo.first valid.first in
    record {
      valid = record {
        first = valid.first;
        others = valid.others;
        out = subst (AreMarked m.sets) (sym o) (All-nil (IsMarked m.sets));
        calls = subst (λ (ps : List Pending). All (IsPending m.sets) ps) (sym cs)
            (All-push (IsPending m.sets) m.calls.items p valid.calls (record { call = begun; written = subst (AreMarked m.sets) (sym w) kept }));
        lists = omega (arith, valid.lists, counted, another);
        cost = valid.cost;
        counter = valid.counter;
      };
      less = omega arith;
      same =
          let ran : Ran = expands e (all_marked_of m.sets m.todo.first) m.cost m.counter in
          let others = m.todo.others in
          let more : suc (c.further - 1) ≡ c.further = omega (arith, another) in
          ap (λ (ps : List Pending). all_resumed e m.sets ps others (outs (all_marked_of m.sets out.items) ran)) (reverse-push m.calls.items calls.items p cs)
          ∙ ap (λ (ms : List Marked). all_resumed e m.sets (p ∷ reverse m.calls.items) others (outs (all_marked_of m.sets ms) ran)) o
          ∙ ap (λ (r : Ran). all_resumed e m.sets (p ∷ reverse m.calls.items) others r) (outs-nil ran)
          ∙ ap (λ (ms : List Marked). all_resumed e m.sets (reverse m.calls.items) (drop (suc (c.further - 1)) others) (resumed e (record { call = call_of m.sets (one_less c) (suc (length c.args.items)) others; written = all_marked_of m.sets ms }) ran)) w
          ∙ ap (λ (ms : List spec.Marked). all_resumed e m.sets (reverse m.calls.items) (drop (suc (c.further - 1)) others) (resumed e (record { call = call_of m.sets (one_less c) (suc (length c.args.items)) others; written = ms }) ran)) (kept-means m.sets c.definition (next_name c) m.todo.first)
          ∙ ap (λ (r : Ran). all_resumed e m.sets (reverse m.calls.items) (drop (suc (c.further - 1)) others) r) (sym (next-replaced e m.sets c m.todo.first others m.cost m.counter call another replaced))
          ∙ ap (λ (k : ℕ). all_resumed e m.sets (reverse m.calls.items) (drop k others) (ran_of_call e (call_of m.sets c (length c.args.items) (m.todo.first ∷ others)) m.cost m.counter)) more;
    }
  where
    kept-means : (sets : Sets) (f : FunctionDef) (name : List ℕ) (list : List Marked) → all_marked_of sets (kept_written f name list) ≡ kept_written f name (all_marked_of sets list)
    kept-means sets f name list = at (is_taken_as_written f name)
      where
        at : (b : Bool) → all_marked_of sets (if b then list else []) ≡ (if b then all_marked_of sets list else [])
        at true = refl
        at false = refl

    kept-known : (sets : Sets) (f : FunctionDef) (name : List ℕ) (list : List Marked) → AreMarked sets list → AreMarked sets (kept_written f name list)
    kept-known sets f name list h = at (is_taken_as_written f name)
      where
        at : (b : Bool) → AreMarked sets (if b then list else [])
        at true = h
        at false = All-nil (IsMarked sets)

-- ## An argument is taken as it is written

pub takes-arg : (m : Machine) (c c' : Call) (list : Vec Marked Global) (todo : Stack) →
    IsMachineBeside m c.further → IsCall m.sets c (length c.args.items) → 0 < c.further → is_replaced c.definition (next_name c) ≡ false →
    list.items ≡ m.todo.first → m.todo.others ≡ todo.first ∷ todo.others → AddsArg (one_less c) list None c' →
    TakesArg m c (record m { todo = todo }) c'
takes-arg m c c' list todo valid call another kept l o added =
    let begun = IsCall-begun m.sets c call another in
    let rest : All (AreMarked m.sets) (todo.first ∷ todo.others) = subst (λ (ls : List (List Marked)). All (AreMarked m.sets) ls) o valid.others in
    let known : AreMarked m.sets list.items = subst (AreMarked m.sets) (sym l) valid.first in
    let one_list : length m.todo.others ≡ length (todo.first ∷ todo.others) = ap length o in
    let lighter : weight_of_lists m.todo.others ≡ suc (length todo.first) + weight_of_lists todo.others = ap weight_of_lists o ∙ weight_of_lists-cons todo.first todo.others in
    record {
      valid = record {
        first = All-head (AreMarked m.sets) todo.first todo.others rest;
        others = All-tail (AreMarked m.sets) todo.first todo.others rest;
        out = valid.out;
        calls = valid.calls;
        lists = omega (arith, valid.lists, one_list, added.further, another);
        cost = valid.cost;
        counter = valid.counter;
      };
      known = IsCall-added m.sets (one_less c) c' list None added begun (record { written = known; replaced = known });
      fewer = omega (arith, added.further, another);
      less = omega (arith, lighter);
      same = λ e.
          let more : suc (c.further - 1) ≡ c.further = omega (arith, another) in
          let around : List (List Marked) → Ran → Ran = all_resumed e m.sets (reverse m.calls.items) in
          let ran : List (List Marked) → List Marked → Ran = λ (ls : List (List Marked)) (ms : List Marked). call_ran e (call_of m.sets (one_less c) (suc (length c.args.items)) ls)
          (with_arg (expands e) e (record { written = all_marked_of m.sets ms; replaced = all_marked_of m.sets ms })
          (args_of e c.definition (drop (suc (length c.args.items)) (names_of c.definition)) (map (all_marked_of m.sets) (take (c.further - 1) ls)) m.cost m.counter)) in
          ap (λ (k : ℕ). around (drop k todo.others) (ran_of_call e (call_of m.sets c' (length c'.args.items) (todo.first ∷ todo.others)) m.cost m.counter)) added.further
          ∙ ap (around (drop (c.further - 1) todo.others)) (ran_of_call-added m.sets (one_less c) c' list None added e (todo.first ∷ todo.others) m.cost m.counter)
          ∙ ap (λ (ms : List Marked). around (drop (c.further - 1) todo.others) (ran (todo.first ∷ todo.others) ms)) l
          ∙ ap (λ (ls : List (List Marked)). around (drop (suc (c.further - 1)) ls) (ran ls m.todo.first)) (sym o)
          ∙ ap (around (drop (suc (c.further - 1)) m.todo.others)) (sym (next-kept e m.sets c m.todo.first m.todo.others m.cost m.counter call another kept))
          ∙ ap (λ (k : ℕ). around (drop k m.todo.others) (ran_of_call e (call_of m.sets c (length c.args.items) (m.todo.first ∷ m.todo.others)) m.cost m.counter)) more;
    }

-- ## A call is replaced

pub IsMachine-at : (m : Machine) (c : Call) (begun : ℕ) → IsMachine m → IsCall m.sets c begun → IsMachine (record m { out = c.before })
IsMachine-at m c begun h k = record { first = h.first; others = h.others; out = k.before; calls = h.calls; lists = h.lists; cost = h.cost; counter = h.counter }

pub common-added : (s0 s1 s2 s3 : Sets) (name : Marked) (close common added : ℕ) (text : List ℕ) → Extends s0 s1 → IsSet s0 name.hides → IsSet s0 close →
    Makes s1 s2 (λ n. hides_of s1 name.hides n && hides_of s1 close n) common → Makes s2 s3 (also text (hides_of s2 common)) added → text ≡ name.tok.text →
    hides_of s3 added ≡ also name.tok.text (λ n. hides_of s0 name.hides n && hides_of s0 close n)
common-added s0 s1 s2 s3 name close common added text x n k both made t =
    made.meant ∙ ap (λ (t : List ℕ). also t (hides_of s2 common)) t
    ∙ ap (also name.tok.text) (both.meant
    ∙ ap (λ (f : List ℕ → Bool). λ (n : List ℕ). f n && hides_of s1 close n) (hides_of-Extends s0 s1 name.hides x n)
    ∙ ap (λ (f : List ℕ → Bool). λ (n : List ℕ). hides_of s0 name.hides n && f n) (hides_of-Extends s0 s1 close x k))

-- the arguments that are done, and one of no tokens where the last is missing
args-all : (e : expansion.Scope) (sets : Sets) (f : FunctionDef) (names : List (List ℕ)) (args : List Arg) (cost counter : ℕ) →
    with_args (map (arg_of sets) args) (args_of e f (drop (length args) names) [] cost counter) ≡ Args (map (arg_of sets) (filled empty_arg (length names) args)) cost counter
args-all e sets f names args cost counter = at (nat_lt (length args) (length names)) refl
  where
    at : (b : Bool) → nat_lt (length args) (length names) ≡ b →
        with_args (map (arg_of sets) args) (args_of e f (drop (length args) names) [] cost counter) ≡ Args (map (arg_of sets) (if b then args ++ empty_arg ∷ [] else args)) cost counter
    at true h =
        ap (λ (ns : List (List ℕ)). with_args (map (arg_of sets) args) (args_of e f ns [] cost counter)) (drop-cons names (length args) [] (ltb-true (length args) (length names) h))
        ∙ ap (λ (as' : List spec.Arg). Args as' cost counter) (sym (map-append (arg_of sets) args (empty_arg ∷ [])))
    at false h =
        ap (λ (ns : List (List ℕ)). with_args (map (arg_of sets) args) (args_of e f ns [] cost counter)) (drop_all (length args) names (ltb-false (length args) (length names) h))
        ∙ ap (λ (as' : List spec.Arg). Args as' cost counter) (append-nil (map (arg_of sets) args))

pub AreArgs-all : (sets : Sets) (n : ℕ) (args all : List Arg) → all ≡ filled empty_arg n args → All (IsArg sets) args → All (IsArg sets) all
AreArgs-all sets n args all same h = subst (λ (xs : List Arg). All (IsArg sets) xs) (sym same) (at (nat_lt (length args) n))
  where
    at : (b : Bool) → All (IsArg sets) (if b then args ++ empty_arg ∷ [] else args)
    at true = All-push (IsArg sets) args empty_arg h (record { written = All-nil (IsMarked sets); replaced = All-nil (IsMarked sets) })
    at false = h

-- the definition's arguments are those that are done
pub called_on-done : (e : expansion.Scope) (m : Machine) (c : Call) (all : List Arg) → c.further ≡ 0 → all ≡ filled empty_arg (length (names_of c.definition)) c.args.items →
    continued e (record m { out = c.before })
    (called (expands e) e c.definition (marked_of m.sets c.name) (hides_of m.sets c.close) (all_marked_of m.sets m.todo.first) (Args (map (arg_of m.sets) all) m.cost m.counter))
    ≡ called_on e m c
called_on-done e m c all none same =
    let f = c.definition in
    let ran : Replaced → Ran = λ (r : Replaced). continued e (record m { out = c.before }) (called (expands e) e f (marked_of m.sets c.name) (hides_of m.sets c.close) (all_marked_of m.sets m.todo.first) r) in
    let at : ℕ → Ran = λ (k : ℕ). all_resumed e m.sets (reverse m.calls.items) (drop k m.todo.others) (outs (all_marked_of m.sets c.before.items)
    (called (expands e) e f (marked_of m.sets c.name) (hides_of m.sets c.close) (all_marked_of m.sets (slice_index_or (m.todo.first ∷ m.todo.others) k []))
    (with_args (map (arg_of m.sets) c.args.items) (args_of e f (drop (length c.args.items) (names_of f)) (map (all_marked_of m.sets) (take k (m.todo.first ∷ m.todo.others))) m.cost m.counter)))) in
    ap (λ (xs : List Arg). ran (Args (map (arg_of m.sets) xs) m.cost m.counter)) same
    ∙ ap ran (sym (args-all e m.sets f (names_of f) c.args.items m.cost m.counter))
    ∙ ap at (sym none)

-- ## A list ends

pub end-whole : (e : expansion.Scope) (m : Machine) (toks : List Tok) → m.calls.items ≡ [] → toks ≡ map (λ m. m.tok) m.out.items →
    Gives.Done toks m.counter ≡ expansion.answer_of (continued e m (Went [] m.cost m.counter))
end-whole e m toks none t =
    let done : List Tok → Expanded = λ (ts : List Tok). Gives.Done ts m.counter in
    ap done (t ∙ sym (toks_marked m.sets m.out.items) ∙ ap (map (λ (m : spec.Marked). m.tok)) (sym (append-nil (all_marked_of m.sets m.out.items))))
    ∙ ap (λ (ps : List Pending). expansion.answer_of (all_resumed e m.sets (reverse ps) m.todo.others (Went (all_marked_of m.sets m.out.items ++ []) m.cost m.counter))) (sym none)
  where
    toks_marked : (sets : Sets) (ms : List Marked) → map (λ m. m.tok) (all_marked_of sets ms) ≡ map (λ m. m.tok) ms
    toks_marked sets [] = refl
    toks_marked sets (m ∷ ms) = ap (λ (ts : List Tok). m.tok ∷ ts) (toks_marked sets ms)

module _ (m : Machine) (p : Pending) (calls : Vec Pending Global) (out : Vec Marked Global) (todo : Stack) (call : Call)
    (cs : m.calls.items ≡ calls.items ++ p ∷ []) (o : out.items ≡ []) (next : m.todo.others ≡ todo.first ∷ todo.others) (added : AddsArg p.call p.written (Some m.out) call) where
  pub IsMachine-ended : IsMachine m → IsMachineBeside (record m { calls = calls; out = out; todo = todo }) call.further
  IsMachine-ended h =
      let rest : All (AreMarked m.sets) (todo.first ∷ todo.others) = subst (λ (ls : List (List Marked)). All (AreMarked m.sets) ls) next h.others in
      let counted : sum_by (λ p. suc p.call.further) m.calls.items ≡ sum_by (λ p. suc p.call.further) calls.items + suc p.call.further =
      ap (sum_by (λ (p : Pending). suc p.call.further)) cs ∙ sum_by_push (λ (p : Pending). suc p.call.further) calls.items p in
      let one_list : length m.todo.others ≡ length (todo.first ∷ todo.others) = ap length next in
      record {
        first = All-head (AreMarked m.sets) todo.first todo.others rest;
        others = All-tail (AreMarked m.sets) todo.first todo.others rest;
        out = subst (AreMarked m.sets) (sym o) (All-nil (IsMarked m.sets));
        calls = (All-pop (IsPending m.sets) m.calls.items calls.items (Some p) cs h.calls).0;
        lists = omega (arith, h.lists, counted, one_list, added.further);
        cost = h.cost;
        counter = h.counter;
      }

  pub IsCall-ended : IsMachine m → IsCall m.sets call (length call.args.items)
  IsCall-ended h =
      let pending : IsPending m.sets p = (All-pop (IsPending m.sets) m.calls.items calls.items (Some p) cs h.calls).1 in
      IsCall-added m.sets p.call call p.written (Some m.out) added pending.call (record { written = pending.written; replaced = h.out })

  pub weight-ended : weight (record m { calls = calls; out = out; todo = todo }) + 1 ≤ weight m
  weight-ended =
      let lighter : weight_of_lists m.todo.others ≡ suc (length todo.first) + weight_of_lists todo.others = ap weight_of_lists next ∙ weight_of_lists-cons todo.first todo.others in
      omega (arith, lighter)

  -- the argument is what went out
  pub end-argument : (e : expansion.Scope) → called_on e (record m { calls = calls; out = out; todo = todo }) call ≡ continued e m (Went [] m.cost m.counter)
  end-argument e =
      let went : Ran = Went (all_marked_of m.sets m.out.items ++ []) m.cost m.counter in
      let around : List (List Marked) → Ran → Ran = all_resumed e m.sets (reverse calls.items) in
      ap (λ (k : ℕ). around (drop k todo.others) (ran_of_call e (call_of m.sets call (length call.args.items) (todo.first ∷ todo.others)) m.cost m.counter)) added.further
      ∙ ap (around (drop p.call.further todo.others)) (ran_of_call-added m.sets p.call call p.written (Some m.out) added e (todo.first ∷ todo.others) m.cost m.counter
      ∙ ap (λ (ms : List spec.Marked). resumed e (pending_of m.sets p (todo.first ∷ todo.others)) (Went ms m.cost m.counter)) (sym (append-nil (all_marked_of m.sets m.out.items))))
      ∙ ap (λ (ls : List (List Marked)). around (drop (suc p.call.further) ls) (resumed e (pending_of m.sets p ls) went)) (sym next)
      ∙ ap (λ (ps : List Pending). all_resumed e m.sets ps m.todo.others went) (sym (reverse-push calls.items m.calls.items p cs))
