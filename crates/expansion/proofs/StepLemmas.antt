-- The turns of single tokens.
use Rattle.std.proofs.Common.{◌≡◌, sym, ◌∙◌, ap, subst, ℕ, ◌+◌, ◌≤◌, Bool, true, false, ◌&&◌, if◌then◌else◌, List, [], ◌∷◌, length, reverse, arith}
use Rattle.std.specs.Prelude.{All, IfOk, Result, Ok, Err}
use Rattle.scan_model.specs.declared.memory.NoMemory.{NoMemory}
use Rattle.scan_model.specs.declared.token.Kind.{Kind}
use Rattle.scan_model.specs.declared.token.Kind.TheVariants.{Ident}
use Rattle.scan_model.specs.declared.macros.BuiltIn.{BuiltIn}
use Rattle.scan_model.specs.Spelling.{spells}
use Rattle.scan_model.specs.TokenTests.{is_of}
use Rattle.scan_model.specs.Substitution as spec
use Rattle.scan_model.specs.Expansion as expansion
use Rattle.scan_model.specs.Expansion.{Ran, out, built_in, built_in_out, by_def, defined_out, defined_name, first_and_rest, in_condition}
use Rattle.substitution.specs.declared.marked.Marked.{Marked}
use Rattle.substitution.specs.Meaning.{marked_of, all_marked_of, IsMarked, AreMarked}
use Rattle.list_stack.specs.Stacks.{Stack}
use Rattle.expansion.specs.Meaning.{outs}
use Rattle.std.proofs.lemmas.List.Elements.{All-tail, All-same}
use Rattle.expansion_laws.specs.Turns.{expands}
use Rattle.expansion_laws.proofs.TurnLemmas.{expands_first, expands_none}
use Rattle.expansion.specs.declared.machine.Machine.{Machine}
use Rattle.expansion.specs.declared.machine.Turn.{Turn}
use Rattle.expansion.specs.States.{IsMachine, Turns, all_resumed, continued, ran_of, weight, weight_of_lists}
use Rattle.expansion.proofs.StateLemmas.{turn-along}

-- ## Choices

pub choose-true : (b : Bool) (x y : Ran) → b ≡ true → (if b then x else y) ≡ x
choose-true b x y h = rw h

pub choose-false : (b : Bool) (x y : Ran) → b ≡ false → (if b then x else y) ≡ y
choose-false b x y h = rw h

-- ## A built-in name

-- the clause of a call at one scope
pub turns-at : (result : Result Turn NoMemory) (e : expansion.Scope) (ran : expansion.Scope → Ran) (ran' : Ran) (most most' : ℕ) (m : Machine) → ran e ≡ ran' → most ≤ most' →
    IfOk result (λ turn. (e : expansion.Scope) → Turns e (ran e) most m turn) → IfOk result (Turns e ran' most' m)
turns-at (Ok turn) e ran ran' most most' m same le h = turn-along e (ran e) ran' most most' m turn same le (h e)
turns-at (Err error) e ran ran' most most' m same le h = tt

pub turns-on : (result : Result Turn NoMemory) (e : expansion.Scope) (ran ran' : Ran) (most most' : ℕ) (m : Machine) → ran ≡ ran' → most ≤ most' →
    IfOk result (Turns e ran most m) → IfOk result (Turns e ran' most' m)
turns-on (Ok turn) e ran ran' most most' m same le h = turn-along e ran ran' most most' m turn same le h
turns-on (Err error) e ran ran' most most' m same le h = tt

-- what is given for a built-in name
pub gives-as : (result : Result Turn NoMemory) (e : expansion.Scope) (m m' : Machine) (name : Marked) (which b : BuiltIn) (kind : Kind) (text text' : List ℕ) → which ≡ b → text ≡ text' →
    built_in_out (expands e) e kind text' (marked_of m.sets name) (all_marked_of m.sets m.todo.first) m.cost m.counter ≡ built_in (expands e) e b (marked_of m.sets name) (all_marked_of m.sets m.todo.first) m.cost m.counter →
    IfOk result (λ turn. (e : expansion.Scope) → Turns e (continued e m (built_in_out (expands e) e kind text (marked_of m.sets name) (all_marked_of m.sets m.todo.first) m.cost m.counter)) (weight m + 1) m' turn) →
    IfOk result (Turns e (continued e m (built_in (expands e) e which (marked_of m.sets name) (all_marked_of m.sets m.todo.first) m.cost m.counter)) (weight m + 1) m')
gives-as result e m m' name which b kind text text' w t same h =
    turns-at result e (λ e. continued e m (built_in_out (expands e) e kind text (marked_of m.sets name) (all_marked_of m.sets m.todo.first) m.cost m.counter)) _ (weight m + 1) (weight m + 1) m'
    (ap (λ (t : List ℕ). continued e m (built_in_out (expands e) e kind t (marked_of m.sets name) (all_marked_of m.sets m.todo.first) m.cost m.counter)) t
    ∙ ap (continued e m) (same ∙ ap (λ (b : BuiltIn). built_in (expands e) e b (marked_of m.sets name) (all_marked_of m.sets m.todo.first) m.cost m.counter) (sym w)))
    (omega arith) h

-- ## The first token

module _ (e : expansion.Scope) (m : Machine) (token : Marked) (todo : Stack) (taken : m.todo ≡ record todo { first = token ∷ todo.first }) where
  known : IsMachine m → AreMarked m.sets (token ∷ todo.first)
  known h = All-same (IsMarked m.sets) (token ∷ todo.first) m.todo.first (sym (ap (λ (s : Stack). s.first) taken)) h.first

  pub IsMachine-taken : IsMachine m → IsMachine (record m { todo = todo })
  IsMachine-taken h = record {
    first = All-tail (IsMarked m.sets) token todo.first (known h);
    others = subst (λ (s : Stack). All (AreMarked m.sets) s.others) taken h.others;
    out = h.out;
    calls = h.calls;
    lists = sym (ap (λ (s : Stack). length s.others) taken) ∙ h.lists;
    cost = h.cost;
    counter = h.counter;
  }

  pub weight-taken : weight (record m { todo = todo }) + 1 ≡ weight m
  weight-taken =
      let first : length m.todo.first ≡ length (token ∷ todo.first) = ap (λ (s : Stack). length s.first) taken in
      let others : weight_of_lists m.todo.others ≡ weight_of_lists todo.others = ap (λ (s : Stack). weight_of_lists s.others) taken in
      omega arith

  pub ran_of-taken : IsMachine m → ran_of e m ≡ continued e (record m { todo = todo }) (first_and_rest (expands e) e (marked_of m.sets token) (all_marked_of m.sets todo.first) m.cost m.counter)
  ran_of-taken h = ap (λ (s : Stack). all_resumed e m.sets (reverse m.calls.items) s.others (outs (all_marked_of m.sets m.out.items) (expands e (all_marked_of m.sets s.first) m.cost m.counter))) taken
      ∙ ap (continued e (record m { todo = todo })) (expands_first e (marked_of m.sets token) (all_marked_of m.sets todo.first) m.cost m.counter h.cost)

pub ran_of-none : (e : expansion.Scope) (m : Machine) → m.todo.first ≡ [] → ran_of e m ≡ continued e m (expansion.Went [] m.cost m.counter)
ran_of-none e m none = ap (λ (ms : List Marked). continued e m (expands e (all_marked_of m.sets ms) m.cost m.counter)) none ∙ ap (continued e m) (expands_none e m.cost m.counter)

module _ (e : expansion.Scope) (m : spec.Marked) (rest : List spec.Marked) (cost counter : ℕ) where
  pub first-other : is_of Ident m.tok ≡ false → first_and_rest (expands e) e m rest cost counter ≡ out m (expands e rest cost counter)
  first-other h = rw h

  pub first-defined : is_of Ident m.tok ≡ true → (in_condition e.mode && spells "defined" m.tok.text) ≡ true →
      first_and_rest (expands e) e m rest cost counter ≡ defined_out (expands e) e m rest cost counter (defined_name (expands e) e rest)
  first-defined h d = rw (h, d)

  pub first-hidden : is_of Ident m.tok ≡ true → (in_condition e.mode && spells "defined" m.tok.text) ≡ false → m.hides m.tok.text ≡ true →
      first_and_rest (expands e) e m rest cost counter ≡ out m (expands e rest cost counter)
  first-hidden h d n = rw (h, d, n)

  pub first-named : is_of Ident m.tok ≡ true → (in_condition e.mode && spells "defined" m.tok.text) ≡ false → m.hides m.tok.text ≡ false →
      first_and_rest (expands e) e m rest cost counter ≡ by_def (expands e) e m rest cost counter (e.defs m.tok.text)
  first-named h d n = rw (h, d, n)
