-- What a state of the machine stands for.
use Rattle.std.specs.Prelude.{◌≡◌, ℕ, suc, ◌+◌, ◌-◌, ◌^◌, ◌<◌, ◌≤◌, List, [], ◌∷◌, ◌++◌, map, reverse, take, drop, length, slice_index_or, sum_by, All, Vec, Option}
use Rattle.std.specs.Option.{option_map}
use Rattle.std.specs.declared.alloc.Global.{Global}
use Rattle.substitution.specs.declared.marked.Marked.{Marked}
use Rattle.hide_sets.specs.Sets.{Sets, IsSet, hides_of}
use Rattle.macro_table.specs.Table.{macros_of}
use Rattle.scan_model.specs.declared.macros.FunctionDef.{FunctionDef}
use Rattle.scan_model.specs.MacroDefinition.{all_params}
use Rattle.scan_model.specs.Expansion as expansion
use Rattle.scan_model.specs.Expansion.{Ran, cost_limit, answer_of}
use Rattle.substitution.specs.Meaning.{marked_of, all_marked_of, arg_of, IsMarked, AreMarked, IsArg}
use Rattle.expansion_laws.specs.Turns.{expands}
use Rattle.expansion.specs.declared.scope.Scope.{Scope}
use Rattle.expansion.specs.declared.machine.Call.{Call}
use Rattle.expansion.specs.declared.machine.Pending.{Pending}
use Rattle.expansion.specs.declared.machine.Machine.{Machine}
use Rattle.expansion.specs.declared.machine.Turn.{Turn}
use Rattle.expansion.specs.declared.machine.Turn.TheVariants.{Goes, Ends}
use Rattle.expansion.specs.Meaning as meaning
use Rattle.expansion.specs.Meaning.{outs, ran_of_call, resumed}

abbrev pub scope_of : Scope → expansion.Scope
scope_of s = record { defs = (macros_of s.macros.now).defs; site = s.site.now; mode = s.mode }

-- ## Calls

-- its parameters, the variable part's name last
abbrev pub names_of : FunctionDef → List (List ℕ)
names_of f = all_params f.params f.variadic

-- the parameter of the call's next argument
abbrev pub next_name : Call → List ℕ
next_name c = slice_index_or (names_of c.definition) (length c.args.items) []

-- the call, of which this many arguments are done or under way; those that follow come first of these lists, and then
-- what follows the `)`
abbrev pub call_of : Sets → Call → ℕ → List (List Marked) → meaning.Call
call_of sets c begun lists = record {
  definition = c.definition;
  name = marked_of sets c.name;
  close = hides_of sets c.close;
  args = map (arg_of sets) c.args.items;
  names = drop begun (names_of c.definition);
  further = map (all_marked_of sets) (take c.further lists);
  before = all_marked_of sets c.before.items;
  rest = all_marked_of sets (slice_index_or lists c.further []);
}

-- the same of a call one of whose arguments is under way
abbrev pub pending_of : Sets → Pending → List (List Marked) → meaning.Pending
pending_of sets p lists = record { call = call_of sets p.call (suc (length p.call.args.items)) lists; written = all_marked_of sets p.written.items }

-- the table has the hide sets of the call's tokens, and each argument that follows has its parameter
pub record IsCall (sets : Sets) (c : Call) (begun : ℕ) : Type 0 where
  pub name : IsMarked sets c.name
  pub close : IsSet sets c.close
  pub args : All (IsArg sets) c.args.items
  pub before : AreMarked sets c.before.items
  pub fits : begun + c.further ≤ length (names_of c.definition)

pub record IsPending (sets : Sets) (p : Pending) : Type 0 where
  pub call : IsCall sets p.call (suc (length p.call.args.items))
  pub written : AreMarked sets p.written.items

-- ## The machine

-- What comes of the whole list, by what comes of the list at work, for calls inside one another, the innermost first.
-- These lists follow the one at work.
abbrev pub all_resumed : expansion.Scope → Sets → List Pending → List (List Marked) → Ran → Ran
all_resumed e sets [] lists ran = ran
all_resumed e sets (p ∷ ps) lists ran = all_resumed e sets ps (drop (suc p.call.further) lists) (resumed e (pending_of sets p lists) ran)

-- what comes of the whole list, by what comes of what is left of the list at work
abbrev pub continued : expansion.Scope → Machine → Ran → Ran
continued e m ran = all_resumed e m.sets (reverse m.calls.items) m.todo.others (outs (all_marked_of m.sets m.out.items) ran)

abbrev pub ran_of : expansion.Scope → Machine → Ran
ran_of e m = continued e m (expands e (all_marked_of m.sets m.todo.first) m.cost m.counter)

-- The table has every hide set, the cost is within the limit, and the counter can rise as often as the limit lets it. A
-- call that has been taken out has this many arguments that follow: they and what follows its `)` are the first lists.
pub record IsMachineBeside (m : Machine) (further : ℕ) : Type 0 where
  pub first : AreMarked m.sets m.todo.first
  pub others : All (AreMarked m.sets) m.todo.others
  pub out : AreMarked m.sets m.out.items
  pub calls : All (IsPending m.sets) m.calls.items
  pub lists : length m.todo.others ≡ further + sum_by (λ p. suc p.call.further) m.calls.items
  pub cost : m.cost ≤ cost_limit
  pub counter : m.counter + (cost_limit - m.cost) < 2 ^ 63 + cost_limit

-- no call is taken out
abbrev pub IsMachine : Machine → Type 0
IsMachine m = IsMachineBeside m 0

-- what comes of the whole list where this innermost call has been taken out of the machine
abbrev pub called_on : expansion.Scope → Machine → Call → Ran
called_on e m c =
    all_resumed e m.sets (reverse m.calls.items) (drop c.further m.todo.others)
    (ran_of_call e (call_of m.sets c (length c.args.items) (m.todo.first ∷ m.todo.others)) m.cost m.counter)

-- ## How much is left to do

abbrev pub weight_of_lists : List (List Marked) → ℕ
weight_of_lists lists = sum_by (λ l. suc (length l)) lists

abbrev pub weight : Machine → ℕ
weight m = length m.todo.first + weight_of_lists m.todo.others + (cost_limit - m.cost)

-- ## A turn

-- the machine goes on to this end, with less left to do than this
pub record GoesOn (e : expansion.Scope) (ran : Ran) (most : ℕ) (m : Machine) : Type 0 where
  pub valid : IsMachine m
  pub less : weight m < most
  pub same : ran_of e m ≡ ran

abbrev pub Turns : expansion.Scope → Ran → ℕ → Machine → Turn → Type 0
Turns e ran most m Goes = GoesOn e ran most m
Turns e ran most m (Ends answer) = answer ≡ answer_of ran

-- the call with one more argument that is done
pub record AddsArg (old : Call) (written : Vec Marked Global) (replaced : Option (Vec Marked Global)) (new : Call) : Type 0 where
  pub definition : new.definition ≡ old.definition
  pub name : new.name ≡ old.name
  pub close : new.close ≡ old.close
  pub args : new.args.items ≡ old.args.items ++ record { written = written.items; replaced = option_map (λ v. v.items) replaced } ∷ []
  pub further : new.further ≡ old.further
  pub before : new.before.items ≡ old.before.items

-- the call that has been taken out goes on to the same end, with one argument less that follows
pub record TakesArg (old : Machine) (call : Call) (new : Machine) (call' : Call) : Type 0 where
  pub valid : IsMachineBeside new call'.further
  pub known : IsCall new.sets call' (length call'.args.items)
  pub fewer : call'.further < call.further
  pub less : weight new ≤ weight old
  pub same : (e : expansion.Scope) → called_on e new call' ≡ called_on e old call
