-- What is left to do of an expansion, in the terms of its definition.
use Rattle.std.specs.Prelude.{ℕ, Bool, List, [], ◌∷◌, ◌++◌, if◌then◌else◌}
use Rattle.scan_model.specs.declared.macros.FunctionDef.{FunctionDef}
use Rattle.scan_model.specs.Substitution.{Marked, Arg, is_replaced}
use Rattle.scan_model.specs.Expansion.{Scope, Ran, Went, Failed, Replaced, Args, NotReplaced, with_arg, after_arg, called}
use Rattle.substitution.specs.Written.{is_taken_as_written}
use Rattle.expansion_laws.specs.Turns.{expands}

-- what went out before, and then what goes out
abbrev pub outs : List Marked → Ran → Ran
outs before (Went ms cost counter) = Went (before ++ ms) cost counter
outs before (Failed answer) = Failed answer

-- the arguments before, and then those that follow
abbrev pub with_args : List Arg → Replaced → Replaced
with_args before (Args args cost counter) = Args (before ++ args) cost counter
with_args before (NotReplaced answer) = NotReplaced answer

-- what is kept of an argument that is replaced by itself: it as it is written, where the replacement may take it so
abbrev pub kept_written : {X : Type 0} → FunctionDef → List ℕ → List X → List X
kept_written f name written = if is_taken_as_written f name then written else []

-- an argument of no tokens
abbrev pub no_arg : Arg
no_arg = record { written = []; replaced = [] }

-- the arguments for these parameters; where there are fewer, the variable part has no tokens
abbrev pub args_of : Scope → FunctionDef → List (List ℕ) → List (List Marked) → ℕ → ℕ → Replaced
args_of e f [] lists cost counter = Args [] cost counter
args_of e f (name ∷ names) [] cost counter = Args (no_arg ∷ []) cost counter
args_of e f (name ∷ names) (w ∷ lists) cost counter =
    let replaced = after_arg (expands e) e (λ ms c k. with_arg (expands e) e (record { written = kept_written f name w; replaced = ms }) (args_of e f names lists c k)) (expands e w cost counter) in
    let kept = with_arg (expands e) e (record { written = w; replaced = w }) (args_of e f names lists cost counter) in
    if is_replaced f name then replaced else kept

-- A call that has its arguments cut: those that are done, those that follow with their parameters, and the list in which
-- the call stands: what went out before its name, and what follows its `)`.
pub record Call : Type 0 where
  pub definition : FunctionDef
  pub name : Marked
  pub close : List ℕ → Bool
  pub args : List Arg
  pub names : List (List ℕ)
  pub further : List (List Marked)
  pub before : List Marked
  pub rest : List Marked

-- what comes of the call, by what comes of its further arguments
abbrev pub call_ran : Scope → Call → Replaced → Ran
call_ran e c r = outs c.before (called (expands e) e c.definition c.name c.close c.rest (with_args c.args r))

-- what comes of the call
abbrev pub ran_of_call : Scope → Call → ℕ → ℕ → Ran
ran_of_call e c cost counter = call_ran e c (args_of e c.definition c.names c.further cost counter)

-- a call one of whose arguments is being replaced, and what is kept of that argument as it is written
pub record Pending : Type 0 where
  pub call : Call
  pub written : List Marked

-- what comes of the call, by what comes of the argument
abbrev pub resumed : Scope → Pending → Ran → Ran
resumed e p ran =
    call_ran e p.call (after_arg (expands e) e (λ ms cost counter. with_arg (expands e) e (record { written = p.written; replaced = ms }) (args_of e p.call.definition p.call.names p.call.further cost counter)) ran)
