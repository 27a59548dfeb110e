use Rattle.std.proofs.Common.{◌≡◌, sym, ◌∙◌, ap, subst, ℕ, length, arith}
use Rattle.std.specs.Prelude.{Vec}
use Rattle.std.specs.declared.alloc.Global.{Global}
use Rattle.scan_model.specs.declared.macros.FunctionDef.{FunctionDef}
use Rattle.scan_model.specs.Parentheses.{in_parens}
use Rattle.scan_model.specs.Expansion as expansion
use Rattle.substitution.specs.declared.marked.Marked.{Marked}
use Rattle.substitution.specs.Meaning.{marked_of, all_marked_of}
use Rattle.expansion_laws.specs.Turns.{expands}
use Rattle.list_stack.specs.Stacks.{Stack, Opens, OpensAt}
use Rattle.expansion.specs.declared.machine.Call.{Call}
use Rattle.expansion.specs.Cuts.{AreCut, CutsArgs}
use Rattle.expansion.specs.States.{names_of, continued}
use Rattle.scan_model.specs.Expansion.{written_args}
use Rattle.expansion.proofs.StateLemmas.{turns-along}
use Rattle.expansion.proofs.CallBegins.{call-unclosed, call-misfit, IsMachine-begun, IsCall-begun_call, weight-begun, call-begins}
use Rattle.expansion.proofs.machine.Machine.call.Goals as goal

pub returns-in_default : goal.returns-in_default
returns-in_default c = λ e. call-unclosed e c.args.self.now c.args.definition.now c.args.name (subst (Opens c.args.self.now.todo c.open.new.self) c.in_default.is c.in_ok-close.ensures)

pub returns-in_default-2 : goal.returns-in_default-2
returns-in_default-2 c =
    let m = c.args.self.now in
    let opened : OpensAt m.todo c.open.new.self c.in-Some.close = subst (Opens m.todo c.open.new.self) c.in-Some.is c.in_ok-close.ensures in
    λ e. call-misfit m c.open.new.self c.in-Some.close opened e c.args.definition.now c.args.name
    (subst (CutsArgs c.args.definition.now c.open.new.self c.cut_args.new.todo) c.in_default-2.is c.in_ok-further.ensures m.sets)

-- the same by the definition with its index
cut-by : {f g : FunctionDef} {old new : Stack} {count : ℕ} → f ≡ g → AreCut (written_args f) (length (names_of f)) old new count → AreCut (written_args g) (length (names_of g)) old new count
cut-by {f} {g} {old} {new} {count} same cut = subst (λ (h : FunctionDef). AreCut (written_args h) (length (names_of h)) old new count) same cut

pub next_arg-requires-clause-valid : goal.next_arg-requires-clause-valid
next_arg-requires-clause-valid c =
    let m = c.args.self.now in
    let f = c.in_ok-indexed.indexed in
    let call : Call = record { definition = c.in_ok-indexed.indexed; name = c.args.name; close = c.in-Some.close; args = c.new-3.result; further = c.in-Some-2.further; before = c.replace-before.result } in
    let opened : OpensAt m.todo c.open.new.self c.in-Some.close = subst (Opens m.todo c.open.new.self) c.in-Some.is c.in_ok-close.ensures in
    let cut : AreCut (written_args f) (length (names_of f)) c.open.new.self c.cut_args.new.todo c.in-Some-2.further = cut-by (sym c.in_ok-indexed.ensures) (subst (CutsArgs c.args.definition.now c.open.new.self c.cut_args.new.todo) c.in-Some-2.is c.in_ok-further.ensures) in
    IsMachine-begun m c.open.new.self c.cut_args.new.todo call c.replace-before.new.dest opened cut c.new-3.ensures.items
    (ap (λ (v : Vec Marked Global). v.items) c.replace-before.ensures.value) (ap (λ (v : Vec Marked Global). v.items) c.replace-before.ensures.after ∙ c.new-2.ensures.items) c.requires.valid

pub next_arg-requires-clause-call : goal.next_arg-requires-clause-call
next_arg-requires-clause-call c =
    let m = c.args.self.now in
    let f = c.in_ok-indexed.indexed in
    let call : Call = record { definition = c.in_ok-indexed.indexed; name = c.args.name; close = c.in-Some.close; args = c.new-3.result; further = c.in-Some-2.further; before = c.replace-before.result } in
    let opened : OpensAt m.todo c.open.new.self c.in-Some.close = subst (Opens m.todo c.open.new.self) c.in-Some.is c.in_ok-close.ensures in
    let cut : AreCut (written_args f) (length (names_of f)) c.open.new.self c.cut_args.new.todo c.in-Some-2.further = cut-by (sym c.in_ok-indexed.ensures) (subst (CutsArgs c.args.definition.now c.open.new.self c.cut_args.new.todo) c.in-Some-2.is c.in_ok-further.ensures) in
    IsCall-begun_call m c.open.new.self c.cut_args.new.todo call c.replace-before.new.dest opened cut c.new-3.ensures.items
    (ap (λ (v : Vec Marked Global). v.items) c.replace-before.ensures.value) (ap (λ (v : Vec Marked Global). v.items) c.replace-before.ensures.after ∙ c.new-2.ensures.items) c.requires.valid c.requires.name

pub returns : goal.returns
returns c =
    let m = c.args.self.now in
    let f = c.in_ok-indexed.indexed in
    let call : Call = record { definition = c.in_ok-indexed.indexed; name = c.args.name; close = c.in-Some.close; args = c.new-3.result; further = c.in-Some-2.further; before = c.replace-before.result } in
    let opened : OpensAt m.todo c.open.new.self c.in-Some.close = subst (Opens m.todo c.open.new.self) c.in-Some.is c.in_ok-close.ensures in
    let cut : AreCut (written_args f) (length (names_of f)) c.open.new.self c.cut_args.new.todo c.in-Some-2.further = cut-by (sym c.in_ok-indexed.ensures) (subst (CutsArgs c.args.definition.now c.open.new.self c.cut_args.new.todo) c.in-Some-2.is c.in_ok-further.ensures) in
    let before = ap (λ (v : Vec Marked Global). v.items) c.replace-before.ensures.value in
    let empty = ap (λ (v : Vec Marked Global). v.items) c.replace-before.ensures.after ∙ c.new-2.ensures.items in
    turns-along c.next_arg.result _ _ _ _ _
    (λ e. call-begins m c.open.new.self c.cut_args.new.todo call c.replace-before.new.dest opened cut c.new-3.ensures.items before empty e
    ∙ ap (λ (g : FunctionDef). continued e m (expansion.call (expands e) e g (marked_of m.sets c.args.name) m.cost m.counter (in_parens (λ m. m.tok) (all_marked_of m.sets m.todo.first)))) c.in_ok-indexed.ensures)
    (omega (arith, weight-begun m c.open.new.self c.cut_args.new.todo call c.replace-before.new.dest opened cut c.new-3.ensures.items before empty)) c.next_arg.ensures
