use Rattle.std.proofs.Common.{◌∙◌, ap, refl, List, [], arith}
use Rattle.substitution.specs.declared.marked.Marked.{Marked}
use Rattle.list_stack.specs.Stacks.{Stack}
use Rattle.scan_model.specs.Expansion.{answer_of}
use Rattle.expansion.specs.declared.machine.Machine.{Machine}
use Rattle.expansion.specs.States.{scope_of}
use Rattle.expansion.specs.declared.scope.Scope.{Scope}
use Rattle.expansion.proofs.StartLemmas.{start-valid, start-means, ends}
use Rattle.expansion.proofs.run.expand.Goals as goal

pub turns-init : goal.turns-init
turns-init c = record {
  valid = start-valid _ c.args.toks.now c.new.ensures (c.in_ok-of_list.ensures ∙ ap (λ (ms : List Marked). let made : Stack = record { first = ms; others = [] } in made) c.in_ok-unhidden.ensures) c.new-2.ensures.items c.new-3.ensures.items refl (omega (arith, c.first_counter-2.ensures, c.requires));
  same = refl;
}

pub returns-in-Ends : goal.returns-in-Ends
returns-in-Ends c =
    let scope : Scope = record { macros = c.args.macros; site = c.args.site; mode = c.args.mode } in
    let start : Machine = record { alloc = c.args.alloc; sets = c.new.result; todo = c.in_ok-of_list.field-0; out = c.new-2.result; calls = c.new-3.result; cost = 0; counter = c.first_counter-2.result } in
    ends (scope_of scope) _ _ _ c.in_ok-turn.field-0 c.in-Ends.answer c.in-Ends.is c.in_ok-turn.ensures
    ∙ ap answer_of c.turns.invariant.same
    ∙ start-means (scope_of scope) start c.args.toks.now c.new.ensures (c.in_ok-of_list.ensures ∙ ap (λ (ms : List Marked). let made : Stack = record { first = ms; others = [] } in made) c.in_ok-unhidden.ensures) c.new-2.ensures.items c.new-3.ensures.items refl c.first_counter-2.ensures
