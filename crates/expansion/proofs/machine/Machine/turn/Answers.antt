use Rattle.std.proofs.Common.{◌≡◌, sym, ◌∙◌, ap, subst, [], arith}
use Rattle.scan_model.specs.Expansion.{Went}
use Rattle.list_stack.specs.Stacks.{Stack}
use Rattle.hide_sets.specs.Sets.{hides_of}
use Rattle.expansion.specs.States.{IsMachine, continued, scope_of, weight}
use Rattle.expansion.proofs.StepLemmas.{turns-at, turns-on, IsMachine-taken, weight-taken, ran_of-taken, ran_of-none, first-other, first-defined, first-hidden, first-named}
use Rattle.expansion.proofs.machine.Machine.turn.Goals as goal

pub end_list-requires-clause-valid : goal.end_list-requires-clause-valid
end_list-requires-clause-valid c = subst (λ (todo : Stack). IsMachine (record c.args.self.now { todo = todo })) (sym c.in_default.ensures.1) c.requires

pub end_list-requires-clause-ended : goal.end_list-requires-clause-ended
end_list-requires-clause-ended c = ap (λ (todo : Stack). todo.first) c.in_default.ensures.1 ∙ c.in_default.ensures.0

pub returns-in_default : goal.returns-in_default
returns-in_default c =
    let e = scope_of c.args.scope.now in
    let m = c.args.self.now in
    let same_weight : weight (record m { todo = c.next.new.self }) ≡ weight m = ap (λ (todo : Stack). weight (record m { todo = todo })) c.in_default.ensures.1 in
    turns-at c.end_list.result e _ _ _ _ _
    (ap (λ (todo : Stack). continued e (record m { todo = todo }) (Went [] m.cost m.counter)) c.in_default.ensures.1 ∙ sym (ran_of-none e m c.in_default.ensures.0))
    (omega (arith, same_weight)) c.end_list.ensures

pub goes_out-requires-clause-valid : goal.goes_out-requires-clause-valid
goes_out-requires-clause-valid c = IsMachine-taken (scope_of c.args.scope.now) c.args.self.now c.in-Some.token c.next.new.self c.in-Some.ensures c.requires

pub returns-then-not-is_ident : goal.returns-then-not-is_ident
returns-then-not-is_ident c =
    let e = scope_of c.args.scope.now in
    turns-at c.goes_out.result e _ _ _ _ _
    (sym (ran_of-taken e c.args.self.now c.in-Some.token c.next.new.self c.in-Some.ensures c.requires
    ∙ ap (continued e (record c.args.self.now { todo = c.next.new.self })) (first-other e _ _ _ _ (sym c.is_ident.ensures ∙ c.if-not-is_ident.true))))
    (omega (arith, weight-taken e c.args.self.now c.in-Some.token c.next.new.self c.in-Some.ensures)) c.goes_out.ensures

pub defined-requires-clause-valid : goal.defined-requires-clause-valid
defined-requires-clause-valid c = IsMachine-taken (scope_of c.args.scope.now) c.args.self.now c.in-Some.token c.next.new.self c.in-Some.ensures c.requires

pub returns-then-is_defined_operator : goal.returns-then-is_defined_operator
returns-then-is_defined_operator c =
    let e = scope_of c.args.scope.now in
    turns-on c.defined.result e _ _ _ _ _
    (sym (ran_of-taken e c.args.self.now c.in-Some.token c.next.new.self c.in-Some.ensures c.requires
    ∙ ap (continued e (record c.args.self.now { todo = c.next.new.self })) (first-defined e _ _ _ _ (sym c.is_ident.ensures ∙ c.if-not-is_ident.false) (sym c.is_defined_operator.ensures ∙ c.if-is_defined_operator.true))))
    (omega (arith, weight-taken e c.args.self.now c.in-Some.token c.next.new.self c.in-Some.ensures)) c.defined.ensures

pub goes_out-requires-then-hides-clause-valid : goal.goes_out-requires-then-hides-clause-valid
goes_out-requires-then-hides-clause-valid c = IsMachine-taken (scope_of c.args.scope.now) c.args.self.now c.in-Some.token c.next.new.self c.in-Some.ensures c.requires

pub returns-then-hides : goal.returns-then-hides
returns-then-hides c =
    let e = scope_of c.args.scope.now in
    turns-at c.goes_out-then-hides.result e _ _ _ _ _
    (sym (ran_of-taken e c.args.self.now c.in-Some.token c.next.new.self c.in-Some.ensures c.requires
    ∙ ap (continued e (record c.args.self.now { todo = c.next.new.self })) (first-hidden e _ _ _ _ (sym c.is_ident.ensures ∙ c.if-not-is_ident.false) (sym c.is_defined_operator.ensures ∙ c.if-is_defined_operator.false) (ap (hides_of c.args.self.now.sets c.in-Some.token.hides) (sym c.as_slice.ensures) ∙ sym c.hides.ensures ∙ c.if-hides.true))))
    (omega (arith, weight-taken e c.args.self.now c.in-Some.token c.next.new.self c.in-Some.ensures)) c.goes_out-then-hides.ensures

pub replace_name-requires-clause-valid : goal.replace_name-requires-clause-valid
replace_name-requires-clause-valid c = IsMachine-taken (scope_of c.args.scope.now) c.args.self.now c.in-Some.token c.next.new.self c.in-Some.ensures c.requires

pub returns : goal.returns
returns c =
    let e = scope_of c.args.scope.now in
    turns-on c.replace_name.result e _ _ _ _ _
    (sym (ran_of-taken e c.args.self.now c.in-Some.token c.next.new.self c.in-Some.ensures c.requires
    ∙ ap (continued e (record c.args.self.now { todo = c.next.new.self })) (first-named e _ _ _ _ (sym c.is_ident.ensures ∙ c.if-not-is_ident.false) (sym c.is_defined_operator.ensures ∙ c.if-is_defined_operator.false) (ap (hides_of c.args.self.now.sets c.in-Some.token.hides) (sym c.as_slice.ensures) ∙ sym c.hides.ensures ∙ c.if-hides.false))))
    (omega (arith, weight-taken e c.args.self.now c.in-Some.token c.next.new.self c.in-Some.ensures)) c.replace_name.ensures
