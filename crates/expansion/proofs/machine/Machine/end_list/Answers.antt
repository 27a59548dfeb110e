use Rattle.std.proofs.Common.{◌≡◌, ◌∙◌, ap, subst, [], arith}
use Rattle.std.specs.Prelude.{Vec, Some, map}
use Rattle.std.specs.declared.alloc.Global.{Global}
use Rattle.std.proofs.lemmas.List.{nil_from_length}
use Rattle.substitution.specs.declared.marked.Marked.{Marked}
use Rattle.expansion.specs.States.{AddsArg}
use Rattle.expansion.proofs.StateLemmas.{turns-along}
use Rattle.expansion.proofs.CallLemmas.{end-whole, IsMachine-ended, IsCall-ended, weight-ended, end-argument}
use Rattle.expansion.proofs.machine.Machine.end_list.Goals as goal

pub returns-in_ok-toks_of-in-None : goal.returns-in_ok-toks_of-in-None
returns-in_ok-toks_of-in-None c =
    let none : c.args.self.now.calls.items ≡ [] = nil_from_length _ (omega (arith, c.in-None.ensures.cases, c.args.self.now.calls.ok.0)) in
    λ e. end-whole e c.args.self.now c.in_ok-toks_of-in-None.field-0 none (c.in_ok-toks_of-in-None.ensures ∙ ap (λ (v : Vec Marked Global). map (λ m. m.tok) v.items) c.replace-out.ensures.value)

pub next_arg-requires-clause-valid : goal.next_arg-requires-clause-valid
next_arg-requires-clause-valid c =
    let m = c.args.self.now in
    let added : AddsArg c.in-Some.field-0.call c.in-Some.field-0.written (Some m.out) c.in_ok-call-in-Some.call = subst (λ (v : Vec Marked Global). AddsArg c.in-Some.field-0.call c.in-Some.field-0.written (Some v) c.in_ok-call-in-Some.call) c.replace-out.ensures.value c.in_ok-call-in-Some.ensures in
    IsMachine-ended m c.in-Some.field-0 c.pop.new.self c.replace-out.new.dest c.end_list.new.self c.in_ok-call-in-Some.call c.in-Some.ensures.items
    (ap (λ (v : Vec Marked Global). v.items) c.replace-out.ensures.after ∙ c.new.ensures.items) c.end_list.ensures added c.requires.valid

pub next_arg-requires-clause-call : goal.next_arg-requires-clause-call
next_arg-requires-clause-call c =
    let m = c.args.self.now in
    let added : AddsArg c.in-Some.field-0.call c.in-Some.field-0.written (Some m.out) c.in_ok-call-in-Some.call = subst (λ (v : Vec Marked Global). AddsArg c.in-Some.field-0.call c.in-Some.field-0.written (Some v) c.in_ok-call-in-Some.call) c.replace-out.ensures.value c.in_ok-call-in-Some.ensures in
    IsCall-ended m c.in-Some.field-0 c.pop.new.self c.replace-out.new.dest c.end_list.new.self c.in_ok-call-in-Some.call c.in-Some.ensures.items
    (ap (λ (v : Vec Marked Global). v.items) c.replace-out.ensures.after ∙ c.new.ensures.items) c.end_list.ensures added c.requires.valid

pub returns-in_ok-call-in-Some : goal.returns-in_ok-call-in-Some
returns-in_ok-call-in-Some c =
    let m = c.args.self.now in
    let p = c.in-Some.field-0 in
    let call = c.in_ok-call-in-Some.call in
    let out : c.replace-out.new.dest.items ≡ [] = ap (λ (v : Vec Marked Global). v.items) c.replace-out.ensures.after ∙ c.new.ensures.items in
    let added : AddsArg p.call p.written (Some m.out) call = subst (λ (v : Vec Marked Global). AddsArg p.call p.written (Some v) call) c.replace-out.ensures.value c.in_ok-call-in-Some.ensures in
    turns-along c.next_arg.result _ _ _ _ _
    (end-argument m p c.pop.new.self c.replace-out.new.dest c.end_list.new.self call c.in-Some.ensures.items out c.end_list.ensures added)
    (weight-ended m p c.pop.new.self c.replace-out.new.dest c.end_list.new.self call c.in-Some.ensures.items out c.end_list.ensures added) c.next_arg.ensures
