use Rattle.std.proofs.Common.{◌∙◌, ap, List, length, arith}
use Rattle.hide_sets.proofs.Growing.{Extends-on}
use Rattle.scan_model.specs.Substitution.{subst}
use Rattle.substitution.specs.declared.marked.Arg.{Arg}
use Rattle.substitution.specs.Calls.{function_call}
use Rattle.expansion.specs.States.{names_of}
use Rattle.expansion.proofs.StateLemmas.{IsMachine-grown, GivesList-grown, rescanned-grown, turns-along}
use Rattle.expansion.proofs.CallLemmas.{IsMachine-at, AreArgs-all, common-added, called_on-done}
use Rattle.expansion.proofs.machine.Machine.finish.Goals as goal

pub substitute_function-requires : goal.substitute_function-requires
substitute_function-requires c =
    AreArgs-all c.args.self.now.sets (length (names_of c.args.call.definition)) c.args.call.args.items _ (c.as_slice.ensures.value ∙ c.in_ok-args.ensures) c.requires.call.args

pub rescan-requires-clause-valid : goal.rescan-requires-clause-valid
rescan-requires-clause-valid c =
    IsMachine-grown (record c.args.self.now { out = c.args.call.before }) c.also.new.self
    (Extends-on _ _ _ c.substitute_function.ensures.extended (Extends-on _ _ _ c.in_ok-common.ensures.ok.extended c.in_ok-added.ensures.ok.extended))
    (IsMachine-at c.args.self.now c.args.call _ c.requires.valid c.requires.call)

pub rescan-requires-clause-list : goal.rescan-requires-clause-list
rescan-requires-clause-list c =
    (GivesList-grown _ _ _ _ (Extends-on _ _ _ c.in_ok-common.ensures.ok.extended c.in_ok-added.ensures.ok.extended) c.in_ok-list.ensures.value).known

pub returns : goal.returns
returns c =
    let m = c.args.self.now in
    let call = c.args.call in
    let later = Extends-on _ _ _ c.in_ok-common.ensures.ok.extended c.in_ok-added.ensures.ok.extended in
    let given = GivesList-grown _ _ _ _ later c.in_ok-list.ensures.value in
    turns-along c.rescan.result _ _ _ _ _
    (λ e. rescanned-grown e (record m { out = call.before }) c.also.new.self _ _ _ _ (Extends-on _ _ _ c.substitute_function.ensures.extended later)
    (IsMachine-at m call _ c.requires.valid c.requires.call)
    (common-added _ _ _ _ call.name call.close _ _ _ c.substitute_function.ensures.extended c.requires.call.name c.requires.call.close c.in_ok-common.ensures.ok c.in_ok-added.ensures.ok c.as_slice-2.ensures)
    (given.meant ∙ ap (λ (args : List Arg). subst (function_call m.sets call.definition args call.name.tok.line) call.name.tok.space call.definition.body) c.as_slice.ensures.value)
    ∙ called_on-done e m call c.in_ok-args.args.items c.requires.none c.in_ok-args.ensures)
    (omega arith) c.rescan.ensures
