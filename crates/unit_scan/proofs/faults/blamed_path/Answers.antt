use Rattle.std.proofs.Common.{ap, sym, ◌∙◌}
use Rattle.unit_steps.specs.Stack.{current}
use Rattle.unit_scan.specs.Parts.{answers_of, frames_of, told}
use Rattle.unit_scan.specs.Standing.{blamed}
use Rattle.unit_scan.proofs.faults.blamed_path.Goals as goal

pub returns-in-Here : goal.returns-in-Here
returns-in-Here c =
    let run = c.args.run.now in
    let log = c.deref-in-Here.ensures.value in
    let stack = c.deref-in-Here-2.ensures.value in
    λ setup. c.current_path.ensures
    ∙ ap (λ z. (current (frames_of (answers_of z) c.deref-in-Here-2.result.now)).path) log
    ∙ ap (λ z. (current (frames_of (told run) z)).path) stack
    ∙ ap (λ b. (blamed setup run b).path) (sym c.in-Here.is)
