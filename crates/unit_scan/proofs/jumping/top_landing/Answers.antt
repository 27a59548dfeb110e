use Rattle.std.proofs.Common.{◌-◌, ◌<◌, length, ap, sym, ◌∙◌, subst, arith}
use Rattle.unit_steps.specs.Logs.{lines_at}
use Rattle.unit_scan.specs.Parts.{answers_of}
use Rattle.unit_scan.proofs.Tops.{top_answer, top_line}
use Rattle.unit_scan.proofs.jumping.top_landing.Goals as goal

pub lines_of-requires : goal.lines_of-requires
lines_of-requires c =
    let run = c.args.run.now in
    let f = c.top-file.result.now in
    subst (λ z. f.answer < length z) (sym c.deref-2.ensures.value) (top_answer run c.deref.result.now f c.deref.ensures.value c.top-file.ensures c.requires.files)

pub landing-requires : goal.landing-requires
landing-requires c =
    let run = c.args.run.now in
    let f = c.top-file.result.now in
    let lines = c.in-Some.ensures ∙ ap (λ z. lines_at (answers_of z) f.answer) c.deref-2.ensures.value in
    subst (λ z. f.next - 1 < length z) (sym lines) (top_line run c.deref.result.now f c.deref.ensures.value c.top-file.ensures c.requires.files c.requires.taken)

pub unreachable-requires : goal.unreachable-requires
unreachable-requires c =
    let run = c.args.run.now in
    let f = c.top-file.result.now in
    let none = ap (λ z. lines_at (answers_of z) f.answer) (sym c.deref-2.ensures.value) ∙ c.in-None.ensures in
    let within : f.next - 1 < 0 = subst (λ z. f.next - 1 < length z) none (top_line run c.deref.result.now f c.deref.ensures.value c.top-file.ensures c.requires.files c.requires.taken) in
    let no : ⊥ = omega (arith, within) in
    absurd no
