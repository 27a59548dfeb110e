use Rattle.std.proofs.Common.{◌-◌, ◌<◌, length, ap, sym, ◌∙◌, subst}
use Rattle.unit_steps.specs.Logs.{lines_at}
use Rattle.unit_scan.specs.Parts.{answers_of}
use Rattle.unit_scan.proofs.Tops.{top_answer, top_line}
use Rattle.unit_scan.proofs.obeying.taken_line.Goals as goal

pub lines_of-requires : goal.lines_of-requires
lines_of-requires c =
    let run = c.args.run.now in
    let f = c.top-file.result.now in
    subst (λ z. f.answer < length z) (sym c.deref-2.ensures.value) (top_answer run c.deref.result.now f c.deref.ensures.value c.top-file.ensures c.requires.sound)

pub line-requires : goal.line-requires
line-requires c =
    let run = c.args.run.now in
    let f = c.top-file.result.now in
    let lines = c.in-Some.ensures ∙ ap (λ z. lines_at (answers_of z) f.answer) c.deref-2.ensures.value in
    subst (λ z. f.next - 1 < length z) (sym lines) (top_line run c.deref.result.now f c.deref.ensures.value c.top-file.ensures c.requires.sound c.requires.taken)
