use Rattle.std.proofs.Common.{◌≡◌, ◌<◌, length, ap, sym, ◌∙◌, subst}
use Rattle.std.specs.Prelude.{IfOk}
use Rattle.scan_model.specs.Paths.{folder}
use Rattle.unit_steps.specs.Logs.{path_at}
use Rattle.unit_scan.specs.Parts.{answers_of}
use Rattle.unit_scan.proofs.Tops.{top_answer, top_path}
use Rattle.unit_scan.proofs.obeying.current_folder.Goals as goal

pub whole_path_at-requires : goal.whole_path_at-requires
whole_path_at-requires c =
    let run = c.args.run.now in
    let f = c.top-file.result.now in
    subst (λ z. f.answer < length z) (sym c.deref-2.ensures.value) (top_answer run c.deref.result.now f c.deref.ensures.value c.top-file.ensures c.requires.sound.files)

pub returns : goal.returns
returns c =
    let run = c.args.run.now in
    let f = c.top-file.result.now in
    let path = c.whole_path_at.ensures ∙ ap (λ z. path_at (answers_of z) f.answer) c.deref-2.ensures.value ∙ top_path run c.deref.result.now f c.deref.ensures.value c.top-file.ensures in
    subst (λ z. IfOk c.folder.result (λ from. from ≡ folder z)) path c.folder.ensures
