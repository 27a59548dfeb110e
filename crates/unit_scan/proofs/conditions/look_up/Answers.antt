use Rattle.std.proofs.Common.{length, ap, ◌∙◌, arith}
use Rattle.scan_model.specs.Candidates.{candidates}
use Rattle.scan_model.specs.Search.{search_form}
use Rattle.unit_scan.specs.Parts.{setup_of}
use Rattle.unit_scan.proofs.Tops.{top_chain_place}
use Rattle.unit_scan.proofs.Testing.{tests_there, look_up_follows}
use Rattle.unit_scan.proofs.conditions.look_up.Goals as goal

pub overflow_sub-run : goal.overflow_sub-run
overflow_sub-run c =
    let f = c.requires.finds in
    let test = c.args.test in
    let some = tests_there (setup_of c.args.scan.now) c.args.run.now c.args.testing c.requires.condition f.0 f.1.1.0 test.next test.form test.name f.1.0 f.1.1.1 test.past f.1.1.2 f.1.1.4
    c.search_form-form.result c.in_ok-from.from c.taken_line-line.result 0
    (c.search_form-form.ensures ∙ ap (λ z. search_form test.next z test.form) (top_chain_place c.args.run.now c.deref.result.now c.top.result.now c.deref.ensures.value c.top.ensures))
    c.in_ok-from.ensures c.taken_line-line.ensures in
    omega (arith, some)

pub returns-clause-next : goal.returns-clause-next
returns-clause-next c =
    let setup = setup_of c.args.scan.now in
    let f = c.requires.finds in
    let test = c.args.test in
    let form = c.search_form-form.result in
    let from = c.in_ok-from.from in
    look_up_follows setup c.args.run.now c.args.testing c.requires.condition f.0 f.1.1.0 test.next test.form test.name f.1.0 f.1.1.1 test.past f.1.1.2 f.1.1.4
    form from c.taken_line-line.result c.candidate_count-run.result
    (c.search_form-form.ensures ∙ ap (λ z. search_form test.next z test.form) (top_chain_place c.args.run.now c.deref.result.now c.top.result.now c.deref.ensures.value c.top.ensures))
    c.in_ok-from.ensures c.taken_line-line.ensures
    (c.candidate_count-run.ensures.count from ∙ ap (λ z. length (candidates setup.command.search setup.settings.program form from z)) c.as_slice.ensures)
    c.candidate_count-run.ensures.small
