use Rattle.std.proofs.Common.{◌-◌, ◌<◌, length, sym, subst, ap, ◌∙◌}
use Rattle.scan_model.specs.Candidates.{candidates, place}
use Rattle.scan_model.specs.Files.{Present}
use Rattle.scan_model.specs.TokenTests.{is_among}
use Rattle.unit_steps.specs.Logs.{path_at}
use Rattle.unit_scan.specs.declared.stage.Blame.TheVariants as BlameIs
use Rattle.unit_scan.specs.declared.stage.Purpose.TheVariants as PurposeIs
use Rattle.unit_scan.specs.Parts.{answers_of, setup_of, told}
use Rattle.unit_scan.specs.Standing.{Entering}
use Rattle.unit_scan.proofs.Answering.{answers_count, last_path, next_small, include_present}
use Rattle.unit_scan.proofs.answers.included.Goals as goal

pub place-chain_place-requires-clause-there : goal.place-chain_place-requires-clause-there
place-chain_place-requires-clause-there c = λ from.
    let setup = setup_of c.args.scan.now in
    let n = c.args.name.now in
    let h = c.requires in
    subst (λ z. n.next < length (candidates setup.command.search setup.settings.program n.form from z)) (sym c.as_slice.ensures)
    (next_small setup c.args.run.now n PurposeIs.Included h.0 h.1.0 (Present h.1.1.0) h.1.1.1 from)

pub enter-requires : goal.enter-requires
enter-requires c =
    let setup = setup_of c.args.scan.now in
    let run = c.args.run.now in
    let n = c.args.name.now in
    let h = c.requires in
    let log = ap (λ z. is_among run.state.once (path_at (answers_of z) (length z - 1))) c.deref.ensures.value in
    let count = ap (λ k. is_among run.state.once (path_at (told run) (k - 1))) (sym (answers_count run.log.items)) in
    let path = ap (is_among run.state.once) (last_path setup run h.0 h.1.0 (Present h.1.1.0) h.1.1.1.last) in
    subst (λ z. Entering setup run (BlameIs.Here n.line) z) (sym (c.place-chain_place.ensures ∙ ap (λ z. place setup.command.search n.form z n.next) c.as_slice.ensures))
    (include_present setup run n h.0 h.1.0 h.1.1.0 h.1.1.1 (sym (c.if-is_passed.ensures ∙ log ∙ count ∙ path)))
