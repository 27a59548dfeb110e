use Rattle.std.proofs.Common.{◌≡◌, refl, ◌+◌, length, subst, sym, ◌∙◌, ap, slice_get, get_or}
use Rattle.std.specs.Prelude.{Some}
use Rattle.std.proofs.lemmas.Option.{slice_get_read}
use Rattle.scan_model.specs.Candidates.{candidates}
use Rattle.scan_model.specs.declared.command.Form.TheVariants.{Quoted}
use Rattle.unit_scan.specs.Parts.{setup_of}
use Rattle.unit_scan.proofs.Beginning.{forced_over, forced_sought}
use Rattle.unit_scan.proofs.begun.force.Goals.{After-as_slice-2}
use Rattle.unit_scan.proofs.begun.force.Goals as goal

there : (c : After-as_slice-2) → slice_get c.args.scan.now.command.now.forced c.args.k ≡ Some c.as_slice-name.result.now
there c =
    let is = subst (λ z. c.index-as_slice-k.result ≡ get_or z c.args.k c.index-as_slice-k.result) c.as_slice.ensures c.index-as_slice-k.is in
    slice_get_read c.args.scan.now.command.now.forced (length c.args.scan.now.command.now.forced) c.args.k c.index-as_slice-k.result refl c.requires.there is ∙ ap Some (sym c.as_slice-name.ensures.value)

pub returns-then-is_empty-clause-next : goal.returns-then-is_empty-clause-next
returns-then-is_empty-clause-next c =
    forced_over (setup_of c.args.scan.now) c.args.run.now c.requires.running c.requires.none c.args.k c.requires.left c.as_slice-name.result.now (there (goal.at.returns-then-is_empty-clause-next c).After-as_slice-2) c.requires.there
    (sym c.if-is_empty.ensures) _ (ap (λ z. length z + 1 + c.args.k) c.as_slice-2.ensures) c.in_ok-end.end c.in_ok-end.ensures

pub returns-clause-next : goal.returns-clause-next
returns-clause-next c =
    let command = c.args.scan.now.command.now in
    let text = c.as_slice-name.result.now in
    let count = c.candidate_count-run.ensures.count command.directory ∙ ap (λ z. length (candidates command.search c.args.scan.now.settings.now.program Quoted command.directory z)) (c.as_slice-3.ensures ∙ c.in_ok-copy-2.ensures) in
    forced_sought (setup_of c.args.scan.now) c.args.run.now c.requires.running c.requires.none c.args.k c.requires.left text (there (goal.at.returns-clause-next c).After-as_slice-2) c.requires.there
    (sym c.if-is_empty.ensures) c.in_ok-copy.field-0 c.in_ok-copy-2.field-0 _ c.candidate_count-run.result c.in_ok-copy.ensures c.in_ok-copy-2.ensures (ap (λ z. length z + 1 + c.args.k) c.as_slice-2.ensures) count c.candidate_count-run.ensures.small
