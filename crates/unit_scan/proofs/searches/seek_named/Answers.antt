use Rattle.std.proofs.Common.{sym, ap, ◌∙◌, slice_get}
use Rattle.scan_model.specs.Candidates.{candidates}
use Rattle.unit_scan.specs.declared.stage.Lookup.TheVariants.{Named}
use Rattle.unit_scan.specs.Parts.{setup_of}
use Rattle.unit_scan.proofs.Seeking.{name_some, name_asks, asked_follows}
use Rattle.unit_scan.proofs.searches.seek_named.Goals as goal

pub ask-requires : goal.ask-requires
ask-requires c =
    let setup = setup_of c.args.scan.now in
    let n = c.args.name in
    let text = ap (λ z. slice_get (candidates setup.command.search setup.settings.program n.form n.from z) n.next) (sym c.as_slice-text.ensures) in
    name_some setup c.args.run.now n c.args.purpose c.requires c.in-Some.path (text ∙ sym c.in_ok-found.ensures ∙ c.in-Some.is)

pub none_left-requires-clause-none : goal.none_left-requires-clause-none
none_left-requires-clause-none c =
    let setup = setup_of c.args.scan.now in
    let n = c.args.name in
    let text = ap (λ z. slice_get (candidates setup.command.search setup.settings.program n.form n.from z) n.next) (sym c.as_slice-text.ensures) in
    text ∙ sym c.in_ok-found.ensures ∙ c.in-None.is

pub returns-in-Some-clause-next : goal.returns-in-Some-clause-next
returns-in-Some-clause-next c =
    let setup = setup_of c.args.scan.now in
    let run = c.args.run.now in
    let n = c.args.name in
    let text = ap (λ z. slice_get (candidates setup.command.search setup.settings.program n.form n.from z) n.next) (sym c.as_slice-text.ensures) in
    asked_follows setup run c.ask.new.run (Named n c.args.purpose) c.in-Some.path c.ask.ensures.same
    (name_asks setup run n c.args.purpose c.requires c.in-Some.path (text ∙ sym c.in_ok-found.ensures ∙ c.in-Some.is)) c.ask.result c.ask.ensures.asks c.ask.ensures.after c.ask.ensures.room
