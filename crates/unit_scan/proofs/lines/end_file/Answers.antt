use Rattle.std.proofs.Common.{◌≡◌, length, sym, ◌∙◌, ap}
use Rattle.plain_lines.specs.States.{groups_of}
use Rattle.unit_scan.specs.declared.parts.OpenFile.{OpenFile}
use Rattle.unit_scan.specs.Parts.{setup_of}
use Rattle.unit_scan.proofs.Tops.{top_reversed}
use Rattle.unit_scan.proofs.Ending.{top_same, open_over, end_follows, popped_below}
use Rattle.unit_scan.proofs.lines.end_file.Goals.{After-top}
use Rattle.unit_scan.proofs.lines.end_file.Goals as goal

same : (c : After-top) → c.top.result.now ≡ c.requires.over.file
same c =
    top_same c.args.run.now.stack.items c.requires.over.below c.requires.over.file c.requires.over.stack c.top.result.now _
    (top_reversed c.args.run.now c.deref.result.now c.top.result.now c.deref.ensures.value c.top.ensures)

pub returns-in-Some-clause-next : goal.returns-in-Some-clause-next
returns-in-Some-clause-next c =
    let is = same (goal.at.returns-in-Some-clause-next c).After-top in
    open_over (setup_of c.args.scan.now) c.args.run.now c.requires.running c.requires.over.below c.requires.over.file c.requires.over.stack c.requires.over.over
    c.top.result.now is c.deref-2.result.now c.deref-2.ensures.value c.in-Some.group c.in-Some.ensures c.in_ok-end.end c.in_ok-end.ensures

pub returns-clause-next : goal.returns-clause-next
returns-clause-next c =
    let is = same (goal.at.returns-clause-next c).After-top in
    let file = c.requires.over.file in
    let groups : c.deref-2.result.now ≡ file.state.groups.items = c.deref-2.ensures.value ∙ ap (λ (f : OpenFile). f.state.groups.items) is in
    end_follows (setup_of c.args.scan.now) c.args.run.now c.requires.running c.requires.over.below file c.requires.over.stack c.requires.over.over
    (ap groups_of (sym groups) ∙ c.in_default.ensures) c.pop.new.self
    (popped_below c.args.run.now.stack.items c.requires.over.below c.pop.new.self.items file _ c.requires.over.stack (ap length (sym c.deref.ensures.value) ∙ c.deref.ensures.len) c.pop.ensures.rest)
