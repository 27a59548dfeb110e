use Rattle.std.proofs.Common.{◌∙◌, ap, ℕ, List, arith}
use Rattle.hide_sets.specs.Sets.{hides_of}
use Rattle.hide_sets.proofs.Growing.{Extends-on, hides_of-Extends}
use Rattle.scan_model.specs.Expansion.{also}
use Rattle.expansion.proofs.StateLemmas.{IsMachine-grown, GivesList-grown, rescanned-grown, turns-along}
use Rattle.expansion.proofs.machine.Machine.object.Goals as goal

pub rescan-requires-clause-valid : goal.rescan-requires-clause-valid
rescan-requires-clause-valid c =
    IsMachine-grown c.args.self.now c.also.new.self (Extends-on _ _ _ c.substitute_object.ensures.extended c.in_ok-added.ensures.ok.extended) c.requires.valid

pub returns : goal.returns
returns c =
    let first = c.substitute_object.ensures.extended in
    let made = c.in_ok-added.ensures.ok in
    let given = GivesList-grown _ _ _ _ made.extended c.in_ok-list.ensures.value in
    turns-along c.rescan.result _ _ _ _ _
    (λ e. rescanned-grown e c.args.self.now c.also.new.self _ _ _ _ (Extends-on _ _ _ first made.extended) c.requires.valid
    (made.meant ∙ ap (λ (t : List ℕ). also t (hides_of c.substitute_object.new.sets c.args.name.hides)) c.as_slice.ensures ∙ ap (also c.args.name.tok.text) (hides_of-Extends _ _ c.args.name.hides first c.requires.name)) given.meant)
    (omega arith) c.rescan.ensures
