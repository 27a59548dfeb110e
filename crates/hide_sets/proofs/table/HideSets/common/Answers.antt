use Rattle.std.proofs.Common.{arith}
use Rattle.scan_model.specs.Expansion.{also}
use Rattle.hide_sets.specs.Sets.{hides_of, latest_of, Makes}
use Rattle.hide_sets.proofs.Growing.{Extends-on}
use Rattle.hide_sets.proofs.Steps.{meeting-with, meeting-without}
use Rattle.hide_sets.proofs.table.HideSets.common.Goals as goal
use Rattle.hide_sets.proofs.table.HideSets.common.Goals.{then-has_latest_of+in_ok-made, else-has_latest_of}

pub names-preserved : goal.names-preserved
names-preserved c =
    let i = c.names.invariant in
    elim c.if-has_latest_of.branch [
      | then-has_latest_of+in_ok-made w ↦
          let made : Makes c.names.self c.if-has_latest_of.self (also (latest_of c.names.self c.names.at) (hides_of c.names.self c.names.made)) c.if-has_latest_of.made = rw (w.self-is, w.made-is) w.in_ok-made.ensures.ok in
          record {
            extended = Extends-on _ _ _ i.extended made.extended;
            at_is_set = omega (arith, i.at_is_set);
            made_is_set = made.is_set;
            meeting = meeting-with _ _ _ _ _ _ _ _ _ _ i.extended i.at_is_set c.requires.second made w.if-has_latest_of.ensures c.without_latest-at.ensures.earlier c.without_latest-at.ensures.names i.meeting;
          }
      | else-has_latest_of w ↦
          record {
            extended = rw w.self-is i.extended;
            at_is_set = omega (arith, i.at_is_set);
            made_is_set = rw (w.self-is, w.made-is) i.made_is_set;
            meeting = rw (w.self-is, w.made-is) (meeting-without _ _ _ _ _ _ _ _ i.extended i.at_is_set c.requires.second w.if-has_latest_of.ensures c.without_latest-at.ensures.earlier (rw w.self-is at c.without_latest-at.ensures.names) i.meeting);
          }
    ]
