use Rattle.std.proofs.Common.{arith}
use Rattle.scan_model.specs.Expansion.{also}
use Rattle.hide_sets.specs.Sets.{hides_of, latest_of, Makes}
use Rattle.hide_sets.proofs.Growing.{Extends-on}
use Rattle.hide_sets.proofs.Steps.{uniting-with, uniting-without}
use Rattle.hide_sets.proofs.table.HideSets.either.Goals as goal
use Rattle.hide_sets.proofs.table.HideSets.either.Goals.{then-not-has_latest_of+in_ok-made, else-not-has_latest_of}

pub names-preserved : goal.names-preserved
names-preserved c =
    let i = c.names.invariant in
    elim c.if-not-has_latest_of.branch [
      | then-not-has_latest_of+in_ok-made w ↦
          let made : Makes c.names.self c.if-not-has_latest_of.self (also (latest_of c.names.self c.names.right) (hides_of c.names.self c.names.made)) c.if-not-has_latest_of.made = rw (w.self-is, w.made-is) w.in_ok-made.ensures.ok in
          record {
            extended = Extends-on _ _ _ i.extended made.extended;
            left_is_set = i.left_is_set;
            right_is_set = omega (arith, i.right_is_set);
            made_is_set = made.is_set;
            uniting = uniting-with _ _ _ _ _ _ _ _ _ _ i.extended i.right_is_set made c.without_latest-right.ensures.earlier c.without_latest-right.ensures.names i.uniting;
          }
      | else-not-has_latest_of w ↦
          record {
            extended = rw w.self-is i.extended;
            left_is_set = i.left_is_set;
            right_is_set = omega (arith, i.right_is_set);
            made_is_set = rw (w.self-is, w.made-is) i.made_is_set;
            uniting = rw (w.self-is, w.made-is) (uniting-without _ _ _ _ _ _ _ _ i.extended i.right_is_set c.requires.first w.if-not-has_latest_of.ensures c.without_latest-right.ensures.earlier (rw w.self-is at c.without_latest-right.ensures.names) i.uniting);
          }
    ]
