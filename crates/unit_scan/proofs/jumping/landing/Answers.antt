use Rattle.std.proofs.Common.{sym, subst, length}
use Rattle.unit_steps.specs.Jumps.{IsBehind}
use Rattle.unit_steps.proofs.SkipRanges.{skip_behind}
use Rattle.unit_scan.proofs.jumping.landing.Goals as goal

pub number_at-requires : goal.number_at-requires
number_at-requires c =
    let ls = c.args.lines.now in
    (subst (λ z. IsBehind c.args.k (length ls) z) (sym c.in-Broken.ensures.skip) (skip_behind ls c.args.k c.args.dialect c.requires)).1

pub left_open-requires : goal.left_open-requires
left_open-requires c =
    let ls = c.args.lines.now in
    (subst (λ z. IsBehind c.args.k (length ls) z) (sym c.in-Open.ensures.skip) (skip_behind ls c.args.k c.args.dialect c.requires)).1
