use Rattle.std.proofs.Common.{refl}
use Rattle.unit_scan.proofs.searches.with_answer.Goals as goal

pub returns : goal.returns
returns c = (
  record { is_elif = c.args.testing.is_elif; toks = c.args.testing.toks; next = c.args.testing.next; so_far = c.push.new.self },
  (refl, record { is_elif = refl; toks = refl; next = refl; so_far = c.in_ok-push.ensures.items }),
)
