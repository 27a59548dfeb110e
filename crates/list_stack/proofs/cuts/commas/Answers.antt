use Rattle.std.proofs.Common.{length, arith}
use Rattle.list_stack.proofs.EntryLemmas.{lowest-le}
use Rattle.list_stack.proofs.PlaceLemmas.{cutting-next, cutting-full}
use Rattle.list_stack.proofs.cuts.commas.Goals as goal

pub next_comma-requires-clause-within : goal.next_comma-requires-clause-within
next_comma-requires-clause-within c = omega (arith, c.places.invariant.at_is, lowest-le (length c.args.entries.now) c.places.places.items c.places.invariant.fall)

pub places-preserved : goal.places-preserved
places-preserved c =
    cutting-next c.args.most c.args.floor c.args.entries.now c.places.places.items c.push.new.self.items c.places.at c.in-Some.comma c.in_ok-push.ensures.items (omega (arith, c.places-test.true, c.len.ensures, c.places.places.ok.0)) c.in-Some.ensures c.places.invariant

pub returns : goal.returns
returns c = cutting-full c.args.most c.args.floor c.args.entries.now c.places.places.items c.places.at (omega (arith, c.places-test.false, c.len.ensures, c.places.places.ok.0)) c.places.invariant
