use Rattle.std.proofs.Common.{◌≡◌, drop, slice_get}
use Rattle.path_search.specs.Lists.{chained}
use Rattle.path_search.proofs.candidates.nth_of.Given as goal

abbrev pub invariant-lists : goal.invariant-lists
invariant-lists l = slice_get (chained l.lists) l.k ≡ slice_get (chained (drop l.list-index l.lists)) l.left
