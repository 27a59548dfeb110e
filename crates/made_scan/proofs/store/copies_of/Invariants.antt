use Rattle.std.proofs.Common.{◌≡◌, take}
use Rattle.made_scan.proofs.store.copies_of.Given as goal

abbrev pub invariant-copying : goal.invariant-copying
invariant-copying l = l.copies.items ≡ take l.file-index l.files
