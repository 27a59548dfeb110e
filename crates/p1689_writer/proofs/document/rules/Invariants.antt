use Rattle.std.proofs.Common.{◌≡◌, map, take}
use Rattle.serde_json.specs.View.{view}
use Rattle.p1689_writer.specs.Document.{rules}
use Rattle.p1689_writer.proofs.document.rules.Given as goal

-- the rules so far
abbrev pub invariant-loop-end : goal.invariant-loop-end
invariant-loop-end l = map view l.rules.items ≡ rules (take l.end-index l.ends)
