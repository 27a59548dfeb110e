use Rattle.std.proofs.Common.{◌≡◌, map, take}
use Rattle.serde_json.specs.View.{view}
use Rattle.p1689_writer.specs.Document.{required_entry}
use Rattle.p1689_writer.proofs.rule.required_entries.Given as goal

-- the entries so far
abbrev pub invariant-loop-name : goal.invariant-loop-name
invariant-loop-name l = map view l.entries.items ≡ map required_entry (take l.name-index l.names)
