use Rattle.std.proofs.Common.{◌≡◌, ◌++◌, ◌∷◌, drop}
use Rattle.scan_model.specs.Site.{escaped}
use Rattle.line_actions.proofs.sites.file_spelling.Given as goal

-- what is written, and what is left, are the quote and the whole path
abbrev pub invariant-bytes : goal.invariant-bytes
invariant-bytes l = l.text.items ++ escaped (drop l.byte-index l.path) ≡ 34 ∷ escaped l.path
