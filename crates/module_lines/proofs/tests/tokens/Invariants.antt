use Rattle.scan_model.specs.Utf8Names.{HaveUtf8Names}
use Rattle.module_lines.proofs.tests.tokens.Given as goal

abbrev pub invariant-words : goal.invariant-words
invariant-words l = HaveUtf8Names l.toks.items
