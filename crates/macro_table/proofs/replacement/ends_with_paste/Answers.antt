use Rattle.std.proofs.Common.{◌∙◌}
use Rattle.scan_model.specs.TokenTests.{is_paste}
use Rattle.macro_table.proofs.Ends.{ends_with-last}
use Rattle.macro_table.proofs.replacement.ends_with_paste.Goals as goal

pub returns-then-not-is_empty : goal.returns-then-not-is_empty
returns-then-not-is_empty c = c.is_paste.ensures ∙ ends_with-last is_paste c.args.toks.now c.index-toks-toks.result c.if-not-is_empty.ensures c.index-toks-toks.is
