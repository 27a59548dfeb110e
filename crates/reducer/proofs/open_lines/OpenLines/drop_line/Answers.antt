use Rattle.std.proofs.Common.{refl}
use Rattle.reducer.proofs.OpenLemmas.{kept_dropped, toks_dropped}
use Rattle.reducer.proofs.open_lines.OpenLines.drop_line.Goals as goal

pub returns-clause-kept : goal.returns-clause-kept
returns-clause-kept c = kept_dropped _ _ (record { spelled_is = c.truncate.ensures.items; toks_is = c.truncate-2.ensures.items; lines_is = refl; bytes_is = refl; count_is = refl })

pub returns-clause-toks : goal.returns-clause-toks
returns-clause-toks c = toks_dropped c.args.self.now _ (record { spelled_is = c.truncate.ensures.items; toks_is = c.truncate-2.ensures.items; lines_is = refl; bytes_is = refl; count_is = refl })
