use Rattle.reducer.specs.Views.{view}
use Rattle.plain_lines.specs.Lines.{toks_at}
use Rattle.plain_lines.proofs.Places.{drop-slice_get}
use Rattle.plain_lines.proofs.kept_line.KeptLine.tok.Goals as goal

pub returns-then-i-tok_count : goal.returns-then-i-tok_count
returns-then-i-tok_count c = drop-slice_get (toks_at c.args.self.now) c.args.i (view c.tok.result) c.tok.ensures.tok
