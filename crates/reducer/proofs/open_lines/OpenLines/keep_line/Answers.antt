use Rattle.std.proofs.Common.{refl, ◌+◌, arith}
use Rattle.reducer.proofs.OpenLemmas.{has_lines}
use Rattle.reducer.proofs.open_lines.OpenLines.keep_line.Goals as goal

pub returns : goal.returns
returns c =
    let b = c.args.self.now in
    has_lines b _ (record { line = b.line; next = c.args.last + 1; start = c.as_u32-start.result; count = c.as_u32-count.result; directive = c.line_directive-directive.result }) c.args.last c.requires.sound c.requires.some
    (record {
      spelled_is = refl;
      toks_is = refl;
      lines_is = c.in_ok-push_line.ensures;
      bytes_is = omega (arith, c.len-self.ensures, b.spelled.ok.0);
      count_is = omega (arith, c.len-self-2.ensures, b.toks.ok.0);
      line_is = refl;
      start_is = c.as_u32-start.ensures;
      len_is = omega (arith, c.as_u32-count.ensures, c.len.ensures, b.toks.ok.0);
      directive_is = c.line_directive-directive.ensures;
    }) refl
