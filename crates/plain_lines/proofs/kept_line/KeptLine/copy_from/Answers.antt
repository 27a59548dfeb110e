use Rattle.std.proofs.Common.{◌≡◌, ◌++◌, [], ◌∙◌, length, drop, sym, ap, subst, arith, append-nil}
use Rattle.std.proofs.lemmas.List.Elements.{All-drop}
use Rattle.reducer.specs.Views.{view}
use Rattle.scan_model.specs.Utf8Names.{HasUtf8Name, HaveUtf8Names}
use Rattle.plain_lines.specs.Lines.{toks_at}
use Rattle.plain_lines.proofs.Places.{copied-one, drop-past, readable_toks}
use Rattle.plain_lines.proofs.kept_line.KeptLine.copy_from.Goals as goal

pub toks-preserved : goal.toks-preserved
toks-preserved c = copied-one c.toks.toks.items c.push.new.self.items (toks_at c.args.self.now) (drop c.args.from (toks_at c.args.self.now)) c.toks.i (view c.tok.result) c.in_ok-copy_tok.field-0
    c.tok.ensures.tok c.in_ok-copy_tok.ensures c.in_ok-push.ensures.items c.toks.invariant

pub returns-clause-utf8 : goal.returns-clause-utf8
returns-clause-utf8 c =
    let is : c.toks.toks.items ≡ drop c.args.from (toks_at c.args.self.now) =
    sym (append-nil c.toks.toks.items) ∙ ap (λ rest. c.toks.toks.items ++ rest) (sym (drop-past (toks_at c.args.self.now) c.toks.i (omega (arith, c.tok_count-i-end.ensures.toks)))) ∙ c.toks.invariant in
    subst HaveUtf8Names (sym is) (All-drop HasUtf8Name c.args.from (toks_at c.args.self.now) (readable_toks c.args.self.now.lines.now c.args.self.now.place c.tok_count-i-end.ensures.valid))
