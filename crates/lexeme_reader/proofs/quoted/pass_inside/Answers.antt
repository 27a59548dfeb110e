use Rattle.std.proofs.Common.{◌∙◌, ap, sym}
use Rattle.line_splice.specs.Cursor.{rest}
use Rattle.scan_model.specs.Spelling.{after_items}
use Rattle.lexeme_reader.specs.Fronts.{line}
use Rattle.lexeme_reader.proofs.RunLemmas.{run_along, run_items}
use Rattle.lexeme_reader.proofs.quoted.pass_inside.Goals as goal

pub returns-then-not-escaped-clause-along : goal.returns-then-not-escaped-clause-along
returns-then-not-escaped-clause-along c = run_along c.args.quote (rest c.args.at.now) (rest c.pass_until.new.at) c.pass_until.ensures.run

pub returns-then-not-escaped-clause-items : goal.returns-then-not-escaped-clause-items
returns-then-not-escaped-clause-items c = let a = rest c.args.at.now in let b = rest c.pass_until.new.at in let q = c.args.quote in
    ap (λ e. after_items q e (line a)) c.if-not-escaped.true ∙ run_items q a b c.pass_until.ensures.run ∙ ap (λ e. after_items q e (line b)) (sym c.if-not-escaped.true)
