use Rattle.std.proofs.Common.{◌≡◌, sym, false, ◌≤◌, length, arith}
use Rattle.std.specs.List.{list_any}
use Rattle.std.proofs.lemmas.List.{take_all}
use Rattle.module_lines.proofs.Statements.{ends, statement-found, statement-none}
use Rattle.module_lines.proofs.subject.statement.Goals as goal

pub returns-then-is_semicolon-clause-value : goal.returns-then-is_semicolon-clause-value
returns-then-is_semicolon-clause-value c =
    statement-found c.args.toks.now c.loop-i.i c.index-toks-i.result (omega arith) c.loop-i.invariant c.index-toks-i.is (sym c.if-is_semicolon.ensures)

pub returns-clause-value : goal.returns-clause-value
returns-clause-value c =
    let whole : length c.args.toks.now ≤ c.loop-i.i = omega arith in
    let none : list_any ends c.args.toks.now ≡ false = rw take_all at c.loop-i.invariant in
    statement-none c.args.toks.now none
