use Rattle.std.proofs.Common.{ap, sym, ◌∙◌}
use Rattle.pp_lexer.proofs.RowLemmas.{len_of}
use Rattle.pp_lexer.proofs.MarkLemmas.{mark_lone, mark_row}
use Rattle.pp_lexer.proofs.marks.mark_of.Goals as goal

pub returns-then-is_lone_less : goal.returns-then-is_lone_less
returns-then-is_lone_less c s e = mark_lone s _ e (sym c.is_lone_less.ensures ∙ c.if-is_lone_less.true)

pub returns-in-Some : goal.returns-in-Some
returns-in-Some c s e = mark_row s _ c.in-Some.len e (sym c.is_lone_less.ensures ∙ c.if-is_lone_less.false) (ap len_of (sym c.in-Some.is ∙ c.punctuator.ensures))

pub returns-in-None : goal.returns-in-None
returns-in-None c s e = mark_row s _ 0 e (sym c.is_lone_less.ensures ∙ c.if-is_lone_less.false) (ap len_of (sym c.in-None.is ∙ c.punctuator.ensures))
