use Rattle.std.proofs.lemmas.Bool.{false≢true}
use Rattle.expansion.proofs.ArgLemmas.{nothing-misfit}
use Rattle.expansion.proofs.args.cut_nothing.Goals as goal

pub returns-then-not-is_empty_list : goal.returns-then-not-is_empty_list
returns-then-not-is_empty_list c = nothing-misfit c.args.todo.now.first (λ nil. false≢true (c.if-not-is_empty_list.ensures.1 nil))
