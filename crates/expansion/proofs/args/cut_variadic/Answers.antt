use Rattle.expansion.proofs.ArgLemmas.{variadic-cut, variadic-misfit}
use Rattle.expansion.proofs.args.cut_variadic.Goals as goal

pub returns-then-found-count : goal.returns-then-found-count
returns-then-found-count c = variadic-misfit c.args.count c.args.todo.now c.cut.new.self c.in_ok-found.found c.in_ok-found.ensures c.if-found-count.true

pub returns : goal.returns
returns c = variadic-cut c.args.count c.args.todo.now c.cut.new.self c.in_ok-found.found c.in_ok-found.ensures c.if-found-count.false
