use Rattle.expansion.proofs.ArgLemmas.{plain-cut, plain-misfit}
use Rattle.expansion.proofs.args.cut_plain.Goals as goal

pub returns-then-found-count : goal.returns-then-found-count
returns-then-found-count c = plain-cut c.args.count c.args.todo.now c.cut.new.self c.in_ok-found.found c.in_ok-found.ensures c.requires c.if-found-count.true

pub returns : goal.returns
returns c = plain-misfit c.args.count c.args.todo.now c.cut.new.self c.in_ok-found.found c.in_ok-found.ensures c.requires c.if-found-count.false
