use Rattle.std.specs.Prelude.{None}
use Rattle.expansion.specs.States.{AddsArg, TakesArg}
use Rattle.expansion.proofs.ArgLemmas.{on-ok}
use Rattle.expansion.proofs.CallLemmas.{one_less, takes-arg}
use Rattle.expansion.proofs.machine.Machine.take_arg.Goals as goal

pub returns : goal.returns
returns c =
    let m = c.args.self.now in
    on-ok (AddsArg (one_less c.args.call) c.in_ok-list.list None) (TakesArg m c.args.call (record m { todo = c.take_list.new.self })) c.with_arg.result
    (λ call added. takes-arg m c.args.call call c.in_ok-list.list c.take_list.new.self c.requires.valid c.requires.call c.requires.another c.requires.kept
    c.in_ok-list.ensures.list c.in_ok-list.ensures.rest added) c.with_arg.ensures
