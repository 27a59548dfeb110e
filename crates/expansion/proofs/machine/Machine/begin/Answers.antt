use Rattle.std.proofs.Common.{sym, ◌∙◌, ap, ℕ, List}
use Rattle.scan_model.specs.Substitution.{is_replaced}
use Rattle.expansion.specs.Meaning.{kept_written}
use Rattle.expansion.proofs.CallLemmas.{begin-goes}
use Rattle.expansion.proofs.machine.Machine.begin.Goals as goal

pub returns : goal.returns
returns c =
    let call = c.args.call in
    let f = call.definition in
    let m = c.args.self.now in
    λ e. begin-goes e m call c.in_ok-written.written c.push.new.self c.new.result c.requires.valid c.requires.call c.requires.another
    (ap (is_replaced f) (sym c.requires.name) ∙ c.requires.replaced)
    (c.in_ok-written.ensures ∙ ap (λ (name : List ℕ). kept_written f name m.todo.first) c.requires.name)
    c.in_ok-push.ensures.items c.new.ensures.items
