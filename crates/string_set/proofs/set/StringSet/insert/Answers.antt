use Rattle.string_set.proofs.StringLemmas.{key_put}
use Rattle.string_set.proofs.set.StringSet.insert.Goals as goal

pub returns-clause-ok : goal.returns-clause-ok
returns-clause-ok c = rw (← c.self.view_is) (λ i q. key_put c.args.string.now c.in_ok-key.key c.self.inside.strings.keys c.insert.new.self.keys c.in_ok-key.ensures.items
    c.in_ok-insert.field-0 c.in_ok-insert.ensures.keys c.in_ok-insert.ensures.added q i)
