use Rattle.std.proofs.Common.{ℕ, sym, subst}
use Rattle.hide_sets.specs.Sets.{Sets}
use Rattle.substitution.specs.Meaning.{AreMarked}
use Rattle.list_stack.specs.Stacks.{Stack, Opens, OpensAt}
use Rattle.list_stack.proofs.PartLemmas.{in_parens-known}
use Rattle.list_stack.proofs.tests.with_list.Goals as goal

known : (sets : Sets) (old new : Stack) (close : ℕ) → OpensAt old new close → AreMarked sets old.first → AreMarked sets new.first
known sets old new close o k = subst (λ (s : Stack). AreMarked sets s.first) (sym o.stack) (in_parens-known sets old.first o.found o.parens k).inside

pub put_before-requires-clause-rest : goal.put_before-requires-clause-rest
put_before-requires-clause-rest c =
    known c.also.new.self c.in_ok-stack.stack c.open.new.self c.in-Some.field-0 (subst (Opens c.in_ok-stack.stack c.open.new.self) c.in-Some.is c.in_ok-open.ensures) (c.in_ok-stack.ensures c.also.new.self)
