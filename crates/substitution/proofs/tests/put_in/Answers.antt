use Rattle.std.proofs.Common.{sym, subst}
use Rattle.substitution.specs.Calls.{AreArgs}
use Rattle.substitution.proofs.tests.put_in.Goals as goal

pub substitute_function-requires : goal.substitute_function-requires
substitute_function-requires c = subst (AreArgs c.new-sets.result) (sym c.as_slice.ensures.value) (c.in_ok-args.ensures c.new-sets.result)
