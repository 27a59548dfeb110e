use Rattle.std.proofs.Common.{sym, subst}
use Rattle.std.proofs.lemmas.List.Elements.{All-push}
use Rattle.substitution.specs.Meaning.{IsArg}
use Rattle.substitution.specs.Calls.{AreArgs}
use Rattle.substitution.proofs.tests.add_arg.Goals as goal

pub returns : goal.returns
returns c = λ sets known one. subst (AreArgs sets) (sym c.in_ok-push.ensures.items) (All-push (IsArg sets) c.args.args.now.items c.args.arg known one)
