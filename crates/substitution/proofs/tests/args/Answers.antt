use Rattle.substitution.proofs.tests.args.Goals as goal

pub rows-preserved : goal.rows-preserved
rows-preserved c = λ sets. c.in_ok-add_arg.ensures sets (c.rows.invariant sets) (c.in_ok-arg.ensures sets)
