use Rattle.std.proofs.Common.{◌-◌, ◌∙◌, sym, arith}
use Rattle.calm_runs.proofs.ByteLemmas.{run_to}
use Rattle.calm_runs.proofs.run.run_len.Goals as goal

pub returns-then-ends_token-clause-run : goal.returns-then-ends_token-clause-run
returns-then-ends_token-clause-run c = run_to (c.bytes.i - 1) c.args.calm.now (omega arith) c.requires (sym c.ends_token.ensures ∙ c.if-ends_token.true)
