use Rattle.std.proofs.Common.{◌-◌, arith, rules, sym}
use Rattle.path_search.proofs.FolderLemmas.{take_before_last, has_no_slash}
use Rattle.path_search.proofs.folders.before_last_slash.Goals as goal

pub returns-then-text-i-eq47-clause-front : goal.returns-then-text-i-eq47-clause-front
returns-then-text-i-eq47-clause-front c = take_before_last c.args.text.now (c.bytes.i - 1) (omega arith) (search rules) (λ k le lt. c.bytes.invariant k (omega arith) lt)

pub returns-clause-found : goal.returns-clause-found
returns-clause-found c = sym (has_no_slash c.args.text.now (λ k le lt. c.bytes.invariant k (omega arith) lt))
