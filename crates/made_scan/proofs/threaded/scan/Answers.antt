use Rattle.made_scan.proofs.StoreEnds.{made_ends, made_paths}
use Rattle.made_scan.proofs.threaded.scan.Goals as goal

pub returns-clause-ends : goal.returns-clause-ends
returns-clause-ends g c = let ended = rw c.in_ok-ends.was at c.scan_all-ends.ensures.ends in
    made_ends (λ given. given.path) (λ given. 0) g.J.Listed.files c.args.units c.requires.files c.requires.few_units c.args.settings.now c.in_ok-jobs.jobs c.in_ok-jobs.ensures.jobs
    c.in_ok-ends.field-0 c.scan_all-ends.result.store c.paths.ensures.valid ended

pub returns-clause-paths : goal.returns-clause-paths
returns-clause-paths g c memory =
    let count = c.paths.ensures.rows in
    let ended = rw c.in_ok-ends.was at c.scan_all-ends.ensures.ends in
    rw count (made_paths (λ given. given.path) (λ given. 0) g.J.Listed.files c.args.units c.requires.files c.requires.few_units c.args.settings.now c.in_ok-jobs.jobs c.in_ok-jobs.ensures.jobs
    c.in_ok-ends.field-0 c.scan_all-ends.result.store c.paths.ensures.valid ended c.scan_all-ends.ensures.one_map c.scan_all-ends.ensures.looked memory)
