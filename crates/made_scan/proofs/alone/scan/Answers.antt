use Rattle.scheduler.proofs.StartLemmas.{untouched_one_map, untouched_looked}
use Rattle.made_scan.proofs.StoreEnds.{made_ends, made_paths}
use Rattle.made_scan.proofs.alone.scan.Goals as goal

pub returns-clause-ends : goal.returns-clause-ends
returns-clause-ends g c =
    made_ends (λ given. given.path) (λ given. 0) g.J.Listed.files c.args.units c.requires.files c.requires.few_units c.args.settings.now c.in_ok-jobs.jobs c.in_ok-jobs.ensures.jobs
    c.in_ok-ends.ends c.run_schedule.new.store c.paths.ensures.valid c.in_ok-ends.ensures.ends

pub returns-clause-paths : goal.returns-clause-paths
returns-clause-paths g c memory =
    let count = c.paths.ensures.rows in
    let old = c.in_ok-store.store in
    let new = c.run_schedule.new.store in
    rw count (made_paths (λ given. given.path) (λ given. 0) g.J.Listed.files c.args.units c.requires.files c.requires.few_units c.args.settings.now c.in_ok-jobs.jobs c.in_ok-jobs.ensures.jobs
    c.in_ok-ends.ends new c.paths.ensures.valid c.in_ok-ends.ensures.ends (untouched_one_map old new c.in_ok-store.ensures (λ given. given.path) (λ given. 0) c.in_ok-ends.ensures.one_map)
    (untouched_looked old new c.in_ok-store.ensures (λ given. given.path) (λ given. 0) _ c.in_ok-jobs.jobs c.args.settings.now c.in_ok-ends.ensures.looked) memory)
