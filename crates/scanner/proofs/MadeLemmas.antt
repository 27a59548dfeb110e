-- The number of ends of a made tree.
use Rattle.std.proofs.Common.{◌≡◌, ◌≤◌, ℕ, List, length, sym, ◌∙◌, subst}
use Rattle.std.proofs.lemmas.List.FromFn.{length-map-range_with_len}
use Rattle.std.proofs.lemmas.Slice.Zip.{AllZip-long}
use Rattle.scan_model.specs.declared.command.Settings.{Settings}
use Rattle.scan_model.specs.declared.unit_end.UnitEnd.{UnitEnd}
use Rattle.shard_cache.specs.Ends.{IsEnd}
use Rattle.made_scan.specs.MadeJobs.{made_job, made_jobs}
use Rattle.made_scan.specs.MadeScans.{AreMadeEnds, made_map}

-- there are as many as units
pub few_made_ends : (units : ℕ) (settings : Settings) (ends : List UnitEnd) → AreMadeEnds units settings ends → units ≤ 4096 → length ends ≤ 4096
few_made_ends units settings ends are few =
    let as_many = AllZip-long (IsEnd (made_map units) settings) (made_jobs units) ends are in
    subst (λ n. n ≤ 4096) (sym (length-map-range_with_len made_job 1 units) ∙ sym as_many) few
