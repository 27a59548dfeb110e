-- A core that begins.
use Rattle.std.proofs.Common.{◌≡◌, ◌≤◌, ℕ, List, [], map, length, ap, sym, ◌∙◌, subst, None, arith}
use Rattle.std.specs.Prelude.{replicate}
use Rattle.std.specs.List.{All}
use Rattle.scan_model.specs.declared.command.Settings.{Settings}
use Rattle.scan_model.specs.declared.command.Job.{Job}
use Rattle.scan_model.specs.Files.{Content}
use Rattle.scan_model.specs.Fits.{JobFits, SettingsFit}
use Rattle.cache_machine.specs.Machine as machine
use Rattle.cache_machine.specs.Machine.{Machine}
use Rattle.cache_machine.specs.Runs.{start, IsReached}
use Rattle.scan_core.specs.declared.seat.Seat.{Seat}
use Rattle.scan_core.specs.declared.seat.Seat.TheVariants as SeatIs
use Rattle.scan_core.specs.Seats.{worker_of, SeatFits}
use Rattle.scan_core.specs.Inside.{State, machine_of, HoldsAt}
use Rattle.scan_core.proofs.ListLemmas.{length_map, map_replicate, length_replicate, replicate_for, each_replicate}

module _ {R : Type 0} (content : R → Content (List ℕ)) (jobs : List Job) (settings : Settings) (workers : ℕ) where
  abbrev pub begun : State R
  begun = record { jobs = jobs; settings = settings; entries = []; next = 0; seats = replicate workers SeatIs.Idle; ends = replicate (length jobs) None }

  pub machine_begun : machine_of content begun ≡ start jobs workers
  machine_begun =
      ap (λ z. record { rows = []; next = 0; workers = z; ends = replicate (length jobs) None }) (map_replicate (worker_of content) workers SeatIs.Idle)
      ∙ ap (λ z. record { rows = []; next = 0; workers = replicate workers machine.Idle; ends = z }) (replicate_for jobs None)

  reached_begun : IsReached jobs settings (length (map (worker_of content) (replicate workers SeatIs.Idle))) (machine_of content begun)
  reached_begun =
      let count : length (map (worker_of content) (replicate workers SeatIs.Idle)) ≡ workers = length_map (worker_of content) (replicate workers SeatIs.Idle) ∙ length_replicate workers SeatIs.Idle in
      subst (λ k. IsReached jobs settings k (machine_of content begun)) (sym count) ([], sym machine_begun)

  pub holds_begun : workers ≤ 64 → length jobs ≤ 131072 → All (λ job. JobFits job) jobs → SettingsFit settings → HoldsAt content begun
  holds_begun few few_jobs jobs_fit settings_fit = record {
    reached = reached_begun;
    seats = each_replicate (λ v x. SeatFits jobs settings [] v x) workers SeatIs.Idle (λ v. tt);
    jobs_fit = jobs_fit;
    settings_fit = settings_fit;
    few_jobs = few_jobs;
    few_seats = let idle : Seat R = SeatIs.Idle in let k = length_replicate workers idle in omega arith;
  }
