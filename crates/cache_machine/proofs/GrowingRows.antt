-- Each step keeps the rows' paths and what is done, and so does every run.
use Rattle.std.proofs.Common.{ℕ, ◌+◌, Bool, true, false, nat_lt, if◌then◌else◌, List, [], ◌∷◌, length, Option, Some, None}
use Rattle.std.specs.Prelude.{slice_set}
use Rattle.scan_model.specs.declared.command.Settings.{Settings}
use Rattle.scan_model.specs.declared.command.Job.{Job}
use Rattle.scan_model.specs.Files.{Content}
use Rattle.cache_machine.specs.Rows.{Held, Claimed, Done, held_at}
use Rattle.cache_machine.specs.Machine.{Machine, Worker, Idle, At, Claiming, Holding, Spent, worker_at}
use Rattle.cache_machine.specs.JobLooks.{path_at}
use Rattle.cache_machine.specs.Steps.{Draw, Look, Read, Publish, End, draw, look_held, look_path, look, read, publish, end_path, end}
use Rattle.cache_machine.specs.Spending.{draw_spent, look_spent, publish_spent}
use Rattle.cache_machine.specs.Runs.{Move, Goes, Fails, moved, run}
use Rattle.cache_machine.specs.RowGrowth.{RowsGrow}
use Rattle.cache_machine.proofs.RowLemmas.{grows_refl, grows_trans, grows_append, grows_published}

module _ (jobs : List Job) (settings : Settings) where
  held_grows : (m : Machine) (w n k : ℕ) (path : List ℕ) (held : Option Held) → RowsGrow m.rows (look_held m w n k path held).rows
  held_grows m w n k path None = grows_append m.rows (record { path = path; held = Claimed w } ∷ [])
  held_grows m w n k path (Some (Done content)) = grows_refl m.rows
  held_grows m w n k path (Some (Claimed v)) = grows_refl m.rows

  look_path_grows : (m : Machine) (w n k : ℕ) (path : Option (List ℕ)) → RowsGrow m.rows (look_path m w n k path).rows
  look_path_grows m w n k None = grows_refl m.rows
  look_path_grows m w n k (Some path) = held_grows m w n k path (held_at m.rows path)

  end_path_grows : (m : Machine) (w n : ℕ) (path : Option (List ℕ)) → RowsGrow m.rows (end_path jobs settings m w n path).rows
  end_path_grows m w n None = grows_refl m.rows
  end_path_grows m w n (Some path) = grows_refl m.rows

  draw_spent_rows : (m : Machine) (w : ℕ) (b : Bool) → RowsGrow m.rows (if b then record m { next = m.next + 1; workers = slice_set m.workers w (Spent m.next) } else m).rows
  draw_spent_rows m w true = grows_refl m.rows
  draw_spent_rows m w false = grows_refl m.rows

  draw_grows : (m : Machine) (w : ℕ) (s : Worker) → RowsGrow m.rows (draw jobs m w s).rows
  draw_grows m w Idle = grows_refl m.rows
  draw_grows m w s = grows_refl m.rows

  look_grows : (m : Machine) (w : ℕ) (s : Worker) → RowsGrow m.rows (look jobs settings m w s).rows
  look_grows m w (At n k) = look_path_grows m w n k (path_at jobs settings m.rows n k)
  look_grows m w s = grows_refl m.rows

  read_grows : (m : Machine) (w : ℕ) (content : Content (List ℕ)) (s : Worker) → RowsGrow m.rows (read m w content s).rows
  read_grows m w content (Claiming n k) = grows_refl m.rows
  read_grows m w content s = grows_refl m.rows

  publish_grows : (m : Machine) (w : ℕ) (s : Worker) → RowsGrow m.rows (publish m w s).rows
  publish_grows m w (Holding n k content) = grows_published w content m.rows
  publish_grows m w s = grows_refl m.rows

  end_grows : (m : Machine) (w : ℕ) (s : Worker) → RowsGrow m.rows (end jobs settings m w s).rows
  end_grows m w (At n k) = end_path_grows m w n (path_at jobs settings m.rows n k)
  end_grows m w (Spent n) = grows_refl m.rows
  end_grows m w s = grows_refl m.rows

  draw_spent_grows : (m : Machine) (w : ℕ) (s : Worker) → RowsGrow m.rows (draw_spent jobs m w s).rows
  draw_spent_grows m w Idle = draw_spent_rows m w (nat_lt m.next (length jobs))
  draw_spent_grows m w s = grows_refl m.rows

  look_spent_grows : (m : Machine) (w : ℕ) (s : Worker) → RowsGrow m.rows (look_spent m w s).rows
  look_spent_grows m w (At n k) = grows_refl m.rows
  look_spent_grows m w s = grows_refl m.rows

  publish_spent_grows : (m : Machine) (w : ℕ) (s : Worker) → RowsGrow m.rows (publish_spent m w s).rows
  publish_spent_grows m w (Holding n k content) = grows_published w content m.rows
  publish_spent_grows m w s = grows_refl m.rows

  moved_grows : (m : Machine) (move : Move) → RowsGrow m.rows (moved jobs settings m move).rows
  moved_grows m (Goes (Draw w)) = draw_grows m w (worker_at m w)
  moved_grows m (Goes (Look w)) = look_grows m w (worker_at m w)
  moved_grows m (Goes (Read w content)) = read_grows m w content (worker_at m w)
  moved_grows m (Goes (Publish w)) = publish_grows m w (worker_at m w)
  moved_grows m (Goes (End w)) = end_grows m w (worker_at m w)
  moved_grows m (Fails (Draw w)) = draw_spent_grows m w (worker_at m w)
  moved_grows m (Fails (Look w)) = look_spent_grows m w (worker_at m w)
  moved_grows m (Fails (Read w content)) = grows_refl m.rows
  moved_grows m (Fails (Publish w)) = publish_spent_grows m w (worker_at m w)
  moved_grows m (Fails (End w)) = grows_refl m.rows

  pub run_grows : (moves : List Move) (m : Machine) → RowsGrow m.rows (run jobs settings moves m).rows
  run_grows [] m = grows_refl m.rows
  run_grows (move ∷ moves) m =
      let next = moved jobs settings m move in
      grows_trans m.rows next.rows (run jobs settings moves next).rows (moved_grows m move) (run_grows moves next)
