-- What a unit, or a refused job, says of its job's looks and answer.
use Rattle.std.proofs.Common.{◌≡◌, ℕ, List, [], ◌∷◌, length, slice_get, ap, sym, ◌∙◌, Some, None, arith}
use Rattle.std.proofs.lemmas.Option.{slice_get_past}
use Rattle.scan_model.specs.declared.command.Settings.{Settings}
use Rattle.scan_model.specs.declared.command.Job.{Job}
use Rattle.scan_model.specs.declared.command.Job.TheVariants as JobIs
use Rattle.scan_model.specs.declared.command.CommandFault.{CommandFault}
use Rattle.scan_model.specs.declared.unit_end.UnitEnd.{UnitEnd}
use Rattle.scan_model.specs.declared.unit_end.UnitEnd.TheVariants as Ends
use Rattle.scan_model.specs.Answer.{Known, answer, looked}
use Rattle.unit_laws.specs.KnownAnswers.{asked}
use Rattle.unit_steps.specs.UnitView.{UnitView, Asks, Over}
use Rattle.unit_steps.proofs.Callers.{kth_looked, end_is_answer, length_asked}
use Rattle.cache_machine.specs.Rows.{Row, map_of}
use Rattle.cache_machine.specs.JobLooks.{looked_by_job, path_at, answer_at, answer_by_job}
use Rattle.scan_core.specs.Seats.{IsUnitOf}

module _ (jobs : List Job) (settings : Settings) (rows : List Row) (n : ℕ) where
  -- a unit that asks has the path that its command looks at next
  pub unit_path : (u : UnitView) (path : List ℕ) → IsUnitOf jobs settings rows n u → u.phase ≡ Asks path → path_at jobs settings rows n (length u.answers) ≡ Some path
  unit_path u path h asks =
      ap (λ z. slice_get (looked_by_job settings (map_of rows) z) (length u.answers)) h.job
      ∙ ap (λ z. slice_get (looked (map_of rows) z (JobIs.Run u.command)) (length u.answers)) (sym h.settings_are)
      ∙ kth_looked u path (map_of rows) asks h.fits h.agrees

  -- a unit that is over has the command's end, and its command looks at nothing more
  pub unit_over : (u : UnitView) (end : UnitEnd) → IsUnitOf jobs settings rows n u → u.phase ≡ Over end → path_at jobs settings rows n (length u.answers) ≡ None
  unit_over u end h over =
      ap (λ z. slice_get (looked_by_job settings (map_of rows) z) (length u.answers)) h.job
      ∙ ap (λ z. slice_get (looked (map_of rows) z (JobIs.Run u.command)) (length u.answers)) (sym h.settings_are)
      ∙ ap (λ z. slice_get z (length u.answers)) (end_is_answer u end (map_of rows) over h.fits h.agrees).1
      ∙ slice_get_past (asked u.answers) (length u.answers) (let k = length_asked u.answers in omega arith)

  pub unit_answer : (u : UnitView) (end : UnitEnd) → IsUnitOf jobs settings rows n u → u.phase ≡ Over end → answer_at jobs settings rows n ≡ Known end
  unit_answer u end h over =
      ap (λ z. answer_by_job settings (map_of rows) z) h.job
      ∙ ap (λ z. answer (map_of rows) z (JobIs.Run u.command)) (sym h.settings_are)
      ∙ (end_is_answer u end (map_of rows) over h.fits h.agrees).0

  -- a refused job looks at nothing
  pub refused_path : (fault : CommandFault) → slice_get jobs n ≡ Some (JobIs.Refused fault) → path_at jobs settings rows n 0 ≡ None
  unfolding looked
  refused_path fault h = ap (λ z. slice_get (looked_by_job settings (map_of rows) z) 0) h

  pub refused_answer : (fault : CommandFault) → slice_get jobs n ≡ Some (JobIs.Refused fault) → answer_at jobs settings rows n ≡ Known (Ends.Refused fault)
  unfolding answer
  refused_answer fault h = ap (λ z. answer_by_job settings (map_of rows) z) h
