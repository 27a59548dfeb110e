-- A file ends, and the unit.
use Rattle.std.proofs.Common.{◌≡◌, ℕ, List, [], ◌∷◌, refl, ap, ◌∙◌, subst}
use Rattle.std.specs.Prelude.{None}
use Rattle.scan_model.specs.declared.unit_end.UnitEnd.TheVariants as Ends
use Rattle.scan_model.specs.declared.unit_end.FaultKind.TheVariants as FaultIs
use Rattle.scan_model.specs.State.{Group, Setup, State, Cause, then_go}
use Rattle.scan_model.specs.Effect.{fault, halted}
use Rattle.scan_model.specs.WholeFile.{end_run, at_file_end, back_in, full_lines}
use Rattle.scan_model.specs.Answer.{Known, record_of, looked_of}
use Rattle.unit_laws.specs.Reduction.{Given}
use Rattle.unit_laws.specs.KnownAnswers.{asked}
use Rattle.unit_laws.proofs.GrowthLemmas.{end_core}
use Rattle.unit_steps.specs.Stack.{Frame, Nothing_more, current, within, rest_of_all, entering, closing}
use Rattle.unit_steps.specs.Moments.{Moment, core_at, goes_on}
use Rattle.unit_steps.specs.Stands.{AreDirectives, IsReached, Stands, StandsAtEnd}
use Rattle.unit_steps.proofs.Steps.{run_reads, end_by_cause, reached_in_file}

module _ (setup : Setup) (m : Moment) (answers : List (List ℕ × Given)) (f : Frame) (fs : List Frame) (frames : m.frames ≡ f ∷ fs) (rest : f.rest ≡ []) (looking : m.search ≡ None) (stands : Stands setup m answers) where
  -- the file at the top ends, and the one below goes on
  pub file_ends_well : f.groups ≡ [] → Stands setup (record m { frames = fs; search = None }) answers
  file_ends_well groups files kept agree =
      let h = stands files kept agree in
      let over : Moment = record m { frames = fs; search = None } in
      let s : State = record (end_run h.state) { core = core_at over (asked answers) } in
      let R = rest_of_all files setup m.top fs in
      let dirs = subst (λ z. AreDirectives z) frames h.directives in
      let core = end_core h.state ∙ h.core in
      let stack = ap (λ z. z.stack) h.core ∙ ap (λ z. (current z).groups) frames ∙ groups in
      let from = ap (λ z. then_go R (then_go (closing files setup fs) (full_lines (entering files setup m.top (f ∷ fs)) files setup z h.state))) rest
      ∙ ap (λ z. then_go R (at_file_end (within (current fs) h.state.core) (end_run h.state) z)) stack
      ∙ ap (λ z. R (record (end_run h.state) { core = back_in (within (current fs) h.state.core) z })) core in
      record {
        state = s;
        core = refl;
        reads = run_reads setup h.state m.builder h.reads;
        directives = dirs.1;
        reached = subst (λ z. IsReached files setup z) from (reached_in_file files setup m (asked answers) f fs frames looking h);
      }

  -- it ends with an open conditional
  pub file_ends_open : (g : Group) (gs : List Group) → f.groups ≡ g ∷ gs →
      StandsAtEnd setup (Ends.Stopped (record { kind = FaultIs.Unbalanced; place = record { path = f.path; line = g.line } })) answers
  file_ends_open g gs groups files kept agree =
      let h = stands files kept agree in
      let R = rest_of_all files setup m.top fs in
      let core = end_core h.state ∙ h.core in
      let stack = ap (λ z. z.stack) h.core ∙ ap (λ z. (current z).groups) frames ∙ groups in
      let cause : List ℕ → Cause = λ path. fault FaultIs.Unbalanced (record { path = path; line = g.line }) in
      let from = ap (λ z. then_go R (then_go (closing files setup fs) (full_lines (entering files setup m.top (f ∷ fs)) files setup z h.state))) rest
      ∙ ap (λ z. then_go R (at_file_end (within (current fs) h.state.core) (end_run h.state) z)) stack
      ∙ ap (λ z. halted (cause z.path) z.looked (end_run h.state)) core
      ∙ ap (λ z. halted (cause z.path) (asked answers) (end_run h.state)) (ap current frames) in
      let there = end_by_cause setup m.builder (end_run h.state) (Known (Ends.Stopped (record { kind = FaultIs.Unbalanced; place = record { path = f.path; line = g.line } }))) (asked answers)
      (cause f.path) refl (run_reads setup h.state m.builder h.reads) in
      let reached = subst (λ z. IsReached files setup z) from (reached_in_file files setup m (asked answers) f fs frames looking h) in
      (reached.0 ∙ there.0, reached.1 ∙ there.1)

-- nothing is left
pub unit_ends : (setup : Setup) (m : Moment) (answers : List (List ℕ × Given)) → m.top ≡ Nothing_more → m.frames ≡ [] → m.search ≡ None → Stands setup m answers →
    StandsAtEnd setup (Ends.Record m.builder.so_far) answers
unit_ends setup m answers top frames looking stands files kept agree =
    let h = stands files kept agree in
    let from = ap (λ z. goes_on files setup z m.frames m.search h.state) top ∙ ap (λ z. goes_on files setup Nothing_more z m.search h.state) frames
    ∙ ap (λ z. goes_on files setup Nothing_more [] z h.state) looking in
    let reached = subst (λ z. IsReached files setup z) from h.reached in
    (reached.0 ∙ ap record_of h.reads, reached.1 ∙ ap (looked_of h.state.core.looked) h.reads ∙ ap (λ z. z.looked) h.core)
