-- A file is entered, or can't be.
use Rattle.std.proofs.Common.{◌≡◌, ℕ, zero, suc, ◌+◌, ◌-◌, ◌<◌, ◌≤◌, if◌then◌else◌, List, [], ◌∷◌, length, refl, ap, sym, ◌∙◌, subst, arith}
use Rattle.std.proofs.lemmas.Bool.{le-leb, lt-leb}
use Rattle.std.specs.Prelude.{Option}
use Rattle.scan_model.specs.declared.token.Line.{Line}
use Rattle.scan_model.specs.declared.unit_end.Place.{Place}
use Rattle.scan_model.specs.declared.unit_end.UnitEnd.TheVariants as Ends
use Rattle.scan_model.specs.declared.unit_end.FaultKind.TheVariants as FaultIs
use Rattle.scan_model.specs.State.{Group, Setup, Core, State, Going, then_go}
use Rattle.scan_model.specs.Effect.{Enters, fault, halted}
use Rattle.scan_model.specs.WholeFile.{end_run, at_file_end, at_file_start, full_file, full_lines, enter, entered_limit, back_in}
use Rattle.scan_model.specs.Answer.{Known}
use Rattle.unit_laws.specs.Reduction.{Given}
use Rattle.unit_laws.specs.KnownAnswers.{asked}
use Rattle.unit_steps.specs.Stack.{Frame, current, within, next_depth, first_depth, as_they_are, rest_of_all, closing}
use Rattle.unit_steps.specs.Moments.{Moment, core_at, file_frame, in_file}
use Rattle.unit_steps.specs.Stands.{AreLines, IsReached, Acts, Stands, StandsAtEnd}
use Rattle.unit_steps.proofs.Reaching.{go_alike}
use Rattle.unit_steps.proofs.Steps.{end_by_cause}

one_deeper : (a : ℕ) (g : Frame) (fs : List Frame) (n : ℕ) → 201 - (a + length fs) ≡ suc n → 201 - (a + length (g ∷ fs)) ≡ n
one_deeper a g fs n h = omega (arith, h)

pub same_end : (a b : Core) (s : State) (gs : List Group) → back_in a s.core ≡ back_in b s.core → at_file_end a s gs ≡ at_file_end b s gs
same_end a b s [] h = ap (λ z. Going (record s { core = z })) h
same_end a b s (g ∷ gs) h = refl

module _ (setup : Setup) (m : Moment) (answers : List (List ℕ × Given)) (place : Place) (path : List ℕ) (chain_place : Option ℕ) (text : List Line) (acts : Acts setup m answers (λ files c. Enters place path chain_place text c)) where
  -- the file would be too deep
  pub too_deep : 200 < next_depth m.top m.frames → StandsAtEnd setup (Ends.Stopped (record { kind = FaultIs.TooDeep; place = place })) answers
  unfolding enter
  too_deep deep files kept agree =
      let h = acts files kept agree in
      let R = rest_of_all files setup m.top m.frames in
      let c = core_at m (asked answers) in
      let none : 201 - next_depth m.top m.frames ≡ zero = omega (arith, deep) in
      let from = ap (λ n. then_go R (enter as_they_are files setup n place path chain_place text (record h.state { core = c }))) none in
      let reached = subst (λ z. IsReached files setup z) from h.reached in
      let there = end_by_cause setup m.builder h.state (Known (Ends.Stopped (record { kind = FaultIs.TooDeep; place = place }))) (asked answers) (fault FaultIs.TooDeep place) refl h.reads in
      (reached.0 ∙ there.0, reached.1 ∙ there.1)

  -- the file would be one too many
  pub too_many : next_depth m.top m.frames ≤ 200 → entered_limit ≤ m.entered → StandsAtEnd setup (Ends.Stopped (record { kind = FaultIs.TooManyEntered; place = place })) answers
  unfolding enter
  too_many deep many files kept agree =
      let h = acts files kept agree in
      let R = rest_of_all files setup m.top m.frames in
      let c = core_at m (asked answers) in
      let s : State = record h.state { core = c } in
      let n = 200 - next_depth m.top m.frames in
      let more : 201 - next_depth m.top m.frames ≡ suc n = omega (arith, deep) in
      let cause = fault FaultIs.TooManyEntered place in
      let from = ap (λ n. then_go R (enter as_they_are files setup n place path chain_place text s)) more
      ∙ ap (λ b. then_go R (if b then halted cause (asked answers) s else full_file as_they_are (enter as_they_are files setup n) files setup path chain_place text s))
      (le-leb entered_limit m.entered many) in
      let reached = subst (λ z. IsReached files setup z) from h.reached in
      let there = end_by_cause setup m.builder h.state (Known (Ends.Stopped (record { kind = FaultIs.TooManyEntered; place = place }))) (asked answers) cause refl h.reads in
      (reached.0 ∙ there.0, reached.1 ∙ there.1)

  -- the file is entered
  pub file_entered : next_depth m.top m.frames ≤ 200 → m.entered < entered_limit → AreLines answers text → Stands setup (in_file path chain_place text m) answers
  unfolding enter full_file
  file_entered deep few lines files kept agree =
      let h = acts files kept agree in
      let c = core_at m (asked answers) in
      let start : State = record h.state { core = at_file_start path chain_place c } in
      let g = file_frame path chain_place text in
      let R = rest_of_all files setup m.top m.frames in
      let s : State = record h.state { core = c } in
      let n = 200 - next_depth m.top m.frames in
      let more : 201 - next_depth m.top m.frames ≡ suc n = omega (arith, deep) in
      let cause = fault FaultIs.TooManyEntered place in
      let E = enter as_they_are files setup n in
      let whole = full_lines E files setup text start in
      let from = ap (λ k. then_go R (enter as_they_are files setup k place path chain_place text s)) more
      ∙ ap (λ b. then_go R (if b then halted cause (asked answers) s else full_file as_they_are E files setup path chain_place text s)) (lt-leb entered_limit m.entered few)
      ∙ ap (λ z. then_go R z) (go_alike (λ last. at_file_end c (end_run last) last.core.stack) (closing files setup m.frames)
      (λ last. same_end c (within (current m.frames) last.core) (end_run last) last.core.stack refl) whole)
      ∙ ap (λ k. then_go R (then_go (closing files setup m.frames) (full_lines (enter as_they_are files setup k) files setup text start)))
      (sym (one_deeper (first_depth m.top) g m.frames n more)) in
      record {
        state = start;
        core = refl;
        reads = h.reads;
        directives = (lines files kept agree, h.directives);
        reached = subst (λ z. IsReached files setup z) from h.reached;
      }
