-- What a whole unit has of the paths that were looked at, and so what an end has.
use Rattle.std.proofs.Common.{◌≡◌, ◌≢◌, ℕ, zero, suc, ◌+◌, ◌==◌, Bool, true, false, nat_le, if◌then◌else◌, ◌<◌, List, [], ◌∷◌, ◌++◌, length, slice_index_or, refl, sym, subst, arith}
use Rattle.std.specs.Prelude.{⊤, Option, Some, None, IsSome}
use Rattle.std.specs.List.{AllByRecursion}
use Rattle.std.specs.declared.result.Result.{Result}
use Rattle.std.specs.declared.result.Result.TheVariants.{Ok, Err}
use Rattle.scan_model.specs.declared.token.Line.{Line}
use Rattle.scan_model.specs.declared.unit_end.Place.{Place}
use Rattle.scan_model.specs.declared.unit_end.UnitEnd.{UnitEnd}
use Rattle.scan_model.specs.declared.unit_end.UnitEnd.TheVariants as Ends
use Rattle.scan_model.specs.declared.command.Setting.{Setting}
use Rattle.scan_model.specs.declared.command.Command.{Command}
use Rattle.scan_model.specs.declared.command.Form.TheVariants.{Quoted}
use Rattle.scan_model.specs.declared.command.Settings.{Settings}
use Rattle.scan_model.specs.declared.command.Job.{Job}
use Rattle.scan_model.specs.declared.command.Job.TheVariants as JobIs
use Rattle.scan_model.specs.declared.expansion.Expanded.{Expanded}
use Rattle.scan_model.specs.declared.expansion.Expanded.TheVariants as Gives
use Rattle.scan_model.specs.declared.expansion.Mode.TheVariants as ModeIs
use Rattle.scan_model.specs.declared.module_line.ModuleFault.{ModuleFault}
use Rattle.scan_model.specs.declared.unit_end.FaultKind.{FaultKind}
use Rattle.scan_model.specs.declared.unit_end.FaultKind.TheVariants as FaultIs
use Rattle.scan_model.specs.Lines.{lines, is_directive}
use Rattle.scan_model.specs.Expansion.{expand}
use Rattle.scan_model.specs.HeaderName.{Named}
use Rattle.scan_model.specs.Files.{Content, NoMemory, FileMap}
use Rattle.scan_model.specs.State.{Group, Setup, Core, State, Cause, Faulty, OutOfMemory, Needs, Reached, Going, Stopped, then_go}
use Rattle.scan_model.specs.Stream.{ModuleLine, ModuleStop, Piece, Run, Sent, module_lines, read_stream, take_lines, after_take}
use Rattle.scan_model.specs.Effect.{Effect, Now, Enters, Sends, Halts, Enter, done, stop_at}
use Rattle.scan_model.specs.Search.{with_found, searched, place_searched}
use Rattle.scan_model.specs.Includes.{include}
use Rattle.scan_model.specs.Conditionals.{is_skipped}
use Rattle.scan_model.specs.DirectiveLines.{effect}
use Rattle.scan_model.specs.WholeFile.{View, entered_limit, end_run, run_done, full_line, full_lines, full_file, enter, at_file_end, at_file_start, joined}
use Rattle.scan_model.specs.WholeUnit.{first_state, command_place, first_file, predefines, setting_text, set_first, set_all, force, force_all, full}
use Rattle.scan_model.specs.ModuleLines.{Builder, take, new}
use Rattle.scan_model.specs.Answer.{Answer, Known, Unread, end_of, looks_of, answer_of, fault_or, record_of, looked_of, answer_by, looked_by}
use Rattle.unit_laws.proofs.GrowthLemmas.{lines_of_append, end_core}
use Rattle.answer_paths.specs.LookedPaths.{EndHasPaths, EndHasTexts}
use Rattle.answer_paths.proofs.LookedEffects.{IsShown, IsHad, Seen, Had, seen_had, StopSees, Sees, sees_with_found, sees_include, sees_effect}

module _ (X : Type 0) (files : FileMap X) where
  -- the paths were seen before each line was sent
  abbrev pub SentSeen : List ModuleLine → Type 0
  SentSeen ls = AllByRecursion (λ l. Seen X files l.looked) ls

  sent_append : (ls ms : List ModuleLine) → SentSeen ls → SentSeen ms → SentSeen (ls ++ ms)
  sent_append [] ms h k = k
  sent_append (l ∷ ls) ms h k = (h.0, sent_append ls ms h.1 k)

  stream_append : (ps qs : List Piece) → SentSeen (module_lines ps) → SentSeen (module_lines qs) → SentSeen (module_lines (ps ++ qs))
  stream_append ps qs h k = subst (λ z. SentSeen z) (sym (lines_of_append ps qs)) (sent_append (module_lines ps) (module_lines qs) h k)

  abbrev pub StateSees : State → Type 0
  StateSees s = Seen X files s.core.looked × SentSeen (module_lines s.stream)

  abbrev pub RunSees : Reached → Type 0
  RunSees (Going s) = StateSees s
  RunSees (Stopped a) = StopSees X files a.cause a.looked × SentSeen (module_lines a.stream)

  abbrev pub Keeps : (State → Reached) → Type 0
  Keeps step = (s : State) → StateSees s → RunSees (step s)

  run_if : (b : Bool) (e f : Reached) → RunSees e → RunSees f → RunSees (if b then e else f)
  run_if true e f h k = h
  run_if false e f h k = k

  pub then_sees : (g : State → Reached) → Keeps g → (e : Reached) → RunSees e → RunSees (then_go g e)
  then_sees g each (Going s) h = each s h
  then_sees g each (Stopped a) h = h

  run_sent : (s : State) → SentSeen (module_lines s.stream) → (answer : Expanded) → SentSeen (module_lines (run_done s answer).stream)
  run_sent s h (Gives.Done toks counter) = stream_append s.stream (Run s.core.path toks ∷ []) h tt
  run_sent s h Gives.Bad = stream_append s.stream (Run s.core.path s.run ∷ []) h tt
  run_sent s h Gives.TooLong = stream_append s.stream (Run s.core.path s.run ∷ []) h tt
  run_sent s h Gives.Counter = stream_append s.stream (Run s.core.path s.run ∷ []) h tt

  end_sent : (s : State) → SentSeen (module_lines s.stream) → SentSeen (module_lines (end_run s).stream)
  unfolding end_run
  end_sent s h = run_sent s h (expand s.core.macros.defs s.core.site (ModeIs.Text s.counter) s.run)

  end_sees : (s : State) → StateSees s → StateSees (end_run s)
  end_sees s h = (subst (λ c. Seen X files c.looked) (sym (end_core s)) h.0, end_sent s h.1)

  abbrev pub EnterSees : Enter X → Type 0
  EnterSees e = (place : Place) (path : List ℕ) (chain_place : Option ℕ) (x : X) → Keeps (e place path chain_place x)

  pub done_sees : (e : Enter X) → EnterSees e → (s : State) → SentSeen (module_lines s.stream) → (b : Effect X) → Sees X files b → RunSees (done e s b)
  done_sees e each s sent (Now c) h = (h, sent)
  done_sees e each s sent (Enters place path chain_place x c) h = each place path chain_place x (record s { core = c }) (h, sent)
  done_sees e each s sent (Sends l c) h = (h.0, stream_append s.stream (Sent l ∷ []) sent (h.1, tt))
  done_sees e each s sent (Halts cause c) h = (h, sent)

  module _ (setup : Setup) where
    pub line_sees : (e : Enter X) → EnterSees e → (l : Line) → Keeps (λ s. full_line e files setup s l)
    unfolding full_line
    line_sees e each l s h =
        run_if (is_directive l) _ _ (done_sees e each (end_run s) (end_sent s h.1) (effect files setup s.core l) (sees_effect X files setup l s.core h.0))
        (run_if (is_skipped s.core.stack) (Going s) (Going (joined s l)) h h)

    pub lines_see : (e : Enter X) → EnterSees e → (ls : List Line) → Keeps (full_lines e files setup ls)
    lines_see e each [] s h = h
    lines_see e each (l ∷ ls) s h = then_sees (full_lines e files setup ls) (lines_see e each ls) (full_line e files setup s l) (line_sees e each l s h)

    file_end_sees : (c : Core) (gs : List Group) → Keeps (λ s. at_file_end c s gs)
    file_end_sees c [] s h = h
    file_end_sees c (g ∷ gs) s h = h

    module _ (view : View X) where
      pub enter_sees : (n : ℕ) → EnterSees (enter view files setup n)
      unfolding enter full_file
      enter_sees zero place path chain_place x s h = h
      enter_sees (suc n) place path chain_place x s h =
          run_if (nat_le entered_limit s.core.entered) _ _ h
          (then_sees (λ last. at_file_end s.core (end_run last) last.core.stack) (λ last k. file_end_sees s.core last.core.stack (end_run last) (end_sees last k))
          (full_lines (enter view files setup n) files setup (view x) (record s { core = at_file_start path chain_place s.core }))
          (lines_see (enter view files setup n) (enter_sees n) (view x) (record s { core = at_file_start path chain_place s.core }) h))

      first_sees : (missing : FaultKind) (path : List ℕ) → Keeps (first_file view files setup missing path)
      first_sees missing path s h = let place : Place = record { path = path; line = 0 } in
          done_sees (enter view files setup 201) (enter_sees 201) s h.1 (with_found files place (path ∷ []) s.core (stop_at missing place) (λ path. Enters place path None))
          (sees_with_found X files place (path ∷ []) s.core (stop_at missing place) (λ path. Enters place path None) (λ c seen. seen) (λ path x c seen. seen) h.0)

      predefines_see : (path : Option (List ℕ)) → Keeps (predefines view files setup path)
      predefines_see None s h = h
      predefines_see (Some path) s h = first_sees FaultIs.IncludeNotFound path s h

      set_first_sees : (number : ℕ) (ls : List Line) → Keeps (set_first files setup number ls)
      set_first_sees number [] s h = h
      set_first_sees number (l ∷ ls) s h = let m : Line = record l { line = number; next = number + 1 } in
          line_sees (λ place path chain_place text s. Going s) (λ place path chain_place x s h. h) m s h

      set_all_sees : (number : ℕ) (settings : List Setting) → Keeps (set_all files setup number settings)
      set_all_sees number [] s h = h
      set_all_sees number (setting ∷ rest) s h =
          then_sees (set_all files setup (number + 1) rest) (set_all_sees (number + 1) rest) (set_first files setup number (lines (setting_text setting)) s)
          (set_first_sees number (lines (setting_text setting)) s h)

      force_sees : (number : ℕ) (name : List ℕ) → Keeps (force view files setup number name)
      force_sees number name s h =
          let named : Named = record { form = Quoted; name = name; after = [] } in
          let paths = searched setup named setup.command.directory in
          let places = place_searched setup named setup.command.directory in
          let place = command_place number in
          run_if (length name == 0) _ _ h
          (done_sees (enter view files setup 200) (enter_sees 200) s h.1 (include files place paths places s.core) (sees_include X files place paths places s.core h.0))

      force_all_sees : (number : ℕ) (names : List (List ℕ)) → Keeps (force_all view files setup number names)
      force_all_sees number [] s h = h
      force_all_sees number (name ∷ names) s h =
          then_sees (force_all view files setup (number + 1) names) (force_all_sees (number + 1) names) (force view files setup number name s) (force_sees number name s h)

      pub full_sees : RunSees (full view files setup)
      unfolding full
      full_sees =
          then_sees _ (first_sees FaultIs.MainMissing setup.command.main) _
          (then_sees _ (force_all_sees (length setup.command.settings + 1) setup.command.forced) _
          (then_sees _ (set_all_sees 1 setup.command.settings) _
          (predefines_see setup.settings.predefines (first_state setup.command.dialect) (tt, tt))))

  -- ## Answers

  -- what was looked at for an answer
  pub record EndSees (looked : List (List ℕ)) (end : UnitEnd) : Type 0 where
    pub had : Had X files looked
    pub seen : end ≢ Ends.NoMemory → Seen X files looked

  abbrev pub AnswerSees : List (List ℕ) → Answer → Type 0
  AnswerSees looked (Known end) = EndSees looked end
  AnswerSees looked (Unread path) = ⊤

  all_seen : (looked : List (List ℕ)) (end : UnitEnd) → Seen X files looked → EndSees looked end
  all_seen looked end h = record { had = seen_had X files looked h; seen = λ n. h }

  -- the paths that were looked at before the first module fault were seen
  abbrev FaultSees : Result Builder ModuleStop → Type 0
  FaultSees (Ok b) = ⊤
  FaultSees (Err stop) = Seen X files stop.looked

  taken_sees : (g : Builder → Result Builder ModuleStop) (l : ModuleLine) → Seen X files l.looked → ((b : Builder) → FaultSees (g b)) → (r : Result Builder ModuleFault) → FaultSees (after_take g l r)
  taken_sees g l h each (Ok b) = each b
  taken_sees g l h each (Err x) = h

  lines_fault : (ls : List ModuleLine) → SentSeen ls → (b : Builder) → FaultSees (take_lines ls b)
  lines_fault [] h b = tt
  lines_fault (l ∷ ls) h b = taken_sees (take_lines ls) l h.0 (lines_fault ls h.1) (take b l.exported l.keyword l.toks)

  stream_fault : (command : Command) (ps : List Piece) → SentSeen (module_lines ps) → FaultSees (read_stream command ps)
  unfolding read_stream
  stream_fault command ps h = lines_fault (module_lines ps) h (new command.output command.source)

  going_sees : (looked : List (List ℕ)) → Seen X files looked → (r : Result Builder ModuleStop) → FaultSees r → AnswerSees (looked_of looked r) (record_of r)
  going_sees looked h (Ok b) k = all_seen looked (Ends.Record b.so_far) h
  going_sees looked h (Err stop) k = all_seen stop.looked (Ends.Stopped stop.fault) k

  stopped_sees : (looked : List (List ℕ)) (cause : Cause) → StopSees X files cause looked → (r : Result Builder ModuleStop) → FaultSees r →
      AnswerSees (looked_of looked r) (fault_or (answer_of cause) r)
  stopped_sees looked cause h (Err stop) k = all_seen stop.looked (Ends.Stopped stop.fault) k
  stopped_sees looked (Faulty x) h (Ok b) k = all_seen looked (Ends.Stopped x) h
  stopped_sees looked OutOfMemory h (Ok b) k = record { had = h; seen = λ n. absurd (n refl) }
  stopped_sees looked (Needs path) h (Ok b) k = tt

  run_answer : (command : Command) (e : Reached) → RunSees e → AnswerSees (looks_of command e) (end_of command e)
  run_answer command (Going s) h = going_sees s.core.looked h.0 (read_stream command s.stream) (stream_fault command s.stream h.1)
  run_answer command (Stopped a) h = stopped_sees a.looked a.cause h.0 (read_stream command a.stream) (stream_fault command a.stream h.1)

  job_sees : (view : View X) (settings : Settings) (job : Job) → AnswerSees (looked_by view files settings job) (answer_by view files settings job)
  job_sees view settings (JobIs.Refused x) = all_seen [] (Ends.Refused x) tt
  job_sees view settings (JobIs.Run command) = let setup : Setup = record { settings = settings; command = command } in
      run_answer command (full view files setup) (full_sees setup view)

  end_sees_of : (looked : List (List ℕ)) (answer : Answer) (end : UnitEnd) → answer ≡ Known end → AnswerSees looked answer → EndSees looked end
  end_sees_of looked answer end h k = subst (λ z. AnswerSees looked z) h k

-- ## The laws

all_contained : {A : Type 0} (P : A → Type 0) (xs : List A) → AllByRecursion P xs → (x : A) (k : ℕ) → k < length xs → slice_index_or xs k x ≡ x → P x
all_contained P [] h x k below e = absurd (omega (arith, below))
all_contained P (y ∷ ys) h x zero below e = subst P e h.0
all_contained P (y ∷ ys) h x (suc k) below e = all_contained P ys h.1 x k (omega (arith, below)) e

had_is_some : {X : Type 0} (o : Option (Content X)) → IsHad o → IsSome o
had_is_some None h = absurd h
had_is_some (Some content) h = refl

shown_is_text : {X : Type 0} (o : Option (Content X)) → IsShown o → o ≢ Some NoMemory
shown_is_text o h e = subst IsShown e h

pub end_has_paths : (X : Type 0) (view : View X) → EndHasPaths X view
end_has_paths X view files settings job end h path contained =
    let sees = end_sees_of X files (looked_by view files settings job) (answer_by view files settings job) end h (job_sees X files view settings job) in
    had_is_some (files path) (all_contained (λ p. IsHad (files p)) (looked_by view files settings job) sees.had path contained.0 contained.1 contained.2)

pub end_has_texts : (X : Type 0) (view : View X) → EndHasTexts X view
end_has_texts X view files settings job end h memory path contained =
    let sees = end_sees_of X files (looked_by view files settings job) (answer_by view files settings job) end h (job_sees X files view settings job) in
    shown_is_text (files path) (all_contained (λ p. IsShown (files p)) (looked_by view files settings job) (sees.seen memory) path contained.0 contained.1 contained.2)
