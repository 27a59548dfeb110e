-- When the file map grows, an answer that needs no other path stays, and so does what was looked at before one.
use Rattle.std.proofs.Common.{◌≡◌, ℕ, ◌+◌, ◌==◌, List, [], ◌∷◌, ◌++◌, length, drop, refl, ap, sym, ◌∙◌, subst}
use Rattle.std.specs.Prelude.{⊤, Option, Some, None}
use Rattle.std.proofs.Math.Seq.{take-append_seam}
use Rattle.std.proofs.lemmas.List.{take-append-drop}
use Rattle.std.specs.declared.result.Result.{Result}
use Rattle.std.specs.declared.result.Result.TheVariants.{Ok, Err}
use Rattle.scan_model.specs.declared.token.Line.{Line}
use Rattle.scan_model.specs.declared.unit_end.Place.{Place}
use Rattle.scan_model.specs.declared.command.Setting.{Setting}
use Rattle.scan_model.specs.declared.command.Command.{Command}
use Rattle.scan_model.specs.declared.command.Job.TheVariants as JobIs
use Rattle.scan_model.specs.declared.unit_end.UnitEnd.{UnitEnd}
use Rattle.scan_model.specs.declared.unit_end.UnitEnd.TheVariants as Ends
use Rattle.scan_model.specs.declared.module_line.ModuleFault.{ModuleFault}
use Rattle.scan_model.specs.declared.command.Form.TheVariants.{Quoted}
use Rattle.scan_model.specs.declared.unit_end.FaultKind.{FaultKind}
use Rattle.scan_model.specs.declared.unit_end.FaultKind.TheVariants as FaultIs
use Rattle.scan_model.specs.Lines.{lines}
use Rattle.scan_model.specs.Files.{FileMap}
use Rattle.scan_model.specs.State.{Setup, State, Reached, Going, Stopped, Stop, Cause, Faulty, OutOfMemory, Needs}
use Rattle.scan_model.specs.Stream.{Piece, ModuleLine, ModuleStop, module_lines, read_stream, take_lines, after_take}
use Rattle.scan_model.specs.Effect.{stop_at, Enters, Enter}
use Rattle.scan_model.specs.Search.{with_found, searched, place_searched}
use Rattle.scan_model.specs.HeaderName.{Named}
use Rattle.scan_model.specs.Includes.{include}
use Rattle.scan_model.specs.WholeFile.{View, enter}
use Rattle.scan_model.specs.WholeUnit.{first_state, command_place, first_file, predefines, setting_text, set_first, set_all, force, force_all, full}
use Rattle.scan_model.specs.ModuleLines.{Builder, take, new}
use Rattle.scan_model.specs.Answer.{Answer, Known, Unread, end_of, looks_of, answer_of, fault_or, record_of, looked_of}
use Rattle.unit_laws.specs.Growth.{Extends, Begins, AnswerStays, LookedGrows, NeedsLast}
use Rattle.unit_laws.proofs.GrowthLemmas.{Longer, longer_refl, LacksLast, grow, grow_with_found, grow_include, done_grows, looked_in, stream_in, SentAfter, Later, later_refl, lines_of_append, RunGrows, RunStays, StopStays, RunFits, StopFits, run_stays, run_if, then_grows, line_grows, enter_grows}

module _ (X : Type 0) (view : View X) (files more : FileMap X) (extends : Extends X files more) (setup : Setup) where
  abbrev pub Same : (State → Reached) → (State → Reached) → Type 0
  Same g h = (s : State) → RunGrows more s.core.looked s.stream (g s) (h s)

  pub first_grows : (missing : FaultKind) (path : List ℕ) → Same (first_file view files setup missing path) (first_file view more setup missing path)
  first_grows missing path s = let place : Place = record { path = path; line = 0 } in
      done_grows X more (enter view files setup 201) (enter view more setup 201) (enter_grows X more view files extends setup 201) s.core.looked s
      (with_found files place (path ∷ []) s.core (stop_at missing place) (λ path. Enters place path None)) (with_found more place (path ∷ []) s.core (stop_at missing place) (λ path. Enters place path None))
      (grow_with_found X more files extends place (path ∷ []) s.core (stop_at missing place) (stop_at missing place) (λ path. Enters place path None) (λ path. Enters place path None)
      (λ c. grow X more (stop_at missing place c) tt) (λ path x c. grow X more (Enters place path None x c) tt))

  predefines_grow : (path : Option (List ℕ)) → Same (predefines view files setup path) (predefines view more setup path)
  predefines_grow None s = run_stays more s
  predefines_grow (Some path) s = first_grows FaultIs.IncludeNotFound path s

  abbrev pub stay : Enter X
  stay place path chain_place text s = Going s

  pub set_first_grows : (number : ℕ) (ls : List Line) → Same (set_first files setup number ls) (set_first more setup number ls)
  set_first_grows number [] s = run_stays more s
  set_first_grows number (l ∷ ls) s = let m : Line = record l { line = number; next = number + 1 } in
      line_grows X more stay stay files extends setup (λ place path chain_place x s. run_stays more s) s m

  pub set_all_grows : (number : ℕ) (settings : List Setting) → Same (set_all files setup number settings) (set_all more setup number settings)
  set_all_grows number [] s = run_stays more s
  set_all_grows number (setting ∷ rest) s =
      then_grows more s.core.looked s.stream (set_all files setup (number + 1) rest) (set_all more setup (number + 1) rest) (set_all_grows (number + 1) rest)
      (set_first files setup number (lines (setting_text setting)) s) (set_first more setup number (lines (setting_text setting)) s)
      (set_first_grows number (lines (setting_text setting)) s)

  pub force_grows : (number : ℕ) (name : List ℕ) → Same (force view files setup number name) (force view more setup number name)
  force_grows number name s =
      let named : Named = record { form = Quoted; name = name; after = [] } in
      let paths = searched setup named setup.command.directory in
      let places = place_searched setup named setup.command.directory in
      let place = command_place number in
      run_if more s.core.looked s.stream (length name == 0) _ _ _ _ (longer_refl s.core.looked, later_refl s.core.looked s.stream, refl, tt)
      (done_grows X more (enter view files setup 200) (enter view more setup 200) (enter_grows X more view files extends setup 200) s.core.looked s
      (include files place paths places s.core) (include more place paths places s.core) (grow_include X more files extends place paths places s.core))

  pub force_all_grows : (number : ℕ) (names : List (List ℕ)) → Same (force_all view files setup number names) (force_all view more setup number names)
  force_all_grows number [] s = run_stays more s
  force_all_grows number (name ∷ names) s =
      then_grows more s.core.looked s.stream (force_all view files setup (number + 1) names) (force_all view more setup (number + 1) names) (force_all_grows (number + 1) names)
      (force view files setup number name s) (force view more setup number name s) (force_grows number name s)

  pub full_grows : RunGrows more [] [] (full view files setup) (full view more setup)
  unfolding full
  full_grows =
      then_grows more [] [] _ _ (first_grows FaultIs.MainMissing setup.command.main) _ _
      (then_grows more [] [] _ _ (force_all_grows (length setup.command.settings + 1) setup.command.forced) _ _
      (then_grows more [] [] _ _ (set_all_grows 1 setup.command.settings) _ _
      (predefines_grow setup.settings.predefines (first_state setup.command.dialect))))

-- ## Answers

abbrev pub IsFault : {A B : Type 0} → Result A B → Type 0
IsFault (Ok x) = ⊥
IsFault (Err x) = ⊤

one_taken : (g h : Builder → Result Builder ModuleStop) (l : ModuleLine) (stop : ModuleStop) → ((b : Builder) → g b ≡ Err stop → h b ≡ Err stop) →
    (r : Result Builder ModuleFault) → after_take g l r ≡ Err stop → after_take h l r ≡ Err stop
one_taken g h l stop each (Ok b) k = each b k
one_taken g h l stop each (Err x) k = k

pub fault_kept : (ls rest : List ModuleLine) (stop : ModuleStop) (b : Builder) → take_lines ls b ≡ Err stop → take_lines (ls ++ rest) b ≡ Err stop
fault_kept [] rest stop b k = absurd (subst IsFault (sym k) tt)
fault_kept (l ∷ ls) rest stop b k =
    one_taken (take_lines ls) (take_lines (ls ++ rest)) l stop (λ b k. fault_kept ls rest stop b k) (take b l.exported l.keyword l.toks) k

pub read_kept : (command : Command) (looked : List (List ℕ)) (ps qs : List Piece) (stop : ModuleStop) → Later looked ps qs → read_stream command ps ≡ Err stop → read_stream command qs ≡ Err stop
unfolding read_stream
read_kept command looked ps qs stop h k =
    ap (λ z. take_lines (module_lines z) (new command.output command.source)) h.1
    ∙ ap (λ z. take_lines z (new command.output command.source)) (lines_of_append ps h.0)
    ∙ fault_kept (module_lines ps) (module_lines h.0) stop (new command.output command.source) k

pub end_by_fault : (command : Command) (f : Reached) (stop : ModuleStop) → read_stream command (stream_in f) ≡ Err stop →
    (end_of command f ≡ Known (Ends.Stopped stop.fault)) × (looks_of command f ≡ stop.looked)
end_by_fault command (Going s) stop k = (ap record_of k, ap (looked_of s.core.looked) k)
end_by_fault command (Stopped a) stop k = (ap (fault_or (answer_of a.cause)) k, ap (looked_of a.looked) k)

abbrev pub IsUnread : Answer → Type 0
IsUnread (Known end) = ⊥
IsUnread (Unread path) = ⊤

abbrev EndStays : Command → UnitEnd → Reached → Reached → Type 0
EndStays command end e f = (end_of command f ≡ Known end) × (looks_of command f ≡ looks_of command e)

same_end : (command : Command) (end : UnitEnd) (e f : Reached) → e ≡ f → end_of command e ≡ Known end → EndStays command end e f
same_end command end e f h k = subst (λ z. EndStays command end e z) h (k, refl)

needing_end : (command : Command) (end : UnitEnd) (path : List ℕ) (a : Stop) (f : Reached) → a.cause ≡ Needs path → Later a.looked a.stream (stream_in f) →
    (r : Result Builder ModuleStop) → read_stream command a.stream ≡ r → end_of command (Stopped a) ≡ Known end → EndStays command end (Stopped a) f
needing_end command end path a f c h (Ok b) r k =
    absurd (subst IsUnread (ap (λ z. fault_or (answer_of z) (Ok b)) (sym c) ∙ ap (fault_or (answer_of a.cause)) (sym r) ∙ k) tt)
needing_end command end path a f c h (Err stop) r k =
    let here = end_by_fault command (Stopped a) stop r in
    let there = end_by_fault command f stop (read_kept command a.looked a.stream (stream_in f) stop h r) in
    (there.0 ∙ sym here.0 ∙ k, there.1 ∙ sym here.1)

stopped_end : (command : Command) (end : UnitEnd) (cause : Cause) (a : Stop) (f : Reached) → a.cause ≡ cause → StopStays cause a f →
    end_of command (Stopped a) ≡ Known end → EndStays command end (Stopped a) f
stopped_end command end (Faulty x) a f c h k = same_end command end (Stopped a) f h k
stopped_end command end OutOfMemory a f c h k = same_end command end (Stopped a) f h k
stopped_end command end (Needs path) a f c h k = needing_end command end path a f c h.1 (read_stream command a.stream) refl k

end_stays : (command : Command) (end : UnitEnd) (e f : Reached) → RunStays e f → end_of command e ≡ Known end → EndStays command end e f
end_stays command end (Going s) f h k = same_end command end (Going s) f h k
end_stays command end (Stopped a) f h k = stopped_end command end a.cause a f refl h k

pub answer_stays : (X : Type 0) (view : View X) → AnswerStays X view
answer_stays X view files more settings (JobIs.Refused x) end extends k = (k, refl)
answer_stays X view files more settings (JobIs.Run command) end extends k =
    let setup : Setup = record { settings = settings; command = command } in
    end_stays command end (full view files setup) (full view more setup) (full_grows X view files more extends setup).2 k

-- ## The paths that were looked at

-- where no line is at fault, the lines that follow go on
one_more : (g h further : Builder → Result Builder ModuleStop) (l : ModuleLine) (last : Builder) → ((b : Builder) → g b ≡ Ok last → h b ≡ further last) →
    (r : Result Builder ModuleFault) → after_take g l r ≡ Ok last → after_take h l r ≡ further last
one_more g h further l last each (Ok b) k = each b k
one_more g h further l last each (Err x) k = absurd (subst IsFault k tt)

pub lines_go_on : (ls rest : List ModuleLine) (b last : Builder) → take_lines ls b ≡ Ok last → take_lines (ls ++ rest) b ≡ take_lines rest last
lines_go_on [] rest b last k = let same : b ≡ last = cc in ap (take_lines rest) same
lines_go_on (l ∷ ls) rest b last k =
    one_more (take_lines ls) (take_lines (ls ++ rest)) (take_lines rest) l last (λ b k. lines_go_on ls rest b last k) (take b l.exported l.keyword l.toks) k

pub read_on : (command : Command) (looked : List (List ℕ)) (ps qs : List Piece) (last : Builder) → (h : Later looked ps qs) → read_stream command ps ≡ Ok last →
    read_stream command qs ≡ take_lines (module_lines h.0) last
unfolding read_stream
read_on command looked ps qs last h k =
    ap (λ z. take_lines (module_lines z) (new command.output command.source)) h.1
    ∙ ap (λ z. take_lines z (new command.output command.source)) (lines_of_append ps h.0)
    ∙ lines_go_on (module_lines ps) (module_lines h.0) (new command.output command.source) last k

-- where all lines were sent after these paths, what is looked at up to the first fault begins with them
abbrev pub LooksOn : List (List ℕ) → List (List ℕ) → Result Builder ModuleStop → Type 0
LooksOn paths looked r = Longer paths (looked_of looked r)

one_looks : (paths looked : List (List ℕ)) (g : Builder → Result Builder ModuleStop) (l : ModuleLine) → Longer paths l.looked → ((b : Builder) → LooksOn paths looked (g b)) →
    (r : Result Builder ModuleFault) → LooksOn paths looked (after_take g l r)
one_looks paths looked g l h each (Ok b) = each b
one_looks paths looked g l h each (Err x) = h

pub lines_look : (paths looked : List (List ℕ)) → Longer paths looked → (ls : List ModuleLine) → SentAfter paths ls → (b : Builder) → LooksOn paths looked (take_lines ls b)
lines_look paths looked h [] k b = h
lines_look paths looked h (l ∷ ls) k b = one_looks paths looked (take_lines ls) l k.0 (lines_look paths looked h ls k.1) (take b l.exported l.keyword l.toks)

pub looks_in : (command : Command) (f : Reached) → looks_of command f ≡ looked_of (looked_in f) (read_stream command (stream_in f))
looks_in command (Going s) = refl
looks_in command (Stopped a) = refl

needing_looks : (command : Command) (a : Stop) (f : Reached) → Longer a.looked (looked_in f) → Later a.looked a.stream (stream_in f) →
    (r : Result Builder ModuleStop) → read_stream command a.stream ≡ r → Longer (looked_of a.looked r) (looks_of command f)
needing_looks command a f h k (Ok last) r =
    subst (λ z. Longer a.looked z) (sym (looks_in command f ∙ ap (looked_of (looked_in f)) (read_on command a.looked a.stream (stream_in f) last k r)))
    (lines_look a.looked (looked_in f) h (module_lines k.0) k.2 last)
needing_looks command a f h k (Err stop) r =
    subst (λ z. Longer stop.looked z) (sym (looks_in command f ∙ ap (looked_of (looked_in f)) (read_kept command a.looked a.stream (stream_in f) stop k r))) (longer_refl stop.looked)

same_looks : (command : Command) (e f : Reached) → e ≡ f → Longer (looks_of command e) (looks_of command f)
same_looks command e f h = subst (λ z. Longer (looks_of command e) (looks_of command z)) h (longer_refl (looks_of command e))

stopped_looks : (command : Command) (cause : Cause) (a : Stop) (f : Reached) → StopStays cause a f → Longer (looks_of command (Stopped a)) (looks_of command f)
stopped_looks command (Faulty x) a f h = same_looks command (Stopped a) f h
stopped_looks command OutOfMemory a f h = same_looks command (Stopped a) f h
stopped_looks command (Needs path) a f h = needing_looks command a f h.0 h.1 (read_stream command a.stream) refl

looks_grow : (command : Command) (e f : Reached) → RunStays e f → Longer (looks_of command e) (looks_of command f)
looks_grow command (Going s) f h = same_looks command (Going s) f h
looks_grow command (Stopped a) f h = stopped_looks command a.cause a f h

pub longer_begins : (paths others : List (List ℕ)) → Longer paths others → Begins paths others
longer_begins paths others h = subst (λ z. Begins paths z) (sym h.1) (take-append_seam paths h.0)

pub begins_longer : (paths others : List (List ℕ)) → Begins paths others → Longer paths others
begins_longer paths others h = (drop (length paths) others, sym (take-append-drop (length paths) others) ∙ ap (λ z. z ++ drop (length paths) others) h)

pub looked_grows : (X : Type 0) (view : View X) → LookedGrows X view
looked_grows X view files more settings (JobIs.Refused x) extends = refl
looked_grows X view files more settings (JobIs.Run command) extends =
    let setup : Setup = record { settings = settings; command = command } in
    longer_begins (looks_of command (full view files setup)) (looks_of command (full view more setup))
    (looks_grow command (full view files setup) (full view more setup) (full_grows X view files more extends setup).2)

-- ## The path that is needed

not_known : {A : Type 0} (end : UnitEnd) (path : List ℕ) → Known end ≡ Unread path → A
not_known end path h = absurd (subst IsUnread (sym h) tt)

stop_needs : {X : Type 0} (files : FileMap X) (path : List ℕ) (looked : List (List ℕ)) (cause : Cause) (r : Result Builder ModuleStop) → StopFits files cause looked →
    fault_or (answer_of cause) r ≡ Unread path → LacksLast files path (looked_of looked r)
stop_needs files path looked cause (Err stop) fits h = not_known (Ends.Stopped stop.fault) path h
stop_needs files path looked (Faulty x) (Ok b) fits h = not_known (Ends.Stopped x) path h
stop_needs files path looked OutOfMemory (Ok b) fits h = not_known Ends.NoMemory path h
stop_needs files path looked (Needs needed) (Ok b) fits h = let same : needed ≡ path = cc in subst (λ z. LacksLast files z looked) same fits

record_known : {A : Type 0} (path : List ℕ) (r : Result Builder ModuleStop) → record_of r ≡ Unread path → A
record_known path (Ok b) h = not_known (Ends.Record b.so_far) path h
record_known path (Err stop) h = not_known (Ends.Stopped stop.fault) path h

run_needs : {X : Type 0} (files : FileMap X) (command : Command) (path : List ℕ) (e : Reached) → RunFits files e → end_of command e ≡ Unread path →
    LacksLast files path (looks_of command e)
run_needs files command path (Going s) fits h = record_known path (read_stream command s.stream) h
run_needs files command path (Stopped a) fits h = stop_needs files path a.looked a.cause (read_stream command a.stream) fits h

pub needs_last : (X : Type 0) (view : View X) → NeedsLast X view
needs_last X view files settings (JobIs.Refused x) path h = not_known (Ends.Refused x) path h
needs_last X view files settings (JobIs.Run command) path h =
    let setup : Setup = record { settings = settings; command = command } in
    run_needs files command path (full view files setup) (full_grows X view files files (λ path content h. h) setup).3 h
