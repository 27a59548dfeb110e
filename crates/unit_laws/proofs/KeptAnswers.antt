-- The answer over whole files is that over their kept lines.
use Rattle.std.proofs.Common.{◌≡◌, ℕ, ◌+◌, ◌==◌, Bool, true, false, cond, if◌then◌else◌, List, [], ◌∷◌, length, refl, ap, sym, subst}
use Rattle.std.specs.Prelude.{Option, Some, None}
use Rattle.std.specs.Option.{option_map}
use Rattle.std.specs.List.{filter}
use Rattle.scan_model.specs.declared.token.Line.{Line}
use Rattle.scan_model.specs.declared.unit_end.Place.{Place}
use Rattle.scan_model.specs.declared.command.Setting.{Setting}
use Rattle.scan_model.specs.declared.command.Settings.{Settings}
use Rattle.scan_model.specs.declared.command.Command.{Command}
use Rattle.scan_model.specs.declared.command.Job.{Job}
use Rattle.scan_model.specs.declared.command.Job.TheVariants as JobIs
use Rattle.scan_model.specs.declared.command.Form.TheVariants.{Quoted}
use Rattle.scan_model.specs.declared.unit_end.FaultKind.{FaultKind}
use Rattle.scan_model.specs.declared.unit_end.FaultKind.TheVariants as FaultIs
use Rattle.scan_model.specs.Lines.{lines, kept, is_directive}
use Rattle.scan_model.specs.Files.{Content, Present, Absent, Failed, Big, NoMemory, FileMap}
use Rattle.scan_model.specs.State.{Setup, State, Reached, Going, Stopped}
use Rattle.scan_model.specs.Stream.{Piece, read_stream, take_lines}
use Rattle.scan_model.specs.Effect.{halted, done, fault, stop_at, Enters, Enter}
use Rattle.scan_model.specs.Conditionals.{is_skipped}
use Rattle.scan_model.specs.Search.{with_found, searched, place_searched}
use Rattle.scan_model.specs.HeaderName.{Named}
use Rattle.scan_model.specs.Includes.{include}
use Rattle.scan_model.specs.WholeFile.{View, full_line, joined, enter}
use Rattle.scan_model.specs.WholeUnit.{first_state, command_place, first_file, predefines, setting_text, set_first, set_all, force, force_all, full}
use Rattle.scan_model.specs.ModuleLines.{new}
use Rattle.scan_model.specs.Answer.{answer, looked, answer_by, looked_by, end_of, looks_of, answer_of, fault_or, record_of, looked_of}
use Rattle.unit_laws.specs.Reduction.{SameSent, Similar, Alike, SameContent, SameFiles, KeptAnswers, ReducedAnswers, reduced, reduced_content}
use Rattle.unit_laws.proofs.ReductionLemmas.{SameEffect, enter_alike, done_alike, directive_alike, line_of_text, alike_if, alike_go, same_with_found, same_include}

module _ (X Y : Type 0) (view : View X) (other : View Y) (files : FileMap X) (others : FileMap Y)
    (same : SameFiles X Y view other files others) (setup : Setup) where
  first_alike : (missing : FaultKind) (path : List ℕ) (s r : State) → Similar s r → Alike (first_file view files setup missing path s) (first_file other others setup missing path r)
  first_alike missing path s r k = let place : Place = record { path = path; line = 0 } in
      done_alike X Y view other (enter view files setup 201) (enter other others setup 201) (enter_alike setup 201 X Y view other files others same) s r k
      (with_found files place (path ∷ []) s.core (stop_at missing place) (λ path. Enters place path None)) (with_found others place (path ∷ []) r.core (stop_at missing place) (λ path. Enters place path None))
      (subst (λ c. SameEffect X Y view other (with_found files place (path ∷ []) s.core (stop_at missing place) (λ path. Enters place path None)) (with_found others place (path ∷ []) c (stop_at missing place) (λ path. Enters place path None))) k.0
      (same_with_found X Y view other files others same place (path ∷ []) s.core (stop_at missing place) (stop_at missing place) (λ path. Enters place path None) (λ path. Enters place path None)
      (λ c. (refl, refl)) (λ path x y c h. (refl, refl, refl, h, refl))))

  predefines_alike : (path : Option (List ℕ)) (s r : State) → Similar s r → Alike (predefines view files setup path s) (predefines other others setup path r)
  predefines_alike None s r k = k
  predefines_alike (Some path) s r k = first_alike FaultIs.IncludeNotFound path s r k

  abbrev stay : {Z : Type 0} → Enter Z
  stay place path chain_place text s = Going s

  text_both : (l : Line) (s r : State) → Similar s r → Alike (if is_skipped s.core.stack then Going s else Going (joined s l)) (if is_skipped r.core.stack then Going r else Going (joined r l))
  text_both l s r k = subst (λ c. Alike (if is_skipped s.core.stack then Going s else Going (joined s l)) (if is_skipped c.stack then Going r else Going (joined r l))) k.0
      (alike_if (is_skipped s.core.stack) (Going s) (Going (joined s l)) (Going r) (Going (joined r l)) k k)

  line_alike : (l : Line) (b : Bool) → is_directive l ≡ b → (s r : State) → Similar s r → Alike (full_line stay files setup s l) (full_line stay others setup r l)
  line_alike l true h s r k = directive_alike X Y view other stay stay files others same setup (λ place path chain_place x y s r h k. k) l h s r k
  line_alike l false h s r k =
      subst (λ q. Alike q (full_line stay others setup r l)) (sym (line_of_text X stay files setup s l h))
      (subst (λ q. Alike (if is_skipped s.core.stack then Going s else Going (joined s l)) q) (sym (line_of_text Y stay others setup r l h)) (text_both l s r k))

  set_first_alike : (number : ℕ) (ls : List Line) (s r : State) → Similar s r → Alike (set_first files setup number ls s) (set_first others setup number ls r)
  set_first_alike number [] s r k = k
  set_first_alike number (l ∷ ls) s r k = let m : Line = record l { line = number; next = number + 1 } in line_alike m (is_directive m) refl s r k

  set_all_alike : (number : ℕ) (settings : List Setting) (s r : State) → Similar s r → Alike (set_all files setup number settings s) (set_all others setup number settings r)
  set_all_alike number [] s r k = k
  set_all_alike number (setting ∷ rest) s r k =
      alike_go (set_all files setup (number + 1) rest) (set_all others setup (number + 1) rest) (set_all_alike (number + 1) rest)
      (set_first files setup number (lines (setting_text setting)) s) (set_first others setup number (lines (setting_text setting)) r)
      (set_first_alike number (lines (setting_text setting)) s r k)

  force_alike : (number : ℕ) (name : List ℕ) (s r : State) → Similar s r → Alike (force view files setup number name s) (force other others setup number name r)
  force_alike number name s r k =
      let named : Named = record { form = Quoted; name = name; after = [] } in
      let paths = searched setup named setup.command.directory in
      let places = place_searched setup named setup.command.directory in
      let place = command_place number in
      alike_if (length name == 0) (halted (fault FaultIs.IncludeSyntax place) s.core.looked s) (done (enter view files setup 200) s (include files place paths places s.core))
      (halted (fault FaultIs.IncludeSyntax place) r.core.looked r) (done (enter other others setup 200) r (include others place paths places r.core))
      (refl, ap (λ c. c.looked) k.0, k.1)
      (done_alike X Y view other (enter view files setup 200) (enter other others setup 200) (enter_alike setup 200 X Y view other files others same) s r k
      (include files place paths places s.core) (include others place paths places r.core)
      (subst (λ c. SameEffect X Y view other (include files place paths places s.core) (include others place paths places c)) k.0 (same_include X Y view other files others same place paths places s.core)))

  force_all_alike : (number : ℕ) (names : List (List ℕ)) (s r : State) → Similar s r → Alike (force_all view files setup number names s) (force_all other others setup number names r)
  force_all_alike number [] s r k = k
  force_all_alike number (name ∷ names) s r k =
      alike_go (force_all view files setup (number + 1) names) (force_all other others setup (number + 1) names) (force_all_alike (number + 1) names)
      (force view files setup number name s) (force other others setup number name r) (force_alike number name s r k)

  full_alike : Alike (full view files setup) (full other others setup)
  unfolding full
  full_alike =
      alike_go _ _ (first_alike FaultIs.MainMissing setup.command.main) _ _
      (alike_go _ _ (force_all_alike (length setup.command.settings + 1) setup.command.forced) _ _
      (alike_go _ _ (set_all_alike 1 setup.command.settings) _ _
      (predefines_alike setup.settings.predefines (first_state setup.command.dialect) (first_state setup.command.dialect) (refl, refl))))

same_read : (command : Command) (ps qs : List Piece) → SameSent ps qs → read_stream command ps ≡ read_stream command qs
unfolding read_stream
same_read command ps qs k = ap (λ ls. take_lines ls (new command.output command.source)) k

same_end : (command : Command) (e f : Reached) → Alike e f → (end_of command e ≡ end_of command f) × (looks_of command e ≡ looks_of command f)
same_end command (Going s) (Going r) k =
    (ap record_of (same_read command s.stream r.stream k.1), λ i. looked_of (k.0 i).looked (same_read command s.stream r.stream k.1 i))
same_end command (Stopped s) (Stopped r) k =
    ((λ i. fault_or (answer_of (k.0 i)) (same_read command s.stream r.stream k.2 i)), λ i. looked_of (k.1 i) (same_read command s.stream r.stream k.2 i))
same_end command (Going s) (Stopped r) k = absurd k
same_end command (Stopped s) (Going r) k = absurd k

pub same_answers : (X Y : Type 0) (view : View X) (other : View Y) (files : FileMap X) (others : FileMap Y) → SameFiles X Y view other files others →
    (settings : Settings) (job : Job) →
    (answer_by view files settings job ≡ answer_by other others settings job) × (looked_by view files settings job ≡ looked_by other others settings job)
same_answers X Y view other files others same settings (JobIs.Refused fault) = (refl, refl)
same_answers X Y view other files others same settings (JobIs.Run command) =
    same_end command (full view files (record { settings = settings; command = command })) (full other others (record { settings = settings; command = command }))
    (full_alike X Y view other files others same (record { settings = settings; command = command }))

filter_step : (test : Line → Bool) (l : Line) (ls : List Line) (b : Bool) → test l ≡ b → filter test ls ≡ ls → filter test (cond b (l ∷ ls) ls) ≡ cond b (l ∷ ls) ls
filter_step test l ls true e h = rw e (ap (l ∷◌) h)
filter_step test l ls false e h = h

filter_twice : (test : Line → Bool) (ls : List Line) → filter test (filter test ls) ≡ filter test ls
filter_twice test [] = refl
filter_twice test (l ∷ ls) = filter_step test l (filter test ls) (test l) refl (filter_twice test ls)

directives_of_kept : (bytes : List ℕ) → filter is_directive (kept bytes) ≡ filter is_directive (lines bytes)
unfolding kept
directives_of_kept bytes = filter_twice is_directive (lines bytes)

kept_content : (content : Option (Content (List ℕ))) → SameContent (List ℕ) (List ℕ) kept lines content content
kept_content None = tt
kept_content (Some (Present bytes)) = directives_of_kept bytes
kept_content (Some Absent) = tt
kept_content (Some Failed) = tt
kept_content (Some Big) = tt
kept_content (Some NoMemory) = tt

reduced_same : (content : Option (Content (List ℕ))) → SameContent (List Line) (List ℕ) (λ ls. ls) lines (option_map reduced_content content) content
reduced_same None = tt
reduced_same (Some (Present bytes)) = directives_of_kept bytes
reduced_same (Some Absent) = tt
reduced_same (Some Failed) = tt
reduced_same (Some Big) = tt
reduced_same (Some NoMemory) = tt

pub kept_answers : KeptAnswers
unfolding answer looked
kept_answers files settings job = same_answers (List ℕ) (List ℕ) kept lines files files (λ path. kept_content (files path)) settings job

pub reduced_answers : ReducedAnswers
unfolding answer looked
reduced_answers files settings job = same_answers (List Line) (List ℕ) (λ ls. ls) lines (reduced files) files (λ path. reduced_same (files path)) settings job
