-- What goes on from a moment has the paths and the lines of the moment, and maybe more.
use Rattle.std.proofs.Common.{◌≡◌, ℕ, ◌+◌, List, [], ◌∷◌, length, ap, sym, ◌∙◌, subst}
use Rattle.std.specs.declared.result.Result.TheVariants.{Ok}
use Rattle.scan_model.specs.declared.token.Line.{Line}
use Rattle.scan_model.specs.declared.command.Command.{Command}
use Rattle.scan_model.specs.declared.unit_end.FaultKind.TheVariants as FaultIs
use Rattle.scan_model.specs.Files.{FileMap}
use Rattle.scan_model.specs.ModuleLines.{Builder}
use Rattle.scan_model.specs.State.{Setup, State, Reached, then_go}
use Rattle.scan_model.specs.Stream.{Piece, module_lines, read_stream}
use Rattle.scan_model.specs.WholeFile.{full_lines}
use Rattle.scan_model.specs.Answer.{looks_of, looked_of}
use Rattle.unit_laws.specs.Growth.{Extends}
use Rattle.unit_laws.proofs.GrowthLemmas.{Longer, RunGrows, Onward, looked_in, stream_in, run_stays, then_grows, lines_grow, enter_grows, file_ends}
use Rattle.unit_laws.proofs.GrowingAnswers.{first_grows, set_all_grows, force_all_grows, looks_in, read_on, lines_look}
use Rattle.unit_steps.specs.Stack.{Frame, Top, Setting_from, Forced_from, Nothing_more, current, within, as_they_are, rest_of_all, entering, closing, main_file, forced_files}

pub same_map : (files : FileMap (List Line)) → Extends (List Line) files files
same_map files path content h = h

pub rest_grows : (files : FileMap (List Line)) (setup : Setup) (top : Top) (fs : List Frame) (s : State) →
    RunGrows files s.core.looked s.stream (rest_of_all files setup top fs s) (rest_of_all files setup top fs s)
rest_grows files setup (Setting_from number settings) [] s =
    then_grows files s.core.looked s.stream (main_file files setup) (main_file files setup) (first_grows (List Line) as_they_are files files (same_map files) setup FaultIs.MainMissing setup.command.main) _ _
    (then_grows files s.core.looked s.stream (forced_files files setup (length setup.command.settings + 1) setup.command.forced) (forced_files files setup (length setup.command.settings + 1) setup.command.forced)
    (force_all_grows (List Line) as_they_are files files (same_map files) setup (length setup.command.settings + 1) setup.command.forced) _ _
    (set_all_grows (List Line) as_they_are files files (same_map files) setup number settings s))
rest_grows files setup (Forced_from number names) [] s =
    then_grows files s.core.looked s.stream (main_file files setup) (main_file files setup) (first_grows (List Line) as_they_are files files (same_map files) setup FaultIs.MainMissing setup.command.main) _ _
    (force_all_grows (List Line) as_they_are files files (same_map files) setup number names s)
rest_grows files setup Nothing_more [] s = run_stays files s
rest_grows files setup top (f ∷ fs) s =
    let E = entering files setup top (f ∷ fs) in
    let R = rest_of_all files setup top fs in
    let C = closing files setup fs in
    then_grows files s.core.looked s.stream R R (rest_grows files setup top fs) (then_go C (full_lines E files setup f.rest s)) (then_go C (full_lines E files setup f.rest s))
    (then_grows files s.core.looked s.stream C C (λ last. file_ends files (within (current fs) last.core) last) (full_lines E files setup f.rest s) (full_lines E files setup f.rest s)
    (lines_grow (List Line) files E E files (same_map files) setup (enter_grows (List Line) files as_they_are files (same_map files) setup _) f.rest s))

pub rest_onward : (files : FileMap (List Line)) (setup : Setup) (top : Top) (fs : List Frame) (s : State) → Onward s.core.looked s.stream (rest_of_all files setup top fs s)
rest_onward files setup top fs s = let h = rest_grows files setup top fs s in (h.0, h.1)

-- what is looked at begins with what was looked at before
pub looks_onward : (command : Command) (looked : List (List ℕ)) (stream : List Piece) (b : Builder) (f : Reached) → read_stream command stream ≡ Ok b → Onward looked stream f →
    Longer looked (looks_of command f)
looks_onward command looked stream b f reads h =
    subst (λ z. Longer looked z) (sym (looks_in command f ∙ ap (looked_of (looked_in f)) (read_on command looked stream (stream_in f) b h.1 reads)))
    (lines_look looked (looked_in f) h.0 (module_lines h.1.0) h.1.2 b)
