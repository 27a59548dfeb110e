-- A unit that begins.
use Rattle.std.proofs.Common.{◌≡◌, ℕ, ◌+◌, List, [], length, refl, ap, ◌∙◌}
use Rattle.std.specs.Prelude.{Some, None}
use Rattle.std.specs.declared.result.Result.TheVariants.{Ok}
use Rattle.scan_model.specs.declared.token.Line.{Line}
use Rattle.scan_model.specs.declared.unit_end.FaultKind.TheVariants as FaultIs
use Rattle.scan_model.specs.ModuleLines.{new}
use Rattle.scan_model.specs.Files.{FileMap}
use Rattle.scan_model.specs.State.{Setup, Reached, then_go}
use Rattle.scan_model.specs.Stream.{read_stream}
use Rattle.scan_model.specs.WholeUnit.{full, first_state, predefines, set_all}
use Rattle.scan_model.specs.Answer.{end_of, looks_of}
use Rattle.unit_steps.specs.Stack.{Setting_from, as_they_are, main_file, forced_files, rest_of_all}
use Rattle.unit_steps.specs.Searches.{first_search}
use Rattle.unit_steps.specs.Moments.{first_moment, goes_on}
use Rattle.unit_steps.specs.Stands.{IsReached, Stands}
use Rattle.unit_steps.proofs.Reaching.{three_within}

reached_by : (files : FileMap (List Line)) (setup : Setup) (r : Reached) → full as_they_are files setup ≡ r → IsReached files setup r
reached_by files setup r e = (ap (end_of setup.command) e, ap (looks_of setup.command) e)

full_by_parts : (files : FileMap (List Line)) (setup : Setup) →
    full as_they_are files setup ≡
    then_go (rest_of_all files setup (Setting_from 1 setup.command.settings) [])
    (predefines as_they_are files setup setup.settings.predefines (first_state setup.command.dialect))
unfolding full
full_by_parts files setup = three_within (main_file files setup) (forced_files files setup (length setup.command.settings + 1) setup.command.forced)
    (set_all files setup 1 setup.command.settings) (predefines as_they_are files setup setup.settings.predefines (first_state setup.command.dialect))

nothing_read : (setup : Setup) → read_stream setup.command [] ≡ Ok (new setup.command.output setup.command.source)
unfolding read_stream
nothing_read setup = refl

-- where there are no predefines
pub starts_alone : (setup : Setup) → setup.settings.predefines ≡ None → Stands setup (first_moment setup None) []
starts_alone setup none files kept agree = record {
  state = first_state setup.command.dialect;
  core = refl;
  reads = nothing_read setup;
  directives = tt;
  reached = reached_by files setup (goes_on files setup (Setting_from 1 setup.command.settings) [] None (first_state setup.command.dialect))
      (full_by_parts files setup
      ∙ ap (λ p. then_go (rest_of_all files setup (Setting_from 1 setup.command.settings) []) (predefines as_they_are files setup p (first_state setup.command.dialect))) none);
}

-- where there are, they are looked for first
pub starts_with_predefines : (setup : Setup) (path : List ℕ) → setup.settings.predefines ≡ Some path →
    Stands setup (first_moment setup (Some (first_search FaultIs.IncludeNotFound path))) []
starts_with_predefines setup path some files kept agree = record {
  state = first_state setup.command.dialect;
  core = refl;
  reads = nothing_read setup;
  directives = tt;
  reached = reached_by files setup
      (goes_on files setup (Setting_from 1 setup.command.settings) [] (Some (first_search FaultIs.IncludeNotFound path)) (first_state setup.command.dialect))
      (full_by_parts files setup
      ∙ ap (λ p. then_go (rest_of_all files setup (Setting_from 1 setup.command.settings) []) (predefines as_they_are files setup p (first_state setup.command.dialect))) some);
}
