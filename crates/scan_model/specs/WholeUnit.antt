-- The whole of a command's unit, through phases 1 to 4 ([lex.phases]).
use Rattle.std.specs.Prelude.{ℕ, ◌+◌, false, ◌==◌, if◌then◌else◌, List, [], ◌∷◌, ◌++◌, length, Option, Some, None, codes}
use Rattle.scan_model.specs.declared.token.Line.{Line}
use Rattle.scan_model.specs.declared.unit_end.FaultKind.{FaultKind}
use Rattle.scan_model.specs.declared.command.Form.TheVariants.{Quoted}
use Rattle.scan_model.specs.declared.unit_end.Place.{Place}
use Rattle.scan_model.specs.declared.command.Setting.{Setting}
use Rattle.scan_model.specs.declared.command.Dialect.{Dialect}
use Rattle.scan_model.specs.HeaderName.{Named}
use Rattle.scan_model.specs.Lines.{lines}
use Rattle.scan_model.specs.Macros.{first_macros}
use Rattle.scan_model.specs.Files.{FileMap}
use Rattle.scan_model.specs.State.{Setup, Core, State, Reached, Going, then_go}
use Rattle.scan_model.specs.Site.{first_site}
use Rattle.scan_model.specs.Effect.{Enters, halted, done, fault, stop_at}
use Rattle.scan_model.specs.Search.{with_found, searched, place_searched}
use Rattle.scan_model.specs.Includes.{include}
use Rattle.scan_model.specs.WholeFile.{View, full_line, enter_at_depth}
use Rattle.scan_model.specs.declared.unit_end.FaultKind.TheVariants as FaultIs
use Rattle.scan_model.specs.declared.command.Setting.TheVariants as SettingIs

abbrev pub command_line : List ℕ
command_line = codes "<command line>"

abbrev pub first_core : Dialect → Core
first_core dialect = record {
  path = command_line;
  site = first_site command_line;
  chain_place = None;
  stack = [];
  macros = first_macros dialect;
  once = λ path. false;
  entered = 0;
  looked = [];
}

abbrev pub first_state : Dialect → State
first_state dialect = record { core = first_core dialect; run = []; counter = 0; stream = [] }

abbrev pub command_place : ℕ → Place
command_place number = record { path = command_line; line = number }

-- the predefines or the main file, which has no place in the chain; a fault of finding or entering it has line 0
abbrev pub first_file : {X : Type 0} → View X → FileMap X → Setup → FaultKind → List ℕ → State → Reached
first_file view files setup missing path s = let place : Place = record { path = path; line = 0 } in
    done (enter_at_depth view files setup 0) s (with_found files place (path ∷ []) s.core (stop_at missing place) (λ path. Enters place path None))

abbrev pub predefines : {X : Type 0} → View X → FileMap X → Setup → Option (List ℕ) → State → Reached
predefines view files setup None s = Going s
predefines view files setup (Some path) s = first_file view files setup FaultIs.IncludeNotFound path s

-- ## `-D`, `-U` and `-include`, numbered from 1 on

abbrev pub setting_text : Setting → List ℕ
setting_text (SettingIs.Define text) = codes "#define " ++ text
setting_text (SettingIs.Undef text) = codes "#undef " ++ text

abbrev pub set_first : {X : Type 0} → FileMap X → Setup → ℕ → List Line → State → Reached
set_first files setup number [] s = Going s
set_first files setup number (l ∷ ls) s =
    full_line (λ place path chain_place text s. Going s) files setup s (record l { line = number; next = number + 1 })

abbrev pub set_all : {X : Type 0} → FileMap X → Setup → ℕ → List Setting → State → Reached
set_all files setup number [] s = Going s
set_all files setup number (setting ∷ rest) s =
    then_go (set_all files setup (number + 1) rest) (set_first files setup number (lines (setting_text setting)) s)

abbrev pub force : {X : Type 0} → View X → FileMap X → Setup → ℕ → List ℕ → State → Reached
force view files setup number name s =
    let named : Named = record { form = Quoted; name = name; after = [] } in
    let found = done (enter_at_depth view files setup 1) s (include files (command_place number)
    (searched setup named setup.command.directory) (place_searched setup named setup.command.directory) s.core) in
    if length name == 0 then halted (fault FaultIs.IncludeSyntax (command_place number)) s.core.looked s else found

abbrev pub force_all : {X : Type 0} → View X → FileMap X → Setup → ℕ → List (List ℕ) → State → Reached
force_all view files setup number [] s = Going s
force_all view files setup number (name ∷ names) s =
    then_go (force_all view files setup (number + 1) names) (force view files setup number name s)

-- the predefines file, the settings, the forced files, the main file
unfoldable pub full : {X : Type 0} → View X → FileMap X → Setup → Reached
full view files setup =
    let c = setup.command in
    then_go (first_file view files setup FaultIs.MainMissing c.main)
    (then_go (force_all view files setup (length c.settings + 1) c.forced)
    (then_go (set_all files setup 1 c.settings)
    (predefines view files setup setup.settings.predefines (first_state c.dialect))))
