-- Small units to compute: their files, their commands and how they end.
use Rattle.std.proofs.Common.{ℕ, List, [], ◌∷◌, map, Bool, codes}
use Rattle.std.specs.Prelude.{if◌then◌else◌, Some, None}
use Prim.Native.String.{String}
use Rattle.scan_model.specs.declared.token.Tok.{Tok}
use Rattle.scan_model.specs.declared.unit_end.FaultKind.{FaultKind}
use Rattle.scan_model.specs.declared.unit_end.UnitEnd.TheVariants as Ends
use Rattle.scan_model.specs.declared.command.Command.{Command}
use Rattle.scan_model.specs.declared.command.Dialect.TheVariants.{Cxx20, Cxx23}
use Rattle.scan_model.specs.declared.command.Setting.{Setting}
use Rattle.scan_model.specs.declared.command.Settings.{Settings}
use Rattle.scan_model.specs.declared.command.Job.TheVariants as JobIs
use Rattle.scan_model.specs.Spelling.{spells}
use Rattle.scan_model.specs.Lines.{lines}
use Rattle.scan_model.specs.Files.{FileMap, Content, Present, Absent}
use Rattle.scan_model.specs.State.{Reached, Going, Stopped}
use Rattle.scan_model.specs.Stream.{stream_tokens}
use Rattle.scan_model.specs.WholeUnit.{full}
use Rattle.scan_model.specs.Answer.{Answer, Known, answer, looked}

-- ## Files: these texts at these paths, and every other path absent

abbrev pub files_of : List (String × String) → FileMap (List ℕ)
files_of [] path = Some Absent
files_of (f ∷ fs) path = let later = files_of fs path in if spells f.0 path then Some (Present (codes f.1)) else later

-- the same map with another outcome at this path
abbrev pub except : String → Content (List ℕ) → FileMap (List ℕ) → FileMap (List ℕ)
except name content files path = if spells name path then Some content else files path

-- the same map without this path
abbrev pub lacking : String → FileMap (List ℕ) → FileMap (List ℕ)
lacking name files path = if spells name path then None else files path

-- ## Commands

-- the command that scans `/p/u.cpp` and nothing else
abbrev pub plain : Command
plain = record {
  directory = codes "/p";
  main = codes "/p/u.cpp";
  source = codes "/p/u.cpp";
  output = codes "u.o";
  settings = [];
  forced = [];
  search = record { quote = []; angled = []; system = []; after = [] };
  dialect = Cxx20;
}

abbrev pub with_folder : String → Command
with_folder folder = record plain { search = record { quote = []; angled = codes folder ∷ []; system = []; after = [] } }

abbrev pub with_folders : List String → Command
with_folders folders = record plain { search = record { quote = []; angled = map codes folders; system = []; after = [] } }

-- the same command in C++23
abbrev pub in_cxx23 : Command → Command
in_cxx23 command = record command { dialect = Cxx23 }

abbrev pub with_settings : List Setting → Command
with_settings settings = record plain { settings = settings }

abbrev pub with_forced : List Setting → List String → Command
with_forced settings names = record plain { settings = settings; forced = map codes names }

abbrev pub no_settings : Settings
no_settings = record { predefines = None; program = [] }

-- ## How a unit ends, and what it looks at

abbrev pub ends_by : FileMap (List ℕ) → Command → Answer
ends_by files command = answer files no_settings (JobIs.Run command)

-- a unit of these files
abbrev pub ends_with : List (String × String) → Answer
ends_with files = ends_by (files_of files) plain

-- a unit of one file
abbrev pub ends : String → Answer
ends text = ends_with (("/p/u.cpp", text) ∷ [])

-- the same in C++23
abbrev pub ends_in_cxx23 : String → Answer
ends_in_cxx23 text = ends_by (files_of (("/p/u.cpp", text) ∷ [])) (in_cxx23 plain)

abbrev pub looks_by : FileMap (List ℕ) → Command → List (List ℕ)
looks_by files command = looked files no_settings (JobIs.Run command)

abbrev pub looks_with : List (String × String) → List (List ℕ)
looks_with files = looks_by (files_of files) plain

abbrev pub requiring : List String → Answer
requiring names = Known (Ends.Record (record { output = codes "u.o"; source = codes "/p/u.cpp"; provides = None; required = map codes names }))

abbrev pub providing : String → Bool → List String → Answer
providing name interface names = Known (Ends.Record (record {
  output = codes "u.o";
  source = codes "/p/u.cpp";
  provides = Some (record { name = codes name; interface = interface });
  required = map codes names;
}))

abbrev pub stops_at : FaultKind → String → ℕ → Answer
stops_at kind path line = Known (Ends.Stopped (record { kind = kind; place = record { path = codes path; line = line } }))

-- in the main file
abbrev pub stops : FaultKind → ℕ → Answer
stops kind line = stops_at kind "/p/u.cpp" line

-- ## The stream

abbrev text_of : (List ℕ × Tok) → List ℕ
text_of p = p.1.text

abbrev tokens_of : Reached → List (List ℕ)
tokens_of (Going s) = map text_of (stream_tokens s.stream)
tokens_of (Stopped s) = codes "stopped" ∷ []

-- the spellings that phase 4 leaves of a unit of one file
abbrev pub leaves : String → List (List ℕ)
leaves text = tokens_of (full lines (files_of (("/p/u.cpp", text) ∷ [])) (record { settings = no_settings; command = plain }))
