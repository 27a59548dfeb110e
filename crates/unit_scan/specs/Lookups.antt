-- What a unit looks for, as a search of the definitions.
use Rattle.std.specs.Prelude.{◌≡◌, ℕ, ◌+◌, ◌<◌, ◌≤◌, Bool, List, [], ◌∷◌, reverse, drop, take, length, IsTrue, is_some, Some}
use Rattle.std.specs.Option.{option_map, option_map_or}
use Rattle.scan_model.specs.declared.token.Tok.{Tok}
use Rattle.scan_model.specs.declared.token.Line.{Line}
use Rattle.scan_model.specs.declared.unit_end.Place.{Place}
use Rattle.scan_model.specs.declared.unit_end.FaultKind.{FaultKind}
use Rattle.scan_model.specs.declared.unit_end.FaultKind.TheVariants as FaultIs
use Rattle.scan_model.specs.HeaderName.{Term, Named, terms}
use Rattle.scan_model.specs.State.{Setup}
use Rattle.scan_model.specs.Search.{searched, place_searched}
use Rattle.scan_model.specs.Conditionals.{Opening, opening_of}
use Rattle.unit_laws.specs.Reduction.{Given}
use Rattle.if_values.specs.Known.{has_count}
use Rattle.plain_lines.specs.Conditions.{test_count}
use Rattle.unit_steps.specs.Stack.{Frame, current}
use Rattle.unit_steps.specs.Searches.{Aim, Included, Tested, Search, first_search, name_search}
use Rattle.unit_steps.specs.Stands.{AreAbsent, IsCandidate}
use Rattle.unit_scan.specs.declared.parts.OpenFile.{OpenFile}
use Rattle.unit_scan.specs.declared.parts.Run.{Run}
use Rattle.unit_scan.specs.declared.stage.FirstFile.{FirstFile}
use Rattle.unit_scan.specs.declared.stage.FirstFile.TheVariants.{Predefines, Main}
use Rattle.unit_scan.specs.declared.stage.Testing.{Testing}
use Rattle.unit_scan.specs.declared.stage.Purpose.{Purpose}
use Rattle.unit_scan.specs.declared.stage.Purpose.TheVariants as PurposeIs
use Rattle.unit_scan.specs.declared.stage.Name.{Name}
use Rattle.unit_scan.specs.declared.stage.Lookup.{Lookup}
use Rattle.unit_scan.specs.declared.stage.Lookup.TheVariants.{First, Named as ByName}
use Rattle.unit_scan.specs.Parts.{present, told}

-- ## First files

abbrev pub missing_of : FirstFile → FaultKind
missing_of Predefines = FaultIs.IncludeNotFound
missing_of Main = FaultIs.MainMissing

abbrev pub first_path : Setup → FirstFile → List ℕ
first_path setup Predefines = option_map_or (λ path. path) setup.settings.predefines []
first_path setup Main = setup.command.main

-- ## Conditions

-- the terms of the tokens from a place on
abbrev pub terms_from : List Tok → ℕ → List Term
terms_from toks k = option_map_or (λ ts. ts) (terms (drop k toks)) []

-- the answers so far, the last one first
abbrev pub so_far : Testing → List Bool
so_far t = reverse t.so_far.items

abbrev pub opening : List Frame → Testing → Opening
opening frames t = opening_of t.is_elif (current frames).groups

-- ## Names

abbrev pub named : Name → Named
named n = record { form = n.form; name = n.text; after = [] }

abbrev pub place_at : List Frame → ℕ → Place
place_at frames line = record { path = (current frames).path; line = line }

abbrev pub aim_of : Setup → List Frame → Line → Name → Purpose → Aim
aim_of setup frames l n PurposeIs.Included = Included (place_searched setup (named n) n.from)
aim_of setup frames l n (PurposeIs.Tested t) = Tested l (opening frames t) (so_far t) (terms_from t.toks t.next) t.toks

abbrev pub search_of : Setup → List Frame → Line → Lookup → Search
search_of setup frames l (First first) = first_search (missing_of first) (first_path setup first)
search_of setup frames l (ByName n purpose) = name_search (aim_of setup frames l n purpose) setup (place_at frames n.line) (named n) n.from n.next

-- the paths after the one that is asked
abbrev pub paths_after : Setup → Lookup → List (List ℕ)
paths_after setup (First first) = []
paths_after setup (ByName n purpose) = drop (n.next + 1) (searched setup (named n) n.from)

-- ## What they keep

-- a file is at the top, and a line of it was taken
abbrev pub HasTaken : List OpenFile → Type 0
HasTaken files = (f : OpenFile) × ((fs : List OpenFile) × ((reverse files ≡ f ∷ fs) × (0 < f.next)))

-- a condition of the line that was taken last, whose tests from the present place on are left; `waiting` more tests have no
-- answer yet
pub record IsTesting (run : Run) (t : Testing) (waiting : ℕ) : Type 0 where
  pub taken : HasTaken run.stack.items
  pub within : t.next ≤ length t.toks
  pub formed : IsTrue (is_some (terms (drop t.next t.toks)))
  pub entries : option_map has_count (terms t.toks) ≡ Some (length t.so_far.items + waiting + has_count (terms_from t.toks t.next))
  pub tests : run.tests ≡ test_count (terms_from t.toks t.next)

abbrev pub IsFor : Setup → Run → Name → Purpose → Type 0
IsFor setup run n PurposeIs.Included = Unit {0}
IsFor setup run n (PurposeIs.Tested t) = IsTesting run t 1 × (n.line ≡ (present (told run) run.stack.items).line)

-- there is such a file
abbrev pub IsFirst : Setup → FirstFile → Type 0
IsFirst setup Predefines = IsTrue (is_some setup.settings.predefines)
IsFirst setup Main = Unit {0}

abbrev pub IsLookup : Setup → Run → Lookup → Type 0
IsLookup setup run (First first) = IsFirst setup first
IsLookup setup run (ByName n purpose) = IsFor setup run n purpose

-- the candidates before the present one are absent
abbrev pub AbsentSoFar : Setup → List (List ℕ × Given) → Lookup → Type 0
AbsentSoFar setup answers (First first) = Unit {0}
AbsentSoFar setup answers (ByName n purpose) = AreAbsent answers (take n.next (searched setup (named n) n.from))

-- the path is the one that is asked
abbrev pub IsAsked : Setup → List (List ℕ × Given) → Lookup → List ℕ → Type 0
IsAsked setup answers (First first) path = path ≡ first_path setup first
IsAsked setup answers (ByName n purpose) path = IsCandidate setup answers (named n) n.from n.next path
