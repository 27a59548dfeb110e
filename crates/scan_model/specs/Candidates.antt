-- Where a header's name is looked for, in order ([cpp.include]).
use Rattle.std.specs.Prelude.{ℕ, zero, suc, ◌+◌, if◌then◌else◌, List, [], ◌∷◌, ◌++◌, map, drop, length, Option, Some, None}
use Rattle.scan_model.specs.declared.command.Form.{Form}
use Rattle.scan_model.specs.declared.command.Form.TheVariants.{Quoted, Angled, Next}
use Rattle.scan_model.specs.declared.command.SearchList.{SearchList}
use Rattle.scan_model.specs.TokenTests.{same}
use Rattle.scan_model.specs.Paths.{is_absolute, normal, join}

-- `-I`, `-isystem`, the program's folders, and `-idirafter`
abbrev pub angled_folders : SearchList → List (List ℕ) → List (List ℕ)
angled_folders list program = list.angled ++ list.system ++ program ++ list.after

-- the chain: all folders that a command or the program names, numbered from 0
abbrev pub chain : SearchList → List (List ℕ) → List (List ℕ)
chain list program = list.quote ++ angled_folders list program

-- a quoted name is looked for in the including file's folder and in those of `-iquote` first
abbrev pub folders : SearchList → List (List ℕ) → Form → List ℕ → List (List ℕ)
folders list program Angled from = angled_folders list program
folders list program Quoted from = from ∷ list.quote ++ angled_folders list program
folders list program (Next n) from = drop n (chain list program)

-- every path at which the name is looked for: an absolute name by itself, and any other below each folder
unfoldable pub candidates : SearchList → List (List ℕ) → Form → List ℕ → List ℕ → List (List ℕ)
candidates list program form from name =
    if is_absolute name then normal name ∷ [] else map (λ folder. join folder name) (folders list program form from)

-- ## Places

-- A file that is found in a folder of the chain has as its place in the chain the number of the next folder. One that
-- is found in the including file's folder, or by an absolute name, has none.
abbrev pub folder_place : SearchList → Form → ℕ → Option ℕ
folder_place list Angled k = Some (length list.quote + k + 1)
folder_place list Quoted zero = None
folder_place list Quoted (suc k) = Some (k + 1)
folder_place list (Next n) k = Some (n + k + 1)

-- the place that the k-th candidate gives
unfoldable pub place : SearchList → Form → List ℕ → ℕ → Option ℕ
place list form name k = if is_absolute name then None else folder_place list form k

-- paths, each with what it gives; they are numbered from k on
abbrev pub numbered : {Y : Type 0} → (ℕ → Y) → ℕ → List (List ℕ) → List (List ℕ × Y)
numbered gives k [] = []
numbered gives k (path ∷ paths) = (path, gives k) ∷ numbered gives (k + 1) paths

-- every path at which the name is looked for, with the place that it gives
unfoldable pub placed : SearchList → List (List ℕ) → Form → List ℕ → List ℕ → List (List ℕ × Option ℕ)
placed list program form from name = numbered (place list form name) 0 (candidates list program form from name)

-- What the first of these paths gives that is this one. A file is found at the first path that isn't absent, so none
-- before it is the same.
unfoldable pub place_in : List (List ℕ × Option ℕ) → List ℕ → Option ℕ
place_in [] path = None
place_in (p ∷ ps) path = let later = place_in ps path in if same p.0 path then p.1 else later
