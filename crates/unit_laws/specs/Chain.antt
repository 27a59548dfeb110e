-- The places that files have in the chain of folders.
use Rattle.std.specs.Prelude.{◌≡◌, ℕ, ◌+◌, List, map, drop, length, Some}
use Rattle.scan_model.specs.declared.command.Form.{Form}
use Rattle.scan_model.specs.declared.command.Form.TheVariants.{Next}
use Rattle.scan_model.specs.declared.command.SearchList.{SearchList}
use Rattle.scan_model.specs.Candidates.{candidates, place, placed, place_in}
use Rattle.scan_model.specs.Files.{FileMap, Content, At, find, looked_at}

-- the paths that have places are the candidates, in the same order
abbrev pub PlacedAreCandidates : Type 0
PlacedAreCandidates = (list : SearchList) (program : List (List ℕ)) (form : Form) (from name : List ℕ) →
    map (λ p. p.0) (placed list program form from name) ≡ candidates list program form from name

-- a file that is found has the place that the last candidate gives that was looked at
abbrev pub FoundPlace : Type 0 → Type 0
FoundPlace X = (files : FileMap X) (list : SearchList) (program : List (List ℕ)) (form : Form) (from name path : List ℕ) (content : Content X) (k : ℕ) →
    find files (candidates list program form from name) ≡ At path content →
    length (looked_at files (candidates list program form from name)) ≡ k + 1 →
    place_in (placed list program form from name) path ≡ place list form name k

-- From the place on that a candidate gives, the same name is looked for at the candidates behind that one.
abbrev pub NextGoesOn : Type 0
NextGoesOn = (list : SearchList) (program : List (List ℕ)) (form : Form) (from other name : List ℕ) (k n : ℕ) → place list form name k ≡ Some n →
    candidates list program (Next n) other name ≡ drop (k + 1) (candidates list program form from name)
