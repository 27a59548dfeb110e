-- What a worker keeps of its answers.
use Rattle.std.specs.Prelude.{◌≡◌, ◌⊎◌, ℕ, List, map, Some, if◌then◌else◌}
use Rattle.std.specs.Map.{lookup}
use Rattle.std.specs.declared.alloc.Global.{Global}
use Rattle.std.specs.declared.vec.Vec.{Vec}
use Rattle.byte_keys.specs.Maps.{entry_by}
use Rattle.scan_model.specs.declared.token.Line.{Line}
use Rattle.scan_model.specs.Files.{Content, FileMap}
use Rattle.scan_model.specs.TokenTests.{same}
use Rattle.reducer.specs.declared.Answer.{Answer}
use Rattle.reducer.specs.Answers.{content_of}

-- the answers by their paths
abbrev pub entries : List (Vec ℕ Global × Answer) → List (List ℕ × Content (List Line))
entries es = map (entry_by content_of) es

-- what is kept of a path
unfoldable pub known_to : List (List ℕ × Content (List Line)) → FileMap (List Line)
known_to memo path = lookup (same path) memo

-- nothing has changed, or this is kept of the path too
abbrev pub IsKnownFurther : List (List ℕ × Content (List Line)) → List ℕ → Content (List Line) → List (List ℕ × Content (List Line)) → Type 0
IsKnownFurther old path content new =
    (new ≡ old) ⊎ ((other : List ℕ) → known_to new other ≡ (if same path other then Some content else known_to old other))
