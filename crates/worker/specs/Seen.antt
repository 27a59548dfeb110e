-- What a worker's passes have seen of paths, and the answers that are kept of that.
use Rattle.std.specs.Prelude.{◌≡◌, ℕ, List, ◌++◌, Some}
use Rattle.std.specs.List.{AllByRecursion}
use Rattle.scan_model.specs.declared.Outcome.{Outcome}
use Rattle.scan_model.specs.declared.token.Line.{Line}
use Rattle.scan_model.specs.Files.{Content}
use Rattle.unit_laws.specs.Reduction.{Given}
use Rattle.cache_desk.specs.declared.entry.Entry.{Entry}
use Rattle.cache_desk.specs.Desk.{told}
use Rattle.shared_cache.specs.Cache.{HasSeen}
use Rattle.shared_cache.specs.Shared.{seen_of}
use Rattle.answer_memo.specs.Memo.{known_to}

-- a publication of the path was seen
abbrev pub HasPublication : List (List Entry) → List ℕ → Type 0
HasPublication seen path = (o : Outcome) × (b : List ℕ) × HasSeen (seen_of seen path) path o b

-- one that tells this content
abbrev pub IsSeen : List (List Entry) → List ℕ → Content (List Line) → Type 0
IsSeen seen path content = (o : Outcome) × (b : List ℕ) × HasSeen (seen_of seen path) path o b × (content ≡ told o b)

-- all that the memo has is what was seen
abbrev pub IsMemoOf : List (List Entry) → List (List ℕ × Content (List Line)) → Type 0
IsMemoOf seen memo = (path : List ℕ) (content : Content (List Line)) → known_to memo path ≡ Some content → IsSeen seen path content

-- each answer that a unit was given was seen
abbrev pub AreSeen : List (List Entry) → List (List ℕ × Given) → Type 0
AreSeen seen answers = AllByRecursion (λ a. IsSeen seen a.0 a.1) answers

-- what was seen of each shard goes on
abbrev pub SeesFurther : List (List Entry) → List (List Entry) → Type 0
SeesFurther before after = (path : List ℕ) → (rest : List Entry) × (seen_of after path ≡ seen_of before path ++ rest)
