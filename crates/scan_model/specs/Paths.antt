-- Paths as texts, and their normal form. Two files are the same where their normal paths are equal.
use Rattle.std.specs.Prelude.{◌≡◌, ℕ, Bool, true, false, not, ◌==◌, if◌then◌else◌, List, [], ◌∷◌, ◌++◌, codes, filter}
use Rattle.std.specs.List.{list_any, slice_split, join_with_byte, before_last}

-- `/`
abbrev pub is_slash : ℕ → Bool
is_slash c = c == 47

-- a segment that stays: neither empty nor `.`
abbrev pub is_kept : List ℕ → Bool
is_kept [] = false
is_kept (c ∷ []) = not (c == 46)
is_kept (c ∷ d ∷ cs) = true

-- the segments that stay, `..` among them
abbrev pub segments : List ℕ → List (List ℕ)
segments path = filter is_kept (slice_split is_slash path)

-- it begins with `/`
abbrev pub is_absolute : List ℕ → Bool
is_absolute [] = false
is_absolute (c ∷ cs) = is_slash c

-- the path of these segments, from the root or not
abbrev pub path_of : Bool → List (List ℕ) → List ℕ
path_of true parts = 47 ∷ join_with_byte 47 parts
path_of false [] = codes "."
path_of false (part ∷ parts) = join_with_byte 47 (part ∷ parts)

-- the normal form: empty segments and `.` are dropped
unfoldable pub normal : List ℕ → List ℕ
normal path = path_of (is_absolute path) (segments path)

abbrev pub IsNormal : List ℕ → Type 0
IsNormal path = normal path ≡ path

-- the name by itself where it is absolute, and else below the base
unfoldable pub join : List ℕ → List ℕ → List ℕ
join base name = if is_absolute name then normal name else normal (base ++ 47 ∷ name)

abbrev pub or_root : List ℕ → List ℕ
or_root [] = codes "/"
or_root (c ∷ cs) = c ∷ cs

-- a normal path without its last segment: `.` where it has no `/`, and `/` where its only `/` is first
unfoldable pub folder : List ℕ → List ℕ
folder path = if list_any is_slash path then or_root (before_last is_slash path) else codes "."
