-- What parentheses enclose, in lists of anything that has a token.
use Rattle.std.specs.Prelude.{ℕ, ◌+◌, ◌-◌, ◌&&◌, ◌==◌, if◌then◌else◌, List, [], ◌∷◌, Option, Some, None}
use Rattle.std.specs.Option.{option_map}
use Rattle.scan_model.specs.declared.token.Tok.{Tok}
use Rattle.scan_model.specs.TokenTests.{is_open_paren, is_close_paren}

-- how many parentheses are open after the token; one that closes none changes nothing
abbrev pub depth_after : Tok → ℕ → ℕ
depth_after t depth = if is_open_paren t then depth + 1 else if is_close_paren t then depth - 1 else depth

-- what an open parenthesis encloses, its closing one, and what follows
pub record Enclosed (X : Type 0) : Type 0 where
  pub inside : List X
  pub close : X
  pub after : List X

abbrev pub onto_inside : {X : Type 0} → X → Enclosed X → Enclosed X
onto_inside x e = record e { inside = x ∷ e.inside }

-- what an open parenthesis right before the list encloses, where `depth` more are open; none where it isn't closed
abbrev pub enclosed : {X : Type 0} → (X → Tok) → ℕ → List X → Option (Enclosed X)
enclosed tok depth [] = None
enclosed tok depth (x ∷ xs) =
    let further = option_map (onto_inside x) (enclosed tok (depth_after (tok x) depth) xs) in
    if depth == 0 && is_close_paren (tok x) then Some (record { inside = []; close = x; after = xs }) else further

-- the same for a parenthesis that begins the list; none where none does
abbrev pub in_parens : {X : Type 0} → (X → Tok) → List X → Option (Enclosed X)
in_parens tok [] = None
in_parens tok (x ∷ xs) = let e = enclosed tok 0 xs in if is_open_paren (tok x) then e else None
