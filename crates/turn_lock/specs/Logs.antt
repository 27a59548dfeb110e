-- How a log goes on: what one pass, one step and the whole life of a lock leave of it.
use Rattle.std.specs.Prelude.{◌≡◌, ◌≢◌, ◌⊎◌, ℕ, ◌<◌, List, [], ◌∷◌, ◌++◌, All}

module _ {E : Type 0} (maker : E → ℕ) where
  -- the log begins with what was seen, and no entry after it names the number
  abbrev pub Fits : ℕ → List E → List E → Type 0
  Fits number seen log = (rest : List E) × (log ≡ seen ++ rest) × All (λ e. maker e ≢ number) rest

  -- the log stays, or has one entry more, which names the number
  abbrev pub Follows : ℕ → List E → List E → Type 0
  Follows number before after = (after ≡ before) ⊎ ((e : E) × (after ≡ before ++ e ∷ []) × (maker e ≡ number))

  -- the log begins with the first, and each later entry names a number below the count
  abbrev pub Grown : ℕ → List E → List E → Type 0
  Grown count first log = (rest : List E) × (log ≡ first ++ rest) × All (λ e. maker e < count) rest

-- the log begins with the other
abbrev pub StartsWith : {E : Type 0} → List E → List E → Type 0
StartsWith {E} log other = (rest : List E) × (log ≡ other ++ rest)
