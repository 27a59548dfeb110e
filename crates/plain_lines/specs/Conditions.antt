-- What a condition's value chooses, and what its tests ask for ([cpp.cond]).
use Rattle.std.specs.Prelude.{ℕ, ◌+◌, Bool, true, false, not, if◌then◌else◌, List, [], ◌∷◌, Option, Some, None, is_some}
use Rattle.scan_model.specs.declared.token.Kind.TheVariants.{Ident}
use Rattle.scan_model.specs.declared.token.Tok.{Tok}
use Rattle.scan_model.specs.declared.macros.Def.{Def}
use Rattle.scan_model.specs.TokenTests.{is_of}
use Rattle.scan_model.specs.HeaderName.{Term, Plain, Has}
use Rattle.scan_model.specs.State.{Group}

-- the open conditionals after the condition of an `#if` or `#elif`
abbrev pub chosen : ℕ → Bool → Bool → List Group → List Group
chosen line true yields (g ∷ gs) = record g { live = yields; taken = yields } ∷ gs
chosen line is_elif yields gs = record { line = line; live = yields; taken = yields; past_else = false } ∷ gs

-- whether the name that comes first is defined; none where no identifier does
abbrev pub known_name : (List ℕ → Option Def) → List Tok → Option Bool
known_name defs [] = None
known_name defs (t ∷ ts) = if is_of Ident t then Some (is_some (defs t.text)) else None

-- negated for `#ifndef` and its kin
abbrev pub turned : Bool → Bool → Bool
turned true b = not b
turned false b = b

-- the terms from the first test on
abbrev pub from_first_test : List Term → List Term
from_first_test [] = []
from_first_test (Plain t ∷ ts) = from_first_test ts
from_first_test (Has next form name ∷ ts) = Has next form name ∷ ts

-- how many tests there are
abbrev pub test_count : List Term → ℕ
test_count [] = 0
test_count (Plain t ∷ ts) = test_count ts
test_count (Has next form name ∷ ts) = 1 + test_count ts
