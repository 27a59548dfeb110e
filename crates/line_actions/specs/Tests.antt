-- The tests that a condition asks for, one after another ([cpp.cond]).
use Rattle.std.specs.Prelude.{◌≡◌, ℕ, ◌<◌, ◌≤◌, List, [], ◌∷◌, drop, length, Option, Some, None}
use Rattle.scan_model.specs.declared.token.Tok.{Tok}
use Rattle.scan_model.specs.HeaderName.{Term, Has, terms}
use Rattle.line_actions.specs.declared.conditions.Test.{Test}
use Rattle.plain_lines.specs.Conditions.{from_first_test}

-- The first test of the terms from this place on, and the terms after it; or there is none.
abbrev pub Finds : List Tok → ℕ → Option Test → Type 0
Finds toks from None = (ts : List Term) × ((terms (drop from toks) ≡ Some ts) × (from_first_test ts ≡ []))
Finds toks from (Some test) =
    (ts : List Term) × ((rest : List Term) × (
    (terms (drop from toks) ≡ Some ts) × (from_first_test ts ≡ Has test.next test.form test.name ∷ rest)
    × (terms (drop test.past toks) ≡ Some rest) × (from < test.past) × (test.past ≤ length toks)
    ))
