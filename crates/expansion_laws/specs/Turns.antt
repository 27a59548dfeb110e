-- The turns of an expansion.
use Rattle.std.specs.Prelude.{◌≡◌, ℕ, ◌+◌, ◌-◌, ◌≤◌, List, [], ◌∷◌, map, length, Option}
use Rattle.scan_model.specs.declared.token.Tok.{Tok}
use Rattle.scan_model.specs.declared.macros.Def.{Def}
use Rattle.scan_model.specs.declared.expansion.Site.{Site}
use Rattle.scan_model.specs.declared.expansion.Mode.{Mode}
use Rattle.scan_model.specs.Substitution.{Marked, no_name}
use Rattle.scan_model.specs.Expansion.{Scope, cost_limit, Ran, Went, first_and_rest, expand_up_to, first_counter, answer_of, expand}

-- no turn is wanting: more of them give the same expansion
abbrev pub MoreTurns : Type 0
MoreTurns = (e : Scope) (ms : List Marked) (cost counter more : ℕ) → cost ≤ cost_limit →
    expand_up_to (length ms + 1 + (cost_limit - cost) + more) e ms cost counter ≡ expand_up_to (length ms + 1 + (cost_limit - cost)) e ms cost counter

-- so an expansion is what any larger number of turns gives
abbrev pub ExpandsInFull : Type 0
ExpandsInFull = (defs : List ℕ → Option Def) (site : Site) (mode : Mode) (toks : List Tok) (more : ℕ) →
    expand defs site mode toks ≡
    answer_of (expand_up_to (length toks + 1 + cost_limit + more) (record { defs = defs; site = site; mode = mode })
    (map (λ t. record { tok = t; hides = no_name }) toks) 0 (first_counter mode))

-- ## The same without a count of turns

-- what becomes of a list with as many turns as it needs
unfoldable pub expands : Scope → List Marked → ℕ → ℕ → Ran
expands e ms cost counter = expand_up_to (length ms + 1 + (cost_limit - cost)) e ms cost counter

abbrev pub EndsWithNothing : Type 0
EndsWithNothing = (e : Scope) (cost counter : ℕ) → expands e [] cost counter ≡ Went [] cost counter

-- while the cost is within the limit
abbrev pub TakesTheFirst : Type 0
TakesTheFirst = (e : Scope) (m : Marked) (ms : List Marked) (cost counter : ℕ) → cost ≤ cost_limit →
    expands e (m ∷ ms) cost counter ≡ first_and_rest (expands e) e m ms cost counter

abbrev pub ExpandsTheList : Type 0
ExpandsTheList = (defs : List ℕ → Option Def) (site : Site) (mode : Mode) (toks : List Tok) →
    expand defs site mode toks ≡
    answer_of (expands (record { defs = defs; site = site; mode = mode }) (map (λ t. record { tok = t; hides = no_name }) toks) 0 (first_counter mode))
