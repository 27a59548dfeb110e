-- Tokens that are settled one after another, each in its place.
use Rattle.std.specs.Prelude.{◌≡◌, ℕ, ◌+◌, ◌*◌, ◌≤◌, Bool, true, not, ◌&&◌, if◌then◌else◌, List, [], ◌∷◌, ◌++◌, map, length, Option, Some, None, is_some}
use Rattle.scan_model.specs.declared.token.Kind.TheVariants.{Ident}
use Rattle.scan_model.specs.declared.token.Tok.{Tok}
use Rattle.scan_model.specs.declared.expansion.Expanded.{Expanded}
use Rattle.scan_model.specs.declared.expansion.Expanded.TheVariants as Gives
use Rattle.scan_model.specs.Spelling.{spells}
use Rattle.scan_model.specs.TokenTests.{is_of, is_paste, is_open_paren, is_close_paren}
use Rattle.scan_model.specs.Substitution.{Marked, no_name}
use Rattle.scan_model.specs.Expansion.{Scope, Ran, Went, Failed, cost_limit, in_condition, first_counter, expand}
use Rattle.expansion_laws.specs.Turns.{expands}
use Rattle.expansion.specs.declared.straight.Step.{Step}

-- the token, which may be replaced
abbrev pub mark : Tok → Marked
mark t = record { tok = t; hides = no_name }

abbrev pub marks : List Tok → List Marked
marks toks = map (λ t. record { tok = t; hides = no_name }) toks

-- the answer, where these tokens went out before
abbrev pub answer_after : List Tok → Ran → Expanded
answer_after before (Went ms cost counter) = Gives.Done (before ++ map (λ m. m.tok) ms) counter
answer_after before (Failed answer) = answer

-- What comes of a list begins with one token, at a further cost of two at most, and then comes what comes of the tokens
-- that are left. They are no more than these.
pub record Settles (e : Scope) (ran : ℕ → ℕ → Ran) (rest : List Tok) (step : Step) : Type 0 where
  pub cost : ℕ
  pub little : cost ≤ 2
  pub fewer : length step.left.now ≤ length rest
  pub same : (paid counter : ℕ) (before : List Tok) → paid + 2 ≤ cost_limit →
      answer_after before (ran paid counter) ≡ answer_after (before ++ step.tok ∷ []) (expands e (marks step.left.now) (paid + cost) counter)

-- of these tokens, some have given those that went out, and these are left
pub record Settled (e : Scope) (toks out left : List Tok) : Type 0 where
  pub cost : ℕ
  pub little : cost + 2 * length left ≤ 2 * length toks
  pub same : expand e.defs e.site e.mode toks ≡ answer_after out (expands e (marks left) cost (first_counter e.mode))

-- the token goes out as it is, wherever it stands, and whichever names it hides
abbrev pub stays : Scope → Tok → Bool
stays e t =
    let named = not (in_condition e.mode && spells "defined" t.text) && not (is_some (e.defs t.text)) in
    not (is_paste t) && (if is_of Ident t then named else true)

-- a name in parentheses, the first of which is this token, and what follows
abbrev pub in_parens_after : Tok → List Tok → Option (List ℕ × List Tok)
in_parens_after t [] = None
in_parens_after t (name ∷ []) = None
in_parens_after t (name ∷ close ∷ left) =
    if is_open_paren t && is_of Ident name && is_close_paren close then Some (name.text, left) else None

-- the name that stands first, or in parentheses, and what follows
abbrev pub name_after : List Tok → Option (List ℕ × List Tok)
name_after [] = None
name_after (t ∷ left) = if is_of Ident t then Some (t.text, left) else in_parens_after t left
