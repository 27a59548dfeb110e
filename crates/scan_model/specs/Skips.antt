-- Where the lines after a conditional's line lead, when its group isn't taken ([cpp.cond]).
use Rattle.std.specs.Prelude.{ℕ, ◌+◌, Bool, true, false, if◌then◌else◌, List, [], ◌∷◌, drop}
use Rattle.scan_model.specs.declared.token.Tok.{Tok}
use Rattle.scan_model.specs.declared.token.Line.{Line}
use Rattle.scan_model.specs.declared.command.Dialect.{Dialect}
use Rattle.scan_model.specs.declared.skip.Skip.{Skip}
use Rattle.scan_model.specs.declared.skip.Skip.TheVariants.{Partner, Broken, Open}
use Rattle.scan_model.specs.Spelling.{is_one_of}
use Rattle.scan_model.specs.declared.directive.Directive.{Directive}
use Rattle.scan_model.specs.declared.directive.Directive.TheVariants.{If, Ifdef, Ifndef, Elif, Elifdef, Elifndef, Else, Endif, Nothing}
use Rattle.scan_model.specs.Directives.{directive_of}

-- an open conditional inside: the place of the line that opened it; its `#else` has come
pub record Nested : Type 0 where
  pub opener : ℕ
  pub past_else : Bool

-- what a line makes of the conditionals that are open inside, the innermost first: it leaves these, or it ends the search
pub data Step : Type 0 where
  Leaves : List Nested → Step
  Ends : Skip → Step

-- a next group of the innermost one, at the place j
abbrev pub next_group_of : ℕ → Nested → Step → Step
next_group_of j g goes = if g.past_else then Ends (Broken j) else goes

abbrev pub step : ℕ → List Nested → Directive → Step
step j inside If = Leaves (record { opener = j; past_else = false } ∷ inside)
step j inside Ifdef = Leaves (record { opener = j; past_else = false } ∷ inside)
step j inside Ifndef = Leaves (record { opener = j; past_else = false } ∷ inside)
step j [] Elif = Ends (Partner j)
step j [] Elifdef = Ends (Partner j)
step j [] Elifndef = Ends (Partner j)
step j [] Else = Ends (Partner j)
step j [] Endif = Ends (Partner j)
step j (g ∷ gs) Elif = next_group_of j g (Leaves (g ∷ gs))
step j (g ∷ gs) Elifdef = next_group_of j g (Leaves (g ∷ gs))
step j (g ∷ gs) Elifndef = next_group_of j g (Leaves (g ∷ gs))
step j (g ∷ gs) Else = next_group_of j g (Leaves (record g { past_else = true } ∷ gs))
step j (g ∷ gs) Endif = Leaves gs
step j inside other = Leaves inside

-- the directive of a line, Nothing where it doesn't begin with `#`
abbrev pub directive_in : Dialect → List Tok → Directive
directive_in dialect [] = Nothing
directive_in dialect (t ∷ ts) = if is_one_of ("#" ∷ "%:" ∷ []) t.text then directive_of dialect ts else Nothing

-- a line whose group may be skipped
abbrev pub begins_group : Directive → Bool
begins_group If = true
begins_group Ifdef = true
begins_group Ifndef = true
begins_group Elif = true
begins_group Elifdef = true
begins_group Elifndef = true
begins_group Else = true
begins_group other = false

-- the end of the lines, of which k is the line before the first
abbrev pub at_end : ℕ → List Nested → Skip
at_end k [] = Open k
at_end k (g ∷ gs) = Open g.opener

abbrev pub after_step : (List Nested → Skip) → Step → Skip
after_step further (Leaves inside) = further inside
after_step further (Ends skip) = skip

-- over the lines from the place j on
abbrev pub skip_from : Dialect → ℕ → ℕ → List Nested → List Line → Skip
skip_from dialect k j inside [] = at_end k inside
skip_from dialect k j inside (l ∷ ls) =
    after_step (λ inside. skip_from dialect k (j + 1) inside ls) (step j inside (directive_in dialect l.toks))

-- over the lines after the one at the place k
unfoldable pub skip : List Line → ℕ → Dialect → Skip
skip ls k dialect = skip_from dialect k (k + 1) [] (drop (k + 1) ls)
