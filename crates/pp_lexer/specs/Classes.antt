-- The kind of a token that a cursor has passed, by what is known of it.
use Rattle.std.specs.Prelude.{List, if◌then◌else◌}
use Rattle.scan_model.specs.declared.token.Kind.{Kind}
use Rattle.scan_model.specs.declared.token.Kind.TheVariants.{Ident, Punct}
use Rattle.scan_model.specs.Spliced.{Spot}
use Rattle.scan_model.specs.Spelling.{is_alternative}
use Rattle.scan_model.specs.Tokens.{bytes}
use Rattle.pp_lexer.specs.declared.class.Class.{Class}
use Rattle.pp_lexer.specs.declared.class.Class.TheVariants.{Name, Of}
use Rattle.pp_lexer.specs.declared.class.Passed.{Passed}
use Rattle.pp_lexer.specs.declared.lexeme.Found.{Found}
use Rattle.pp_lexer.specs.Reads.{passed, IsAhead}

abbrev pub told_kind : Class → List Spot → List Spot → Kind
told_kind Name before after = if is_alternative (bytes (passed before after)) then Punct else Ident
told_kind (Of kind) before after = kind

-- of a name the second cursor stands as far on as its spelling goes
abbrev pub HasPassed : Class → List Spot → List Spot → Type 0
HasPassed Name before after = IsAhead before after
HasPassed (Of kind) before after = Unit {0}

-- what has been found, with its kind
abbrev pub found_of : Passed → List Spot → List Spot → Found
found_of p before after = record { kind = told_kind p.class before after; spelling = p.spelling }
