-- The directive of a line that begins with `#` is that of the tokens after it ([cpp.pre]).
use Rattle.std.proofs.Common.{◌≡◌, true, List, [], ◌∷◌, drop, refl}
use Rattle.scan_model.specs.declared.token.Tok.{Tok}
use Rattle.scan_model.specs.declared.command.Dialect.{Dialect}
use Rattle.scan_model.specs.Spelling.{is_one_of}
use Rattle.scan_model.specs.TokenTests.{begins_with}
use Rattle.scan_model.specs.Directives.{directive_of}
use Rattle.scan_model.specs.Skips.{directive_in}

pub directive_after : (dialect : Dialect) (toks : List Tok) → begins_with (λ t. is_one_of ("#" ∷ "%:" ∷ []) t.text) toks ≡ true → directive_in dialect toks ≡ directive_of dialect (drop 1 toks)
directive_after dialect [] h = cc
directive_after dialect (t ∷ ts) h = rw h refl
