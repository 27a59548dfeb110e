-- A pragma by its first word ([cpp.pragma]).
use Rattle.std.specs.Prelude.{ℕ, if◌then◌else◌, List, [], ◌∷◌}
use Rattle.std.specs.Borrow.{Bor}
use Rattle.scan_model.specs.declared.token.Tok.{Tok}
use Rattle.scan_model.specs.declared.token.Kind.TheVariants.{Ident}
use Rattle.scan_model.specs.Spelling.{spells}
use Rattle.scan_model.specs.TokenTests.{is_of}
use Rattle.plain_lines.specs.declared.pragmas.Pragma.{Pragma}
use Rattle.plain_lines.specs.declared.pragmas.Pragma.TheVariants.{Once, PushMacro, PopMacro, Other}

abbrev pub pragma_spelled : List ℕ → Pragma
pragma_spelled word =
    if spells "once" word then Once else if spells "push_macro" word then PushMacro else if spells "pop_macro" word then PopMacro else Other

abbrev pub pragma_of : List Tok → Pragma
pragma_of [] = Other
pragma_of (t ∷ ts) = let spelled = pragma_spelled t.text in if is_of Ident t then spelled else Other

-- the bytes, wherever they lie in memory
abbrev pub now_of : Bor (List ℕ) → List ℕ
now_of b = b.now
