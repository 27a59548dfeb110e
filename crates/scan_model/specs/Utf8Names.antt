-- What module lines ask of the texts of tokens.
use Rattle.std.specs.Prelude.{List, All, IsTrue, IsUtf8}
use Rattle.scan_model.specs.declared.token.Kind.TheVariants.{Ident}
use Rattle.scan_model.specs.declared.token.Tok.{Tok}
use Rattle.scan_model.specs.TokenTests.{is_of}

-- an identifier's text is well-formed UTF-8
abbrev pub HasUtf8Name : Tok → Type 0
HasUtf8Name t = IsTrue (is_of Ident t) → IsUtf8 t.text

-- each identifier's text is well-formed UTF-8
abbrev pub HaveUtf8Names : List Tok → Type 0
HaveUtf8Names ts = All HasUtf8Name ts
