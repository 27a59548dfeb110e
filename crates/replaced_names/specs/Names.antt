-- Identifiers in macro replacement.
use Rattle.std.specs.Prelude.{◌≡◌, ℕ, List, Option, IfSome, All}
use Rattle.scan_model.specs.declared.token.Tok.{Tok}
use Rattle.scan_model.specs.declared.macros.Def.{Def}
use Rattle.scan_model.specs.declared.macros.Def.TheVariants.{Object, Function, BuiltIn}
use Rattle.scan_model.specs.declared.expansion.Site.{Site}
use Rattle.scan_model.specs.declared.expansion.Mode.{Mode}
use Rattle.scan_model.specs.declared.expansion.Expanded.TheVariants.{Done}
use Rattle.scan_model.specs.Macros.{Macros}
use Rattle.scan_model.specs.Expansion.{expand}
use Rattle.scan_model.specs.Utf8Names.{HaveUtf8Names}

-- the text of each identifier of the replacement list is well-formed UTF-8
abbrev pub HasUtf8Body : Def → Type 0
HasUtf8Body (Object body) = HaveUtf8Names body
HasUtf8Body (Function f) = HaveUtf8Names f.body
HasUtf8Body (BuiltIn b) = Unit {0}

-- so it is in each definition
abbrev pub HaveUtf8Bodies : (List ℕ → Option Def) → Type 0
HaveUtf8Bodies defs = (name : List ℕ) → IfSome (defs name) HasUtf8Body

-- and in each saved one
pub record IsUtf8Map (m : Macros) : Type 0 where
  pub current : HaveUtf8Bodies m.defs
  pub saved : (name : List ℕ) → All (λ def. IfSome def HasUtf8Body) (m.saved name)

-- so it is in what tokens are replaced to
abbrev pub NamesStay : Type 0
NamesStay = (defs : List ℕ → Option Def) (site : Site) (mode : Mode) (toks out : List Tok) (counter : ℕ) →
    HaveUtf8Bodies defs → HaveUtf8Names toks → expand defs site mode toks ≡ Done out counter → HaveUtf8Names out
