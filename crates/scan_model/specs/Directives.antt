-- What a line that begins with `#` does ([cpp.pre]).
use Rattle.std.specs.Prelude.{ℕ, Bool, true, false, not, ◌&&◌, ◌||◌, nat_le, if◌then◌else◌, List, [], ◌∷◌, Option, Some, None}
use Rattle.std.specs.List.{list_all}
use Rattle.std.specs.Char.{is_ascii_digit}
use Rattle.scan_model.specs.declared.token.Kind.TheVariants.{Ident, Number}
use Rattle.scan_model.specs.declared.token.Tok.{Tok}
use Rattle.scan_model.specs.declared.token.Line.{Line}
use Rattle.scan_model.specs.declared.command.Dialect.{Dialect}
use Rattle.scan_model.specs.declared.command.Dialect.TheVariants.{Cxx20, Cxx23}
use Rattle.scan_model.specs.declared.directive.Directive.{Directive}
use Rattle.scan_model.specs.declared.directive.Directive.TheVariants.{If, Ifdef, Ifndef, Elif, Elifdef, Elifndef, Else, Endif, Define, Undef, Include, IncludeNext, Renumber, Error, Pragma, Nothing, Unknown}
use Rattle.scan_model.specs.declared.macros.Def.{Def}
use Rattle.scan_model.specs.Spelling.{spells, is_one_of, is_ident}
use Rattle.scan_model.specs.TokenTests.{is_of, is_word, is_open_paren, is_close_paren, is_plain_string, unquoted}
use Rattle.scan_model.specs.Macros.{Macros, define, undef, push, pop}
use Rattle.scan_model.specs.MacroDefinition.{read_define}
use Rattle.scan_model.specs.Expansion.{also}
use Rattle.scan_model.specs.Literals.{number_of}
use Rattle.scan_model.specs.Files.{FileMap}
use Rattle.scan_model.specs.Site.{renumbered}
use Rattle.scan_model.specs.State.{Setup, Core}
use Rattle.scan_model.specs.Effect.{Effect, Now, stop}
use Rattle.scan_model.specs.Replacing.{with_replaced}
use Rattle.scan_model.specs.Includes.{include_line}
use Rattle.scan_model.specs.Conditionals.{opened, with_defined, else_line, opened_skipped, elif_line, elifdef_line, elifndef_line, is_skipped, with_condition, endif_line}
use Rattle.scan_model.specs.declared.expansion.Mode.TheVariants as ModeIs
use Rattle.scan_model.specs.declared.unit_end.FaultKind.TheVariants as FaultIs

-- ## Definitions, numbers and pragmas

abbrev pub defined : {X : Type 0} → Core → Line → Option (List ℕ × Def) → Effect X
defined c l None = stop FaultIs.BadDefine c l
defined c l (Some found) = Now (record c { macros = define c.macros found.0 found.1 })

abbrev pub undef_line : {X : Type 0} → Core → Line → List Tok → Effect X
undef_line c l [] = stop FaultIs.BadDefine c l
undef_line c l (t ∷ ts) =
    if is_of Ident t then Now (record c { macros = undef c.macros t.text }) else stop FaultIs.BadDefine c l

abbrev pub is_line_number : Tok → Bool
is_line_number t = is_of Number t && list_all is_ascii_digit t.text && nat_le (number_of 10 t.text) 2147483647

-- the next source line gets this number
abbrev pub numbered : {X : Type 0} → Core → Line → List ℕ → List ℕ → Effect X
numbered c l number file = Now (record c { site = renumbered (number_of 10 number) file l.next })

abbrev pub line_set : {X : Type 0} → Core → Line → List Tok → Effect X
line_set c l [] = stop FaultIs.BadLine c l
line_set c l (t ∷ []) = if is_line_number t then numbered c l t.text c.site.file else stop FaultIs.BadLine c l
line_set c l (t ∷ u ∷ ts) = if is_line_number t && is_plain_string u then numbered c l t.text u.text else stop FaultIs.BadLine c l

-- the name in `("X")`
abbrev pub quoted_name : List Tok → Option (List ℕ)
quoted_name (p ∷ t ∷ q ∷ ts) = let name = unquoted t.text in
    if is_open_paren p && is_plain_string t && is_close_paren q && is_ident name then Some name else None
quoted_name ts = None

abbrev pub with_macros : {X : Type 0} → Core → (Macros → List ℕ → Macros) → Option (List ℕ) → Effect X
with_macros c change None = Now c
with_macros c change (Some name) = Now (record c { macros = change c.macros name })

abbrev pub pragma_line : {X : Type 0} → Core → List Tok → Effect X
pragma_line c [] = Now c
pragma_line c (t ∷ ts) =
    if is_word "once" t then Now (record c { once = also c.path c.once })
    else if is_word "push_macro" t then with_macros c push (quoted_name ts)
    else if is_word "pop_macro" t then with_macros c pop (quoted_name ts)
    else Now c

-- ## The directive's word

-- one of C++23 alone
abbrev pub from_cxx23 : Dialect → Directive → Directive
from_cxx23 Cxx20 directive = Unknown
from_cxx23 Cxx23 directive = directive

abbrev pub directive_of : Dialect → List Tok → Directive
directive_of dialect [] = Nothing
directive_of dialect (t ∷ ts) =
    if is_of Number t || is_one_of ("warning" ∷ "ident" ∷ []) t.text then Nothing
    else if spells "if" t.text then If else if spells "ifdef" t.text then Ifdef else if spells "ifndef" t.text then Ifndef
    else if spells "elif" t.text then Elif else if spells "else" t.text then Else else if spells "endif" t.text then Endif
    else if spells "elifdef" t.text then from_cxx23 dialect Elifdef else if spells "elifndef" t.text then from_cxx23 dialect Elifndef
    else if spells "define" t.text then Define else if spells "undef" t.text then Undef
    else if spells "include" t.text then Include else if spells "include_next" t.text then IncludeNext
    else if spells "line" t.text then Renumber else if spells "error" t.text then Error else if spells "pragma" t.text then Pragma
    else Unknown

-- what a directive other than a conditional does, outside skipped groups
abbrev pub plain_line : {X : Type 0} → FileMap X → Setup → Core → Line → List Tok → Directive → Effect X
plain_line files setup c l ts Define = defined c l (read_define ts)
plain_line files setup c l ts Undef = undef_line c l ts
plain_line files setup c l ts Include = include_line false files setup c l ts
plain_line files setup c l ts IncludeNext = include_line true files setup c l ts
plain_line files setup c l ts Renumber = with_replaced ModeIs.Line c l ts (line_set c l)
plain_line files setup c l ts Error = stop FaultIs.ErrorDirective c l
plain_line files setup c l ts Pragma = pragma_line c ts
plain_line files setup c l ts Unknown = stop FaultIs.UnknownDirective c l
plain_line files setup c l ts other = Now c

abbrev pub hash_line : {X : Type 0} → FileMap X → Setup → Core → Line → List Tok → Directive → Effect X
hash_line files setup c l ts If = let chosen = with_condition files setup c l ts (opened l) in
    if is_skipped c.stack then opened_skipped l c else chosen
hash_line files setup c l ts Ifdef = let chosen = with_defined c l ts (opened l) in
    if is_skipped c.stack then opened_skipped l c else chosen
hash_line files setup c l ts Ifndef = let chosen = with_defined c l ts (λ yields. opened l (not yields)) in
    if is_skipped c.stack then opened_skipped l c else chosen
hash_line files setup c l ts Elif = elif_line files setup c l ts c.stack
hash_line files setup c l ts Elifdef = elifdef_line c l ts c.stack
hash_line files setup c l ts Elifndef = elifndef_line c l ts c.stack
hash_line files setup c l ts Else = else_line c l c.stack
hash_line files setup c l ts Endif = endif_line c l c.stack
hash_line files setup c l ts other = let plain = plain_line files setup c l ts other in
    if is_skipped c.stack then Now c else plain
