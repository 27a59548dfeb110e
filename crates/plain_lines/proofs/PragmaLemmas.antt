-- A pragma by its word ([cpp.pragma]).
use Rattle.std.proofs.Common.{◌≡◌, ℕ, Bool, true, false, cond, List, [], ◌∷◌, drop, refl}
use Rattle.scan_model.specs.declared.token.Kind.TheVariants.{Ident}
use Rattle.scan_model.specs.declared.token.Tok.{Tok}
use Rattle.scan_model.specs.declared.token.Line.{Line}
use Rattle.std.specs.Prelude.{◌&&◌}
use Rattle.scan_model.specs.Spelling.{spells}
use Rattle.scan_model.specs.TokenTests.{is_of}
use Rattle.scan_model.specs.Macros.{push, pop}
use Rattle.scan_model.specs.Expansion.{also}
use Rattle.scan_model.specs.State.{Core}
use Rattle.scan_model.specs.Effect.{Effect, Now}
use Rattle.scan_model.specs.Directives.{quoted_name, with_macros, pragma_line}
use Rattle.plain_lines.specs.declared.pragmas.Pragma.{Pragma}
use Rattle.plain_lines.specs.declared.pragmas.Pragma.TheVariants.{Once, PushMacro, PopMacro, Other}
use Rattle.plain_lines.proofs.ConditionLemmas.{now}
use Rattle.plain_lines.specs.Pragmas.{pragma_spelled, pragma_of}

abbrev pub on_pragma : Core → List Tok → Pragma → Effect (List Line)
on_pragma c ts Once = Now (record c { once = also c.path c.once })
on_pragma c ts PushMacro = with_macros c push (quoted_name ts)
on_pragma c ts PopMacro = with_macros c pop (quoted_name ts)
on_pragma c ts Other = Now c

by_tests : (c : Core) (ts : List Tok) (ident once pushes pops : Bool) →
    cond (ident && once) (now (record c { once = also c.path c.once })) (cond (ident && pushes) (with_macros c push (quoted_name ts)) (cond (ident && pops) (with_macros c pop (quoted_name ts)) (now c)))
    ≡ on_pragma c ts (cond ident (cond once Once (cond pushes PushMacro (cond pops PopMacro Other))) Other)
by_tests c ts false once pushes pops = refl
by_tests c ts true true pushes pops = refl
by_tests c ts true false true pops = refl
by_tests c ts true false false true = refl
by_tests c ts true false false false = refl

pub pragma_by : (c : Core) (ts : List Tok) → pragma_line c ts ≡ on_pragma c (drop 1 ts) (pragma_of ts)
pragma_by c [] = refl
pragma_by c (t ∷ ts) = by_tests c ts (is_of Ident t) (spells "once" t.text) (spells "push_macro" t.text) (spells "pop_macro" t.text)
