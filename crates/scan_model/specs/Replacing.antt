-- The tokens of a directive replaced ([cpp.replace]).
use Rattle.std.specs.Prelude.{List}
use Rattle.scan_model.specs.declared.token.Tok.{Tok}
use Rattle.scan_model.specs.declared.token.Line.{Line}
use Rattle.scan_model.specs.declared.expansion.Mode.{Mode}
use Rattle.scan_model.specs.declared.expansion.Expanded.{Expanded}
use Rattle.scan_model.specs.declared.expansion.Expanded.TheVariants as Gives
use Rattle.scan_model.specs.declared.unit_end.FaultKind.TheVariants as FaultIs
use Rattle.scan_model.specs.Expansion.{expand}
use Rattle.scan_model.specs.State.{Core}
use Rattle.scan_model.specs.Effect.{Effect, stop}

-- the tokens replaced, and then what `further` makes of them
abbrev pub on_expanded : {X : Type 0} → Core → Line → (List Tok → Effect X) → Expanded → Effect X
on_expanded c l further (Gives.Done toks counter) = further toks
on_expanded c l further Gives.Bad = stop FaultIs.ExpansionFault c l
on_expanded c l further Gives.TooLong = stop FaultIs.ExpansionTooLong c l
on_expanded c l further Gives.Counter = stop FaultIs.CounterUsed c l

abbrev pub with_replaced : {X : Type 0} → Mode → Core → Line → List Tok → (List Tok → Effect X) → Effect X
with_replaced mode c l toks further = on_expanded c l further (expand c.macros.defs c.site mode toks)
