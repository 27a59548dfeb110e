-- Replaced tokens, or the fault of replacing them ([cpp.replace]).
use Rattle.std.specs.Prelude.{List}
use Rattle.std.specs.declared.result.Result.{Result}
use Rattle.std.specs.declared.result.Result.TheVariants.{Ok, Err}
use Rattle.scan_model.specs.declared.token.Tok.{Tok}
use Rattle.scan_model.specs.declared.expansion.Expanded.{Expanded}
use Rattle.scan_model.specs.declared.expansion.Expanded.TheVariants as Gives
use Rattle.scan_model.specs.declared.unit_end.FaultKind.{FaultKind}
use Rattle.scan_model.specs.declared.unit_end.FaultKind.TheVariants as FaultIs

abbrev pub outcome : Expanded → Result (List Tok) FaultKind
outcome (Gives.Done toks counter) = Ok toks
outcome Gives.Bad = Err FaultIs.ExpansionFault
outcome Gives.TooLong = Err FaultIs.ExpansionTooLong
outcome Gives.Counter = Err FaultIs.CounterUsed
