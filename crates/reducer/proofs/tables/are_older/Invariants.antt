use Rattle.std.proofs.Common.{◌≡◌, map, take}
use Rattle.scan_model.specs.declared.command.Dialect.TheVariants.{Cxx20}
use Rattle.reducer.specs.DirectiveWords.{in_dialect}
use Rattle.reducer.proofs.tables.are_older.Given as goal

abbrev pub invariant-loop-directive : goal.invariant-loop-directive
invariant-loop-directive l = map (in_dialect Cxx20) (take l.directive-index l.directives) ≡ take l.directive-index l.directives
