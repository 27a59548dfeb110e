-- The lists of a reduced text, and the tables that are made of them.
use Rattle.std.specs.Prelude.{ℕ, List, Option, Some, None}
use Rattle.std.specs.declared.alloc.Global.{Global}
use Rattle.std.specs.declared.sync.Arc.{Arc}
use Rattle.std.specs.declared.vec.Vec.{Vec}
use Rattle.scan_model.specs.declared.macros.Def.{Def}
use Rattle.scan_model.specs.declared.command.Dialect.{Dialect}
use Rattle.scan_model.specs.declared.command.Dialect.TheVariants.{Cxx20, Cxx23}
use Rattle.scan_model.specs.declared.skip.Skip.{Skip}
use Rattle.reducer.specs.declared.flat.TokRecord.{TokRecord}
use Rattle.reducer.specs.declared.flat.LineRecord.{LineRecord}
use Rattle.reducer.specs.FlatLines.{directives, AreKept}
use Rattle.reducer.specs.SkipTable.{AreSkips}
use Rattle.reducer.specs.Definitions.{AreDefinitions}

-- the dialect's list: C++20 has one of its own only where it differs
abbrev pub skips_in : Dialect → List Skip → Option (Vec Skip Global) → List Skip
skips_in Cxx23 skips older = skips
skips_in Cxx20 skips None = skips
skips_in Cxx20 skips (Some older) = older.items

pub record AreIndexed (spelled : List ℕ) (toks : List TokRecord) (lines : List LineRecord) (skips : List Skip) (older : Option (Vec Skip Global)) (defs : List (Option (Arc Def Global))) : Type 0 where
  pub kept : AreKept spelled toks lines
  pub defs_are : AreDefinitions spelled toks lines defs
  pub skips_are : (dialect : Dialect) → AreSkips (directives dialect lines) (skips_in dialect skips older)
