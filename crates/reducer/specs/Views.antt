-- What the readers of a reduced text show.
use Rattle.std.specs.Prelude.{ℕ, List}
use Rattle.scan_model.specs.declared.macros.Def.{Def}
use Rattle.scan_model.specs.declared.token.Tok.{Tok}
use Rattle.scan_model.specs.declared.token.Line.{Line}
use Rattle.reducer.specs.declared.reduced.LineHead.{LineHead}
use Rattle.reducer.specs.declared.reduced.TokView.{TokView}
use Rattle.reducer.specs.declared.reduced.Definition.{Definition}

abbrev pub head : Line → LineHead
head l = record { line = l.line; next = l.next }

-- the token that is shown
abbrev pub view : TokView → Tok
view v = record { kind = v.kind; text = v.text.now; space = v.space; line = v.line }

-- the name and its definition
abbrev pub defined : Definition → List ℕ × Def
defined d = (d.name.now, d.def.now.value)
