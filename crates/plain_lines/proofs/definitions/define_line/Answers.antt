use Rattle.std.proofs.Common.{◌≡◌, Some, sym, ap, ◌∙◌}
use Rattle.std.specs.Option.{option_map}
use Rattle.std.proofs.lemmas.List.Elements.{All-drop}
use Rattle.scan_model.specs.MacroDefinition.{read_define}
use Rattle.scan_model.specs.Macros.{define}
use Rattle.scan_model.specs.Utf8Names.{HasUtf8Name}
use Rattle.macro_table.specs.Table.{macros_of}
use Rattle.reducer.specs.Views.{defined}
use Rattle.plain_lines.specs.Lines.{toks_at, after_word}
use Rattle.plain_lines.proofs.Places.{readable_toks}
use Rattle.plain_lines.proofs.Utf8Lemmas.{utf8-define, utf8-changed, defined_good, unit_stays}
use Rattle.plain_lines.proofs.definitions.define_line.Goals as goal

pub invariant_of-unit : goal.invariant_of-unit
invariant_of-unit c =
    let before = macros_of c.args.unit.now.macros in
    let at = c.args.at.now in
    let name = c.in-Some.definition.name.now in
    let def = c.in-Some.definition.def.now.value in
    let read : Some (name, def) ≡ read_define (after_word at) = ap (option_map defined) (sym c.in-Some.is) ∙ c.define.ensures.value in
    let names = All-drop HasUtf8Name 2 (toks_at at) (readable_toks at.lines.now at.place c.define.ensures.valid) in
    record {
      utf8 = utf8-changed c.define_shared.result c.args.unit.now.macros c.define_shared.new.self (define before name def) c.args.unit.now.utf8
          (utf8-define before name def (defined_good (after_word at) name def names read)) c.define_shared.ensures.ok c.define_shared.ensures.err;
    }

pub returns-in_err-define_shared-clause-err : goal.returns-in_err-define_shared-clause-err
returns-in_err-define_shared-clause-err c = unit_stays c.from_residual.result c.args.unit.now c.define_shared.new.self _ c.in_err-define_shared.ensures.err
