use Rattle.std.proofs.Common.{ℕ, List, get_or, ap, sym, ◌∙◌, Some}
use Rattle.std.specs.Option.{option_map}
use Rattle.scan_model.specs.declared.macros.Def.{Def}
use Rattle.scan_model.specs.MacroDefinition.{def_of}
use Rattle.macro_table.proofs.Defines.{read_define-refused, read_define-named, read_define-undefined, rest_is, IsDefinition-read}
use Rattle.macro_table.proofs.define.read_define.Goals as goal

pub returns-then-not-begins_with_name-clause-value : goal.returns-then-not-begins_with_name-clause-value
returns-then-not-begins_with_name-clause-value c = read_define-refused c.args.toks.now c.if-not-begins_with_name.ensures

pub returns-in_ok-copy-in-Some-clause-value : goal.returns-in_ok-copy-in-Some-clause-value
returns-in_ok-copy-in-Some-clause-value c =
    let first = get_or c.args.toks.now 0 c.index-toks-0.result in
    let def = sym c.in-Some.is ∙ c.in_ok-def.ensures ∙ ap def_of (rest_is c.args.toks.now) in
    ap (λ (n : List ℕ). Some (n, c.in-Some.def)) (c.in_ok-copy-in-Some.ensures ∙ c.as_slice.ensures)
    ∙ ap (option_map (λ (d : Def). (first.text, d))) def ∙ read_define-named c.args.toks.now c.index-toks-0.result c.if-not-begins_with_name.ensures

pub returns-in_ok-copy-in-Some-clause-sound : goal.returns-in_ok-copy-in-Some-clause-sound
returns-in_ok-copy-in-Some-clause-sound c =
    IsDefinition-read c.args.toks.now c.in_ok-copy-in-Some.field-0 c.in-Some.def c.index-toks-0.result c.if-not-begins_with_name.ensures (c.in_ok-copy-in-Some.ensures ∙ c.as_slice.ensures)
    (sym (c.in_ok-def.ensures ∙ ap def_of (rest_is c.args.toks.now)) ∙ c.in-Some.is)

pub returns-in-None-clause-value : goal.returns-in-None-clause-value
returns-in-None-clause-value c =
    read_define-undefined c.args.toks.now c.if-not-begins_with_name.ensures (sym c.in-None.is ∙ c.in_ok-def.ensures ∙ ap def_of (rest_is c.args.toks.now))
