use Rattle.std.proofs.Common.{◌≡◌, ◌+◌, ◌<◌, ◌∙◌, ap, sym, subst, length, slice_get, Some, arith}
use Rattle.std.proofs.lemmas.List.Elements.{All-get_or}
use Rattle.macro_table.specs.Definition.{IsDefinition}
use Rattle.reducer.specs.ReducedLines.{toks_of}
use Rattle.reducer.specs.FlatLines.{tok_of, IsCut}
use Rattle.reducer.specs.Views.{view}
use Rattle.reducer.proofs.ReducedLemmas.{tok_at}
use Rattle.reducer.proofs.DefinitionLemmas.{some_defined, none_defined, definitions_cover, third_within, has_third, shown_name}
use Rattle.reducer.proofs.reduced.Reduced.define.Goals as goal

pub index-requires : goal.index-requires
index-requires c =
    let r = c.self.inside in
    omega (arith, c.requires.line, definitions_cover r.spelled.items r.toks.items r.lines.items c.args.self.now r.definitions.items c.self.view_is c.self.invariant.defs_are, r.definitions.ok.0)

pub index-name-requires : goal.index-name-requires
index-name-requires c =
    let r = c.self.inside in
    let d = some_defined r.spelled.items r.toks.items r.lines.items c.args.self.now r.definitions.items c.args.k _ c.in-Some.def c.self.view_is c.self.invariant.kept.within c.self.invariant.defs_are c.requires.line c.requires.define
    c.index.ensures c.in-Some.is in
    let within = third_within r.spelled.items r.toks.items r.lines.items c.args.self.now c.args.k c.index-of.result.now _ c.self.view_is c.self.invariant.kept.within c.requires.line c.index-of.ensures d in
    omega (arith, within, r.toks.ok.0)

pub shown_token-requires : goal.shown_token-requires
shown_token-requires c =
    let r = c.self.inside in
    let k = c.args.k in
    let d = some_defined r.spelled.items r.toks.items r.lines.items c.args.self.now r.definitions.items k _ c.in-Some.def c.self.view_is c.self.invariant.kept.within c.self.invariant.defs_are c.requires.line c.requires.define
    c.index.ensures c.in-Some.is in
    let within = third_within r.spelled.items r.toks.items r.lines.items c.args.self.now k c.index-of.result.now _ c.self.view_is c.self.invariant.kept.within c.requires.line c.index-of.ensures d in
    let name = c.index-name.result.now in
    subst (λ xs. IsCut xs name) (sym c.deref.ensures.value)
    (subst (IsCut r.spelled.items) (sym c.index-name.ensures) (All-get_or (IsCut r.spelled.items) r.toks.items (c.index-of.result.now.start + 2) name within c.self.invariant.kept.within.cut))

pub returns-in-Some-clause-value : goal.returns-in-Some-clause-value
returns-in-Some-clause-value c =
    let r = c.self.inside in
    let k = c.args.k in
    let d = some_defined r.spelled.items r.toks.items r.lines.items c.args.self.now r.definitions.items k _ c.in-Some.def c.self.view_is c.self.invariant.kept.within c.self.invariant.defs_are c.requires.line c.requires.define
    c.index.ensures c.in-Some.is in
    let third = subst (λ ls. 2 < length (toks_of ls k)) (sym c.self.view_is) (has_third _ _ d) in
    let shown = view c.shown_token.result in
    let at = tok_at r.spelled.items r.toks.items r.lines.items k 2 c.index-of.result.now c.index-name.result.now shown (subst (λ ls. k < length ls) (sym c.self.view_is) c.requires.line) third c.index-of.ensures c.index-name.ensures
    (c.shown_token.ensures ∙ ap (λ xs. tok_of xs c.index-of.result.now.line c.index-name.result.now) c.deref.ensures.value) in
    let is = shown_name _ _ shown d (subst (λ ls. slice_get (toks_of ls k) 2 ≡ Some shown) c.self.view_is at) in
    ap (λ n. Some (n, c.in-Some.def.value)) is ∙ sym d.read

pub returns-in-Some-clause-sound : goal.returns-in-Some-clause-sound
returns-in-Some-clause-sound c =
    let r = c.self.inside in
    let k = c.args.k in
    let d = some_defined r.spelled.items r.toks.items r.lines.items c.args.self.now r.definitions.items k _ c.in-Some.def c.self.view_is c.self.invariant.kept.within c.self.invariant.defs_are c.requires.line c.requires.define
    c.index.ensures c.in-Some.is in
    let third = subst (λ ls. 2 < length (toks_of ls k)) (sym c.self.view_is) (has_third _ _ d) in
    let shown = view c.shown_token.result in
    let at = tok_at r.spelled.items r.toks.items r.lines.items k 2 c.index-of.result.now c.index-name.result.now shown (subst (λ ls. k < length ls) (sym c.self.view_is) c.requires.line) third c.index-of.ensures c.index-name.ensures
    (c.shown_token.ensures ∙ ap (λ xs. tok_of xs c.index-of.result.now.line c.index-name.result.now) c.deref.ensures.value) in
    let is = shown_name _ _ shown d (subst (λ ls. slice_get (toks_of ls k) 2 ≡ Some shown) c.self.view_is at) in
    subst (λ n. IsDefinition n c.in-Some.def.value) (sym is) d.sound

pub returns-in-None-clause-value : goal.returns-in-None-clause-value
returns-in-None-clause-value c =
    let r = c.self.inside in
    none_defined r.spelled.items r.toks.items r.lines.items c.args.self.now r.definitions.items c.args.k _ c.self.view_is c.self.invariant.kept.within c.self.invariant.defs_are c.requires.line c.requires.define
    c.index.ensures c.in-None.is
