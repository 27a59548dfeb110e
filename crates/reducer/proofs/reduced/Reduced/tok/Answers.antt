use Rattle.std.proofs.Common.{◌≡◌, ◌<◌, ◌∙◌, ap, sym, subst, slice_get, Some, length}
use Rattle.reducer.specs.ReducedLines.{toks_of}
use Rattle.reducer.specs.FlatLines.{tok_of}
use Rattle.reducer.specs.Views.{view}
use Rattle.reducer.proofs.ReducedLemmas.{tok_at, utf8_at}
use Rattle.reducer.proofs.reduced.Reduced.tok.Goals as goal

pub returns-clause-tok : goal.returns-clause-tok
returns-clause-tok c =
    let r = c.self.inside in
    let shown = view c.shown_token.result in
    subst (λ ls. slice_get (toks_of ls c.args.k) c.args.i ≡ Some shown) c.self.view_is
    (tok_at r.spelled.items r.toks.items r.lines.items c.args.k c.args.i c.index-of.result.now c.index-tok.result.now shown
    (subst (λ ls. c.args.k < length ls) (sym c.self.view_is) c.requires.line) (subst (λ ls. c.args.i < length (toks_of ls c.args.k)) (sym c.self.view_is) c.requires.tok)
    c.index-of.ensures c.index-tok.ensures
    (c.shown_token.ensures ∙ ap (λ xs. tok_of xs c.index-of.result.now.line c.index-tok.result.now) c.deref.ensures.value))

pub returns-clause-utf8 : goal.returns-clause-utf8
returns-clause-utf8 c =
    let r = c.self.inside in
    let shown = view c.shown_token.result in
    let here = tok_at r.spelled.items r.toks.items r.lines.items c.args.k c.args.i c.index-of.result.now c.index-tok.result.now shown
    (subst (λ ls. c.args.k < length ls) (sym c.self.view_is) c.requires.line) (subst (λ ls. c.args.i < length (toks_of ls c.args.k)) (sym c.self.view_is) c.requires.tok)
    c.index-of.ensures c.index-tok.ensures
    (c.shown_token.ensures ∙ ap (λ xs. tok_of xs c.index-of.result.now.line c.index-tok.result.now) c.deref.ensures.value) in
    utf8_at _ c.args.k c.args.i shown c.self.invariant.kept.reduced here
