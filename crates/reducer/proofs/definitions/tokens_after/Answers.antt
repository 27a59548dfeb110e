use Rattle.std.proofs.Common.{◌≡◌, subst, IfOk}
use Rattle.reducer.specs.FlatLines.{tok_of}
use Rattle.reducer.proofs.DefinitionLemmas.{after_two}
use Rattle.reducer.proofs.definitions.tokens_after.Goals as goal

pub returns : goal.returns
returns c =
    let l = c.args.line in
    subst (λ ts. IfOk c.tokens.result (λ made. made.items ≡ ts)) (after_two (tok_of c.args.spelled.now l.line) c.args.toks.now l.start l.count c.min.result c.requires.held c.min.ensures) c.tokens.ensures
