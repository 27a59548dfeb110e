use Rattle.std.proofs.Common.{◌-◌, ap, sym, ◌∙◌, arith}
use Rattle.scan_model.specs.Spelling.{spells}
use Rattle.reducer.specs.TokenTests.{at_tok}
use Rattle.reducer.specs.Building.{open_toks}
use Rattle.reducer.proofs.PlaceLemmas.{other_end, test_end}
use Rattle.reducer.proofs.header_wanted.ends_in_test.Goals as goal

pub returns-then-not-is_word : goal.returns-then-not-is_word
returns-then-not-is_word c =
    let ts = open_toks c.args.lines.now in
    other_end ts (omega (arith, c.count-count.ensures, c.if-count-lt2.false))
    (ap (λ n. at_tok (λ t. spells "(" t.text) ts (n - 1)) (sym c.count-count.ensures) ∙ sym c.is_word.ensures ∙ c.if-not-is_word.true)

pub returns : goal.returns
returns c =
    let ts = open_toks c.args.lines.now in
    test_end ts _ _ (omega (arith, c.count-count.ensures, c.if-count-lt2.false))
    (ap (λ n. at_tok (λ t. spells "(" t.text) ts (n - 1)) (sym c.count-count.ensures) ∙ sym c.is_word.ensures ∙ c.if-not-is_word.false)
    (c.is_word-2.ensures ∙ ap (λ n. at_tok (λ t. spells "__has_include" t.text) ts (n - 2)) c.count-count.ensures)
    (c.is_word-3.ensures ∙ ap (λ n. at_tok (λ t. spells "__has_include_next" t.text) ts (n - 2)) c.count-count.ensures)
