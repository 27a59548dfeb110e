use Rattle.std.proofs.Common.{◌≡◌, ◌++◌, ◌∙◌, ap, sym, subst}
use Rattle.std.specs.Prelude.{OnOk}
use Rattle.line_splice.specs.Cursor.{rest}
use Rattle.scan_model.specs.Spliced.{place_at}
use Rattle.pp_lexer.proofs.WrittenLemmas.{written_between}
use Rattle.pp_lexer.proofs.spelled.push_shown.Goals as goal

pub returns-then-show_as_written : goal.returns-then-show_as_written
returns-then-show_as_written c =
    let s = rest c.args.from.now in
    let t = rest c.args.to.now in
    let same = written_between c.args.from.now t c.args.text.now c.raw_from-start.result c.raw_from-end.result c.requires.from c.requires.ahead
    (c.raw_from-start.ensures ∙ ap (λ x. place_at x s) c.requires.from) (c.raw_from-end.ensures ∙ ap (λ x. place_at x t) c.requires.to)
    c.if-start-end.true c.if-end-text.true (sym c.show_as_written.ensures ∙ c.if-show_as_written.true) in
    subst (λ b. OnOk c.push_slice.result (c.push_slice.new.text.items ≡ c.args.out.now.items ++ b)) (sym same) c.push_slice.ensures
