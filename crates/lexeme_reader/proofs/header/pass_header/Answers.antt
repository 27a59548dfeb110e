use Rattle.std.proofs.Common.{◌∙◌, ap, sym, nat_lt, drop}
use Rattle.std.proofs.lemmas.Bool.{ne_eqb}
use Rattle.line_splice.specs.Cursor.{rest}
use Rattle.lexeme_reader.specs.Fronts.{line}
use Rattle.lexeme_reader.proofs.HeaderLemmas.{header_other}
use Rattle.lexeme_reader.proofs.header.pass_header.Goals as goal

pub returns-else-first-eq34-clause-value : goal.returns-else-first-eq34-clause-value
returns-else-first-eq34-clause-value c =
    sym (ap (nat_lt 0) (header_other (line (rest c.args.at.now)) (ne_eqb _ 60 (λ e. c.if-first-eq60.false (c.first_byte-first.ensures ∙ e))) (ne_eqb _ 34 (λ e. c.if-first-eq34.false (c.first_byte-first.ensures ∙ e)))))

pub returns-else-first-eq34-clause-rest : goal.returns-else-first-eq34-clause-rest
returns-else-first-eq34-clause-rest c = let s = rest c.args.at.now in
    ap (λ k. drop k s) (sym (header_other (line s) (ne_eqb _ 60 (λ e. c.if-first-eq60.false (c.first_byte-first.ensures ∙ e))) (ne_eqb _ 34 (λ e. c.if-first-eq34.false (c.first_byte-first.ensures ∙ e)))))
