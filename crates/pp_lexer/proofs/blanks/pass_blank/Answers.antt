use Rattle.std.proofs.Common.{◌∙◌, ap, sym, drop, Some, List}
use Rattle.line_splice.specs.Cursor.{rest}
use Rattle.scan_model.specs.Spliced.{Spot}
use Rattle.scan_model.specs.Tokens.{after_comment}
use Rattle.pp_lexer.proofs.CommentLemmas.{blank_here, line_here, block_here, none_here}
use Rattle.pp_lexer.proofs.blanks.pass_blank.Goals as goal

pub returns-then-first_is_blank-clause-blank : goal.returns-then-first_is_blank-clause-blank
returns-then-first_is_blank-clause-blank c = let s : List Spot = rest c.args.at.now in
    ap Some c.advance.ensures.rest ∙ blank_here s (sym c.first_is_blank.ensures ∙ c.if-first_is_blank.true)

pub returns-then-begins-clause-blank : goal.returns-then-begins-clause-blank
returns-then-begins-clause-blank c = let s : List Spot = rest c.args.at.now in
    ap Some c.pass_line.ensures.rest ∙ line_here s (sym c.first_is_blank.ensures ∙ c.if-first_is_blank.false) (sym c.begins.ensures ∙ c.if-begins.true)

pub returns-then-begins-2-clause-blank : goal.returns-then-begins-2-clause-blank
returns-then-begins-2-clause-blank c = let s : List Spot = rest c.args.at.now in
    ap Some (c.pass_comment.ensures.rest ∙ ap after_comment (c.advance-then-begins-2-2.ensures.rest ∙ ap (drop 1) c.advance-then-begins-2.ensures.rest))
    ∙ block_here s (sym c.first_is_blank.ensures ∙ c.if-first_is_blank.false) (sym c.begins.ensures ∙ c.if-begins.false) (sym c.begins-else-begins.ensures ∙ c.if-begins-2.true)

pub returns-else-begins-2-clause-blank : goal.returns-else-begins-2-clause-blank
returns-else-begins-2-clause-blank c = let s : List Spot = rest c.args.at.now in
    none_here s (sym c.first_is_blank.ensures ∙ c.if-first_is_blank.false) (sym c.begins.ensures ∙ c.if-begins.false) (sym c.begins-else-begins.ensures ∙ c.if-begins-2.false)
