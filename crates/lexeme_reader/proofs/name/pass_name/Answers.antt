use Rattle.std.proofs.Common.{◌∙◌, sym, ap, drop}
use Rattle.line_splice.specs.Cursor.{rest}
use Rattle.scan_model.specs.Tokens.{bytes}
use Rattle.scan_model.specs.Spelling.{is_start}
use Rattle.lexeme_reader.proofs.NameLemmas.{ends_here, ends_none, no_name, name_passed}
use Rattle.lexeme_reader.proofs.name.pass_name.Goals as goal

pub returns-then-is_start-clause-rest : goal.returns-then-is_start-clause-rest
returns-then-is_start-clause-rest c =
    (name_passed (rest c.args.at.now) (rest c.pass_found.new.at) (rest c.pass_continuing.new.at) c.in-Some.found c.in-Some.ensures (sym c.is_start.ensures ∙ c.if-is_start.true)
    c.pass_found.ensures.rest c.pass_continuing.ensures.name).line_is

pub returns-then-is_start-clause-whole : goal.returns-then-is_start-clause-whole
returns-then-is_start-clause-whole c =
    (name_passed (rest c.args.at.now) (rest c.pass_found.new.at) (rest c.pass_continuing.new.at) c.in-Some.found c.in-Some.ensures (sym c.is_start.ensures ∙ c.if-is_start.true)
    c.pass_found.ensures.rest c.pass_continuing.ensures.name).whole_is

pub returns-else-is_start-clause-rest : goal.returns-else-is_start-clause-rest
returns-else-is_start-clause-rest c = let s = rest c.args.at.now in
    ap (λ k. drop k s) (sym (no_name s (ends_here (bytes s) c.in-Some.found c.in-Some.ensures is_start (sym c.is_start.ensures ∙ c.if-is_start.false))).line_is)

pub returns-else-is_start-clause-whole : goal.returns-else-is_start-clause-whole
returns-else-is_start-clause-whole c = let s = rest c.args.at.now in
    ap (λ k. drop k s) (sym (no_name s (ends_here (bytes s) c.in-Some.found c.in-Some.ensures is_start (sym c.is_start.ensures ∙ c.if-is_start.false))).whole_is)

pub returns-in_default-clause-rest : goal.returns-in_default-clause-rest
returns-in_default-clause-rest c = let s = rest c.args.at.now in
    ap (λ k. drop k s) (sym (no_name s (ends_none (bytes s) c.in_default.ensures is_start)).line_is)

pub returns-in_default-clause-whole : goal.returns-in_default-clause-whole
returns-in_default-clause-whole c = let s = rest c.args.at.now in
    ap (λ k. drop k s) (sym (no_name s (ends_none (bytes s) c.in_default.ensures is_start)).whole_is)
