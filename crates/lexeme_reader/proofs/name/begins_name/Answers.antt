use Rattle.std.proofs.Common.{◌∙◌, sym, ap, nat_lt, inl, inr}
use Rattle.std.proofs.lemmas.Bool.{cases_Bool}
use Rattle.line_splice.specs.Cursor.{rest}
use Rattle.scan_model.specs.Tokens.{bytes}
use Rattle.scan_model.specs.Spelling.{is_start}
use Rattle.lexeme_reader.proofs.NameLemmas.{ends_here, ends_none, no_name, some_name}
use Rattle.lexeme_reader.proofs.name.begins_name.Goals as goal

pub returns-in-Some : goal.returns-in-Some
returns-in-Some c = let s = rest c.args.at.now in let f = c.in-Some.found in
    elim (cases_Bool (is_start f)) [
      | inl e ↦ c.is_start.ensures ∙ e ∙ sym (some_name s f c.in-Some.ensures e)
      | inr e ↦ c.is_start.ensures ∙ e ∙ sym (ap (nat_lt 0) (no_name s (ends_here (bytes s) f c.in-Some.ensures is_start e)).line_is)
    ]

pub returns-in-None : goal.returns-in-None
returns-in-None c = let s = rest c.args.at.now in sym (ap (nat_lt 0) (no_name s (ends_none (bytes s) c.in-None.ensures is_start)).line_is)
