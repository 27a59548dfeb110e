use Rattle.std.proofs.Common.{◌∙◌, ap, sym, Some, None}
use Rattle.std.specs.Option.{option_copied}
use Rattle.token_spelling.proofs.RawLemmas.{not_raw, not_delimited, raw_by}
use Rattle.token_spelling.proofs.raw_strings.is_raw.Goals as goal

pub returns-in_default : goal.returns-in_default
returns-in_default c = sym (not_raw c.args.spelling.now c.in_default.ensures)

pub returns-in_default-divide : goal.returns-in_default-divide
returns-in_default-divide c = sym (not_delimited c.args.spelling.now c.in-Some.opened.now c.in-Some.ensures c.in_default-divide.ensures)

pub returns-in-Some-after_close : goal.returns-in-Some-after_close
returns-in-Some-after_close c = let d = c.in-Some-divide.divided in
    c.is_suffix.ensures
    ∙ sym (raw_by c.args.spelling.now c.in-Some.opened.now d.delimiter.now d.inside.now (Some c.in-Some-after_close.suffix.now) c.in-Some.ensures c.in-Some-divide.ensures
    (ap option_copied (sym c.in-Some-after_close.is) ∙ c.after_close.ensures))

pub returns-in-None : goal.returns-in-None
returns-in-None c = let d = c.in-Some-divide.divided in
    sym (raw_by c.args.spelling.now c.in-Some.opened.now d.delimiter.now d.inside.now None c.in-Some.ensures c.in-Some-divide.ensures
    (ap option_copied (sym c.in-None.is) ∙ c.after_close.ensures))
