use Rattle.std.proofs.Common.{◌∙◌, ◌++◌, [], sym, refl}
use Rattle.line_splice.specs.Cursor.{rest}
use Rattle.scan_model.specs.Tokens.{bytes}
use Rattle.scan_model.specs.Spelling.{is_continue}
use Rattle.lexeme_reader.proofs.PassLemmas.{passes_none, passes_more, passes_shorter, list_all-append}
use Rattle.lexeme_reader.proofs.NameLemmas.{ends_here, ends_none}
use Rattle.lexeme_reader.proofs.name.pass_continuing.Goals as goal

pub name-init : goal.name-init
name-init c = (refl, ([], refl, passes_none (rest c.args.at.now)))

pub name-smaller : goal.name-smaller
name-smaller c = let w = c.pass_word.ensures.word in passes_shorter w.cs (rest c.name.at) (rest c.pass_word.new.at) w.passes w.some

pub name-preserved : goal.name-preserved
name-preserved c = let i = c.name.invariant.1 in let w = c.pass_word.ensures.word in (
  c.pass_word.ensures.text ∙ c.name.invariant.0,
  (i.0 ++ w.cs, list_all-append is_continue i.0 w.cs i.1 w.goes, passes_more i.0 w.cs (rest c.args.at.now) (rest c.name.at) (rest c.pass_word.new.at) i.2 w.passes),
)

pub returns-then-not-is_continue-clause-name : goal.returns-then-not-is_continue-clause-name
returns-then-not-is_continue-clause-name c = let i = c.name.invariant.1 in record {
  cs = i.0;
  goes = i.1;
  passes = i.2;
  ends = ends_here (bytes (rest c.name.at)) c.in-Some.found c.in-Some.ensures is_continue (sym c.is_continue.ensures ∙ c.if-not-is_continue.true);
}

pub returns-in_default-clause-name : goal.returns-in_default-clause-name
returns-in_default-clause-name c = let i = c.name.invariant.1 in record {
  cs = i.0;
  goes = i.1;
  passes = i.2;
  ends = ends_none (bytes (rest c.name.at)) c.in_default.ensures is_continue;
}
