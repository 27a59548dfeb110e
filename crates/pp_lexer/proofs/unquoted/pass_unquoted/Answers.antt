use Rattle.line_splice.specs.Cursor.{rest}
use Rattle.lexeme_reader.specs.Fronts.{line}
use Rattle.scan_model.specs.declared.token.Kind.TheVariants.{Number}
use Rattle.scan_model.specs.Spelling.{is_name, is_number, longest}
use Rattle.scan_model.proofs.LongestLemmas.{longest_le}
use Rattle.pp_lexer.specs.Reads.{unquoted}
use Rattle.pp_lexer.proofs.ChoiceLemmas.{Unquoted}
use Rattle.pp_lexer.proofs.UnquotedLemmas.{line_ahead, shown_cut, name_given, number_chosen, tested_some, tested_none}
use Rattle.pp_lexer.proofs.unquoted.pass_unquoted.Goals as goal

pub returns-then-begins_name-clause-ahead : goal.returns-then-begins_name-clause-ahead
returns-then-begins_name-clause-ahead c = let s = line (rest c.args.at.now) in
    (line_ahead c.args.at.now (longest is_name s) (rest c.pass_name.new.at) c.requires.some (longest_le is_name s) c.pass_name.ensures.rest).0

pub returns-then-begins_name-clause-lexeme : goal.returns-then-begins_name-clause-lexeme
returns-then-begins_name-clause-lexeme c =
    let u : Unquoted (line (rest c.args.at.now)) = record { single = c.requires.single; double = c.requires.double } in
    let some = tested_some (longest is_name (line (rest c.args.at.now))) c.begins_name.result c.begins_name.ensures c.if-begins_name.true in
    name_given c.args.at.now (rest c.pass_name.new.at) u c.requires.some some c.pass_name.ensures.rest

pub returns-then-begins_number-clause-ahead : goal.returns-then-begins_number-clause-ahead
returns-then-begins_number-clause-ahead c = let s = line (rest c.args.at.now) in
    (line_ahead c.args.at.now (longest is_number s) (rest c.pass_number.new.at) c.requires.some (longest_le is_number s) c.pass_number.ensures.rest).0

pub returns-then-begins_number-clause-lexeme : goal.returns-then-begins_number-clause-lexeme
returns-then-begins_number-clause-lexeme c =
    let spots = rest c.args.at.now in
    let s = line spots in
    let u : Unquoted s = record { single = c.requires.single; double = c.requires.double } in
    let names = tested_none (longest is_name s) c.begins_name.result c.begins_name.ensures c.if-begins_name.false in
    let some = tested_some (longest is_number s) c.begins_number.result c.begins_number.ensures c.if-begins_number.true in
    shown_cut c.args.at.now (longest is_number s) (rest c.pass_number.new.at) (unquoted spots) Number c.requires.some (longest_le is_number s) c.pass_number.ensures.rest
    (number_chosen spots u names some)

pub pass_mark-requires : goal.pass_mark-requires
pass_mark-requires c = let s = line (rest c.args.at.now) in record {
  some = c.requires.some;
  single = c.requires.single;
  double = c.requires.double;
  names = tested_none (longest is_name s) c.begins_name.result c.begins_name.ensures c.if-begins_name.false;
  numbers = tested_none (longest is_number s) c.begins_number.result c.begins_number.ensures c.if-begins_number.false;
}
