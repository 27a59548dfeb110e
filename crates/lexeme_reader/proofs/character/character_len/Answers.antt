use Rattle.line_splice.specs.Cursor.{rest}
use Rattle.lexeme_reader.proofs.FrontLemmas.{len_some, len_none}
use Rattle.lexeme_reader.proofs.character.character_len.Goals as goal

pub returns-in-Some-clause-len : goal.returns-in-Some-clause-len
returns-in-Some-clause-len c = (len_some (rest c.args.at.now) c.in-Some.found c.len_utf8.result c.requires c.len_utf8.ensures.len c.in-Some.ensures).0

pub returns-in-Some-clause-within : goal.returns-in-Some-clause-within
returns-in-Some-clause-within c = (len_some (rest c.args.at.now) c.in-Some.found c.len_utf8.result c.requires c.len_utf8.ensures.len c.in-Some.ensures).1

pub returns-in-None-clause-len : goal.returns-in-None-clause-len
returns-in-None-clause-len c = (len_none (rest c.args.at.now) c.requires c.in-None.ensures).0

pub returns-in-None-clause-within : goal.returns-in-None-clause-within
returns-in-None-clause-within c = (len_none (rest c.args.at.now) c.requires c.in-None.ensures).1
