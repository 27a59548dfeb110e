use Rattle.pp_lexer.proofs.HeaderLemmas.{wanted_is}
use Rattle.pp_lexer.proofs.header_names.wants_header.Goals as goal

pub returns : goal.returns
returns c =
    wanted_is c.args.before.now c.first_two-opening.result.now c.last_two-last.result.now _ _ _ _ _ _ _ _ _ _ _ _ c.first_two-opening.ensures c.last_two-last.ensures
    c.are_two.ensures c.are_two-2.ensures c.are_two-3.ensures c.are_two-4.ensures c.is_one-after_import.ensures c.are_two-after_export.ensures
    c.are_two-5.ensures c.are_two-6.ensures c.are_two-7.ensures c.are_two-8.ensures c.are_two-9.ensures c.are_two-10.ensures
