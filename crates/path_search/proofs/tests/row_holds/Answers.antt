use Rattle.std.proofs.Common.{◌∙◌, sym}
use Rattle.path_search.proofs.CandidateLemmas.{there_by_one}
use Rattle.path_search.proofs.tests.row_holds.Goals as goal

pub place-given-requires-clause-there : goal.place-given-requires-clause-there
place-given-requires-clause-there c =
    there_by_one c.args.list.now c.in_ok-program.program c.args.row.form c.args.row.name.now c.args.row.k _ _ (sym c.in_ok-found.ensures ∙ c.in-Some.is)
