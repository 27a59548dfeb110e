use Rattle.std.proofs.Common.{ap, ◌∙◌, fold, filter, rules, tests}
use Rattle.std.proofs.lemmas.Iterator.Consumers.{YieldsList-end}
use Rattle.std.proofs.lemmas.Iterator.Splits.{YieldsList-from_slice_split}
use Rattle.scan_model.specs.Paths.{is_kept, is_slash}
use Rattle.path_search.specs.Writing.{with_segment}
use Rattle.path_search.proofs.segments.add_segments.Goals as goal

pub returns : goal.returns
returns c =
    let all = YieldsList-end (YieldsList-from_slice_split _ is_slash c.args.text.now (search rules) (search rules) (search rules) (λ x r q k. search (rules, tests))) c.segments.yielded _ c.segments.yielded_by _ _ c.in-None.is c.next.ensures.steps in
    c.segments.invariant ∙ ap (λ ss. fold with_segment c.args.path.now.items (filter is_kept ss)) all.0
