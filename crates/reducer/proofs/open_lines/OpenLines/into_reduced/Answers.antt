use Rattle.std.proofs.Common.{◌≡◌, subst, IfOk}
use Rattle.reducer.proofs.OpenLemmas.{parts_are, are_kept}
use Rattle.reducer.proofs.open_lines.OpenLines.into_reduced.Goals as goal

pub of_parts-requires : goal.of_parts-requires
of_parts-requires c = are_kept c.args.self _ _ c.requires.sound c.requires.reduced c.truncate.ensures.items c.truncate-2.ensures.items

pub returns : goal.returns
returns c = subst (λ ls. IfOk c.of_parts.result (λ reduced. reduced ≡ ls)) (parts_are c.args.self _ _ c.truncate.ensures.items c.truncate-2.ensures.items) c.of_parts.ensures
