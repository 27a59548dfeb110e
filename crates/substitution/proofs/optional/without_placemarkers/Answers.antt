use Rattle.substitution.proofs.OptionalLemmas.{stripping-start, stripping-more}
use Rattle.substitution.proofs.optional.without_placemarkers.Goals as goal

pub items-init : goal.items-init
items-init c = stripping-start c.args.items.items _ _ c.into_iter-rest.ensures.rest c.new-marked.ensures.items

pub items-preserved : goal.items-preserved
items-preserved c = stripping-more _ _ _ _ _ _ c.in-Some.ensures.items c.in_ok-push_token.ensures.known c.in_ok-push_token.ensures.value c.items.invariant
