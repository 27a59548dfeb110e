use Rattle.scan_model.specs.MacroDefinition.{all_params}
use Rattle.substitution.proofs.CallLemmas.{named-at, named-beyond, named-none}
use Rattle.substitution.proofs.call.arg_named.Goals as goal

pub returns-in_default-clause-value : goal.returns-in_default-clause-value
returns-in_default-clause-value c = λ sets. named-none sets (all_params c.args.definition.now.params c.args.definition.now.variadic) c.args.args.now c.args.name.now c.in_default.ensures

pub returns-then-place-args-clause-value : goal.returns-then-place-args-clause-value
returns-then-place-args-clause-value c = λ sets.
    named-at sets (all_params c.args.definition.now.params c.args.definition.now.variadic) c.args.args.now c.args.name.now c.in-Some.place c.index-args-place.result c.in-Some.ensures c.if-place-args.true c.index-args-place.is

pub returns-then-place-args-clause-known : goal.returns-then-place-args-clause-known
returns-then-place-args-clause-known c = λ sets h. rw c.index-args-place.is (h c.in-Some.place c.index-args-place.result c.if-place-args.true)

pub returns-else-place-args-clause-value : goal.returns-else-place-args-clause-value
returns-else-place-args-clause-value c = λ sets.
    named-beyond sets (all_params c.args.definition.now.params c.args.definition.now.variadic) c.args.args.now c.args.name.now c.in-Some.place c.in-Some.ensures c.if-place-args.false
