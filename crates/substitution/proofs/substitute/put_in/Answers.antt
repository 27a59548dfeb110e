use Rattle.std.proofs.Common.{◌∙◌, ap, refl, length, Some, None, arith}
use Rattle.substitution.specs.Meaning.{items_of}
use Rattle.substitution.specs.Calls.{call_of}
use Rattle.substitution.proofs.SubstituteLemmas.{subst-by}
use Rattle.substitution.proofs.substitute.put_in.Goals as goal

pub returns-in_default-clause-value : goal.returns-in_default-clause-value
returns-in_default-clause-value c =
    let list = rw c.in_default.is at c.in_ok-items.ensures.value in
    record { known = tt; meant = subst-by (call_of c.args.sets.now c.args.call.now) c.args.space c.args.body.now None None (list (length c.args.body.now) (omega arith)).meant refl }

pub returns-in_default-2-clause-value : goal.returns-in_default-2-clause-value
returns-in_default-2-clause-value c =
    let list = rw c.in-Some.is at c.in_ok-items.ensures.value in
    let whole = rw c.in_default-2.is at c.in_ok-items-2.ensures.value in
    record { known = tt; meant = subst-by (call_of c.args.sets.now c.args.call.now) c.args.space c.args.body.now (Some (items_of c.list_items.new.sets c.in-Some.items.items)) None (list (length c.args.body.now) (omega arith)).meant whole.meant }

pub returns-clause-value : goal.returns-clause-value
returns-clause-value c =
    let list = rw c.in-Some.is at c.in_ok-items.ensures.value in
    let whole = rw c.in-Some-2.is at c.in_ok-items-2.ensures.value in
    record {
      known = c.in_ok-finished.ensures.known c.joined.new.sets whole.known;
      meant = ap Some (c.in_ok-finished.ensures.value c.joined.new.sets)
          ∙ subst-by (call_of c.args.sets.now c.args.call.now) c.args.space c.args.body.now (Some (items_of c.list_items.new.sets c.in-Some.items.items)) (Some (items_of c.joined.new.sets c.in-Some-2.items.items)) (list (length c.args.body.now) (omega arith)).meant whole.meant;
    }
