use Rattle.std.proofs.Common.{◌≡◌, sym, ◌∙◌, ap, refl, false, ◌<◌, ◌≤◌, ◌-◌, length, take, drop, List, [], Some, None, rules, arith, length-drop}
use Rattle.std.proofs.lemmas.List.{take_rest, nil_from_length}
use Rattle.scan_model.specs.declared.token.Tok.{Tok}
use Rattle.scan_model.specs.Parentheses.{Enclosed, in_parens}
use Rattle.hide_sets.proofs.Growing.{Extends-itself, Extends-on}
use Rattle.substitution.specs.Meaning.{items_of}
use Rattle.substitution.specs.Calls.{call_of}
use Rattle.substitution.proofs.ListLemmas.{walk-start, walk-end, first-after, walk-bad-part, walk-plain-part, walk-open-part, walk-bad-content, walk-bad-string, walk-opt-part, content-not-asked, content-asked, AreItems-placemarker, call_of-Extends}
use Rattle.substitution.proofs.lists.+list_items.Goals as goal

pub parts-init : goal.parts-init
parts-init t c = walk-start c.args.sets.now c.args.call.now c.args.list.now c.new-items.result.items c.requires c.new-items.ensures.items

pub returns-in_default-clause-value : goal.returns-in_default-clause-value
returns-in_default-clause-value t c = λ n l.
    let some : 0 < length c.parts.rest.now = search rules in
    let split = first-after c.parts.rest.now _ c.index-rest-0.result some c.index-rest-0.is (take_rest c.parts.rest.now 1) in
    let nothing = rw c.in_default.is at c.in_ok-end.ensures.value in
    record { known = tt; meant = walk-bad-part _ _ c.args.call.now c.args.list.now _ _ _ c.add_part.new.items.items _ _ split (nothing c.parts.sets c.parts.invariant.args) c.parts.invariant n l }

pub parts-preserved-then-not-opt_comes : goal.parts-preserved-then-not-opt_comes
parts-preserved-then-not-opt_comes t c =
    let some : 0 < length c.parts.rest.now = search rules in
    let split = first-after c.parts.rest.now _ c.index-rest-0.result some c.index-rest-0.is (take_rest c.parts.rest.now 1) in
    let found = rw c.in-Some.is at c.in_ok-end.ensures.value in
    let shorter = rw c.in-Some.is at c.in_ok-end.ensures.shorter in
    walk-plain-part _ _ c.args.call.now c.args.list.now _ _ _ c.add_part.new.items.items _ _ c.in-Some.end split shorter (found c.parts.sets c.parts.invariant.args) c.parts.invariant

pub returns-clause-value : goal.returns-clause-value
returns-clause-value t c = λ n l.
    let none : c.parts.rest.now ≡ [] = nil_from_length c.parts.rest.now (search rules) in
    record { known = c.parts.invariant.known; meant = walk-end _ _ c.args.call.now c.args.list.now _ _ _ none c.parts.invariant n l }

pub returns-in_default-in_parens-clause-value : goal.returns-in_default-in_parens-clause-value
returns-in_default-in_parens-clause-value t c = λ n l.
    let some : 0 < length c.parts.rest.now = search rules in
    let split = first-after c.parts.rest.now _ c.index-rest-0.result some c.index-rest-0.is (take_rest c.parts.rest.now 1) in
    let open_word = ap (λ (ts : List Tok). in_parens (λ t. t) ts) (sym (c.after_word.ensures.value c.parts.sets)) ∙ c.in_default-in_parens.ensures in
    record { known = c.parts.invariant.known; meant = walk-open-part _ _ c.args.call.now c.args.list.now _ _ _ _ _ split (c.if-not-opt_comes.ensures c.parts.sets) open_word c.parts.invariant n l }

pub returns-then-not-branch-clause-value : goal.returns-then-not-branch-clause-value
returns-then-not-branch-clause-value t c = λ n l.
    let some : 0 < length c.parts.rest.now = search rules in
    let split = first-after c.parts.rest.now _ c.index-rest-0.result some c.index-rest-0.is (take_rest c.parts.rest.now 1) in
    let now = c.parts.sets in
    let call = call_of now c.args.call.now in
    let p = c.in-Some-in_parens.ensures in
    let e : Enclosed Tok = record { inside = c.in-Some-in_parens.opt.inside.now; close = p.close; after = c.in-Some-in_parens.opt.after.now } in
    let enclosed = ap (λ (ts : List Tok). in_parens (λ t. t) ts) (sym (c.after_word.ensures.value now)) ∙ p.parts in
    let inside : length e.inside ≤ length c.parts.rest.now - 1 = omega (arith, p.inside_shorter, c.after_word.ensures.shorter, ap length (take_rest c.parts.rest.now 1), length-drop 1 c.parts.rest.now) in
    let after : length e.after ≤ length c.parts.rest.now - 1 = omega (arith, p.after_shorter, c.after_word.ensures.shorter, ap length (take_rest c.parts.rest.now 1), length-drop 1 c.parts.rest.now) in
    let same_length : length (take (length c.parts.rest.now - 1) (drop 1 c.parts.rest.now)) ≡ length c.parts.rest.now - 1 = ap length (take_rest c.parts.rest.now 1) ∙ length-drop 1 c.parts.rest.now in
    let content = items_of now c.in_ok-placemarker.field-0.items in
    let k = content-not-asked call e.inside content (c.if-not-has_variable.ensures now) (ap (items_of now) c.in_ok-placemarker.ensures) in
    let known = AreItems-placemarker now c.in_ok-placemarker.field-0.items c.in_ok-placemarker.ensures in
    let string = rw c.if-not-branch.true at (c.in_ok-add_opt.ensures now known) in
    record { known = tt; meant = walk-bad-string _ now now c.args.call.now c.args.list.now _ _ c.parts.items.items c.add_opt.new.items.items _ _ _ e content split (c.if-not-opt_comes.ensures now) enclosed (omega (arith, inside, same_length)) k (c.is_hash_operator-hashed.ensures now) refl string c.parts.invariant n l }

pub parts-preserved-then-not-has_variable : goal.parts-preserved-then-not-has_variable
parts-preserved-then-not-has_variable t c =
    let some : 0 < length c.parts.rest.now = search rules in
    let split = first-after c.parts.rest.now _ c.index-rest-0.result some c.index-rest-0.is (take_rest c.parts.rest.now 1) in
    let now = c.parts.sets in
    let call = call_of now c.args.call.now in
    let p = c.in-Some-in_parens.ensures in
    let e : Enclosed Tok = record { inside = c.in-Some-in_parens.opt.inside.now; close = p.close; after = c.in-Some-in_parens.opt.after.now } in
    let enclosed = ap (λ (ts : List Tok). in_parens (λ t. t) ts) (sym (c.after_word.ensures.value now)) ∙ p.parts in
    let inside : length e.inside ≤ length c.parts.rest.now - 1 = omega (arith, p.inside_shorter, c.after_word.ensures.shorter, ap length (take_rest c.parts.rest.now 1), length-drop 1 c.parts.rest.now) in
    let after : length e.after ≤ length c.parts.rest.now - 1 = omega (arith, p.after_shorter, c.after_word.ensures.shorter, ap length (take_rest c.parts.rest.now 1), length-drop 1 c.parts.rest.now) in
    let same_length : length (take (length c.parts.rest.now - 1) (drop 1 c.parts.rest.now)) ≡ length c.parts.rest.now - 1 = ap length (take_rest c.parts.rest.now 1) ∙ length-drop 1 c.parts.rest.now in
    let content = items_of now c.in_ok-placemarker.field-0.items in
    let k = content-not-asked call e.inside content (c.if-not-has_variable.ensures now) (ap (items_of now) c.in_ok-placemarker.ensures) in
    let known = AreItems-placemarker now c.in_ok-placemarker.field-0.items c.in_ok-placemarker.ensures in
    let string = rw c.if-not-branch.false at (c.in_ok-add_opt.ensures now known) in
    walk-opt-part _ now now c.args.call.now c.args.list.now _ _ c.parts.items.items c.add_opt.new.items.items _ _ _ e content (record { pasted = false; after = c.in-Some-in_parens.opt.after }) split (Extends-itself now) (c.if-not-opt_comes.ensures now) enclosed (omega (arith, inside, same_length)) (omega (arith, after, same_length)) k (c.is_hash_operator-hashed.ensures now) string refl refl c.parts.invariant

pub returns-in_default-2-clause-value : goal.returns-in_default-2-clause-value
returns-in_default-2-clause-value t c = λ n l.
    let some : 0 < length c.parts.rest.now = search rules in
    let split = first-after c.parts.rest.now _ c.index-rest-0.result some c.index-rest-0.is (take_rest c.parts.rest.now 1) in
    let now = c.parts.sets in
    let call = call_of now c.args.call.now in
    let p = c.in-Some-in_parens.ensures in
    let e : Enclosed Tok = record { inside = c.in-Some-in_parens.opt.inside.now; close = p.close; after = c.in-Some-in_parens.opt.after.now } in
    let enclosed = ap (λ (ts : List Tok). in_parens (λ t. t) ts) (sym (c.after_word.ensures.value now)) ∙ p.parts in
    let inside : length e.inside ≤ length c.parts.rest.now - 1 = omega (arith, p.inside_shorter, c.after_word.ensures.shorter, ap length (take_rest c.parts.rest.now 1), length-drop 1 c.parts.rest.now) in
    let after : length e.after ≤ length c.parts.rest.now - 1 = omega (arith, p.after_shorter, c.after_word.ensures.shorter, ap length (take_rest c.parts.rest.now 1), length-drop 1 c.parts.rest.now) in
    let same_length : length (take (length c.parts.rest.now - 1) (drop 1 c.parts.rest.now)) ≡ length c.parts.rest.now - 1 = ap length (take_rest c.parts.rest.now 1) ∙ length-drop 1 c.parts.rest.now in
    let none = rw c.in_default-2.is at c.in_ok-inner.ensures.value in
    let k = content-asked call e.inside None None (c.if-not-has_variable.ensures now) (λ m l. (none m l).meant) refl in
    record { known = tt; meant = walk-bad-content _ now c.args.call.now c.args.list.now _ _ c.parts.items.items _ _ e split (c.if-not-opt_comes.ensures now) enclosed (omega (arith, inside, same_length)) k c.parts.invariant n l }

pub joined-requires : goal.joined-requires
joined-requires t c = let inner = rw c.in-Some-2.is at c.in_ok-inner.ensures.value in (inner (length c.in-Some-in_parens.opt.inside.now) (omega arith)).known

pub returns-in_default-3-clause-value : goal.returns-in_default-3-clause-value
returns-in_default-3-clause-value t c = λ n l.
    let some : 0 < length c.parts.rest.now = search rules in
    let split = first-after c.parts.rest.now _ c.index-rest-0.result some c.index-rest-0.is (take_rest c.parts.rest.now 1) in
    let now = c.parts.sets in
    let call = call_of now c.args.call.now in
    let p = c.in-Some-in_parens.ensures in
    let e : Enclosed Tok = record { inside = c.in-Some-in_parens.opt.inside.now; close = p.close; after = c.in-Some-in_parens.opt.after.now } in
    let enclosed = ap (λ (ts : List Tok). in_parens (λ t. t) ts) (sym (c.after_word.ensures.value now)) ∙ p.parts in
    let inside : length e.inside ≤ length c.parts.rest.now - 1 = omega (arith, p.inside_shorter, c.after_word.ensures.shorter, ap length (take_rest c.parts.rest.now 1), length-drop 1 c.parts.rest.now) in
    let after : length e.after ≤ length c.parts.rest.now - 1 = omega (arith, p.after_shorter, c.after_word.ensures.shorter, ap length (take_rest c.parts.rest.now 1), length-drop 1 c.parts.rest.now) in
    let same_length : length (take (length c.parts.rest.now - 1) (drop 1 c.parts.rest.now)) ≡ length c.parts.rest.now - 1 = ap length (take_rest c.parts.rest.now 1) ∙ length-drop 1 c.parts.rest.now in
    let inner = rw c.in-Some-2.is at c.in_ok-inner.ensures.value in
    let none = rw c.in_default-3.is at c.in_ok-content.ensures.value in
    let k = content-asked call e.inside (Some (items_of c.list_items.new.sets c.in-Some-2.inner.items)) None (c.if-not-has_variable.ensures now) (λ m l. (inner m l).meant) none.meant in
    record { known = tt; meant = walk-bad-content _ now c.args.call.now c.args.list.now _ _ c.parts.items.items _ _ e split (c.if-not-opt_comes.ensures now) enclosed (omega (arith, inside, same_length)) k c.parts.invariant n l }

pub returns-then-not-branch-2-clause-value : goal.returns-then-not-branch-2-clause-value
returns-then-not-branch-2-clause-value t c = λ n l.
    let some : 0 < length c.parts.rest.now = search rules in
    let split = first-after c.parts.rest.now _ c.index-rest-0.result some c.index-rest-0.is (take_rest c.parts.rest.now 1) in
    let now = c.parts.sets in
    let call = call_of now c.args.call.now in
    let p = c.in-Some-in_parens.ensures in
    let e : Enclosed Tok = record { inside = c.in-Some-in_parens.opt.inside.now; close = p.close; after = c.in-Some-in_parens.opt.after.now } in
    let enclosed = ap (λ (ts : List Tok). in_parens (λ t. t) ts) (sym (c.after_word.ensures.value now)) ∙ p.parts in
    let inside : length e.inside ≤ length c.parts.rest.now - 1 = omega (arith, p.inside_shorter, c.after_word.ensures.shorter, ap length (take_rest c.parts.rest.now 1), length-drop 1 c.parts.rest.now) in
    let after : length e.after ≤ length c.parts.rest.now - 1 = omega (arith, p.after_shorter, c.after_word.ensures.shorter, ap length (take_rest c.parts.rest.now 1), length-drop 1 c.parts.rest.now) in
    let same_length : length (take (length c.parts.rest.now - 1) (drop 1 c.parts.rest.now)) ≡ length c.parts.rest.now - 1 = ap length (take_rest c.parts.rest.now 1) ∙ length-drop 1 c.parts.rest.now in
    let list = c.in_ok-inner.ensures.value in
    let far = Extends-on now c.list_items.new.sets c.joined.new.sets c.in_ok-inner.ensures.extended c.in_ok-content.ensures.extended in
    let inner = rw c.in-Some-2.is at list in
    let content = items_of c.joined.new.sets c.in-Some-3.content.items in
    let done = rw c.in-Some-3.is at c.in_ok-content.ensures.value in
    let k = content-asked call e.inside (Some (items_of c.list_items.new.sets c.in-Some-2.inner.items)) (Some content) (c.if-not-has_variable.ensures now) (λ m l. (inner m l).meant) done.meant in
    let string = rw c.if-not-branch-2.true at (c.in_ok-add_opt-2.ensures c.joined.new.sets done.known) in
    record { known = tt; meant = walk-bad-string _ now c.joined.new.sets c.args.call.now c.args.list.now _ _ c.parts.items.items c.add_opt-in-parts.new.items.items _ _ _ e content split (c.if-not-opt_comes.ensures now) enclosed (omega (arith, inside, same_length)) k (c.is_hash_operator-hashed.ensures now) (call_of-Extends now c.joined.new.sets c.args.call.now far c.parts.invariant.args) string c.parts.invariant n l }

pub parts-preserved : goal.parts-preserved
parts-preserved t c =
    let some : 0 < length c.parts.rest.now = search rules in
    let split = first-after c.parts.rest.now _ c.index-rest-0.result some c.index-rest-0.is (take_rest c.parts.rest.now 1) in
    let now = c.parts.sets in
    let call = call_of now c.args.call.now in
    let p = c.in-Some-in_parens.ensures in
    let e : Enclosed Tok = record { inside = c.in-Some-in_parens.opt.inside.now; close = p.close; after = c.in-Some-in_parens.opt.after.now } in
    let enclosed = ap (λ (ts : List Tok). in_parens (λ t. t) ts) (sym (c.after_word.ensures.value now)) ∙ p.parts in
    let inside : length e.inside ≤ length c.parts.rest.now - 1 = omega (arith, p.inside_shorter, c.after_word.ensures.shorter, ap length (take_rest c.parts.rest.now 1), length-drop 1 c.parts.rest.now) in
    let after : length e.after ≤ length c.parts.rest.now - 1 = omega (arith, p.after_shorter, c.after_word.ensures.shorter, ap length (take_rest c.parts.rest.now 1), length-drop 1 c.parts.rest.now) in
    let same_length : length (take (length c.parts.rest.now - 1) (drop 1 c.parts.rest.now)) ≡ length c.parts.rest.now - 1 = ap length (take_rest c.parts.rest.now 1) ∙ length-drop 1 c.parts.rest.now in
    let list = c.in_ok-inner.ensures.value in
    let far = Extends-on now c.list_items.new.sets c.joined.new.sets c.in_ok-inner.ensures.extended c.in_ok-content.ensures.extended in
    let inner = rw c.in-Some-2.is at list in
    let content = items_of c.joined.new.sets c.in-Some-3.content.items in
    let done = rw c.in-Some-3.is at c.in_ok-content.ensures.value in
    let k = content-asked call e.inside (Some (items_of c.list_items.new.sets c.in-Some-2.inner.items)) (Some content) (c.if-not-has_variable.ensures now) (λ m l. (inner m l).meant) done.meant in
    let string = rw c.if-not-branch-2.false at (c.in_ok-add_opt-2.ensures c.joined.new.sets done.known) in
    walk-opt-part _ now c.joined.new.sets c.args.call.now c.args.list.now _ _ c.parts.items.items c.add_opt-in-parts.new.items.items _ _ _ e content (record { pasted = false; after = c.in-Some-in_parens.opt.after }) split far (c.if-not-opt_comes.ensures now) enclosed (omega (arith, inside, same_length)) (omega (arith, after, same_length)) k (c.is_hash_operator-hashed.ensures now) string refl refl c.parts.invariant
