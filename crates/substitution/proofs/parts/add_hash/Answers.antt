use Rattle.std.proofs.Common.{◌≡◌, sym, ◌∙◌, ap, subst, refl, false, true, ◌<◌, List, length, drop, Option, Some, None, rules}
use Rattle.std.proofs.lemmas.List.{take_rest}
use Rattle.scan_model.specs.declared.token.Tok.{Tok}
use Rattle.scan_model.specs.Substitution as spec
use Rattle.substitution.specs.Strings.{toks_of}
use Rattle.substitution.specs.Meaning.{arg_of}
use Rattle.substitution.specs.Calls.{call_of, GivesPart, AddsString}
use Rattle.substitution.proofs.PartLemmas.{toks_of-meant, gives-string-by, gives-no_string, hash-argument, hash-other}
use Rattle.substitution.proofs.parts.add_hash.Goals as goal

pub returns-then-not-branch-clause-value : goal.returns-then-not-branch-clause-value
returns-then-not-branch-clause-value c = λ sets known inner.
    let call = call_of sets c.args.call.now in
    let some : 0 < length c.args.after.now = search rules in
    let shown : toks_of c.as_slice.result.now ≡ spec.toks (arg_of sets c.in-Some.arg.now).written = ap toks_of c.as_slice.ensures ∙ sym (toks_of-meant sets c.in-Some.arg.now.written) in
    let made : AddsString sets c.args.items.now.items c.add_string.new.items.items (spec.string_of call c.args.tok.now (spec.toks (arg_of sets c.in-Some.arg.now).written)) false =
    subst (λ (s : List Tok). AddsString sets c.args.items.now.items c.add_string.new.items.items (spec.string_of call c.args.tok.now s) false) shown (rw c.if-not-branch.true at (c.in_ok-add_string-in-Some.ensures sets)) in
    subst (λ (p : Option spec.Part). GivesPart sets c.args.items.now.items c.add_string.new.items.items p None)
    (sym (hash-argument call inner c.args.tok.now c.args.after.now c.index-after-0.result (arg_of sets c.in-Some.arg.now) some c.index-after-0.is (c.in-Some.ensures.value sets)))
    (gives-no_string sets c.args.items.now.items c.add_string.new.items.items _ (drop 1 c.args.after.now) made)

pub returns-else-not-branch-clause-value : goal.returns-else-not-branch-clause-value
returns-else-not-branch-clause-value c = λ sets known inner.
    let call = call_of sets c.args.call.now in
    let some : 0 < length c.args.after.now = search rules in
    let shown : toks_of c.as_slice.result.now ≡ spec.toks (arg_of sets c.in-Some.arg.now).written = ap toks_of c.as_slice.ensures ∙ sym (toks_of-meant sets c.in-Some.arg.now.written) in
    let made : AddsString sets c.args.items.now.items c.add_string.new.items.items (spec.string_of call c.args.tok.now (spec.toks (arg_of sets c.in-Some.arg.now).written)) true =
    subst (λ (s : List Tok). AddsString sets c.args.items.now.items c.add_string.new.items.items (spec.string_of call c.args.tok.now s) true) shown (rw c.if-not-branch.false at (c.in_ok-add_string-in-Some.ensures sets)) in
    gives-string-by sets c.args.items.now.items c.add_string.new.items.items _ _ (drop 1 c.args.after.now) _
    (hash-argument call inner c.args.tok.now c.args.after.now c.index-after-0.result (arg_of sets c.in-Some.arg.now) some c.index-after-0.is (c.in-Some.ensures.value sets))
    made refl (sym (take_rest c.args.after.now 1))

pub returns-in_ok-add_own-in-None-clause-value : goal.returns-in_ok-add_own-in-None-clause-value
returns-in_ok-add_own-in-None-clause-value c = λ sets known inner.
    let call = call_of sets c.args.call.now in
    let some : 0 < length c.args.after.now = search rules in
    subst (λ (p : Option spec.Part). GivesPart sets c.args.items.now.items c.add_own-in-None.new.items.items p (Some (record { pasted = false; after = c.args.after })))
    (sym (hash-other call inner c.args.tok.now c.args.after.now c.index-after-0.result some c.index-after-0.is (c.in-None.ensures.value sets) (c.requires sets)))
    (record { added = c.in_ok-add_own-in-None.ensures sets; pasted = refl; after = refl })
