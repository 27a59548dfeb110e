use Rattle.std.proofs.Common.{◌≡◌, sym, ◌∙◌, ap, refl, ◌<◌, length, drop, get_or, arith, []}
use Rattle.std.proofs.lemmas.List.{take_rest, get_or_read}
use Rattle.scan_model.specs.declared.token.Tok.{Tok}
use Rattle.scan_model.specs.Substitution as spec
use Rattle.substitution.specs.Meaning.{arg_of}
use Rattle.substitution.specs.Calls.{call_of}
use Rattle.substitution.proofs.PartLemmas.{comma-comes, gives-by}
use Rattle.substitution.proofs.AddLemmas.{adds-same}
use Rattle.scan_model.specs.TokenTests.{begins_with, is_paste}
use Rattle.substitution.proofs.parts.add_part.Goals as goal

pub slice_bounds-rest-count : goal.slice_bounds-rest-count
slice_bounds-rest-count c = let long : 1 < length c.args.after.now = (c.in-Some.ensures.some []).0 in omega arith

pub slice_bounds-rest-start : goal.slice_bounds-rest-start
slice_bounds-rest-start c = let long : 1 < length c.args.after.now = (c.in-Some.ensures.some []).0 in omega arith

pub bounds-after-1 : goal.bounds-after-1
bounds-after-1 c = (c.in-Some.ensures.some []).0

pub returns-in-Some-clause-value : goal.returns-in-Some-clause-value
returns-in-Some-clause-value c = λ sets known inner.
    let call = call_of sets c.args.call.now in
    let a = arg_of sets c.in-Some.arg.now in
    let rest = take_rest c.args.after.now 2 in
    let whole = comma-comes call inner c.args.pasted c.args.tok.now c.args.after.now _ (c.if-is_hash_operator.ensures sets) c.if-is_paste.ensures (c.in-Some.ensures.some sets).1 in
    let variable : c.index-after-1.result ≡ get_or c.args.after.now 1 c.args.tok.now = get_or_read c.args.after.now 1 c.index-after-1.result (c.in-Some.ensures.some sets).0 c.index-after-1.is c.args.tok.now in
    let next : c.begins_with_paste.result ≡ begins_with is_paste (drop 2 c.args.after.now) = c.begins_with_paste.ensures ∙ ap (begins_with is_paste) rest in
    let items : spec.comma_items call c.args.tok.now c.index-after-1.result a c.begins_with_paste.result ≡ spec.comma_items call c.args.tok.now (get_or c.args.after.now 1 c.args.tok.now) a (begins_with is_paste (drop 2 c.args.after.now)) =
    ap (λ (v : Tok). spec.comma_items call c.args.tok.now v a c.begins_with_paste.result) variable ∙ ap (spec.comma_items call c.args.tok.now (get_or c.args.after.now 1 c.args.tok.now) a) next in
    gives-by sets c.args.items.now.items c.add_comma.new.items.items _ _ (drop 2 c.args.after.now) _ whole
    (adds-same sets c.args.items.now.items c.add_comma.new.items.items _ _ items (c.in_ok-add_comma.ensures sets (c.in-Some.ensures.known sets known))) refl (sym rest)
