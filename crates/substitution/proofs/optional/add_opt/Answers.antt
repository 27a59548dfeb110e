use Rattle.std.proofs.Common.{◌≡◌, sym, ◌∙◌, ap, subst, Bool, true, List}
use Rattle.scan_model.specs.declared.token.Tok.{Tok}
use Rattle.scan_model.specs.Substitution as spec
use Rattle.substitution.specs.Strings.{toks_of}
use Rattle.substitution.specs.Meaning.{items_of}
use Rattle.substitution.specs.Calls.{call_of, AddsString, opt_result}
use Rattle.substitution.proofs.PartLemmas.{toks_of-meant}
use Rattle.substitution.proofs.optional.add_opt.Goals as goal

pub returns-then-hashed : goal.returns-then-hashed
returns-then-hashed c = λ sets h.
    let shown : toks_of c.as_slice.result.now ≡ spec.toks (spec.without_placemarkers (items_of sets c.args.content.items)) =
    ap toks_of c.as_slice.ensures.value ∙ sym (toks_of-meant sets c.in_ok-marked.marked.items) ∙ ap spec.toks (c.in_ok-marked.ensures.value sets) in
    let made = subst (λ (s : List Tok). AddsString sets c.args.items.now.items c.add_string.new.items.items (spec.string_of (call_of sets c.args.call.now) c.args.tok.now s) c.in_ok-made.made) shown (c.in_ok-made.ensures sets) in
    subst (λ (b : Bool). AddsString sets c.args.items.now.items c.add_string.new.items.items (opt_result (call_of sets c.args.call.now) b c.args.tok.now (items_of sets c.args.content.items)) c.in_ok-made.made) (sym c.if-hashed.true) made

pub returns : goal.returns
returns c = λ sets h.
    subst (λ (b : Bool). AddsString sets c.args.items.now.items c.add_content.new.items.items (opt_result (call_of sets c.args.call.now) b c.args.tok.now (items_of sets c.args.content.items)) true) (sym c.if-hashed.false) (c.in_ok-add_content.ensures sets h)
