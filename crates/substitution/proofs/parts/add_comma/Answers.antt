use Rattle.std.proofs.Common.{◌≡◌, ◌∙◌, ap, false, List, length, ◌==◌}
use Rattle.substitution.specs.declared.marked.Marked.{Marked}
use Rattle.substitution.specs.Calls.{call_of}
use Rattle.substitution.proofs.AddLemmas.{adds-on, adds-same}
use Rattle.substitution.proofs.PartLemmas.{comma-some}
use Rattle.substitution.proofs.parts.add_comma.Goals as goal

pub returns : goal.returns
returns c = λ sets known.
    let some : false ≡ (length c.args.arg.now.written == 0) = c.if-is_empty.ensures ∙ ap (λ (s : List Marked). length s == 0) c.as_slice.ensures in
    adds-same sets c.args.items.now.items c.add_given.new.items.items _ _ (comma-some sets (call_of sets c.args.call.now) c.args.comma.now c.args.variable.now c.args.arg.now c.args.next_to_paste some)
    (adds-on sets c.args.items.now.items c.add_own.new.items.items c.add_given.new.items.items _ _ (c.in_ok-add_own.ensures sets) (c.in_ok-add_given.ensures sets known))
