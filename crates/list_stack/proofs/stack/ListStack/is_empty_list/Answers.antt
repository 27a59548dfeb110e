use Rattle.std.proofs.Common.{◌≡◌, List, [], ◌∷◌, Bool, true, false, not, refl}
use Rattle.std.specs.Prelude.{Option, Some, None, is_some, IsTrue, ◌↔◌, slice_get}
use Rattle.std.specs.Borrow.{Bor}
use Rattle.std.specs.Option.{option_copied}
use Rattle.substitution.specs.declared.marked.Marked.{Marked}
use Rattle.list_stack.proofs.stack.ListStack.is_empty_list.Goals as goal

empty : (r : Bool) (o : Option (Bor Marked)) (ms : List Marked) → option_copied o ≡ slice_get ms 0 → is_some o ≡ not r → IsTrue r ↔ (ms ≡ [])
empty true None [] h s = (λ _. refl, λ _. refl)
empty true None (m ∷ ms) h s = absurd (cc)
empty true (Some x) ms h s = absurd (cc)
empty false None ms h s = absurd (cc)
empty false (Some x) [] h s = absurd (cc)
empty false (Some x) (m ∷ ms) h s = (λ t. absurd (cc), λ e. absurd (cc))

pub returns : goal.returns
returns c = empty c.is_none.result c.at.result c.args.self.now.first c.at.ensures c.is_none.ensures
