-- Conditionals by what the code finds of them ([cpp.cond]).
use Rattle.std.proofs.Common.{◌≡◌, Bool, true, false, cond, List, [], ◌∷◌, refl}
use Rattle.scan_model.specs.declared.token.Line.{Line}
use Rattle.scan_model.specs.declared.unit_end.FaultKind.TheVariants as FaultIs
use Rattle.scan_model.specs.State.{Group, Core}
use Rattle.scan_model.specs.Effect.{Effect, Now, stop}
use Rattle.scan_model.specs.Conditionals.{with_group, next_group, on_chosen, opening_of}
use Rattle.plain_lines.specs.declared.conditionals.NextGroup.{NextGroup}
use Rattle.plain_lines.specs.declared.conditionals.NextGroup.TheVariants.{Unbalanced, Passed, Asked}
use Rattle.plain_lines.specs.NextGroups.{finds, passed}

-- goes on
abbrev pub now : Core → Effect (List Line)
now c = Now c

module _ (c : Core) (l : Line) where
  -- the next group, by what the code finds
  abbrev pub on_next : ((Bool → Core → Effect (List Line)) → Effect (List Line)) → List Group → NextGroup → Effect (List Line)
  on_next condition gs Unbalanced = stop FaultIs.Unbalanced c l
  on_next condition gs Passed = Now (record c { stack = passed gs })
  on_next condition gs Asked = condition (on_chosen l (opening_of true gs))

  next_by : (condition : (Bool → Core → Effect (List Line)) → Effect (List Line)) (g : Group) (gs : List Group) (past taken : Bool) →
      cond past (stop FaultIs.Unbalanced c l) (cond taken (with_group (record g { live = false }) gs c) (condition (λ yields. with_group (record g { live = yields; taken = yields }) gs)))
      ≡ on_next condition (g ∷ gs) (cond past Unbalanced (cond taken Passed Asked))
  next_by condition g gs true taken = refl
  next_by condition g gs false true = refl
  next_by condition g gs false false = refl

  pub next_group-found : (condition : (Bool → Core → Effect (List Line)) → Effect (List Line)) (gs : List Group) → next_group c l condition gs ≡ on_next condition gs (finds gs)
  next_group-found condition [] = refl
  next_group-found condition (g ∷ gs) = next_by condition g gs g.past_else g.taken
