use Rattle.std.proofs.Common.{sym, ◌∙◌, ap, Some, List, ℕ, Bool, ◌&&◌, Option}
use Rattle.std.specs.Option.{option_map}
use Rattle.scan_model.specs.declared.token.Tok.{Tok}
use Rattle.scan_model.specs.Substitution as subst
use Rattle.hide_sets.specs.Sets.{hides_of}
use Rattle.substitution.proofs.joins.join_tokens.Goals as goal

pub returns-in_ok-common-in-Some-clause-value : goal.returns-in_ok-common-in-Some-clause-value
returns-in_ok-common-in-Some-clause-value c =
    let made = c.in_ok-common-in-Some.ensures.ok in
    let item : Tok → (List ℕ → Bool) → subst.Item = λ t f. subst.Operand (record { tok = t; hides = f }) in
    let both : List ℕ → Bool = λ name. hides_of c.args.sets.now c.args.left.now.hides name && hides_of c.args.sets.now c.args.right.now.hides name in
    record {
      known = made.is_set;
      meant = ap (λ (f : List ℕ → Bool). Some (item c.in-Some.tok f)) made.meant ∙ ap (λ (t : Option Tok). option_map (λ tok. item tok both) t) (sym c.in-Some.is ∙ c.in_ok-tok.ensures);
    }
