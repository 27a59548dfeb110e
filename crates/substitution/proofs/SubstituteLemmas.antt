-- The whole of a replacement.
use Rattle.std.proofs.Common.{◌≡◌, ◌∙◌, ap, Bool, false, List, length, Option, option_map, option_and_then}
use Rattle.scan_model.specs.declared.token.Tok.{Tok}
use Rattle.scan_model.specs.Substitution.{Call, Item, items_up_to, joined, without_placemarkers, first_spaced, subst}

pub subst-by : (c : Call) (space : Bool) (body : List Tok) (list whole : Option (List Item)) → list ≡ items_up_to (length body) c false body → whole ≡ option_and_then joined list → option_map (λ items. first_spaced space (without_placemarkers items)) whole ≡ subst c space body
unfolding subst
subst-by c space body list whole e f = ap (option_map (λ items. first_spaced space (without_placemarkers items))) (f ∙ ap (option_and_then joined) e)
