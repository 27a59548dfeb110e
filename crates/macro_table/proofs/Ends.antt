-- The ends of a replacement list and of a `__VA_OPT__` content.
use Rattle.std.proofs.Common.{◌≡◌, ◌-◌, Bool, false, List, [], ◌∷◌, length, get_or, refl, ap, ◌∙◌, arith}
use Rattle.std.specs.Prelude.{Option, Some, None, not, ◌&&◌, ◌==◌}
use Rattle.std.specs.Option.{option_map, option_map_or}
use Rattle.std.specs.List.{list_any}
use Rattle.scan_model.specs.declared.token.Tok.{Tok}
use Rattle.scan_model.specs.TokenTests.{ends_with}
use Rattle.scan_model.specs.Parentheses.{Enclosed, in_parens}
use Rattle.scan_model.specs.MacroDefinition.{is_opt, has_operands, opt_fits}
use Rattle.macro_table.specs.Names.{inside_parens}

last : (test : Tok → Bool) (t : Tok) (ts : List Tok) (d : Tok) → test (get_or (t ∷ ts) (length ts) d) ≡ ends_with test (t ∷ ts)
last test t [] d = refl
last test t (u ∷ ts) d = last test u ts d

pub ends_with-last : (test : Tok → Bool) (ts : List Tok) (t : Tok) → false ≡ (length ts == 0) → t ≡ get_or ts (length ts - 1) t → test t ≡ ends_with test ts
ends_with-last test [] t some is = cc
ends_with-last test (u ∷ ts) t some is =
    let n : length (u ∷ ts) - 1 ≡ length ts = omega arith in
    ap test (is ∙ ap (λ k. get_or (u ∷ ts) k t) n) ∙ last test u ts t

fits_by_inside : (o : Option (Enclosed Tok)) (content : List Tok) → Some content ≡ option_map (λ e. e.inside) o
    → (has_operands content && not (list_any is_opt content)) ≡ option_map_or (λ e. has_operands e.inside && not (list_any is_opt e.inside)) o false
fits_by_inside None content e = cc
fits_by_inside (Some x) content e = let same_content : content ≡ x.inside = cc in ap (λ ts. has_operands ts && not (list_any is_opt ts)) same_content

pub opt_fits-inside : (ts content : List Tok) → Some content ≡ inside_parens ts → (has_operands content && not (list_any is_opt content)) ≡ opt_fits ts
opt_fits-inside ts content e = fits_by_inside (in_parens (λ t. t) ts) content e
