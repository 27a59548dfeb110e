-- What a `#line` does ([cpp.line]).
use Rattle.std.proofs.Common.{◌≡◌, ℕ, Bool, true, false, cond, List, [], ◌∷◌, refl, ap, sym, ◌∙◌}
use Rattle.std.specs.Prelude.{Option, Some, None, ◌&&◌, nat_le}
use Rattle.std.specs.Option.{option_map, option_and_then}
use Rattle.std.specs.List.{list_all}
use Rattle.std.specs.Char.{is_ascii_digit}
use Rattle.scan_model.specs.declared.token.Kind.TheVariants.{Number}
use Rattle.scan_model.specs.declared.token.Tok.{Tok}
use Rattle.scan_model.specs.declared.token.Line.{Line}
use Rattle.scan_model.specs.declared.expansion.Site.{Site}
use Rattle.scan_model.specs.TokenTests.{is_of, is_plain_string}
use Rattle.scan_model.specs.Literals.{number_of}
use Rattle.scan_model.specs.Site.{renumbered}
use Rattle.scan_model.specs.State.{Core}
use Rattle.scan_model.specs.Effect.{Effect, Now}
use Rattle.scan_model.specs.Directives.{is_line_number, line_set}
use Rattle.line_actions.specs.Numbers.{number_in, with_string, change_of, file_after}

by_tests : (a b d : Bool) (m n : ℕ) → cond a (cond (b && d) (Some m) None) None ≡ Some n → ((a && b && d) ≡ true) × (n ≡ m)
by_tests true true true m n e = (refl, cc)
by_tests true true false m n e = cc
by_tests true false d m n e = cc
by_tests false b d m n e = cc

number_line : (t : Tok) (n : ℕ) → number_in t ≡ Some n → (is_line_number t ≡ true) × (n ≡ number_of 10 t.text)
number_line t n e = by_tests (is_of Number t) (list_all is_ascii_digit t.text) (nat_le (number_of 10 t.text) 2147483647) (number_of 10 t.text) n e

-- the effect of this change
abbrev pub changed : Core → Line → ℕ × Option (List ℕ) → Effect (List Line)
changed c l p = Now (record c { site = renumbered p.0 (file_after c.site.file p) l.next })

abbrev unnamed : ℕ → ℕ × Option (List ℕ)
unnamed n = (n, None)

module _ (c : Core) (l : Line) (t : Tok) (p : ℕ × Option (List ℕ)) where
  alone : (o : Option ℕ) → number_in t ≡ o → option_map unnamed o ≡ Some p → line_set c l (t ∷ []) ≡ changed c l p
  alone None e f = cc
  alone (Some n) e f = let k = number_line t n e in let q : unnamed n ≡ p = cc in
      let text = ap (λ (m : ℕ). changed c l (unnamed m)) (sym k.1) in
      rw k.0 (text ∙ ap (changed c l) q)

  followed : (u : Tok) (ts : List Tok) (o : Option ℕ) → number_in t ≡ o → option_and_then (with_string u) o ≡ Some p → line_set c l (t ∷ u ∷ ts) ≡ changed c l p
  followed u ts None e f = cc
  followed u ts (Some n) e f = by (is_plain_string u) refl f where
    by : (b : Bool) → is_plain_string u ≡ b → cond b (Some (n, Some u.text)) None ≡ Some p → line_set c l (t ∷ u ∷ ts) ≡ changed c l p
    by false s g = cc
    by true s g = let k = number_line t n e in let named : ℕ × Option (List ℕ) = (n, Some u.text) in let q : named ≡ p = cc in
        let text = ap (λ (m : ℕ). changed c l (m, Some u.text)) (sym k.1) in
        rw (k.0, s) (text ∙ ap (changed c l) q)

pub line_changed : (c : Core) (l : Line) (toks : List Tok) (p : ℕ × Option (List ℕ)) → change_of toks ≡ Some p → line_set c l toks ≡ changed c l p
line_changed c l [] p e = cc
line_changed c l (t ∷ []) p e = alone c l t p (number_in t) refl e
line_changed c l (t ∷ u ∷ ts) p e = followed c l t p u ts (number_in t) refl e

abbrev sited_at : Core → Site → Effect (List Line)
sited_at c site = Now (record c { site = site })

-- the same by the site that the code has
pub renumbered_to : (c : Core) (l : Line) (p : ℕ × Option (List ℕ)) (text : List ℕ) (site : Site) → text ≡ file_after c.site.file p → site ≡ renumbered p.0 text l.next → changed c l p ≡ sited_at c site
renumbered_to c l p text site e f = ap (λ (s : List ℕ). sited_at c (renumbered p.0 s l.next)) (sym e) ∙ ap (sited_at c) (sym f)
