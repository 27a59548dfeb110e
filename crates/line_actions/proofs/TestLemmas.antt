-- The tests of a condition, one after another ([cpp.cond]).
use Rattle.std.proofs.Common.{◌≡◌, ℕ, ◌+◌, ◌<◌, ◌≤◌, Bool, List, [], ◌∷◌, ◌++◌, drop, length, map, refl, ap, sym, ◌∙◌, subst}
use Rattle.std.specs.Prelude.{Option, Some, None, IsTrue, is_some}
use Rattle.std.specs.Option.{option_map}
use Rattle.std.proofs.lemmas.Bool.{true≢false}
use Rattle.std.proofs.lemmas.Option.{same_Some}
use Rattle.scan_model.specs.declared.token.Tok.{Tok}
use Rattle.scan_model.specs.declared.command.Form.{Form}
use Rattle.scan_model.specs.declared.condition.HasAt.{HasAt}
use Rattle.scan_model.specs.declared.condition.HasNext.TheVariants.{End, Bad, At}
use Rattle.scan_model.specs.HeaderName.{Named, header_or_name, Term, Plain, Has, terms}
use Rattle.if_values.proofs.WalkLemmas.{Walked}
use Rattle.plain_lines.specs.Conditions.{from_first_test}
use Rattle.line_actions.specs.Names.{form_and_name}
use Rattle.line_actions.specs.Tests.{Finds}

-- ## The first test found

none_left : (ts : List Tok) → from_first_test (map Plain ts) ≡ []
none_left [] = refl
none_left (t ∷ ts) = none_left ts

past_plain : (ts : List Tok) (next : Bool) (n : Named) (us : List Term) → from_first_test (map Plain ts ++ Has next n.form n.name ∷ us) ≡ Has next n.form n.name ∷ us
past_plain [] next n us = refl
past_plain (t ∷ ts) next n us = past_plain ts next n us

first_of_terms : (passed : List Tok) (next : Bool) (n : Named) (o : Option (List Term)) → option_map from_first_test (option_map (λ us. map Plain passed ++ Has next n.form n.name ∷ us) o) ≡ option_map (Has next n.form n.name ∷◌) o
first_of_terms passed next n None = refl
first_of_terms passed next n (Some us) = ap (λ vs. Some vs) (past_plain passed next n us)

first_left : (ts passed : List Tok) (next : Bool) (n : Named) (o : Option (List Term)) → terms ts ≡ option_map (λ us. map Plain passed ++ Has next n.form n.name ∷ us) o → option_map from_first_test (terms ts) ≡ option_map (Has next n.form n.name ∷◌) o
first_left ts passed next n o e = ap (option_map from_first_test) e ∙ first_of_terms passed next n o

found_by : (toks : List Tok) (from : ℕ) (h : HasAt) (name : Named) (o p : Option (List Term)) → terms (drop from toks) ≡ o → terms (drop (h.past + 1) toks) ≡ p → IsTrue (is_some o) → from < h.past + 1 → h.past + 1 ≤ length toks →
    option_map from_first_test o ≡ option_map (Has h.next name.form name.name ∷◌) p → Finds toks from (Some (record { next = h.next; form = name.form; name = name.name; past = h.past + 1 }))
found_by toks from h name None p e f some l w t = absurd (true≢false (sym some))
found_by toks from h name (Some us) None e f some l w t = cc
found_by toks from h name (Some us) (Some vs) e f some l w t =
    let same : from_first_test us ≡ Has h.next name.form name.name ∷ vs = cc in (us, (vs, (e, same, f, l, w)))

named_as : (form : Form) (name : List ℕ) (o : Option Named) (n : Named) → option_map form_and_name o ≡ Some (form, name) → o ≡ Some n → form_and_name n ≡ (form, name)
named_as form name None n e f = cc
named_as form name (Some m) n e f = ap form_and_name (sym (same_Some m n f)) ∙ same_Some (form_and_name m) (form, name) e

pub finds_test : (toks : List Tok) (from : ℕ) (h : HasAt) (form : Form) (name : List ℕ) → IsTrue (is_some (terms (drop from toks))) → Walked toks (drop from toks) from (At h) →
    option_map form_and_name (header_or_name (drop h.first toks)) ≡ Some (form, name) → Finds toks from (Some (record { next = h.next; form = form; name = name; past = h.past + 1 }))
finds_test toks from h form name some w e =
    let is = w.1 in
    let same = named_as form name (header_or_name (drop h.first toks)) w.0 e is.name in
    subst (λ (p : Form × List ℕ). Finds toks from (Some (record { next = h.next; form = p.0; name = p.1; past = h.past + 1 }))) same
    (found_by toks from h w.0 (terms (drop from toks)) (terms (drop (h.past + 1) toks)) refl refl some is.later is.within (first_left (drop from toks) is.passed h.next w.0 (terms (drop 1 w.0.after)) is.terms ∙ ap (λ us. option_map (Has h.next w.0.form w.0.name ∷◌) (terms us)) (sym is.rest)))

pub finds_none : (toks : List Tok) (from : ℕ) → Walked toks (drop from toks) from End → Finds toks from None
finds_none toks from w = (map Plain (drop from toks), (w, none_left (drop from toks)))

pub never_bad : (toks : List Tok) (from place : ℕ) → IsTrue (is_some (terms (drop from toks))) → Walked toks (drop from toks) from (Bad place) → ⊥
never_bad toks from place some w = true≢false (sym some ∙ ap is_some w)

pub has_some_name : (toks : List Tok) (from : ℕ) (h : HasAt) → Walked toks (drop from toks) from (At h) → option_map form_and_name (header_or_name (drop h.first toks)) ≡ None → ⊥
has_some_name toks from h w e = let f = w.1.name in by (header_or_name (drop h.first toks)) e f where
  by : (o : Option Named) → option_map form_and_name o ≡ None → o ≡ Some w.0 → ⊥
  by None e f = cc
  by (Some m) e f = cc
