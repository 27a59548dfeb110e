-- The terms of a condition, one after another, and its value.
use Rattle.std.proofs.Common.{◌≡◌, ℕ, Bool, List, [], ◌∷◌, refl, ap, sym, ◌∙◌, subst}
use Rattle.std.specs.Prelude.{Some, None}
use Rattle.std.specs.declared.result.Result.TheVariants.{Ok, Err}
use Rattle.scan_model.specs.declared.token.Tok.{Tok}
use Rattle.scan_model.specs.declared.token.Line.{Line}
use Rattle.scan_model.specs.declared.command.Form.{Form}
use Rattle.scan_model.specs.declared.condition.CondValue.{CondValue}
use Rattle.scan_model.specs.declared.condition.CondFault.{CondFault}
use Rattle.scan_model.specs.declared.unit_end.Place.{Place}
use Rattle.scan_model.specs.declared.unit_end.UnitEnd.TheVariants as Ends
use Rattle.scan_model.specs.HeaderName.{Term, Plain, Has, Named}
use Rattle.scan_model.specs.Condition.{value}
use Rattle.scan_model.specs.ConditionValue.{is_nonzero}
use Rattle.scan_model.specs.Paths.{folder}
use Rattle.scan_model.specs.Files.{FileMap}
use Rattle.scan_model.specs.State.{Setup, Core}
use Rattle.scan_model.specs.Effect.{Effect, Now}
use Rattle.scan_model.specs.Search.{search_form}
use Rattle.scan_model.specs.Conditionals.{fault_of, on_value, OfElif, OfIf, Opening, on_chosen}
use Rattle.unit_laws.specs.Reduction.{Given}
use Rattle.unit_laws.specs.KnownAnswers.{asked}
use Rattle.unit_steps.specs.Stack.{Frame}
use Rattle.unit_steps.specs.Searches.{Tested, name_search, chosen_groups, put_before, with_terms}
use Rattle.unit_steps.specs.Moments.{Moment, core_at}
use Rattle.unit_steps.specs.Stands.{Acts, Stands, StandsAtEnd}
use Rattle.unit_steps.proofs.Steps.{same_effect, search_begins}
use Rattle.unit_steps.proofs.Effects.{here, effect_goes, effect_faulty_here}

chosen_effect : (l : Line) (opening : Opening) (yields : Bool) (c : Core) → on_chosen {X = List Line} l opening yields c ≡ Now (record c { stack = chosen_groups l opening yields c.stack })
chosen_effect l OfIf yields c = refl
chosen_effect l (OfElif g gs) yields c = refl

-- terms from the first `__has_include` on, by any function that drops the tokens before it, are as good as all
module _ (g : List Term → List Term) (none : g [] ≡ []) (plain : (t : Tok) (ts : List Term) → g (Plain t ∷ ts) ≡ g ts) (has : (next : Bool) (form : Form) (name : List ℕ) (ts : List Term) → g (Has next form name ∷ ts) ≡ Has next form name ∷ ts) where
  terms_from_test : (files : FileMap (List Line)) (setup : Setup) (l : Line) (opening : Opening) (so_far : List Bool) (toks : List Tok) (c : Core) (ts : List Term) →
      with_terms files setup l opening so_far ts toks c ≡ with_terms files setup l opening so_far (g ts) toks c
  terms_from_test files setup l opening so_far toks c [] = ap (λ z. with_terms files setup l opening so_far z toks c) (sym none)
  terms_from_test files setup l opening so_far toks c (Plain t ∷ ts) =
      terms_from_test files setup l opening so_far toks c ts ∙ ap (λ z. with_terms files setup l opening so_far z toks c) (sym (plain t ts))
  terms_from_test files setup l opening so_far toks c (Has next form name ∷ ts) = ap (λ z. with_terms files setup l opening so_far z toks c) (sym (has next form name ts))

  pub test_first : (setup : Setup) (m : Moment) (answers : List (List ℕ × Given)) (l : Line) (opening : Opening) (so_far : List Bool) (toks : List Tok) (ts : List Term) →
      Acts setup m answers (λ files c. with_terms files setup l opening so_far ts toks c) → Acts setup m answers (λ files c. with_terms files setup l opening so_far (g ts) toks c)
  test_first setup m answers l opening so_far toks ts = same_effect setup m.top m.frames m.builder answers
      (λ files. with_terms files setup l opening so_far ts toks (core_at m (asked answers))) (λ files. with_terms files setup l opening so_far (g ts) toks (core_at m (asked answers)))
      (λ files kept agree. terms_from_test files setup l opening so_far toks (core_at m (asked answers)) ts)

module _ (setup : Setup) (m : Moment) (answers : List (List ℕ × Given)) (l : Line) (opening : Opening) (toks : List Tok) where
  -- in the file f
  module _ (f : Frame) (fs : List Frame) (frames : m.frames ≡ f ∷ fs) where
    -- where faults of the condition stand
    abbrev pub condition_place : Place
    condition_place = record { path = f.path; line = l.line }

    -- the name that the next `__has_include` looks for
    abbrev pub term_name : Bool → Form → List ℕ → Named
    term_name next form name = record { form = search_form next f.chain_place form; name = name; after = [] }

    -- its search begins
    pub term_sought : (so_far : List Bool) (next : Bool) (form : Form) (name : List ℕ) (ts : List Term) →
        Acts setup m answers (λ files c. with_terms files setup l opening so_far (Has next form name ∷ ts) toks c) →
        Stands setup (record m { frames = f ∷ fs; search = Some (name_search (Tested l opening so_far ts toks) setup condition_place (term_name next form name) (folder f.path) 0) }) answers
    term_sought so_far next form name ts acts =
        search_begins setup (record m { frames = f ∷ fs }) answers (name_search (Tested l opening so_far ts toks) setup condition_place (term_name next form name) (folder f.path) 0)
        (subst (λ z. Acts setup (record m { frames = z }) answers (λ files c. with_terms files setup l opening so_far (Has next form name ∷ ts) toks c)) frames acts)

    -- no term is left: the condition has its value
    module _ (so_far : List Bool) (acts : Acts setup m answers (λ files c. with_terms files setup l opening so_far [] toks c)) where
      abbrev effect : FileMap (List Line) → Core → Effect (List Line)
      effect files c = with_terms files setup l opening so_far [] toks c

      abbrev c : Core
      c = here setup m answers f fs effect frames acts

      pub condition_faulty : (x : CondFault) → value toks (put_before so_far []) ≡ Err x → StandsAtEnd setup (Ends.Stopped (record { kind = fault_of x; place = condition_place })) answers
      condition_faulty x is = effect_faulty_here setup m answers f fs effect frames acts (fault_of x) condition_place
          (λ files. ap (λ z. on_value l (on_chosen l opening) z c) is)

      pub condition_chosen : (v : CondValue) → value toks (put_before so_far []) ≡ Ok v →
          Stands setup (record m { frames = record f { groups = chosen_groups l opening (is_nonzero v) f.groups } ∷ fs; search = None }) answers
      condition_chosen v is = effect_goes setup m answers f fs effect frames acts (record c { stack = chosen_groups l opening (is_nonzero v) f.groups }) refl
          (λ files. ap (λ z. on_value l (on_chosen l opening) z c) is ∙ chosen_effect l opening (is_nonzero v) c)
