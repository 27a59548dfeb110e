-- How the search over a line's later lines goes on past a conditional.
use Rattle.std.proofs.Common.{◌≡◌, ◌≢◌, inl, inr, ℕ, suc, ◌+◌, ◌<◌, ◌≤◌, Bool, true, false, ◌==◌, if◌then◌else◌, List, [], ◌∷◌, ◌++◌, All, map, refl, ap, sym, ◌∙◌, subst, drop, length, get_or, slice_get, Some, length-drop, add-one, arith}
use Rattle.std.proofs.lemmas.Bool.{ne_eqb, eq-eqb, eqb-true, cases_Bool, both_ways}
use Rattle.std.proofs.lemmas.List.{drop_all, drop-map, get_or-set_same, get_or-set_other}
use Rattle.std.proofs.Math.ListN.{set, length-set}
use Rattle.std.proofs.lemmas.Option.{get_or_from_slice_get, slice_get-get_or}
use Rattle.std.proofs.lemmas.List.Elements.{All-nil, All-cons, All-head, All-tail}
use Rattle.std.proofs.Math.Seq.{drop-cons}
use Rattle.scan_model.specs.declared.skip.Skip.{Skip}
use Rattle.scan_model.specs.declared.skip.Skip.TheVariants.{Partner, Broken, Open}
use Rattle.scan_model.specs.declared.directive.Directive.{Directive}
use Rattle.scan_model.specs.declared.directive.Directive.TheVariants.{If, Ifdef, Ifndef, Elif, Elifdef, Elifndef, Else, Endif, Nothing}
use Rattle.scan_model.specs.declared.command.Dialect.{Dialect}
use Rattle.scan_model.specs.declared.token.Line.{Line}
use Rattle.scan_model.specs.Skips.{Nested, Step, Leaves, Ends, step, after_step, at_end, directive_in, skip_from, skip}
use Rattle.reducer.specs.SkipTable.{opens, closes, is_else, is_endif, skip_over, skip_among, seen_from, HasSkips}

-- ## One line

abbrev opened : ℕ → List Nested → List Nested
opened j inside = record { opener = j; past_else = false } ∷ inside

step_opens : (j : ℕ) (inside : List Nested) (d : Directive) → opens d ≡ true → step j inside d ≡ Leaves (opened j inside)
step_opens j inside If h = refl
step_opens j inside Ifdef h = refl
step_opens j inside Ifndef h = refl
step_opens j inside _ h = cc

step_closes : (j : ℕ) (d : Directive) → closes d ≡ true → step j [] d ≡ Ends (Partner j)
step_closes j Elif h = refl
step_closes j Elifdef h = refl
step_closes j Elifndef h = refl
step_closes j Else h = refl
step_closes j Endif h = refl
step_closes j _ h = cc

step_other : (j : ℕ) (d : Directive) → opens d ≡ false → closes d ≡ false → step j [] d ≡ Leaves []
step_other j If h c = cc
step_other j Ifdef h c = cc
step_other j Ifndef h c = cc
step_other j Elif h c = cc
step_other j Elifdef h c = cc
step_other j Elifndef h c = cc
step_other j Else h c = cc
step_other j Endif h c = cc
step_other j _ h c = refl

-- the end of a group of the only conditional that is open
pub step_endif : (j : ℕ) (g : Nested) (d : Directive) → is_endif d ≡ true → step j (g ∷ []) d ≡ Leaves []
step_endif j g Endif h = refl
step_endif j g _ h = cc

pub step_broken : (j : ℕ) (g : Nested) (d : Directive) → closes d ≡ true → is_endif d ≡ false → g.past_else ≡ true → step j (g ∷ []) d ≡ Ends (Broken j)
step_broken j g Elif c h e = rw e refl
step_broken j g Elifdef c h e = rw e refl
step_broken j g Elifndef c h e = rw e refl
step_broken j g Else c h e = rw e refl
step_broken j g Endif c h e = cc
step_broken j g _ c h e = cc

pub step_next : (j o : ℕ) (d : Directive) → closes d ≡ true → is_endif d ≡ false
    → step j (record { opener = o; past_else = false } ∷ []) d ≡ Leaves (record { opener = o; past_else = is_else d } ∷ [])
step_next j o Elif c h = refl
step_next j o Elifdef c h = refl
step_next j o Elifndef c h = refl
step_next j o Else c h = refl
step_next j o Endif c h = cc
step_next j o _ c h = cc

-- ## The line of the search

-- none of the open conditionals was opened by the line or before it
abbrev AreLater : ℕ → List Nested → Type 0
AreLater k inside = All (λ (g : Nested). k < g.opener) inside

seen_end : (of k : ℕ) (inside : List Nested) → AreLater of inside → at_end k inside ≡ seen_from (at_end of inside) of k
seen_end of k [] later = let same : (of == of) ≡ true = eq-eqb of of refl in rw same refl
seen_end of k (g ∷ gs) later =
    let lt : of < g.opener = All-head (λ (g : Nested). of < g.opener) g gs later in
    let other : (g.opener == of) ≡ false = ne_eqb g.opener of (λ e. absurd (omega arith)) in
    rw other refl

seen_step : (of k j : ℕ) (inside : List Nested) (d : Directive) (ds : List Directive) → of < j → AreLater of inside
    → ((inside : List Nested) → AreLater of inside → skip_over k (j + 1) inside ds ≡ seen_from (skip_over of (j + 1) inside ds) of k)
    → skip_over k j inside (d ∷ ds) ≡ seen_from (skip_over of j inside (d ∷ ds)) of k
seen_step of k j inside d ds h later more = by inside d later where
  new : (inside : List Nested) → AreLater of inside → AreLater of (opened j inside)
  new inside later = All-cons (λ (g : Nested). of < g.opener) _ inside h later

  next : (past : Bool) (inside : List Nested) → AreLater of inside
      → after_step (λ inside. skip_over k (j + 1) inside ds) (if past then Ends (Broken j) else Leaves inside)
      ≡ seen_from (after_step (λ inside. skip_over of (j + 1) inside ds) (if past then Ends (Broken j) else Leaves inside)) of k
  next true inside later = refl
  next false inside later = more inside later

  marked : (g : Nested) (gs : List Nested) → AreLater of (g ∷ gs) → AreLater of (record g { past_else = true } ∷ gs)
  marked g gs later = All-cons (λ (g : Nested). of < g.opener) _ gs (All-head (λ (g : Nested). of < g.opener) g gs later) (All-tail (λ (g : Nested). of < g.opener) g gs later)

  by : (inside : List Nested) (d : Directive) → AreLater of inside → skip_over k j inside (d ∷ ds) ≡ seen_from (skip_over of j inside (d ∷ ds)) of k
  by inside If later = more _ (new inside later)
  by inside Ifdef later = more _ (new inside later)
  by inside Ifndef later = more _ (new inside later)
  by [] Elif later = refl
  by [] Elifdef later = refl
  by [] Elifndef later = refl
  by [] Else later = refl
  by [] Endif later = refl
  by (g ∷ gs) Elif later = next g.past_else (g ∷ gs) later
  by (g ∷ gs) Elifdef later = next g.past_else (g ∷ gs) later
  by (g ∷ gs) Elifndef later = next g.past_else (g ∷ gs) later
  by (g ∷ gs) Else later = next g.past_else (record g { past_else = true } ∷ gs) (marked g gs later)
  by (g ∷ gs) Endif later = more gs (All-tail (λ (g : Nested). of < g.opener) g gs later)
  by inside _ later = more inside later

seen_over : (of k j : ℕ) (inside : List Nested) (ds : List Directive) → of < j → AreLater of inside → skip_over k j inside ds ≡ seen_from (skip_over of j inside ds) of k
seen_over of k j inside [] h later = seen_end of k inside later
seen_over of k j inside (d ∷ ds) h later = seen_step of k j inside d ds h later (λ inside later. seen_over of k (j + 1) inside ds (omega arith) later)

-- the lines after the one at the place `of`, for another line
pub seen_after : (ds : List Directive) (of k : ℕ) → skip_over k (of + 1) [] (drop (of + 1) ds) ≡ seen_from (skip_among ds of) of k
unfolding skip_among
seen_after ds of k = seen_over of k (of + 1) [] (drop (of + 1) ds) (omega arith) (All-nil _)

-- ## Past a conditional

-- the directive of the line at a place
abbrev pub directive_at : List Directive → ℕ → Directive
directive_at ds p = get_or ds p Nothing

-- What the search of the line k does that has come into a conditional, after what one has found that knows only that
-- conditional.
abbrev pub past : List Directive → ℕ → Nested → List Nested → Skip → Skip
past all k g gs (Partner p) = after_step (λ inside. skip_over k (p + 1) inside (drop (p + 1) all)) (step p (g ∷ gs) (directive_at all p))
past all k g gs (Broken p) = Broken p
past all k g gs (Open p) = Open p

front_is : (all : List Directive) (j : ℕ) (d : Directive) (ds : List Directive) → d ∷ ds ≡ drop j all → (directive_at all j ≡ d) × (ds ≡ drop (j + 1) all) × (j < length all)
front_is all j d ds e =
    let some : j < length all = omega (arith, ap length e, length-drop j all) in
    let whole : drop j all ≡ directive_at all j ∷ drop (suc j) all = drop-cons all j Nothing some in
    let both : d ∷ ds ≡ directive_at all j ∷ drop (suc j) all = e ∙ whole in
    let more : ds ≡ drop (suc j) all = cc in
    (cc, more ∙ ap (λ n. drop n all) (sym (add-one j)), some)

past_step : (all : List Directive) (k j : ℕ) (inside : List Nested) (g : Nested) (gs : List Nested) (d : Directive) (ds : List Directive)
    → ((inside : List Nested) → skip_over k (j + 1) (inside ++ g ∷ gs) ds ≡ past all k g gs (skip_over g.opener (j + 1) inside ds))
    → skip_over k j (g ∷ gs) (d ∷ ds) ≡ past all k g gs (Partner j) → skip_over k j (inside ++ g ∷ gs) (d ∷ ds) ≡ past all k g gs (skip_over g.opener j inside (d ∷ ds))
past_step all k j inside g gs d ds more here = by inside d here where
  next : (is_past : Bool) (inside : List Nested)
      → after_step (λ inside. skip_over k (j + 1) inside ds) (if is_past then Ends (Broken j) else Leaves (inside ++ g ∷ gs))
      ≡ past all k g gs (after_step (λ inside. skip_over g.opener (j + 1) inside ds) (if is_past then Ends (Broken j) else Leaves inside))
  next true inside = refl
  next false inside = more inside

  by : (inside : List Nested) (d : Directive) → skip_over k j (g ∷ gs) (d ∷ ds) ≡ past all k g gs (Partner j)
      → skip_over k j (inside ++ g ∷ gs) (d ∷ ds) ≡ past all k g gs (skip_over g.opener j inside (d ∷ ds))
  by inside If here = more (opened j inside)
  by inside Ifdef here = more (opened j inside)
  by inside Ifndef here = more (opened j inside)
  by [] Elif here = here
  by [] Elifdef here = here
  by [] Elifndef here = here
  by [] Else here = here
  by [] Endif here = here
  by (i ∷ is) Elif here = next i.past_else (i ∷ is)
  by (i ∷ is) Elifdef here = next i.past_else (i ∷ is)
  by (i ∷ is) Elifndef here = next i.past_else (i ∷ is)
  by (i ∷ is) Else here = next i.past_else (record i { past_else = true } ∷ is)
  by (i ∷ is) Endif here = more is
  by inside _ here = more inside

past_over : (all : List Directive) (k j : ℕ) (inside : List Nested) (g : Nested) (gs : List Nested) (ds : List Directive) → ds ≡ drop j all
    → skip_over k j (inside ++ g ∷ gs) ds ≡ past all k g gs (skip_over g.opener j inside ds)
past_over all k j [] g gs [] e = refl
past_over all k j (i ∷ is) g gs [] e = refl
past_over all k j inside g gs (d ∷ ds) e =
    let front = front_is all j d ds e in
    past_step all k j inside g gs d ds (λ inside. past_over all k (j + 1) inside g gs ds front.1)
    (let R : Directive → List Directive → Skip = λ d ds. after_step (λ inside. skip_over k (j + 1) inside ds) (step j (g ∷ gs) d) in
    λ i. R (sym front.0 i) (front.1 i))

-- after the line at the place `at`, which knows only the conditional that is open
pub past_after : (ds : List Directive) (k at : ℕ) (g : Nested) → skip_over k (at + 1) (g ∷ []) (drop (at + 1) ds) ≡ past ds k g [] (seen_from (skip_among ds at) at g.opener)
past_after ds k at g = past_over ds k (at + 1) [] g [] (drop (at + 1) ds) refl ∙ ap (past ds k g []) (seen_after ds at g.opener)

-- ## A partner

-- it stands at the place or later, and ends a group
abbrev pub IsPartner : List Directive → ℕ → Skip → Type 0
IsPartner all j (Partner p) = (j ≤ p) × (p < length all) × (closes (directive_at all p) ≡ true)
IsPartner all j (Broken p) = Unit {0}
IsPartner all j (Open p) = Unit {0}

partner_later : (all : List Directive) (j : ℕ) (s : Skip) → IsPartner all (j + 1) s → IsPartner all j s
partner_later all j (Partner p) h = (omega (arith, h.0), h.1, h.2)
partner_later all j (Broken p) h = tt
partner_later all j (Open p) h = tt

partner_step : (all : List Directive) (k j : ℕ) (inside : List Nested) (d : Directive) (ds : List Directive) → ((inside : List Nested) → IsPartner all j (skip_over k (j + 1) inside ds))
    → (closes d ≡ true → IsPartner all j (Partner j)) → IsPartner all j (skip_over k j inside (d ∷ ds))
partner_step all k j inside d ds more here = by inside d here where
  next : (past : Bool) (inside : List Nested) → IsPartner all j (after_step (λ inside. skip_over k (j + 1) inside ds) (if past then Ends (Broken j) else Leaves inside))
  next true inside = tt
  next false inside = more inside

  by : (inside : List Nested) (d : Directive) → (closes d ≡ true → IsPartner all j (Partner j)) → IsPartner all j (skip_over k j inside (d ∷ ds))
  by inside If here = more (opened j inside)
  by inside Ifdef here = more (opened j inside)
  by inside Ifndef here = more (opened j inside)
  by [] Elif here = here refl
  by [] Elifdef here = here refl
  by [] Elifndef here = here refl
  by [] Else here = here refl
  by [] Endif here = here refl
  by (i ∷ is) Elif here = next i.past_else (i ∷ is)
  by (i ∷ is) Elifdef here = next i.past_else (i ∷ is)
  by (i ∷ is) Elifndef here = next i.past_else (i ∷ is)
  by (i ∷ is) Else here = next i.past_else (record i { past_else = true } ∷ is)
  by (i ∷ is) Endif here = more is
  by inside _ here = more inside

partner_end : (all : List Directive) (j k : ℕ) (inside : List Nested) → IsPartner all j (at_end k inside)
partner_end all j k [] = tt
partner_end all j k (g ∷ gs) = tt

partner_over : (all : List Directive) (k j : ℕ) (inside : List Nested) (ds : List Directive) → ds ≡ drop j all → IsPartner all j (skip_over k j inside ds)
partner_over all k j inside [] e = partner_end all j k inside
partner_over all k j inside (d ∷ ds) e =
    let front = front_is all j d ds e in
    partner_step all k j inside d ds (λ inside. partner_later all j _ (partner_over all k (j + 1) inside ds front.1)) (λ c. (omega arith, front.2, ap closes front.0 ∙ c))

pub partner_after : (ds : List Directive) (k p : ℕ) → skip_among ds k ≡ Partner p → (k < p) × (p < length ds) × (closes (directive_at ds p) ≡ true)
unfolding skip_among
partner_after ds k p e = let h = subst (IsPartner ds (k + 1)) e (partner_over ds k (k + 1) [] (drop (k + 1) ds) refl) in (omega (arith, h.0), h.1, h.2)

-- ## One entry

pub skip_last : (ds : List Directive) (k : ℕ) → k + 1 ≡ length ds → Open k ≡ skip_among ds k
unfolding skip_among
skip_last ds k h = sym (ap (skip_over k (k + 1) []) (drop_all (k + 1) ds (omega arith)))

by_next : (ds : List Directive) (k : ℕ) (d : Directive) → k + 1 < length ds → d ≡ directive_at ds (k + 1)
    → skip_among ds k ≡ after_step (λ inside. skip_over k (k + 1 + 1) inside (drop (k + 1 + 1) ds)) (step (k + 1) [] d)
unfolding skip_among
by_next ds k d h e =
    let next : drop (k + 1) ds ≡ d ∷ drop (k + 1 + 1) ds =
    drop-cons ds (k + 1) Nothing h ∙ ap (λ n. directive_at ds (k + 1) ∷ drop n ds) (sym (add-one (k + 1))) ∙ ap (λ d. d ∷ drop (k + 1 + 1) ds) (sym e) in
    ap (skip_over k (k + 1) []) next

abbrev go_on : List Directive → ℕ → Step → Skip
go_on ds k s = after_step (λ inside. skip_over k (k + 1 + 1) inside (drop (k + 1 + 1) ds)) s

pub skip_opens : (ds : List Directive) (k : ℕ) (d : Directive) → k + 1 < length ds → d ≡ directive_at ds (k + 1) → opens d ≡ true
    → skip_over k (k + 1 + 1) (record { opener = k + 1; past_else = false } ∷ []) (drop (k + 1 + 1) ds) ≡ skip_among ds k
skip_opens ds k d h e o = sym (by_next ds k d h e ∙ ap (go_on ds k) (step_opens (k + 1) [] d o))

pub skip_closes : (ds : List Directive) (k : ℕ) (d : Directive) → k + 1 < length ds → d ≡ directive_at ds (k + 1) → closes d ≡ true → Partner (k + 1) ≡ skip_among ds k
skip_closes ds k d h e c = sym (by_next ds k d h e ∙ ap (go_on ds k) (step_closes (k + 1) d c))

pub skip_other : (ds : List Directive) (k : ℕ) (d : Directive) → k + 1 < length ds → d ≡ directive_at ds (k + 1) → opens d ≡ false → closes d ≡ false
    → seen_from (skip_among ds (k + 1)) (k + 1) k ≡ skip_among ds k
skip_other ds k d h e o c = sym (by_next ds k d h e ∙ ap (go_on ds k) (step_other (k + 1) d o c) ∙ seen_after ds (k + 1) k)

-- ## What is read of the lists

pub directive_read : (ds : List Directive) (p : ℕ) (d : Directive) → p < length ds → get_or ds p d ≡ directive_at ds p
directive_read ds p d h = get_or_from_slice_get ds p (directive_at ds p) d (slice_get-get_or ds p Nothing h)

pub entry_is : (ds : List Directive) (skips : List Skip) (from k : ℕ) (d s : Skip) → HasSkips ds from skips → from ≤ k → k < length ds → get_or skips k d ≡ s → skip_among ds k ≡ s
entry_is ds skips from k d s h low high e = sym (get_or_from_slice_get skips k (skip_among ds k) d (h.each k low high)) ∙ e

-- ## The next group of a conditional

-- a conditional in which the search of the line k stands, after the line at the place `at`
abbrev pub in_group : List Directive → ℕ → ℕ → ℕ → Bool → Skip
in_group ds k at o past_else = skip_over k (at + 1) (record { opener = o; past_else = past_else } ∷ []) (drop (at + 1) ds)

at_partner : (ds : List Directive) (k at o : ℕ) (past_else : Bool) (p : ℕ) → skip_among ds at ≡ Partner p
    → in_group ds k at o past_else ≡ after_step (λ inside. skip_over k (p + 1) inside (drop (p + 1) ds)) (step p (record { opener = o; past_else = past_else } ∷ []) (directive_at ds p))
at_partner ds k at o past_else p e =
    let g : Nested = record { opener = o; past_else = past_else } in past_after ds k at g ∙ ap (λ s. past ds k g [] (seen_from s at o)) e

abbrev goes : List Directive → ℕ → ℕ → Step → Skip
goes ds k p s = after_step (λ inside. skip_over k (p + 1) inside (drop (p + 1) ds)) s

pub at_endif : (ds : List Directive) (k at o : ℕ) (past_else : Bool) (p : ℕ) → skip_among ds at ≡ Partner p → is_endif (directive_at ds p) ≡ true
    → in_group ds k at o past_else ≡ seen_from (skip_among ds p) p k
at_endif ds k at o past_else p e h = at_partner ds k at o past_else p e ∙ ap (goes ds k p) (step_endif p (record { opener = o; past_else = past_else }) (directive_at ds p) h) ∙ seen_after ds p k

pub at_broken : (ds : List Directive) (k at o : ℕ) (past_else : Bool) (p : ℕ) → skip_among ds at ≡ Partner p → is_endif (directive_at ds p) ≡ false → past_else ≡ true → in_group ds k at o past_else ≡ Broken p
at_broken ds k at o past_else p e h b =
    at_partner ds k at o past_else p e ∙ ap (goes ds k p) (step_broken p (record { opener = o; past_else = past_else }) (directive_at ds p) (partner_after ds at p e).2 h b)

pub at_next : (ds : List Directive) (k at o : ℕ) (past_else : Bool) (p : ℕ) → skip_among ds at ≡ Partner p → is_endif (directive_at ds p) ≡ false → past_else ≡ false
    → in_group ds k at o past_else ≡ in_group ds k p o (is_else (directive_at ds p))
at_next ds k at o past_else p e h b =
    ap (in_group ds k at o) b ∙ at_partner ds k at o false p e ∙ ap (goes ds k p) (step_next p o (directive_at ds p) (partner_after ds at p e).2 h)

ended : (ds : List Directive) (k : ℕ) (g : Nested) (of o : ℕ) (s : Skip) → ((p : ℕ) → s ≡ Partner p → ⊥) → past ds k g [] (seen_from s of o) ≡ seen_from s of o
ended ds k g of o (Partner p) h = absurd (h p refl)
ended ds k g of o (Broken p) h = refl
ended ds k g of o (Open p) h = refl

pub at_ended : (ds : List Directive) (k at o : ℕ) (past_else : Bool) → ((p : ℕ) → skip_among ds at ≡ Partner p → ⊥) → in_group ds k at o past_else ≡ seen_from (skip_among ds at) at o
at_ended ds k at o past_else none =
    let g : Nested = record { opener = o; past_else = past_else } in past_after ds k at g ∙ ended ds k g at o (skip_among ds at) none

-- ## The table

pub table_start : (ds : List Directive) (skips : List Skip) → length skips ≡ length ds → HasSkips ds (length ds) skips
table_start ds skips h = record { whole = h; each = λ k low high. absurd (omega arith) }

pub table_later : (ds : List Directive) (skips same : List Skip) (from next : ℕ) → same ≡ skips → HasSkips ds from skips → from ≤ next → HasSkips ds next same
table_later ds skips same from next e h low = subst (HasSkips ds next) (sym e) (record { whole = h.whole; each = λ k l high. h.each k (omega arith) high })

-- one entry more is right
pub table_more : (ds : List Directive) (skips : List Skip) (from next : ℕ) (s : Skip) → HasSkips ds from skips → next + 1 ≡ from → next < length ds → s ≡ skip_among ds next → HasSkips ds next (set skips next s)
table_more ds skips from next s h e within is = record { whole = length-set skips next s ∙ h.whole; each = each } where
  each : (k : ℕ) → next ≤ k → k < length ds → slice_get (set skips next s) k ≡ Some (skip_among ds k)
  each k low high =
      let in_set : k < length (set skips next s) = omega (arith, length-set skips next s, h.whole) in
      let got = slice_get-get_or (set skips next s) k s in_set in
      elim (cases_Bool (k == next)) [
        | inl here ↦
            let same : k ≡ next = eqb-true k next here in
            let some : next < length skips = omega (arith, h.whole) in
            got ∙ ap Some (ap (λ i. get_or (set skips next s) i s) same ∙ get_or-set_same skips next s s some ∙ is ∙ ap (skip_among ds) (sym same))
        | inr other ↦
            let ne : k ≢ next = λ e. both_ways (k == next) other (eq-eqb k next e) in
            let later : from ≤ k = omega arith in
            got ∙ ap Some (get_or-set_other skips next k s s ne ∙ get_or_from_slice_get skips k (skip_among ds k) s (h.each k later high))
      ]

-- ## Over the lines

over_step : (s : Step) (f g : List Nested → Skip) → ((inside : List Nested) → f inside ≡ g inside) → after_step f s ≡ after_step g s
over_step (Leaves inside) f g h = h inside
over_step (Ends skip) f g h = refl

over_lines : (dialect : Dialect) (k j : ℕ) (inside : List Nested) (ls : List Line) → skip_from dialect k j inside ls ≡ skip_over k j inside (map (λ (l : Line). directive_in dialect l.toks) ls)
over_lines dialect k j inside [] = refl
over_lines dialect k j inside (l ∷ ls) = over_step (step j inside (directive_in dialect l.toks)) _ _ (λ inside. over_lines dialect k (j + 1) inside ls)

pub skip_is : (dialect : Dialect) (ls : List Line) (k : ℕ) → skip ls k dialect ≡ skip_among (map (λ (l : Line). directive_in dialect l.toks) ls) k
unfolding skip skip_among
skip_is dialect ls k = over_lines dialect k (k + 1) [] (drop (k + 1) ls) ∙ ap (skip_over k (k + 1) []) (sym (drop-map (λ (l : Line). directive_in dialect l.toks) (k + 1) ls))
