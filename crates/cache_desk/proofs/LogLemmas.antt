-- How a log goes on.
use Rattle.std.proofs.Common.{◌≡◌, ◌≢◌, ◌<◌, ◌≤◌, ◌+◌, ℕ, suc, Bool, true, false, List, [], ◌∷◌, ◌++◌, length, All, refl, sym, ap, ◌∙◌, subst, arith, if◌then◌else◌}
use Rattle.std.proofs.lemmas.List.Elements.{All-nil, All-cons, All-head, All-tail}
use Rattle.scan_model.specs.declared.Outcome.{Outcome}
use Rattle.scan_model.specs.TokenTests.{same}
use Rattle.shard_cache.specs.Rows.{AllDiffer}
use Rattle.shard_cache.proofs.PlaceLemmas.{same_itself, same_is}
use Rattle.cache_desk.specs.declared.entry.Entry.{Entry}
use Rattle.cache_desk.specs.declared.entry.Event.{Event}
use Rattle.cache_desk.specs.declared.entry.Event.TheVariants as EventIs
use Rattle.cache_desk.specs.Log.{Standing, Free, Claimed, Done, claim, publication, maker, left_by, after, standing_from, standing, MayFollow, MayBe, IsLegalFor, IsLegal, HasClaim, claims, claims_and, one, times, without, open_after, open_from, still_open}

-- ## Entries one after the other

pub standing_on : (p : List ℕ) (s : Standing) (es fs : List Entry) → standing_from s (es ++ fs) p ≡ standing_from (standing_from s es p) fs p
standing_on p s [] fs = refl
standing_on p s (e ∷ es) fs = standing_on p (after (same e.path p) s e) es fs

pub legal_on : (p : List ℕ) (s : Standing) (es fs : List Entry) → IsLegalFor p s (es ++ fs) → IsLegalFor p (standing_from s es p) fs
legal_on p s [] fs legal = legal
legal_on p s (e ∷ es) fs legal = legal_on p (after (same e.path p) s e) es fs legal.1

legal_one : (p : List ℕ) (s : Standing) (es : List Entry) (e : Entry) → IsLegalFor p s es → MayBe (same e.path p) (standing_from s es p) e → IsLegalFor p s (es ++ e ∷ [])
legal_one p s [] e legal may = (may, tt)
legal_one p s (f ∷ es) e legal may = (legal.0, legal_one p (after (same f.path p) s f) es e legal.1 may)

may_at : (p : List ℕ) (log : List Entry) (e : Entry) (b : Bool) → same e.path p ≡ b → MayFollow (standing log e.path) e.by e.event → MayBe b (standing log p) e
may_at p log e false is may = tt
may_at p log e true is may = subst (λ (q : List ℕ). MayFollow (standing log q) e.by e.event) (same_is e.path p is) may

-- a log goes on with what may follow
pub legal_more : (log : List Entry) (e : Entry) → IsLegal log → MayFollow (standing log e.path) e.by e.event → IsLegal (log ++ e ∷ [])
legal_more log e legal may p = legal_one p Free log e (legal p) (may_at p log e (same e.path p) refl may)

-- ## A claim stays until its own passes publish it

claim_stays_by : (p : List ℕ) (by : ℕ) (e : Entry) (event : Event) (b : Bool) (s : Standing) → s ≡ Claimed by → e.event ≡ event → e.by ≢ by → MayBe b s e → after b s e ≡ Claimed by
claim_stays_by p by e event false s is at other may = is
claim_stays_by p by e EventIs.Claimed true s is at other may = absurd (subst (λ (v : Event). MayFollow (Claimed by) e.by v) at (subst (λ (t : Standing). MayFollow t e.by e.event) is may))
claim_stays_by p by e (EventIs.Published o bs) true s is at other may = absurd (other (subst (λ (v : Event). MayFollow (Claimed by) e.by v) at (subst (λ (t : Standing). MayFollow t e.by e.event) is may)))

claim_stays_from : (p : List ℕ) (by : ℕ) (s : Standing) (es : List Entry) → s ≡ Claimed by → IsLegalFor p s es → All (λ e. maker e ≢ by) es → standing_from s es p ≡ Claimed by
claim_stays_from p by s [] is legal others = is
claim_stays_from p by s (e ∷ es) is legal others =
    claim_stays_from p by (after (same e.path p) s e) es
    (claim_stays_by p by e e.event (same e.path p) s is refl (All-head (λ (f : Entry). maker f ≢ by) e es others) legal.0)
    legal.1 (All-tail (λ (f : Entry). maker f ≢ by) e es others)

pub claim_stays : (by : ℕ) (p : List ℕ) (log : List Entry) → IsLegal log → HasClaim by p log → standing log p ≡ Claimed by
claim_stays by p log legal (before, (rest, is, others), claimed) =
    let whole : IsLegalFor p Free (before ++ rest) = subst (λ (l : List Entry). IsLegalFor p Free l) is (legal p) in
    ap (λ l. standing_from Free l p) is ∙ (standing_on p Free before rest ∙ claim_stays_from p by (standing_from Free before p) rest claimed (legal_on p Free before rest whole) others)

-- ## What is done stays

done_stays_by : (w : ℕ) (o : Outcome) (bs : List ℕ) (e : Entry) (event : Event) (b : Bool) (s : Standing) → s ≡ Done w o bs → e.event ≡ event → MayBe b s e → after b s e ≡ Done w o bs
done_stays_by w o bs e event false s is at may = is
done_stays_by w o bs e EventIs.Claimed true s is at may = absurd (subst (λ (v : Event). MayFollow (Done w o bs) e.by v) at (subst (λ (t : Standing). MayFollow t e.by e.event) is may))
done_stays_by w o bs e (EventIs.Published x y) true s is at may = absurd (subst (λ (v : Event). MayFollow (Done w o bs) e.by v) at (subst (λ (t : Standing). MayFollow t e.by e.event) is may))

pub done_stays_from : (p : List ℕ) (w : ℕ) (o : Outcome) (bs : List ℕ) (s : Standing) (es : List Entry) → s ≡ Done w o bs → IsLegalFor p s es → standing_from s es p ≡ Done w o bs
done_stays_from p w o bs s [] is legal = is
done_stays_from p w o bs s (e ∷ es) is legal = done_stays_from p w o bs (after (same e.path p) s e) es (done_stays_by w o bs e e.event (same e.path p) s is refl legal.0) legal.1

-- ## One entry more

after_itself : (e : Entry) (s : Standing) → after (same e.path e.path) s e ≡ left_by e.by e.event
after_itself e s = ap (λ b. after b s e) (same_itself e.path)

pub standing_now : (log : List Entry) (e : Entry) → standing (log ++ e ∷ []) e.path ≡ left_by e.by e.event
standing_now log e = standing_on e.path Free log (e ∷ []) ∙ after_itself e (standing log e.path)

pub claims_more : (log : List Entry) (e : Entry) → claims (log ++ e ∷ []) ≡ claims log ++ claims_and e.event e.path []
claims_more [] e = refl
claims_more (f ∷ log) e = more f.event (claims_more log e) where
  more : (event : Event) → claims (log ++ e ∷ []) ≡ claims log ++ claims_and e.event e.path [] → claims_and event f.path (claims (log ++ e ∷ [])) ≡ claims_and event f.path (claims log) ++ claims_and e.event e.path []
  more EventIs.Claimed h = ap (λ ps. f.path ∷ ps) h
  more (EventIs.Published o bs) h = h

pub open_more : (os : List (List ℕ)) (log : List Entry) (e : Entry) → open_from os (log ++ e ∷ []) ≡ open_after (open_from os log) e.path e.event
open_more os [] e = refl
open_more os (f ∷ log) e = open_more (open_after os f.path f.event) log e

-- ## Each path's open claims are as many as it stands claimed

abbrev claimed_count : Standing → ℕ
claimed_count (Claimed by) = 1
claimed_count Free = 0
claimed_count (Done by o bs) = 0

-- the first of a list stays or goes
gone : (q r : List ℕ) (os : List (List ℕ)) → same r q ≡ true → without q (r ∷ os) ≡ os
gone q r os first = ap (λ c. if c then os else r ∷ without q os) first

stays : (q r : List ℕ) (os : List (List ℕ)) → same r q ≡ false → without q (r ∷ os) ≡ r ∷ without q os
stays q r os first = ap (λ c. if c then os else r ∷ without q os) first

times_other_at : (q p r : List ℕ) (os : List (List ℕ)) (c : Bool) → same r q ≡ c → same q p ≡ false → times p (without q os) ≡ times p os → times p (without q (r ∷ os)) ≡ times p (r ∷ os)
times_other_at q p r os true first is h =
    let counted : one (same r p) ≡ 0 = ap (λ z. one (same z p)) (same_is r q first) ∙ ap one is in
    let t : times p (without q (r ∷ os)) ≡ times p os = ap (times p) (gone q r os first) in
    omega arith
times_other_at q p r os false first is h =
    let t : times p (without q (r ∷ os)) ≡ one (same r p) + times p (without q os) = ap (times p) (stays q r os first) in
    omega arith

times_other : (q p : List ℕ) (os : List (List ℕ)) → same q p ≡ false → times p (without q os) ≡ times p os
times_other q p [] is = refl
times_other q p (r ∷ os) is = times_other_at q p r os (same r q) refl is (times_other q p os is)

-- one fewer of those that are there
times_same_at : (q r : List ℕ) (os : List (List ℕ)) (c : Bool) → same r q ≡ c → 0 < times q (r ∷ os) → (0 < times q os → (times q (without q os) + 1 ≡ times q os) × (length (without q os) + 1 ≡ length os)) → (times q (without q (r ∷ os)) + 1 ≡ times q (r ∷ os)) × (length (without q (r ∷ os)) + 1 ≡ suc (length os))
times_same_at q r os true first some h =
    let counted : one (same r q) ≡ 1 = ap one first in
    let t : times q (without q (r ∷ os)) ≡ times q os = ap (times q) (gone q r os first) in
    let l : length (without q (r ∷ os)) ≡ length os = ap length (gone q r os first) in
    (omega arith, omega arith)
times_same_at q r os false first some h =
    let counted : one (same r q) ≡ 0 = ap one first in
    let more : 0 < times q os = omega arith in
    let t : times q (without q (r ∷ os)) ≡ one (same r q) + times q (without q os) = ap (times q) (stays q r os first) in
    let l : length (without q (r ∷ os)) ≡ suc (length (without q os)) = ap length (stays q r os first) in
    let i = h more in
    let i0 = i.0 in let i1 = i.1 in
    (omega arith, omega arith)

times_same : (q : List ℕ) (os : List (List ℕ)) → 0 < times q os → (times q (without q os) + 1 ≡ times q os) × (length (without q os) + 1 ≡ length os)
times_same q [] some = absurd (omega arith)
times_same q (r ∷ os) some = times_same_at q r os (same r q) refl some (times_same q os)

open_step : (p : List ℕ) (e : Entry) (event : Event) (b : Bool) (s : Standing) (os : List (List ℕ)) → same e.path p ≡ b → e.event ≡ event → MayBe b s e → times p os ≡ claimed_count s → times p (open_after os e.path event) ≡ claimed_count (after b s (record { path = e.path; by = e.by; event = event }))
open_step p e EventIs.Claimed false s os is at may h = let z : one (same e.path p) ≡ 0 = ap one is in let goal : one (same e.path p) + times p os ≡ claimed_count s = omega arith in goal
open_step p e EventIs.Claimed true Free os is at may h = let z : one (same e.path p) ≡ 1 = ap one is in let n : times p os ≡ 0 = h in let goal : one (same e.path p) + times p os ≡ 1 = omega arith in goal
open_step p e EventIs.Claimed true (Claimed by) os is at may h = absurd (subst (λ (v : Event). MayFollow (Claimed by) e.by v) at may)
open_step p e EventIs.Claimed true (Done by o bs) os is at may h = absurd (subst (λ (v : Event). MayFollow (Done by o bs) e.by v) at may)
open_step p e (EventIs.Published x y) false s os is at may h = times_other e.path p os is ∙ h
open_step p e (EventIs.Published x y) true Free os is at may h = absurd (subst (λ (v : Event). MayFollow Free e.by v) at may)
open_step p e (EventIs.Published x y) true (Done by o bs) os is at may h = absurd (subst (λ (v : Event). MayFollow (Done by o bs) e.by v) at may)
open_step p e (EventIs.Published x y) true (Claimed by) os is at may h =
    let here : e.path ≡ p = same_is e.path p is in
    let n1 : times p os ≡ 1 = h in
    let some : 0 < times p os = omega arith in
    let t = (times_same p os some).0 in
    let n : times p (without e.path os) ≡ times p (without p os) = ap (λ z. times p (without z os)) here in
    let goal : times p (without e.path os) ≡ 0 = omega arith in goal

open_counted : (p : List ℕ) (s : Standing) (os : List (List ℕ)) (es : List Entry) → IsLegalFor p s es → times p os ≡ claimed_count s → times p (open_from os es) ≡ claimed_count (standing_from s es p)
open_counted p s os [] legal h = h
open_counted p s os (e ∷ es) legal h =
    open_counted p (after (same e.path p) s e) (open_after os e.path e.event) es legal.1 (open_step p e e.event (same e.path p) s os refl refl legal.0 h)

-- a claim that isn't published is open, and its publication leaves one fewer
pub open_falls : (by : ℕ) (log : List Entry) (e : Entry) → IsLegal log → standing log e.path ≡ Claimed by → (o : Outcome) (bs : List ℕ) → e.event ≡ EventIs.Published o bs → length (still_open (log ++ e ∷ [])) + 1 ≡ length (still_open log)
open_falls by log e legal is o bs at =
    let some : times e.path (still_open log) ≡ 1 = open_counted e.path Free [] log (legal e.path) refl ∙ ap claimed_count is in
    let there : 0 < times e.path (still_open log) = omega arith in
    let l = (times_same e.path (still_open log) there).1 in
    let n : length (still_open (log ++ e ∷ [])) ≡ length (without e.path (still_open log)) = ap length (open_more [] log e) ∙ ap (λ v. length (open_after (still_open log) e.path v)) at in
    omega arith

pub open_rises : (log : List Entry) (e : Entry) → e.event ≡ EventIs.Claimed → length (still_open (log ++ e ∷ [])) ≡ length (still_open log) + 1
open_rises log e at =
    let n : length (still_open (log ++ e ∷ [])) ≡ length (e.path ∷ still_open log) = ap length (open_more [] log e) ∙ ap (λ v. length (open_after (still_open log) e.path v)) at in
    omega arith

-- ## Each path is claimed once

claim_not_at : (p : List ℕ) (e : Entry) (event : Event) (b : Bool) (s : Standing) → same e.path p ≡ b → e.event ≡ event → s ≢ Free → MayBe b s e → (later : List (List ℕ)) → (after b s e ≢ Free → All (λ q. p ≢ q) later) → All (λ q. p ≢ q) (claims_and event e.path later)
claim_not_at p e (EventIs.Published x y) false s is at not may later rest = rest not
claim_not_at p e (EventIs.Published x y) true s is at not may later rest = rest (λ free. published_free (sym (ap (left_by e.by) at) ∙ free)) where
  published_free : Done e.by x y ≡ Free → ⊥
  published_free h = cc
claim_not_at p e EventIs.Claimed false s is at not may later rest =
    All-cons (λ (q : List ℕ). p ≢ q) e.path later (λ same_path. false_true (sym is ∙ (ap (λ q. same q p) (sym same_path) ∙ same_itself p))) (rest not) where
      false_true : false ≡ true → ⊥
      false_true h = cc
claim_not_at p e EventIs.Claimed true Free is at not may later rest = absurd (not refl)
claim_not_at p e EventIs.Claimed true (Claimed by) is at not may later rest = absurd (subst (λ (v : Event). MayFollow (Claimed by) e.by v) at may)
claim_not_at p e EventIs.Claimed true (Done by o bs) is at not may later rest = absurd (subst (λ (v : Event). MayFollow (Done by o bs) e.by v) at may)

claim_not_from : (p : List ℕ) (s : Standing) (es : List Entry) → s ≢ Free → IsLegalFor p s es → All (λ q. p ≢ q) (claims es)
claim_not_from p s [] not legal = All-nil _
claim_not_from p s (e ∷ es) not legal = claim_not_at p e e.event (same e.path p) s refl refl not legal.0 (claims es) (λ further. claim_not_from p (after (same e.path p) s e) es further legal.1)

claims_differ_at : (e : Entry) (event : Event) (es : List Entry) → e.event ≡ event → ((s : Standing) × IsLegalFor e.path s (e ∷ es)) → AllDiffer (claims es) → AllDiffer (claims_and event e.path (claims es))
claims_differ_at e (EventIs.Published x y) es at legal rest = rest
claims_differ_at e EventIs.Claimed es at (s, legal) rest =
    let now : after (same e.path e.path) s e ≡ Claimed e.by = after_itself e s ∙ ap (left_by e.by) at in
    (claim_not_from e.path (after (same e.path e.path) s e) es (λ free. claimed_free (sym now ∙ free)) legal.1, rest) where
      claimed_free : Claimed e.by ≡ Free → ⊥
      claimed_free h = cc

claims_differ_from : (es : List Entry) → ((p : List ℕ) → (s : Standing) × IsLegalFor p s es) → AllDiffer (claims es)
claims_differ_from [] legal = tt
claims_differ_from (e ∷ es) legal =
    claims_differ_at e e.event es refl (legal e.path) (claims_differ_from es (λ p. let l = legal p in (after (same e.path p) l.0 e, l.1.1)))

-- no path stands twice among the claims
pub claims_differ : (log : List Entry) → IsLegal log → AllDiffer (claims log)
claims_differ log legal = claims_differ_from log (λ p. (Free, legal p))

-- the passes that claimed a path last have its claim
pub has_claim_now : (log : List Entry) (path : List ℕ) (by : ℕ) → HasClaim by path (log ++ claim path by ∷ [])
has_claim_now log path by = (log ++ claim path by ∷ [], ([], sym (append-none (log ++ claim path by ∷ [])), All-nil _), standing_now log (claim path by)) where
  append-none : (es : List Entry) → es ++ [] ≡ es
  append-none [] = refl
  append-none (e ∷ es) = ap (λ fs. e ∷ fs) (append-none es)
