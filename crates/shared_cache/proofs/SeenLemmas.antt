-- Publications in a log, and how their paths stand.
use Rattle.std.proofs.Common.{◌≡◌, ◌⊎◌, ℕ, zero, suc, Bool, true, false, List, [], ◌∷◌, refl, sym, ap, ◌∙◌, subst, inl, inr, ⊎_elim, arith}
use Rattle.std.specs.Prelude.{Contains}
use Rattle.scan_model.specs.declared.Outcome.{Outcome}
use Rattle.scan_model.specs.TokenTests.{same}
use Rattle.cache_desk.specs.declared.entry.Entry.{Entry}
use Rattle.cache_desk.specs.declared.entry.Event.{Event}
use Rattle.cache_desk.specs.declared.entry.Event.TheVariants as EventIs
use Rattle.cache_desk.specs.Log.{Standing, Free, Claimed, Done, claim, publication, left_by, after, standing_from, standing, MayFollow, MayBe, IsLegalFor, IsLegal}
use Rattle.shared_cache.specs.Cache.{HasSeen}
use Rattle.shard_cache.proofs.PlaceLemmas.{same_itself, same_is}

further : {X : Type 0} (x y : X) (xs : List X) → Contains xs x → Contains (y ∷ xs) x
further x y xs (k, inside, at) = (suc k, omega arith, at)

abbrev number_of : Standing → ℕ → ℕ
number_of Free d = d
number_of (Claimed w) d = w
number_of (Done w o b) d = w

abbrev outcome_of : Standing → Outcome → Outcome
outcome_of Free d = d
outcome_of (Claimed w) d = d
outcome_of (Done w o b) d = o

abbrev bytes_of : Standing → List ℕ
bytes_of Free = []
bytes_of (Claimed w) = []
bytes_of (Done w o b) = b

left_done : (path : List ℕ) (by : ℕ) (event : Event) (w : ℕ) (o : Outcome) (b : List ℕ) → left_by by event ≡ Done w o b → record { path = path; by = by; event = event } ≡ publication path w o b
left_done path by EventIs.Claimed w o b is = absurd (claimed_done is) where
  claimed_done : Claimed by ≡ Done w o b → ⊥
  claimed_done h = cc
left_done path by (EventIs.Published x y) w o b is =
    (λ i. record { path = path; by = number_of (is i) by; event = EventIs.Published (outcome_of (is i) x) (bytes_of (is i)) })

done_at : (p : List ℕ) (w : ℕ) (o : Outcome) (b : List ℕ) (s : Standing) (e : Entry) (es : List Entry) (t : Bool) → same e.path p ≡ t → after t s e ≡ Done w o b → (s ≡ Done w o b) ⊎ Contains (e ∷ es) (publication p w o b)
done_at p w o b s e es false is done = inl done
done_at p w o b s e es true is done =
    inr (0, omega arith, left_done e.path e.by e.event w o b done ∙ ap (λ q. publication q w o b) (same_is e.path p is))

done_from : (p : List ℕ) (w : ℕ) (o : Outcome) (b : List ℕ) (s : Standing) (es : List Entry) → standing_from s es p ≡ Done w o b → (s ≡ Done w o b) ⊎ Contains es (publication p w o b)
done_from p w o b s [] done = inl done
done_from p w o b s (e ∷ es) done =
    ⊎_elim (λ (h : after (same e.path p) s e ≡ Done w o b). done_at p w o b s e es (same e.path p) refl h)
    (λ (h : Contains es (publication p w o b)). inr (further (publication p w o b) e es h))
    (done_from p w o b (after (same e.path p) s e) es done)

-- what a path stands done with was published in the log
pub done_is_seen : (log : List Entry) (p : List ℕ) (w : ℕ) (o : Outcome) (b : List ℕ) → standing log p ≡ Done w o b → HasSeen log p o b
done_is_seen log p w o b done = (w, ⊎_elim (λ (h : Free ≡ Done w o b). absurd (free_done h)) (λ (h : Contains log (publication p w o b)). h) (done_from p w o b Free log done)) where
  free_done : Free ≡ Done w o b → ⊥
  free_done h = cc

-- ## A publication's claim

may_publish : (s : Standing) (w : ℕ) (o : Outcome) (b : List ℕ) → MayFollow s w (EventIs.Published o b) → s ≡ Claimed w
may_publish Free w o b may = absurd may
may_publish (Claimed owner) w o b may = ap Claimed (sym may)
may_publish (Done x y z) w o b may = absurd may

left_claimed : (path : List ℕ) (by : ℕ) (event : Event) (w : ℕ) → left_by by event ≡ Claimed w → record { path = path; by = by; event = event } ≡ claim path w
left_claimed path by EventIs.Claimed w is = (λ i. claim path (number_of (is i) by))
left_claimed path by (EventIs.Published x y) w is = absurd (done_claimed is) where
  done_claimed : Done by x y ≡ Claimed w → ⊥
  done_claimed h = cc

claimed_at : (p : List ℕ) (w : ℕ) (s : Standing) (e : Entry) (es : List Entry) (t : Bool) → same e.path p ≡ t → after t s e ≡ Claimed w → (s ≡ Claimed w) ⊎ Contains (e ∷ es) (claim p w)
claimed_at p w s e es false is now = inl now
claimed_at p w s e es true is now = inr (0, omega arith, left_claimed e.path e.by e.event w now ∙ ap (λ q. claim q w) (same_is e.path p is))

publishes_now : (p : List ℕ) (w : ℕ) (o : Outcome) (b : List ℕ) (s : Standing) (e : Entry) → e ≡ publication p w o b → MayBe (same e.path p) s e → s ≡ Claimed w
publishes_now p w o b s e is may =
    may_publish s w o b (subst (λ t. MayBe t s (publication p w o b)) (same_itself p) (subst (λ (f : Entry). MayBe (same f.path p) s f) is may))

claimed_from : (p : List ℕ) (w : ℕ) (o : Outcome) (b : List ℕ) (s : Standing) (es : List Entry) → IsLegalFor p s es → Contains es (publication p w o b) → (s ≡ Claimed w) ⊎ Contains es (claim p w)
claimed_from p w o b s [] legal (k, inside, at) = absurd (omega arith)
claimed_from p w o b s (e ∷ es) legal (zero, inside, at) = inl (publishes_now p w o b s e at legal.0)
claimed_from p w o b s (e ∷ es) legal (suc k, inside, at) =
    ⊎_elim (λ (h : after (same e.path p) s e ≡ Claimed w). claimed_at p w s e es (same e.path p) refl h)
    (λ (h : Contains es (claim p w)). inr (further (claim p w) e es h))
    (claimed_from p w o b (after (same e.path p) s e) es legal.1 (k, omega arith, at))

-- what was published was claimed, by the same passes
pub claim_of : (log : List Entry) (p : List ℕ) (w : ℕ) (o : Outcome) (b : List ℕ) → IsLegal log → Contains log (publication p w o b) → Contains log (claim p w)
claim_of log p w o b legal has = ⊎_elim (λ (h : Free ≡ Claimed w). absurd (free_claimed h)) (λ (h : Contains log (claim p w)). h) (claimed_from p w o b Free log (legal p) has) where
  free_claimed : Free ≡ Claimed w → ⊥
  free_claimed h = cc
