-- What one hold of a path's shard leaves of all that passes have seen.
use Rattle.std.proofs.Common.{◌≡◌, ◌≢◌, ◌⊎◌, ℕ, List, [], ◌∷◌, ◌++◌, All, refl, sym, ap, ◌∙◌, subst, inl, inr, ⊎_elim, zero, suc, arith}
use Rattle.std.specs.Prelude.{Contains}
use Rattle.std.proofs.lemmas.Bool.{cases_eq}
use Rattle.std.proofs.lemmas.List.{append-nil, append_assoc}
use Rattle.std.proofs.lemmas.List.Elements.{All-contains, Contains-append_cases, Contains-push}
use Rattle.scan_model.specs.declared.Outcome.{Outcome}
use Rattle.shard_cache.specs.Rows.{shard_number}
use Rattle.turn_lock.specs.Logs.{Fits}
use Rattle.cache_desk.specs.declared.entry.Entry.{Entry}
use Rattle.cache_desk.specs.declared.entry.Event.{Event}
use Rattle.cache_desk.specs.declared.entry.Event.TheVariants as EventIs
use Rattle.cache_desk.specs.Log.{claim, publication, maker}
use Rattle.shared_cache.specs.Cache.{HasSeen}
use Rattle.shared_cache.specs.Shared.{seen_of, seen_of_shard, SameElsewhere}
use Rattle.worker.specs.Seen.{HasPublication, SeesFurther}
use Rattle.worker.specs.Claims.{HasClaimed, GoesOn}
use Rattle.worker.proofs.Seeing.{published_further, further_chain}

-- others' entries came to the path's shard, and then these; the other shards were left alone
pub record IsHold (by : ℕ) (path : List ℕ) (added : List Entry) (before after : List (List Entry)) : Type 0 where
  pub elsewhere : SameElsewhere path before after
  pub others : List Entry
  pub of_others : All (λ e. maker e ≢ by) others
  pub here : seen_of after path ≡ (seen_of before path ++ others) ++ added

module _ (by : ℕ) (path : List ℕ) (added : List Entry) (before after : List (List Entry)) where
  -- a log that fits what was seen, and what was added to it
  pub hold_of : (log : List Entry) → SameElsewhere path before after → Fits maker by (seen_of before path) log → seen_of after path ≡ log ++ added → IsHold by path added before after
  hold_of log elsewhere (others, is, of_others) now = record { elsewhere = elsewhere; others = others; of_others = of_others; here = now ∙ ap (λ l. l ++ added) is }

  -- how a path's shard stands after it
  abbrev Grows : List ℕ → Type 0
  Grows other = (rest : List Entry) × (seen_of after other ≡ seen_of before other ++ rest) × ((q : List ℕ) → Contains rest (claim q by) → Contains added (claim q by))

  claims_added : (others : List Entry) → All (λ e. maker e ≢ by) others → (q : List ℕ) → Contains (others ++ added) (claim q by) → Contains added (claim q by)
  claims_added others of_others q c =
      ⊎_elim (λ (theirs : Contains others (claim q by)). absurd (All-contains (λ (e : Entry). maker e ≢ by) others (claim q by) of_others theirs refl))
      (λ (own : Contains added (claim q by)). own) (Contains-append_cases others added (claim q by) c)

  grows_here : IsHold by path added before after → (other : List ℕ) → shard_number other ≡ shard_number path → Grows other
  grows_here h other same_shard = (
    h.others ++ added,
    ap (λ k. seen_of_shard after k) same_shard ∙ (h.here ∙ (append_assoc (seen_of before path) h.others added ∙ ap (λ k. seen_of_shard before k ++ (h.others ++ added)) (sym same_shard))),
    λ q c. claims_added h.others h.of_others q c,
  )

  grows_elsewhere : IsHold by path added before after → (other : List ℕ) → shard_number other ≢ shard_number path → Grows other
  grows_elsewhere h other differs = ([], h.elsewhere (shard_number other) differs ∙ sym (append-nil (seen_of before other)), λ q c. absurd (nothing q c)) where
    nothing : (q : List ℕ) → Contains [] (claim q by) → ⊥
    nothing q (k, inside, at) = omega arith

  grows : IsHold by path added before after → (other : List ℕ) → Grows other
  grows h other = ⊎_elim (λ (e : shard_number other ≡ shard_number path). grows_here h other e) (λ (ne : shard_number other ≢ shard_number path). grows_elsewhere h other ne) (cases_eq (shard_number other) (shard_number path))

  pub hold_further : IsHold by path added before after → SeesFurther before after
  hold_further h other = let g = grows h other in (g.0, g.1)

  -- no more paths are claimed than those of the claims that were added
  pub hold_claims : IsHold by path added before after → (other : List ℕ) → HasClaimed after by other → HasClaimed before by other ⊎ Contains added (claim other by)
  hold_claims h other c =
      let g = grows h other in
      ⊎_elim (λ (was : HasClaimed before by other). inl was) (λ (new : Contains g.0 (claim other by)). inr (g.2 other new))
      (Contains-append_cases (seen_of before other) g.0 (claim other by) (subst (λ l. Contains l (claim other by)) g.1 c))

-- ## By what was added

nothing_claimed : (q : List ℕ) (by : ℕ) → Contains [] (claim q by) → ⊥
nothing_claimed q by (k, inside, at) = omega arith

-- nothing
pub hold_goes : (by : ℕ) (path : List ℕ) (wanted : List ℕ → Type 0) (before after : List (List Entry)) → IsHold by path [] before after → GoesOn by wanted before after
hold_goes by path wanted before after h = record {
  further = hold_further by path [] before after h;
  published = λ all other c. published_further before after other (hold_further by path [] before after h) (all other (were other c));
  claims = λ other c. inl (were other c);
} where
  were : (other : List ℕ) → HasClaimed after by other → HasClaimed before by other
  were other c =
      ⊎_elim (λ (was : HasClaimed before by other). was) (λ (new : Contains [] (claim other by)). absurd (nothing_claimed other by new))
      (hold_claims by path [] before after h other c)

abbrev IsClaimEvent : Event → Type 0
IsClaimEvent EventIs.Claimed = Unit {0}
IsClaimEvent (EventIs.Published o bytes) = ⊥

no_claim : (path : List ℕ) (w : ℕ) (o : Outcome) (bytes : List ℕ) (q : List ℕ) (by : ℕ) → Contains (publication path w o bytes ∷ []) (claim q by) → ⊥
no_claim path w o bytes q by (zero, inside, at) = subst (λ (e : Entry). IsClaimEvent e.event) (sym at) tt
no_claim path w o bytes q by (suc k, inside, at) = omega arith

-- a publication, which is seen, and claims nothing
pub hold_publishes : (by : ℕ) (path : List ℕ) (w : ℕ) (o : Outcome) (bytes : List ℕ) (before after : List (List Entry)) → IsHold by path (publication path w o bytes ∷ []) before after → HasSeen (seen_of after path) path o bytes
hold_publishes by path w o bytes before after h =
    let e = publication path w o bytes in
    (w, subst (λ l. Contains l e) (sym h.here) (Contains-push (seen_of before path ++ h.others) e))

pub hold_claims_none : (by : ℕ) (path : List ℕ) (w : ℕ) (o : Outcome) (bytes : List ℕ) (before after : List (List Entry)) → IsHold by path (publication path w o bytes ∷ []) before after →
    (other : List ℕ) → HasClaimed after by other → HasClaimed before by other
hold_claims_none by path w o bytes before after h other c =
    let added = publication path w o bytes ∷ [] in
    ⊎_elim (λ (was : HasClaimed before by other). was) (λ (new : Contains added (claim other by)). absurd (no_claim path w o bytes other by new))
    (hold_claims by path added before after h other c)

its_claim : (path q : List ℕ) (by : ℕ) → Contains (claim path by ∷ []) (claim q by) → q ≡ path
its_claim path q by (zero, inside, at) = sym (ap (λ (e : Entry). e.path) at)
its_claim path q by (suc k, inside, at) = absurd (omega arith)

-- a claim, which is published later, with no more claims
pub claim_goes : (by : ℕ) (path : List ℕ) (before now after : List (List Entry)) → IsHold by path (claim path by ∷ []) before now → SeesFurther now after →
    ((other : List ℕ) → HasClaimed after by other → HasClaimed now by other) → HasPublication after path → GoesOn by (λ other. other ≡ path) before after
claim_goes by path before now after h further were published =
    let first = hold_further by path (claim path by ∷ []) before now h in
    record {
      further = further_chain before now after first further;
      published = λ all other c.
          ⊎_elim (λ (was : HasClaimed before by other). published_further before after other (further_chain before now after first further) (all other was))
          (λ (new : other ≡ path). subst (λ q. HasPublication after q) (sym new) published) (cases other c);
      claims = cases;
    } where
      cases : (other : List ℕ) → HasClaimed after by other → HasClaimed before by other ⊎ (other ≡ path)
      cases other c =
          ⊎_elim (λ (was : HasClaimed before by other). inl was) (λ (new : Contains (claim path by ∷ []) (claim other by)). inr (its_claim path other by new))
          (hold_claims by path (claim path by ∷ []) before now h other (were other c))
