-- One pass of each lock.
use Rattle.std.proofs.Common.{◌≡◌, ◌≢◌, ◌<◌, ℕ, zero, suc, List, [], ◌∷◌, length, get_or, set, refl, sym, ap, ◌∙◌, subst, arith}
use Rattle.std.proofs.lemmas.List.{get_or-map}
use Rattle.turn_lock.specs.declared.Logged.{Ghosts}
use Rattle.turn_lock.specs.declared.lock.Pass.{Pass}
use Rattle.turn_lock.specs.declared.lock.TurnLock.{TurnLock}
use Rattle.turn_lock.specs.Passes.{IsPassOf, number, seen, lock_fixed}
use Rattle.shared_cache.specs.Shared.{ArePasses, locks_fixed, all_seen, seen_of_shard}

module _ {T E : Type 0} where
  pub fixed_at : (fixed : T → List ℕ) (ls : List (TurnLock T E)) (k : ℕ) (l : TurnLock T E) → k < length ls → l ≡ get_or ls k l → get_or (locks_fixed fixed ls) k [] ≡ lock_fixed fixed l
  fixed_at fixed ls k l inside is = get_or-map (lock_fixed fixed) ls k l [] inside ∙ ap (lock_fixed fixed) (sym is)

  module _ {g : Ghosts T E} where
    pub same_length : (ls : List (TurnLock T E)) (ps : List (Pass T E g)) (n : ℕ) → ArePasses ls ps n → length ps ≡ length ls
    same_length [] [] n are = refl
    same_length [] (p ∷ ps) n are = absurd are
    same_length (l ∷ ls) [] n are = absurd are
    same_length (l ∷ ls) (p ∷ ps) n are = ap suc (same_length ls ps n are.1)

    pub are_at : (ls : List (TurnLock T E)) (ps : List (Pass T E g)) (n k : ℕ) (l : TurnLock T E) (p : Pass T E g) → ArePasses ls ps n → k < length ls → l ≡ get_or ls k l → p ≡ get_or ps k p → IsPassOf l p × (number p ≡ n)
    are_at [] ps n k l p are inside il ip = absurd (omega arith)
    are_at (m ∷ ls) [] n k l p are inside il ip = absurd are
    are_at (m ∷ ls) (q ∷ ps) n zero l p are inside il ip = let a = are.0 in (subst (λ z. IsPassOf z p) (sym il) (subst (λ z. IsPassOf m z) (sym ip) a.0), ap number ip ∙ a.1)
    are_at (m ∷ ls) (q ∷ ps) n (suc k) l p are inside il ip = are_at ls ps n k l p are.1 (omega arith) il ip

    pub are_set : (ls : List (TurnLock T E)) (ps : List (Pass T E g)) (n k : ℕ) (l : TurnLock T E) (p : Pass T E g) → ArePasses ls ps n → k < length ls → l ≡ get_or ls k l → IsPassOf l p → number p ≡ n → ArePasses ls (set ps k p) n
    are_set [] ps n k l p are inside il of is = absurd (omega arith)
    are_set (m ∷ ls) [] n k l p are inside il of is = absurd are
    are_set (m ∷ ls) (q ∷ ps) n zero l p are inside il of is = ((subst (λ z. IsPassOf z p) il of, is), are.1)
    are_set (m ∷ ls) (q ∷ ps) n (suc k) l p are inside il of is = (are.0, are_set ls ps n k l p are.1 (omega arith) il of is)

    pub seen_was : (ps : List (Pass T E g)) (k : ℕ) (p : Pass T E g) → k < length ps → p ≡ get_or ps k p → seen_of_shard (all_seen ps) k ≡ seen p
    seen_was ps k p inside is = get_or-map seen ps k p [] inside ∙ ap seen (sym is)

    pub seen_here : (ps : List (Pass T E g)) (k : ℕ) (p : Pass T E g) → k < length ps → seen_of_shard (all_seen (set ps k p)) k ≡ seen p
    seen_here [] k p inside = absurd (omega arith)
    seen_here (q ∷ ps) zero p inside = refl
    seen_here (q ∷ ps) (suc k) p inside = seen_here ps k p (omega arith)

    pub seen_else : (ps : List (Pass T E g)) (k j : ℕ) (p : Pass T E g) → j ≢ k → seen_of_shard (all_seen (set ps k p)) j ≡ seen_of_shard (all_seen ps) j
    seen_else [] k j p other = refl
    seen_else (q ∷ ps) zero zero p other = absurd (other refl)
    seen_else (q ∷ ps) zero (suc j) p other = refl
    seen_else (q ∷ ps) (suc k) zero p other = refl
    seen_else (q ∷ ps) (suc k) (suc j) p other = seen_else ps k j p (λ e. other (ap suc e))
