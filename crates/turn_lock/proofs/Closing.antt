-- How the passes are taken back, and what they know of the last state.
use Rattle.std.proofs.Common.{◌≡◌, ℕ, zero, suc, ◌<◌, false, List, [], ◌∷◌, ◌++◌, map, length, All, refl, sym, ap, ◌∙◌, subst, ⊎_elim, arith, append_assoc, append-nil, length-append, ◌≢◌, ◌≤◌, slice_get, Some, None}
use mathlib.Core.List.{map-append}
use Rattle.std.proofs.Math.Seq.{get_or-append_seam}
use Rattle.std.proofs.lemmas.List.{get_or_append_left, append_cancel_left}
use Rattle.std.proofs.lemmas.Option.{slice_get_cases, get_or_from_slice_get}
use lib.ListN.{get_or}
use Rattle.turn_lock.proofs.Opening.{some_is_none}
use Rattle.atomic_table.specs.Table.{Joins}
use Rattle.turn_lock.specs.declared.Logged.{Ghosts}
use Rattle.turn_lock.specs.declared.lock.Pass.{Pass}
use Rattle.turn_lock.specs.declared.view.Mark.{Mark}
use Rattle.turn_lock.specs.declared.view.Stage.TheVariants.{Idle}
use Rattle.turn_lock.specs.declared.view.View.{View}
use Rattle.turn_lock.specs.Logs.{Fits, Grown}
use Rattle.turn_lock.specs.Views.{Each, HasNumber, view, spent}
use Rattle.turn_lock.specs.Rule.{Ruled}
use Rattle.turn_lock.specs.Passes.{number, seen, mark_of, FitsPass, IsNamed, GrownBy}
use Rattle.turn_lock.proofs.SeatsKept.{joins}

module _ {X : Type 0} (P : X → Type 0) where
  pub all_init : (xs : List X) (x : X) → All P (xs ++ x ∷ []) → All P xs
  all_init xs x h k d l = subst P (get_or_append_left xs (x ∷ []) d k l) (h k d (let e = length-append xs (x ∷ []) in omega arith))

  pub all_last : (xs : List X) (x : X) → All P (xs ++ x ∷ []) → P x
  all_last xs x h = subst P (get_or-append_seam xs x [] x) (h (length xs) x (let e = length-append xs (x ∷ []) in omega arith))

module _ {X : Type 0} (P : X → Type 0) where
  pub all_at : (xs : List X) (i : ℕ) (x : X) → All P xs → slice_get xs i ≡ Some x → P x
  all_at xs i x h e = ⊎_elim (λ (t : (y : X) × (i < length xs) × (slice_get xs i ≡ Some y) × (get_or xs i y ≡ y)). subst P (get_or_from_slice_get xs i x x e) (h i x t.1))
      (λ (t : (length xs ≤ i) × (slice_get xs i ≡ None)). some_is_none x (sym e ∙ t.1)) (slice_get_cases xs i).1

module _ {T E : Type 0} (log_of : T → List E) (number_fixed : T → List ℕ) (maker : E → ℕ) where
  pub joins_at : (first : List E) (fixed : List ℕ) (passes id other : ℕ) (v w : View E) → v ≡ view v.marks Idle false → w ≡ view w.marks Idle false
      → Joins (Ruled log_of number_fixed maker first fixed passes) id v other w (view (w.marks ++ v.marks) Idle false) spent
  joins_at first fixed passes id other v w a b = subst (λ (z : View E × View E). Joins (Ruled log_of number_fixed maker first fixed passes) id z.0 other z.1 (view (z.1.marks ++ z.0.marks) Idle false) spent)
      (λ i. (sym a i, sym b i)) (joins log_of number_fixed maker first fixed passes id other v.marks w.marks)

module _ {T E : Type 0} {g : Ghosts T E} where
  pub gathers : (ps qs all : List (Pass T E g)) (p : Pass T E g) (ms ns : List (Mark E)) → qs ≡ ps ++ p ∷ [] → ns ≡ mark_of p ∷ [] → map mark_of qs ++ ms ≡ map mark_of all → map mark_of ps ++ (ns ++ ms) ≡ map mark_of all
  gathers ps qs all p ms ns cut is was =
      ap (λ (z : List (Mark E)). map mark_of ps ++ (z ++ ms)) is ∙ (sym (append_assoc (map mark_of ps) (mark_of p ∷ []) ms) ∙ (ap (λ (z : List (Mark E)). z ++ ms) (sym (map-append mark_of ps (p ∷ [])))
      ∙ (ap (λ (z : List (Pass T E g)). map mark_of z ++ ms) (sym cut) ∙ was)))

  pub begins : (ps all : List (Pass T E g)) (p : Pass T E g) (ns : List (Mark E)) → all ≡ ps ++ p ∷ [] → ns ≡ mark_of p ∷ [] → map mark_of ps ++ ns ≡ map mark_of all
  begins ps all p ns cut is = ap (λ (z : List (Mark E)). map mark_of ps ++ z) is ∙ (sym (map-append mark_of ps (p ∷ [])) ∙ ap (map mark_of) (sym cut))

  pub all_fit : (log : List E) (ps : List (Pass T E g)) → Each (λ m. Fits g.maker m.number m.seen log) (map mark_of ps) → All (λ p. FitsPass {g = g} log p) ps
  all_fit log [] each k d l = absurd (omega arith)
  all_fit log (p ∷ ps) each zero d l = each.0
  all_fit log (p ∷ ps) each (suc k) d l = all_fit log ps each.1 k d (omega arith)

  pub has_named : (k : ℕ) (ps : List (Pass T E g)) → HasNumber k (map mark_of ps) → IsNamed {g = g} ps k
  has_named k [] h = absurd h
  has_named k (p ∷ ps) h = ⊎_elim (λ (e : number p ≡ k). (0, p, refl, e)) (λ (t : HasNumber k (map mark_of ps)). let it = has_named k ps t in (suc it.0, it.1, it.2, it.3)) h

  pub grown_by : (n : ℕ) (ps : List (Pass T E g)) (first log : List E) → ((k : ℕ) → k < n → HasNumber k (map mark_of ps)) → Grown g.maker n first log → GrownBy {g = g} g.maker ps first log
  grown_by n ps first log named grown = (grown.0, grown.1, λ k d l. has_named _ ps (named _ (grown.2 k d l)))

  -- where no pass has seen more than the first log, and the log fits them all, it is the first
  pub nothing_new : (ps : List (Pass T E g)) (first log : List E) → All (λ p. FitsPass {g = g} log p) ps → ((i : ℕ) (p : Pass T E g) → slice_get ps i ≡ Some p → seen p ≡ first) → GrownBy {g = g} g.maker ps first log → log ≡ first
  nothing_new ps first log fits saw ([], is, named) = is ∙ append-nil first
  nothing_new ps first log fits saw (e ∷ es, is, named) =
      let (i, p, at, names) = named 0 e (omega arith) in
      let (more, both, others) = all_at (λ p. FitsPass {g = g} log p) ps i p fits at in
      let same : e ∷ es ≡ more = append_cancel_left first (e ∷ es) more (sym is ∙ (both ∙ ap (λ (z : List E). z ++ more) (saw i p at))) in
      let away = subst (All (λ x. g.maker x ≢ number p)) (sym same) others in absurd (away 0 e (omega arith) (sym names))
