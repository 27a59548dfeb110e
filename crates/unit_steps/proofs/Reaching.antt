-- Runs one after another.
use Rattle.std.proofs.Common.{◌≡◌, ℕ, zero, suc, ◌+◌, ◌&&◌, List, [], ◌∷◌, ◌++◌, drop, slice_get, refl, ap, ◌∙◌, arith}
use Rattle.std.specs.Prelude.{Some, None}
use Rattle.std.specs.List.{AllByRecursion}
use Rattle.scan_model.specs.State.{State, Reached, Going, Stopped, then_go}

pub go_alike : (g h : State → Reached) → ((s : State) → g s ≡ h s) → (r : Reached) → then_go g r ≡ then_go h r
go_alike g h each (Going s) = each s
go_alike g h each (Stopped a) = refl

pub two_within : (a b : State → Reached) (r : Reached) → then_go a (then_go b r) ≡ then_go (λ s. then_go a (b s)) r
two_within a b (Going s) = refl
two_within a b (Stopped x) = refl

pub three_within : (a b c : State → Reached) (r : Reached) → then_go a (then_go b (then_go c r)) ≡ then_go (λ s. then_go a (then_go b (c s))) r
three_within a b c (Going s) = refl
three_within a b c (Stopped x) = refl

pub nothing_follows : (r : Reached) → r ≡ then_go (λ s. Going s) r
nothing_follows (Going s) = refl
nothing_follows (Stopped a) = refl

-- ## Parts of a list

pub all_parts : {X : Type 0} (P : X → Type 0) (xs ys : List X) → AllByRecursion P (xs ++ ys) → AllByRecursion P xs × AllByRecursion P ys
all_parts P [] ys h = (tt, h)
all_parts P (x ∷ xs) ys h = let parts = all_parts P xs ys h.1 in ((h.0, parts.0), parts.1)

pub all_one : {X : Type 0} (P : X → Type 0) (xs : List X) (x : X) → AllByRecursion P xs → P x → AllByRecursion P (xs ++ x ∷ [])
all_one P [] x h k = (k, tt)
all_one P (y ∷ xs) x h k = (h.0, all_one P xs x h.1 k)

-- the element at a place, and what follows
pub drop_at : {X : Type 0} (all : List X) (k : ℕ) (p : X) → slice_get all k ≡ Some p → drop k all ≡ p ∷ drop (k + 1) all
drop_at [] k p h = absurd (cc)
drop_at (x ∷ xs) zero p h = let same : x ≡ p = cc in ap (λ z. z ∷ xs) same
drop_at (x ∷ xs) (suc k) p h =
    let one : k + 1 ≡ suc k = omega arith in
    drop_at xs k p h ∙ ap (λ n. p ∷ drop n xs) one ∙ ap (λ n. p ∷ drop n (x ∷ xs)) (let e : suc (suc k) ≡ suc k + 1 = omega arith in e)

-- past the end
pub drop_beyond : {X : Type 0} (all : List X) (k : ℕ) → slice_get all k ≡ None → drop k all ≡ []
drop_beyond [] zero h = refl
drop_beyond [] (suc k) h = refl
drop_beyond (x ∷ xs) zero h = absurd (cc)
drop_beyond (x ∷ xs) (suc k) h = drop_beyond xs k h
