-- Each job's number was drawn by a worker whose share has its end.
use Rattle.std.proofs.Common.{◌≡◌, ◌≢◌, ◌⊎◌, inl, inr, ◌<◌, ◌≤◌, ◌+◌, ℕ, zero, suc, List, [], ◌∷◌, ◌++◌, map, length, All, Contains, refl, sym, ap, ◌∙◌, subst, ⊎_elim, arith}
use Rattle.std.specs.List.{flat_map}
use Rattle.std.proofs.lemmas.List.{map-append}
use Rattle.std.proofs.lemmas.List.Elements.{All-head, All-tail}
use mathlib.Core.Logic.{dite}
use native.Mathlib.Decide.{ℕ_discrete}
use Rattle.tickets.specs.Tickets.{total, times}
use Rattle.tickets.proofs.TicketLemmas.{append_times, hit, miss}
use Rattle.workers.proofs.PlaceLemmas.{here, later}

-- a number that is counted stands in the list
counted : (x : ℕ) (xs : List ℕ) → 1 ≤ times x xs → Contains xs x
counted x [] some = absurd (omega arith)
counted x (y ∷ ys) some = dite (ℕ_discrete x y)
    (λ e. subst (λ z. Contains (y ∷ ys) z) (sym e) (here y ys))
    (λ ne. let m = miss x y ne in later y x ys (counted x ys (omega arith)))

order : (a b : ℕ) → (a < b) ⊎ (b ≤ a)
order zero zero = inr (omega arith)
order zero (suc b) = inl (omega arith)
order (suc a) zero = inr (omega arith)
order (suc a) (suc b) = ⊎_elim (λ (h : a < b). inl (omega arith)) (λ (h : b ≤ a). inr (omega arith)) (order a b)

pub total_map : {X Y : Type 0} (f : Y → ℕ) (g : X → Y) (xs : List X) → total f (map g xs) ≡ total (λ x. f (g x)) xs
total_map f g [] = refl
total_map f g (x ∷ xs) = ap (λ z. f (g x) + z) (total_map f g xs)

module _ {H E : Type 0} (drawn : H → List ℕ) (ends : H → List E) (number : E → ℕ) (jobs : ℕ) where
  -- what a worker drew: the numbers of its ends, and a last number at or past the number of jobs
  abbrev pub Past : H → Type 0
  Past h = (last : ℕ) × (drawn h ≡ map number (ends h) ++ last ∷ []) × (jobs ≤ last)

  -- it drew a number below the number of jobs as often as it has an end for it
  drawn_of : (x : ℕ) (h : H) → x < jobs → Past h → times x (drawn h) ≡ times x (map number (ends h))
  drawn_of x h below (last, is, past) =
      let t = append_times x (map number (ends h)) (last ∷ []) in
      let m = miss x last (λ e. absurd (omega arith)) in
      let d : times x (drawn h) ≡ times x (map number (ends h) ++ last ∷ []) = ap (times x) is in
      omega arith

  total_of : (x : ℕ) (hs : List H) → x < jobs → All Past hs → total (λ h. times x (drawn h)) hs ≡ times x (map number (flat_map ends hs))
  total_of x [] below past = refl
  total_of x (h ∷ hs) below past =
      let first = drawn_of x h below (All-head Past h hs past) in
      let rest = total_of x hs below (All-tail Past h hs past) in
      let t = append_times x (map number (ends h)) (map number (flat_map ends hs)) in
      let m : times x (map number (ends h ++ flat_map ends hs)) ≡ times x (map number (ends h) ++ map number (flat_map ends hs)) = ap (times x) (map-append number (ends h) (flat_map ends hs)) in
      omega arith

  -- a first worker's last number was drawn
  last_of : (h : H) (hs : List H) → All Past (h ∷ hs) → (n : ℕ) → ((x : ℕ) → n ≤ x → total (λ h. times x (drawn h)) (h ∷ hs) ≡ 0) → jobs < n
  last_of h hs past n beyond =
      let p : Past h = All-head Past h hs past in
      let last = p.0 in
      let t = append_times last (map number (ends h)) (last ∷ []) in
      let m = hit last last refl in
      let d : times last (drawn h) ≡ times last (map number (ends h) ++ last ∷ []) = ap (times last) p.1 in
      let far = p.2 in
      ⊎_elim (λ (l : last < n). omega arith) (λ (g : n ≤ last). let b = beyond last g in absurd (omega arith)) (order last n)

  -- where the numbers that were drawn are those below some n, each once, each job's number has its end
  pub have_ends : (hs : List H) (n : ℕ) → 0 < length hs → All Past hs → ((x : ℕ) → x < n → total (λ h. times x (drawn h)) hs ≡ 1) → ((x : ℕ) → n ≤ x → total (λ h. times x (drawn h)) hs ≡ 0) → (x : ℕ) → x < jobs → Contains (map number (flat_map ends hs)) x
  have_ends [] n some past once beyond x below = absurd (omega arith)
  have_ends (h ∷ hs) n some past once beyond x below =
      let far = last_of h hs past n beyond in
      let one = once x (omega arith) in
      let t = total_of x (h ∷ hs) below past in
      counted x (map number (flat_map ends (h ∷ hs))) (omega arith)
