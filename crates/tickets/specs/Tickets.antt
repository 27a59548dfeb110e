-- The rule of the tickets' table: one word, the next number.
use Rattle.std.specs.Prelude.{◌≡◌, ◌<◌, ◌≤◌, ◌*◌, ◌+◌, ℕ, Bool, true, false, nat_eq, List, [], ◌∷◌, ◌++◌, length, All}
use mathlib.Core.Option.{some}
use lib.ListN.{get_elem?}
use Rattle.atomic_table.specs.Table.{State, Me}
use Rattle.tickets.specs.declared.hand.Hand.{Hand}

-- the sum of f over the elements
abbrev pub total : {X : Type 0} → (X → ℕ) → List X → ℕ
total f [] = 0
total f (x ∷ xs) = f x + total f xs

abbrev pub hand : ℕ → List ℕ → Hand
hand places drawn = record { places = places; drawn = drawn }

abbrev pub spent : Hand
spent = hand 0 []

abbrev pub one_if : Bool → ℕ
one_if true = 1
one_if false = 0

-- how often the number stands in the list
abbrev pub times : ℕ → List ℕ → ℕ
times x [] = 0
times x (y ∷ ys) = one_if (nat_eq x y) + times x ys

abbrev pub places_of : Hand → ℕ
places_of v = v.places

abbrev pub count_of : Hand → ℕ
count_of v = length v.drawn

abbrev pub times_of : ℕ → Hand → ℕ
times_of x v = times x v.drawn

-- the word is the count of all draws, and they are the numbers below it, each once; each seat drew few for its places
pub record Drawn {S : Type 0} (workers : ℕ) (s : State S Hand) : Type 0 where
  pub few : workers ≤ 64
  pub word_is : s.words ≡ total count_of s.views ∷ []
  pub below : (x : ℕ) → x < total count_of s.views → total (times_of x) s.views ≡ 1
  pub beyond : (x : ℕ) → total count_of s.views ≤ x → total (times_of x) s.views ≡ 0
  pub places : total places_of s.views ≡ workers
  pub each : (j : ℕ) (v : Hand) → get_elem? s.views j ≡ some v → count_of v ≤ places_of v * 131073

-- a seat of one place drew the number, which is greater than all that it drew before
abbrev pub drew : {S : Type 0} → Me S Hand → ℕ → Me S Hand → Type 0
drew m r m' = (m' ≡ (hand m.0.places (m.0.drawn ++ r ∷ []), m.1)) × All (λ n. n < r) m.0.drawn
