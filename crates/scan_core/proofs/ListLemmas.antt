-- Lists with one place set, or one element more.
use Rattle.std.proofs.Common.{◌≡◌, ◌≢◌, ◌<◌, ℕ, zero, suc, ◌+◌, List, [], ◌∷◌, ◌++◌, map, length, slice_get, refl, ap, subst, Some, arith}
use Rattle.std.specs.Prelude.{slice_set, replicate, sum}
use Rattle.std.proofs.lemmas.List.Sums.{sum_by-cons}

-- ## One place set

pub set_twice : {A : Type 0} (xs : List A) (w : ℕ) (a b : A) → slice_set (slice_set xs w a) w b ≡ slice_set xs w b
set_twice [] w a b = refl
set_twice (x ∷ xs) zero a b = refl
set_twice (x ∷ xs) (suc w) a b = ap (λ z. x ∷ z) (set_twice xs w a b)

pub map_set : {A B : Type 0} (f : A → B) (xs : List A) (w : ℕ) (a : A) → map f (slice_set xs w a) ≡ slice_set (map f xs) w (f a)
map_set f [] w a = refl
map_set f (x ∷ xs) zero a = refl
map_set f (x ∷ xs) (suc w) a = ap (λ z. f x ∷ z) (map_set f xs w a)

pub length_set : {A : Type 0} (xs : List A) (w : ℕ) (a : A) → length (slice_set xs w a) ≡ length xs
length_set [] w a = refl
length_set (x ∷ xs) zero a = refl
length_set (x ∷ xs) (suc w) a = ap (λ n. suc n) (length_set xs w a)

pub length_map : {A B : Type 0} (f : A → B) (xs : List A) → length (map f xs) ≡ length xs
length_map f [] = refl
length_map f (x ∷ xs) = ap (λ n. suc n) (length_map f xs)

pub get_map : {A B : Type 0} (f : A → B) (xs : List A) (w : ℕ) (a : A) → slice_get xs w ≡ Some a → slice_get (map f xs) w ≡ Some (f a)
get_map f [] w a h = cc
get_map f (x ∷ xs) zero a h = let e : x ≡ a = cc in ap (λ z. Some (f z)) e
get_map f (x ∷ xs) (suc w) a h = get_map f xs w a h

-- an element of a mapped list comes from one of the list
pub map_got : {A B : Type 0} (f : A → B) (xs : List A) (w : ℕ) (b : B) → slice_get (map f xs) w ≡ Some b → (a : A) × ((slice_get xs w ≡ Some a) × (f a ≡ b))
map_got f [] w b h = cc
map_got f (x ∷ xs) zero b h = (x, (refl, cc))
map_got f (x ∷ xs) (suc w) b h = map_got f xs w b h

pub get_set : {A : Type 0} (xs : List A) (w : ℕ) (a b : A) → slice_get xs w ≡ Some a → slice_get (slice_set xs w b) w ≡ Some b
get_set [] w a b h = cc
get_set (x ∷ xs) zero a b h = refl
get_set (x ∷ xs) (suc w) a b h = get_set xs w a b h

-- what holds of each other place, and of the one that is set
pub each_set : {A : Type 0} (P : ℕ → A → Type 0) (xs : List A) (w : ℕ) (a : A) → ((v : ℕ) (x : A) → v ≢ w → slice_get xs v ≡ Some x → P v x) → P w a →
    (v : ℕ) (x : A) → slice_get (slice_set xs w a) v ≡ Some x → P v x
each_set P [] w a each here v x h = cc
each_set P (y ∷ xs) zero a each here zero x h = let e : a ≡ x = cc in subst (λ z. P zero z) e here
each_set P (y ∷ xs) zero a each here (suc v) x h = each (suc v) x (λ e. cc) h
each_set P (y ∷ xs) (suc w) a each here zero x h = each zero x (λ e. cc) h
each_set P (y ∷ xs) (suc w) a each here (suc v) x h = each_set (λ u z. P (suc u) z) xs w a (λ u z differ k. each (suc u) z (λ e. differ (omega arith)) k) here v x h

-- ## One element more

pub map_append : {A B : Type 0} (f : A → B) (xs ys : List A) → map f (xs ++ ys) ≡ map f xs ++ map f ys
map_append f [] ys = refl
map_append f (x ∷ xs) ys = ap (λ z. f x ∷ z) (map_append f xs ys)

pub length_push : {A : Type 0} (xs : List A) (a : A) → length (xs ++ a ∷ []) ≡ length xs + 1
length_push [] a = refl
length_push (x ∷ xs) a = let k = length_push xs a in omega arith

-- ## Copies of one element

pub map_replicate : {A B : Type 0} (f : A → B) (n : ℕ) (x : A) → map f (replicate n x) ≡ replicate n (f x)
map_replicate f zero x = refl
map_replicate f (suc n) x = ap (λ z. f x ∷ z) (map_replicate f n x)

pub length_replicate : {A : Type 0} (n : ℕ) (x : A) → length (replicate n x) ≡ n
length_replicate zero x = refl
length_replicate (suc n) x = ap (λ k. suc k) (length_replicate n x)

pub replicate_for : {A B : Type 0} (xs : List A) (y : B) → replicate (length xs) y ≡ map (λ x. y) xs
replicate_for [] y = refl
replicate_for (x ∷ xs) y = ap (λ z. y ∷ z) (replicate_for xs y)

pub each_replicate : {A : Type 0} (P : ℕ → A → Type 0) (n : ℕ) (x : A) → ((v : ℕ) → P v x) → (v : ℕ) (y : A) → slice_get (replicate n x) v ≡ Some y → P v y
each_replicate P zero x each v y h = cc
each_replicate P (suc n) x each zero y h = let e : x ≡ y = cc in subst (λ z. P zero z) e (each zero)
each_replicate P (suc n) x each (suc v) y h = each_replicate (λ u z. P (suc u) z) n x (λ u. each (suc u)) v y h

-- ## Sums

sum_of : (x : ℕ) (xs : List ℕ) → sum (x ∷ xs) ≡ x + sum xs
sum_of x xs = sum_by-cons (λ (x : ℕ). x) x xs

-- the new part counts in place of the one before
pub sum_set : {A : Type 0} (f : A → ℕ) (xs : List A) (w : ℕ) (old b : A) → slice_get xs w ≡ Some old → sum (map f (slice_set xs w b)) + f old ≡ sum (map f xs) + f b
sum_set f [] w old b at = cc
sum_set f (x ∷ xs) zero old b at =
    let same : f x ≡ f old = (let e : x ≡ old = cc in ap f e) in
    let p = sum_of (f b) (map f xs) in let q = sum_of (f x) (map f xs) in omega arith
sum_set f (x ∷ xs) (suc w) old b at =
    let k = sum_set f xs w old b at in
    let p = sum_of (f x) (map f (slice_set xs w b)) in let q = sum_of (f x) (map f xs) in omega arith
