-- What holds of each part of a value holds of each part of what is made of it.
use Rattle.std.proofs.Common.{ℕ, Bool, true, false, if◌then◌else◌, ◌&&◌, ◌==◌, List, [], ◌∷◌, ◌++◌, map, Option, Some, None}
use Rattle.std.specs.Prelude.{⊤}
use Rattle.std.specs.Option.{option_map, option_and_then}
use Rattle.std.specs.List.{AllByRecursion}
use Rattle.scan_model.specs.declared.token.Tok.{Tok}
use Rattle.scan_model.specs.TokenTests.{is_open_paren, is_close_paren}
use Rattle.scan_model.specs.Parentheses.{Enclosed, onto_inside, depth_after, enclosed, in_parens}

abbrev pub OnSome : {X : Type 0} → (X → Type 0) → Option X → Type 0
OnSome P None = ⊤
OnSome P (Some x) = P x

pub some_if : {X : Type 0} (P : X → Type 0) (b : Bool) (o p : Option X) → OnSome P o → OnSome P p → OnSome P (if b then o else p)
some_if P true o p h k = h
some_if P false o p h k = k

pub some_map : {X Y : Type 0} (P : X → Type 0) (Q : Y → Type 0) (f : X → Y) (o : Option X) → OnSome P o → ((x : X) → P x → Q (f x)) → OnSome Q (option_map f o)
some_map P Q f None h each = tt
some_map P Q f (Some x) h each = each x h

pub some_then : {X Y : Type 0} (P : X → Type 0) (Q : Y → Type 0) (f : X → Option Y) (o : Option X) → OnSome P o → ((x : X) → P x → OnSome Q (f x)) → OnSome Q (option_and_then f o)
some_then P Q f None h each = tt
some_then P Q f (Some x) h each = each x h

pub all_append : {X : Type 0} (P : X → Type 0) (xs ys : List X) → AllByRecursion P xs → AllByRecursion P ys → AllByRecursion P (xs ++ ys)
all_append P [] ys h k = k
all_append P (x ∷ xs) ys h k = (h.0, all_append P xs ys h.1 k)

pub all_map : {X Y : Type 0} (P : X → Type 0) (Q : Y → Type 0) (f : X → Y) (xs : List X) → AllByRecursion P xs → ((x : X) → P x → Q (f x)) → AllByRecursion Q (map f xs)
all_map P Q f [] h each = tt
all_map P Q f (x ∷ xs) h each = (each x h.0, all_map P Q f xs h.1 each)

pub all_if : {X : Type 0} (P : X → Type 0) (b : Bool) (xs ys : List X) → AllByRecursion P xs → AllByRecursion P ys → AllByRecursion P (if b then xs else ys)
all_if P true xs ys h k = h
all_if P false xs ys h k = k

-- ## Parentheses

abbrev pub InAndAfter : {X : Type 0} → (X → Type 0) → Enclosed X → Type 0
InAndAfter P e = AllByRecursion P e.inside × AllByRecursion P e.after

pub all_enclosed : {X : Type 0} (P : X → Type 0) (tok : X → Tok) (depth : ℕ) (xs : List X) → AllByRecursion P xs → OnSome (InAndAfter P) (enclosed tok depth xs)
all_enclosed P tok depth [] h = tt
all_enclosed P tok depth (x ∷ xs) h =
    some_if (InAndAfter P) (depth == 0 && is_close_paren (tok x)) (Some (record { inside = []; close = x; after = xs })) _ (tt, h.1)
    (some_map (InAndAfter P) (InAndAfter P) (onto_inside x) (enclosed tok (depth_after (tok x) depth) xs) (all_enclosed P tok (depth_after (tok x) depth) xs h.1)
    (λ e k. ((h.0, k.0), k.1)))

pub all_in_parens : {X : Type 0} (P : X → Type 0) (tok : X → Tok) (xs : List X) → AllByRecursion P xs → OnSome (InAndAfter P) (in_parens tok xs)
all_in_parens P tok [] h = tt
all_in_parens P tok (x ∷ xs) h = some_if (InAndAfter P) (is_open_paren (tok x)) (enclosed tok 0 xs) None (all_enclosed P tok 0 xs h.1) tt
