-- Open conditionals, of which the innermost is last in the code.
use Rattle.std.proofs.Common.{◌≡◌, ℕ, ◌+◌, ◌-◌, ◌<◌, List, [], ◌∷◌, ◌++◌, map, drop, length, refl, ap, sym, ◌∙◌, arith}
use Rattle.std.proofs.Math.ListN.{set}
use Rattle.std.proofs.lemmas.List.{reverse-append}
use Rattle.scan_model.specs.State.{Group}
use Rattle.plain_lines.specs.declared.state.OpenGroup.{OpenGroup}
use Rattle.plain_lines.specs.States.{group_of, groups_of}

-- ## The last element of a list

split_last : {A : Type 0} (xs : List A) → 0 < length xs → (ys : List A) × ((x : A) × ((xs ≡ ys ++ x ∷ []) × (length ys ≡ length xs - 1)))
split_last [] h = absurd (omega arith)
split_last (x ∷ []) h = ([], (x, (refl, omega arith)))
split_last (x ∷ y ∷ xs) h = let more = split_last (y ∷ xs) (omega arith) in
    (x ∷ more.0, (more.1.0, (ap (λ zs. x ∷ zs) more.1.1.0, omega (arith, more.1.1.1))))

set_last : {A : Type 0} (ys : List A) (x v : A) → set (ys ++ x ∷ []) (length ys) v ≡ ys ++ v ∷ []
set_last [] x v = refl
set_last (y ∷ ys) x v = ap (λ zs. y ∷ zs) (set_last ys x v)

-- ## Conditionals

pub groups_of-push : (gs : List OpenGroup) (g : OpenGroup) → groups_of (gs ++ g ∷ []) ≡ group_of g ∷ groups_of gs
groups_of-push gs g = ap (map group_of) (reverse-append gs (g ∷ []))

set_groups : (gs : List OpenGroup) (new : OpenGroup) (g : Group) (rest : List Group) → groups_of gs ≡ g ∷ rest → groups_of (set gs (length gs - 1) new) ≡ group_of new ∷ rest
set_groups [] new g rest e = cc
set_groups (f ∷ fs) new g rest e =
    let gs : List OpenGroup = f ∷ fs in
    let s = split_last gs (omega arith) in
    let whole : groups_of gs ≡ group_of s.1.0 ∷ groups_of s.0 = ap groups_of s.1.1.0 ∙ groups_of-push s.0 s.1.0 in
    let below : groups_of s.0 ≡ rest = ap (drop 1) (sym whole ∙ e) in
    ap (λ k. groups_of (set gs k new)) (sym s.1.1.1) ∙ ap (λ xs. groups_of (set xs (length s.0) new)) s.1.1.0 ∙ ap groups_of (set_last s.0 s.1.0 new) ∙ groups_of-push s.0 new
    ∙ ap (λ gs. group_of new ∷ gs) below

pub groups_of-set : (gs : List OpenGroup) (n : ℕ) (new : OpenGroup) (g : Group) (rest : List Group) → n ≡ length gs → groups_of gs ≡ g ∷ rest → groups_of (set gs (n - 1) new) ≡ group_of new ∷ rest
groups_of-set gs n new g rest is e = ap (λ k. groups_of (set gs (k - 1) new)) is ∙ set_groups gs new g rest e
