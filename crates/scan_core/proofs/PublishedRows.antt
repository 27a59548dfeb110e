-- The one row that a worker claimed is done.
use Rattle.std.proofs.Common.{◌≡◌, ◌≢◌, ◌==◌, ℕ, zero, suc, Bool, true, false, if◌then◌else◌, List, [], ◌∷◌, map, slice_get, refl, ap, sym, ◌∙◌, subst, Option, Some, None, arith}
use Rattle.std.specs.Prelude.{slice_set}
use Rattle.std.proofs.lemmas.Bool.Decides.{nat_tests}
use Rattle.std.proofs.lemmas.Slice.Eq.{bytes_eq-Decides}
use Rattle.scan_model.specs.Files.{Content}
use Rattle.scan_model.specs.TokenTests.{same}
use Rattle.cache_machine.specs.Rows.{Held, Claimed, Done, Row, held_at, published_held, published}
use Rattle.cache_machine.specs.RowGrowth.{RowsDiffer}

head_if : (row : Row) (later : Option Held) (b : Bool) → same row.path row.path ≡ b → (if b then Some row.held else later) ≡ Some row.held
head_if row later true e = refl
head_if row later false e = let t : same row.path row.path ≡ true = (bytes_eq-Decides row.path row.path).1 refl in cc

head_held : (row : Row) (rows : List Row) → held_at (row ∷ rows) row.path ≡ Some row.held
head_held row rows = head_if row (held_at rows row.path) (same row.path row.path) refl

tail_if : (row : Row) (rows : List Row) (of : List ℕ) (held : Held) (b : Bool) → same row.path of ≡ b → held_at rows row.path ≡ None → held_at rows of ≡ Some held →
    (if b then Some row.held else held_at rows of) ≡ Some held
tail_if row rows of held true e none h =
    let k : held_at rows of ≡ None = ap (λ z. held_at rows z) (sym ((bytes_eq-Decides row.path of).0 e)) ∙ none in cc
tail_if row rows of held false e none h = h

-- what a later row holds, its path holds
tail_held : (row : Row) (rows : List Row) (of : List ℕ) (held : Held) → held_at rows row.path ≡ None → held_at rows of ≡ Some held → held_at (row ∷ rows) of ≡ Some held
tail_held row rows of held none h = tail_if row rows of held (same row.path of) refl none h

-- each row is that of its path
pub place_held : (rows : List Row) (i : ℕ) (row : Row) → RowsDiffer rows → slice_get rows i ≡ Some row → held_at rows row.path ≡ Some row.held
place_held [] i row differ h = cc
place_held (x ∷ rows) zero row differ h = let e : x ≡ row = cc in subst (λ z. held_at (x ∷ rows) z.path ≡ Some z.held) e (head_held x rows)
place_held (x ∷ rows) (suc i) row differ h = tail_held x rows row.path row.held differ.0 (place_held rows i row differ.1 h)

held_unless : (w : ℕ) (content : Content (List ℕ)) (v : ℕ) (b : Bool) → (v == w) ≡ b → v ≢ w → (if b then Done content else Claimed v) ≡ Claimed v
held_unless w content v true e differ = absurd (differ (grind (arith, nat_tests)))
held_unless w content v false e differ = refl

-- what another worker claimed stays
pub other_held : (w : ℕ) (content : Content (List ℕ)) (v : ℕ) → v ≢ w → published_held w content (Claimed v) ≡ Claimed v
other_held w content v differ = held_unless w content v (v == w) refl differ

own_if : (w : ℕ) (content : Content (List ℕ)) (b : Bool) → (w == w) ≡ b → (if b then Done content else Claimed w) ≡ Done content
own_if w content true e = refl
own_if w content false e = let t : (w == w) ≡ true = grind (arith, nat_tests) in cc

pub own_held : (w : ℕ) (content : Content (List ℕ)) → published_held w content (Claimed w) ≡ Done content
own_held w content = own_if w content (w == w) refl

same_held : (w : ℕ) (content : Content (List ℕ)) (held : Held) → (held ≡ Claimed w → ⊥) → published_held w content held ≡ held
same_held w content (Claimed v) not = other_held w content v (λ e. not (ap (λ z. Claimed z) e))
same_held w content (Done before) not = refl

same_row : (w : ℕ) (content : Content (List ℕ)) (row : Row) → (row.held ≡ Claimed w → ⊥) → published w content row ≡ row
same_row w content row not = ap (λ z. record { path = row.path; held = z }) (same_held w content row.held not)

module _ (w : ℕ) (content : Content (List ℕ)) where
  -- rows of which the worker claimed none stay
  none_published : (rows : List Row) → RowsDiffer rows → ((of : List ℕ) → held_at rows of ≡ Some (Claimed w) → ⊥) → map (published w content) rows ≡ rows
  none_published [] differ none = refl
  none_published (row ∷ rows) differ none =
      ap (λ z. z ∷ map (published w content) rows) (same_row w content row (λ e. none row.path (head_held row rows ∙ ap (λ z. Some z) e)))
      ∙ ap (λ z. row ∷ z) (none_published rows differ.1 (λ of h. none of (tail_held row rows of (Claimed w) differ.0 h)))

  -- of rows where the worker claimed this path alone, its row is done
  pub one_published : (rows : List Row) (of : List ℕ) (place : ℕ) → RowsDiffer rows → ((other : List ℕ) → held_at rows other ≡ Some (Claimed w) → other ≡ of) →
      slice_get rows place ≡ Some (record { path = of; held = Claimed w }) → slice_set rows place (record { path = of; held = Done content }) ≡ map (published w content) rows
  one_published [] of place differ alone at = cc
  one_published (row ∷ rows) of zero differ alone at =
      let own : Row = record { path = of; held = Claimed w } in
      let is : row ≡ own = cc in
      let none : held_at rows of ≡ None = ap (λ z. held_at rows z) (sym (ap (λ (z : Row). z.path) is)) ∙ differ.0 in
      let rest = none_published rows differ.1 (λ other h. let e = alone other (tail_held row rows other (Claimed w) differ.0 h) in
      let no : held_at rows other ≡ None = ap (λ z. held_at rows z) e ∙ none in cc) in
      ap (λ z. record { path = of; held = z } ∷ rows) (sym (own_held w content)) ∙ ap (λ z. published w content own ∷ z) (sym rest)
      ∙ ap (λ z. published w content z ∷ map (published w content) rows) (sym is)
  one_published (row ∷ rows) of (suc place) differ alone at =
      let there : held_at rows of ≡ Some (Claimed w) = place_held rows place (record { path = of; held = Claimed w }) differ.1 at in
      let not : row.held ≡ Claimed w → ⊥ = λ e. let k = alone row.path (head_held row rows ∙ ap (λ z. Some z) e) in
      let no : held_at rows of ≡ None = ap (λ z. held_at rows z) (sym k) ∙ differ.0 in cc in
      ap (λ z. row ∷ z) (one_published rows of place differ.1 (λ other h. alone other (tail_held row rows other (Claimed w) differ.0 h)) at)
      ∙ ap (λ z. z ∷ map (published w content) rows) (sym (same_row w content row not))
