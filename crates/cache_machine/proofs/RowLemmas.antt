-- What rows hold as one is added or published, and how they grow.
use Rattle.std.proofs.Common.{◌≡◌, ◌≢◌, ◌⊎◌, inl, inr, ℕ, Bool, true, false, if◌then◌else◌, List, [], ◌∷◌, ◌++◌, map, refl, ap, sym, ◌∙◌, subst, Option, Some, None}
use Rattle.std.specs.Option.{option_map}
use Rattle.std.proofs.lemmas.Slice.Eq.{bytes_eq-Decides}
use Rattle.scan_model.specs.Files.{Content}
use Rattle.scan_model.specs.TokenTests.{same}
use Rattle.unit_laws.specs.Growth.{Extends}
use Rattle.unit_laws.proofs.GrowthLemmas.{Longer, longer_refl, longer_trans}
use Rattle.unit_laws.proofs.GrowingAnswers.{longer_begins, begins_longer}
use Rattle.cache_machine.specs.Rows.{Held, Claimed, Done, Row, held_at, done_of, map_of, published_held, published}
use Rattle.cache_machine.specs.RowGrowth.{RowsDiffer, RowsGrow, paths_of}

-- ## One row more, at the end

append_if : (row : Row) (later more : Option Held) (held : Held) → (later ≡ Some held → more ≡ Some held) → (b : Bool) →
    (if b then Some row.held else later) ≡ Some held → (if b then Some row.held else more) ≡ Some held
append_if row later more held each true h = h
append_if row later more held each false h = each h

pub held_stays : (rows more : List Row) (path : List ℕ) (held : Held) → held_at rows path ≡ Some held → held_at (rows ++ more) path ≡ Some held
held_stays [] more path held h = cc
held_stays (row ∷ rows) more path held h =
    append_if row (held_at rows path) (held_at (rows ++ more) path) held (held_stays rows more path held) (same row.path path) h

new_if : (new : Row) (path : List ℕ) (held : Held) (b : Bool) → same new.path path ≡ b → (if b then Some new.held else None) ≡ Some held →
    (new.path ≡ path) × (new.held ≡ held)
new_if new path held true e h = ((bytes_eq-Decides new.path path).0 e, cc)
new_if new path held false e h = cc

was_if : (row new : Row) (path : List ℕ) (held : Held) (later more : Option Held) →
    (more ≡ Some held → (later ≡ Some held) ⊎ ((new.path ≡ path) × (new.held ≡ held))) → (b : Bool) →
    (if b then Some row.held else more) ≡ Some held → ((if b then Some row.held else later) ≡ Some held) ⊎ ((new.path ≡ path) × (new.held ≡ held))
was_if row new path held later more each true h = inl h
was_if row new path held later more each false h = each h

-- what a path has then, it had, or it is the new row's
pub held_before : (rows : List Row) (new : Row) (path : List ℕ) (held : Held) → held_at (rows ++ new ∷ []) path ≡ Some held →
    (held_at rows path ≡ Some held) ⊎ ((new.path ≡ path) × (new.held ≡ held))
held_before [] new path held h = inr (new_if new path held (same new.path path) refl h)
held_before (row ∷ rows) new path held h =
    was_if row new path held (held_at rows path) (held_at (rows ++ new ∷ []) path) (held_before rows new path held) (same row.path path) h

new_held : (new : Row) (b : Bool) → same new.path new.path ≡ b → (if b then Some new.held else None) ≡ Some new.held
new_held new true e = refl
new_held new false e = let t : same new.path new.path ≡ true = (bytes_eq-Decides new.path new.path).1 refl in cc

at_last : (row : Row) (later more : Option Held) (new : Row) → (later ≡ None → more ≡ Some new.held) → (b : Bool) →
    (if b then Some row.held else later) ≡ None → (if b then Some row.held else more) ≡ Some new.held
at_last row later more new each true h = cc
at_last row later more new each false h = each h

-- a path that had none has the new row
pub held_new : (rows : List Row) (new : Row) → held_at rows new.path ≡ None → held_at (rows ++ new ∷ []) new.path ≡ Some new.held
held_new [] new h = new_held new (same new.path new.path) refl
held_new (row ∷ rows) new h =
    at_last row (held_at rows new.path) (held_at (rows ++ new ∷ []) new.path) new (held_new rows new) (same row.path new.path) h

none_if : (row : Row) (later more : Option Held) → (later ≡ None → more ≡ None) → (b : Bool) → (if b then Some row.held else later) ≡ None → (if b then Some row.held else more) ≡ None
none_if row later more each true h = cc
none_if row later more each false h = each h

other_none : (new : Row) (path : List ℕ) → new.path ≢ path → (b : Bool) → same new.path path ≡ b → (if b then Some new.held else None) ≡ None
other_none new path differ true e = absurd (differ ((bytes_eq-Decides new.path path).0 e))
other_none new path differ false e = refl

none_stays : (rows : List Row) (new : Row) (path : List ℕ) → new.path ≢ path → held_at rows path ≡ None → held_at (rows ++ new ∷ []) path ≡ None
none_stays [] new path differ h = other_none new path differ (same new.path path) refl
none_stays (row ∷ rows) new path differ h =
    none_if row (held_at rows path) (held_at (rows ++ new ∷ []) path) (none_stays rows new path differ) (same row.path path) h

not_same : (row : Row) (path : List ℕ) (later : Option Held) → (b : Bool) → same row.path path ≡ b → (if b then Some row.held else later) ≡ None → path ≢ row.path
not_same row path later true e h = cc
not_same row path later false e h = λ k. let t : same row.path path ≡ true = (bytes_eq-Decides row.path path).1 (sym k) in cc

later_none : (row : Row) (later : Option Held) → (b : Bool) → (if b then Some row.held else later) ≡ None → later ≡ None
later_none row later true h = cc
later_none row later false h = h

pub differ_append : (rows : List Row) (new : Row) → RowsDiffer rows → held_at rows new.path ≡ None → RowsDiffer (rows ++ new ∷ [])
differ_append [] new h none = (refl, tt)
differ_append (row ∷ rows) new h none = (
  none_stays rows new row.path (not_same row new.path (held_at rows new.path) (same row.path new.path) refl none) h.0,
  differ_append rows new h.1 (later_none row (held_at rows new.path) (same row.path new.path) none),
)

-- ## A row that is published

map_if : (f : Held → Held) (held : Held) (later more : Option Held) → more ≡ option_map f later → (b : Bool) →
    (if b then Some (f held) else more) ≡ option_map f (if b then Some held else later)
map_if f held later more h true = refl
map_if f held later more h false = h

pub held_published : (w : ℕ) (content : Content (List ℕ)) (rows : List Row) (path : List ℕ) →
    held_at (map (published w content) rows) path ≡ option_map (published_held w content) (held_at rows path)
held_published w content [] path = refl
held_published w content (row ∷ rows) path =
    map_if (published_held w content) row.held (held_at rows path) (held_at (map (published w content) rows) path) (held_published w content rows path) (same row.path path)

pub differ_published : (w : ℕ) (content : Content (List ℕ)) (rows : List Row) → RowsDiffer rows → RowsDiffer (map (published w content) rows)
differ_published w content [] h = tt
differ_published w content (row ∷ rows) h =
    (held_published w content rows row.path ∙ ap (λ z. option_map (published_held w content) z) h.0, differ_published w content rows h.1)

paths_published : (w : ℕ) (content : Content (List ℕ)) (rows : List Row) → paths_of (map (published w content) rows) ≡ paths_of rows
paths_published w content [] = refl
paths_published w content (row ∷ rows) = ap (λ z. row.path ∷ z) (paths_published w content rows)

-- ## Rows grow

pub grows_refl : (rows : List Row) → RowsGrow rows rows
grows_refl rows = record {
  paths = longer_begins (paths_of rows) (paths_of rows) (longer_refl (paths_of rows));
  done = λ path content h. h;
}

paths_append : (rows more : List Row) → paths_of (rows ++ more) ≡ paths_of rows ++ paths_of more
paths_append [] more = refl
paths_append (row ∷ rows) more = ap (λ z. row.path ∷ z) (paths_append rows more)

pub grows_append : (rows more : List Row) → RowsGrow rows (rows ++ more)
grows_append rows more = record {
  paths = longer_begins (paths_of rows) (paths_of (rows ++ more)) (paths_of more, paths_append rows more);
  done = λ path content h. held_stays rows more path (Done content) h;
}

pub grows_published : (w : ℕ) (content : Content (List ℕ)) (rows : List Row) → RowsGrow rows (map (published w content) rows)
grows_published w content rows =
    let ps = paths_of rows in
    record {
      paths = longer_begins ps (paths_of (map (published w content) rows)) (subst (λ z. Longer ps z) (sym (paths_published w content rows)) (longer_refl ps));
      done = λ path before h. held_published w content rows path ∙ ap (λ z. option_map (published_held w content) z) h;
    }

extends_by : (rows more : List Row) → RowsGrow rows more → (path : List ℕ) (content : Content (List ℕ)) (held : Option Held) → held_at rows path ≡ held →
    done_of held ≡ Some content → done_of (held_at more path) ≡ Some content
extends_by rows more grow path content None e h = cc
extends_by rows more grow path content (Some (Claimed w)) e h = cc
extends_by rows more grow path content (Some (Done before)) e h = ap done_of (grow.done path before e) ∙ h

pub extends : (rows more : List Row) → RowsGrow rows more → Extends (List ℕ) (map_of rows) (map_of more)
extends rows more grow path content h = extends_by rows more grow path content (held_at rows path) refl h

pub grows_trans : (rows more most : List Row) → RowsGrow rows more → RowsGrow more most → RowsGrow rows most
grows_trans rows more most h k = record {
  paths = longer_begins (paths_of rows) (paths_of most)
      (longer_trans (paths_of rows) (paths_of more) (paths_of most) (begins_longer (paths_of rows) (paths_of more) h.paths) (begins_longer (paths_of more) (paths_of most) k.paths));
  done = λ path content at. k.done path content (h.done path content at);
}
