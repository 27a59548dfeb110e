-- Opened and cut lists have the tokens that were there, and as many.
use Rattle.std.proofs.Common.{◌≡◌, ap, subst, refl, ℕ, ◌+◌, Bool, true, false, ◌&&◌, ◌==◌, if◌then◌else◌, List, [], ◌∷◌, ◌++◌}
use Rattle.std.specs.Prelude.{Option, Some, None}
use Rattle.std.specs.Option.{option_map}
use Rattle.std.proofs.lemmas.List.Elements.{All-nil, All-cons, All-head, All-tail}
use Rattle.hide_sets.specs.Sets.{Sets}
use Rattle.scan_model.specs.TokenTests.{is_open_paren, is_close_paren}
use Rattle.scan_model.specs.Parentheses.{Enclosed, onto_inside, enclosed, in_parens, depth_after}
use Rattle.substitution.specs.declared.marked.Marked.{Marked}
use Rattle.substitution.specs.Meaning.{IsMarked, AreMarked}

-- ## Parentheses

-- the list is what is enclosed, the `)` and what follows
abbrev PartsOf : List Marked → Option (Enclosed Marked) → Type 0
PartsOf ms None = Unit {0}
PartsOf ms (Some e) = ms ≡ e.inside ++ e.close ∷ e.after

parts-if : (b : Bool) (m : Marked) (ms : List Marked) (o : Option (Enclosed Marked)) → PartsOf ms o →
    PartsOf (m ∷ ms) (if b then Some (record { inside = []; close = m; after = ms }) else option_map (onto_inside m) o)
parts-if true m ms o h = refl
parts-if false m ms None h = tt
parts-if false m ms (Some e) h = ap (λ (xs : List Marked). m ∷ xs) h

all-parts : (depth : ℕ) (ms : List Marked) → PartsOf ms (enclosed (λ m. m.tok) depth ms)
all-parts depth [] = tt
all-parts depth (m ∷ ms) = parts-if (depth == 0 && is_close_paren m.tok) m ms (enclosed (λ m. m.tok) (depth_after m.tok depth) ms) (all-parts (depth_after m.tok depth) ms)

pub enclosed-parts : (depth : ℕ) (ms : List Marked) (e : Enclosed Marked) → enclosed (λ m. m.tok) depth ms ≡ Some e → ms ≡ e.inside ++ e.close ∷ e.after
enclosed-parts depth ms e h = subst (PartsOf ms) h (all-parts depth ms)

-- the list is a token, what is enclosed, the `)` and what follows
pub record Parts (ms : List Marked) (e : Enclosed Marked) : Type 0 where
  pub open_paren : Marked
  pub parts : ms ≡ open_paren ∷ e.inside ++ e.close ∷ e.after

opened-if : (b : Bool) (m : Marked) (ms : List Marked) (o : Option (Enclosed Marked)) (e : Enclosed Marked) → (o ≡ Some e → ms ≡ e.inside ++ e.close ∷ e.after) → (if b then o else None) ≡ Some e → Parts (m ∷ ms) e
opened-if true m ms o e f h = record { open_paren = m; parts = ap (λ (xs : List Marked). m ∷ xs) (f h) }
opened-if false m ms o e f h = absurd (cc)

pub in_parens-parts : (ms : List Marked) (e : Enclosed Marked) → in_parens (λ m. m.tok) ms ≡ Some e → Parts ms e
in_parens-parts [] e h = absurd (cc)
in_parens-parts (m ∷ ms) e h = opened-if (is_open_paren m.tok) m ms (enclosed (λ m. m.tok) 0 ms) e (enclosed-parts 0 ms e) h

-- the table has the hide sets of what is opened
pub record IsEnclosed (sets : Sets) (e : Enclosed Marked) : Type 0 where
  pub inside : AreMarked sets e.inside
  pub close : IsMarked sets e.close
  pub after : AreMarked sets e.after

known-parts : (sets : Sets) (inside : List Marked) (close : Marked) (after : List Marked) → AreMarked sets (inside ++ close ∷ after) → IsEnclosed sets (record { inside = inside; close = close; after = after })
known-parts sets [] close after h = record {
  inside = All-nil (IsMarked sets);
  close = All-head (IsMarked sets) close after h;
  after = All-tail (IsMarked sets) close after h;
}
known-parts sets (m ∷ ms) close after h =
    let rest = known-parts sets ms close after (All-tail (IsMarked sets) m (ms ++ close ∷ after) h) in
    record { inside = All-cons (IsMarked sets) m ms (All-head (IsMarked sets) m (ms ++ close ∷ after) h) rest.inside; close = rest.close; after = rest.after }

pub in_parens-known : (sets : Sets) (ms : List Marked) (e : Enclosed Marked) → in_parens (λ m. m.tok) ms ≡ Some e → AreMarked sets ms → IsEnclosed sets e
in_parens-known sets ms e h k =
    let p = in_parens-parts ms e h in
    known-parts sets e.inside e.close e.after (All-tail (IsMarked sets) p.open_paren (e.inside ++ e.close ∷ e.after) (subst (AreMarked sets) p.parts k))

-- ## Lists cut at commas
