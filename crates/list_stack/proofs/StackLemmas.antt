-- What the operations on a stack's memory do to the lists that it holds.
use Rattle.std.proofs.Common.{◌≡◌, sym, ◌∙◌, ap, refl, ℕ, zero, suc, ◌+◌, ◌-◌, ◌<◌, ◌≤◌, List, [], ◌∷◌, ◌++◌, length, take, drop, get_or, append_assoc, length-append, arith}
use Rattle.std.proofs.Common.{inl, inr}
use Rattle.std.specs.Prelude.{Option, Some, None}
use Rattle.std.specs.List.{slice_get}
use Rattle.std.proofs.lemmas.Bool.{cases_lt}
use Rattle.std.proofs.lemmas.List.{get_or_at, take_more, length-take-le, take_at, take_all, drop_at, drop_all}
use Rattle.std.proofs.lemmas.Option.{slice_get-get_or, slice_get_within}
use Rattle.substitution.specs.declared.marked.Marked.{Marked}
use Rattle.list_stack.specs.declared.entry.Entry.{Entry}
use Rattle.list_stack.specs.Places.{part, Adds, floor, lists_below, stack_of, AreStack, ClosesAt, CutsAt, parts_above, lowest}
use Rattle.list_stack.specs.Stacks.{Stack, OpensAt, Cuts}
use Rattle.list_stack.proofs.EntryLemmas.{length-part, part-at, part-split, part-empty, part-take, AreLinked-take, AreLinked-same, Adds-part, AreEnds-above, AreEnds-append, lists_below-take, lists_below-under, lists-append}

pub same-stack : (first first' : List Marked) (others others' : List (List Marked)) → first ≡ first' → others ≡ others' → ◌≡◌ {A = Stack} (record { first = first; others = others }) (record { first = first'; others = others' })
same-stack first first' others others' f o = rw (f, o)

-- ## A token on top

module _ (old new : List Entry) (ends : List ℕ) (e : Entry) (popped : old ≡ new ++ e ∷ []) (above : floor ends < length old) where
  new-length : length old ≡ length new + 1
  new-length = ap (length {A = Entry}) popped ∙ length-append new (e ∷ [])

  adds : Adds new old (e.marked ∷ [])
  adds = record { entries = e ∷ []; grown = popped; added = refl }

  pub next-stack : AreStack old ends → AreStack new ends
  next-stack s = record {
    linked = AreLinked-same new (take (length new) old) (sym (ap (take (length new)) popped ∙ take_at new (e ∷ []) (length new) refl)) (AreLinked-take (length new) old s.linked);
    above = AreEnds-above (length old) (length new) ends s.above (omega (arith, new-length));
  }

  pub next-some : AreStack old ends → stack_of old ends ≡ record { first = e.marked ∷ part (floor ends) (length new) new; others = lists_below new ends }
  next-some s = same-stack _ _ _ _ (Adds-part new old (e.marked ∷ []) (floor ends) (omega (arith, new-length)) adds) (lists_below-under new old (e.marked ∷ []) ends (next-stack s).above adds)

-- ## Tokens by their place

slice_get-front : (xs : List Marked) (y : Marked) (ys : List Marked) (k : ℕ) → length xs ≡ k → slice_get (xs ++ y ∷ ys) k ≡ Some y
slice_get-front xs y ys k h =
    slice_get-get_or (xs ++ y ∷ ys) k y (omega (arith, length-append xs (y ∷ ys))) ∙ ap (λ (m : Marked). let o : Option Marked = Some m in o) (get_or_at xs y ys y k h)

slice_get-past : (xs : List Marked) (k : ℕ) → length xs ≤ k → slice_get xs k ≡ None
slice_get-past [] k h = refl
slice_get-past (x ∷ xs) zero h = absurd (omega arith)
slice_get-past (x ∷ xs) (suc k) h = slice_get-past xs k (omega arith)

pub at-some : (from place at : ℕ) (es : List Entry) (d : Entry) → from ≤ at → at + 1 + place ≡ length es → Some (get_or es at d).marked ≡ slice_get (part from (length es) es) place
at-some from place at es d l h = sym (ap (λ (xs : List Marked). slice_get xs place) (part-at from at (length es) es d l (omega arith) (omega arith))
    ∙ slice_get-front (part (at + 1) (length es) es) (get_or es at d).marked (part from at es) place (length-part (at + 1) (length es) es (omega arith) ∙ omega arith))

pub at-none : (from place : ℕ) (es : List Entry) → length es - from ≤ place → None ≡ slice_get (part from (length es) es) place
at-none from place es h = sym (slice_get-past (part from (length es) es) place (omega (arith, length-part from (length es) es (omega arith))))

-- the next token to be copied
pub copied-next : (xs : List Marked) (copied copied' : List Marked) (m : Marked) → copied ≡ take (length copied) xs → Some m ≡ slice_get xs (length copied) → copied' ≡ copied ++ m ∷ [] → copied' ≡ take (length copied') xs
copied-next xs copied copied' m c m_is n =
    let within : length copied < length xs = slice_get_within xs (length copied) m (sym m_is) in
    let next : m ≡ get_or xs (length copied) m = some-same m (get_or xs (length copied) m) (m_is ∙ slice_get-get_or xs (length copied) m within) in
    let longer : length copied' ≡ length copied + 1 = ap (length {A = Marked}) n ∙ length-append copied (m ∷ []) in
    n ∙ ap (λ (ms : List Marked). ms ++ m ∷ []) c ∙ ap (λ (x : Marked). take (length copied) xs ++ x ∷ []) next ∙ sym (take_more xs (length copied) m within) ∙ ap (λ (k : ℕ). take k xs) (sym longer)
  where
    some-same : (x y : Marked) → (let o : Option Marked = Some x in o) ≡ Some y → x ≡ y
    some-same x y h = cc

pub copied-all : (xs copied : List Marked) → copied ≡ take (length copied) xs → None ≡ slice_get xs (length copied) → copied ≡ xs
copied-all xs copied c none = c ∙ take_all (length copied) xs (past xs (length copied) (sym none))
  where
    past : (ys : List Marked) (k : ℕ) → slice_get ys k ≡ None → length ys ≤ k
    past [] k h = omega arith
    past (y ∷ ys) zero h = absurd (cc)
    past (y ∷ ys) (suc k) h = let l : length ys ≤ k = past ys k h in omega arith

-- ## Entries taken away

module _ (es : List Entry) (ends : List ℕ) (kept : ℕ) (above : floor ends ≤ kept) (below : kept ≤ length es) (s : AreStack es ends) where
  pub kept-lists : stack_of (take kept es) ends ≡ record { first = part (floor ends) kept es; others = lists_below es ends }
  kept-lists = same-stack _ _ _ _ (ap (λ (n : ℕ). part (floor ends) n (take kept es)) (length-take-le kept es below) ∙ part-take (floor ends) kept kept es (omega arith))
      (lists_below-take kept es ends (AreEnds-above (length es) kept ends s.above above))

  -- this many tokens fewer, or all of them
  pub kept-dropped : (count : ℕ) → length es - kept ≤ count → (length es - kept < count → kept ≡ floor ends) → part (floor ends) kept es ≡ drop count (part (floor ends) (length es) es)
  kept-dropped count few all = elim (cases_lt (length es - kept) count) [
    | inl lt ↦
        let none : kept ≡ floor ends = all lt in
        part-empty (floor ends) kept es (omega arith) below ∙ sym (drop_all count (part (floor ends) (length es) es) (omega (arith, length-part (floor ends) (length es) es (omega arith))))
    | inr le ↦ sym (ap (drop count) (part-split (floor ends) kept (length es) es above below (omega arith))
        ∙ drop_at (part kept (length es) es) (part (floor ends) kept es) count (length-part kept (length es) es (omega arith) ∙ omega arith))
  ]

-- ## The list at work ends

pub ended-lists : (es : List Entry) (end : ℕ) (ends : List ℕ) → AreStack es (end ∷ ends) → (stack_of es (end ∷ ends)).others ≡ (stack_of (take end es) ends).first ∷ (stack_of (take end es) ends).others
ended-lists es end ends s =
    let first = ap (λ (n : ℕ). part (floor ends) n (take end es)) (length-take-le end es (omega (arith, s.above.0))) ∙ part-take (floor ends) end end es (omega arith) in
    let others = lists_below-take end es ends s.above.1 in
    ap (λ (list : List Marked). list ∷ lists_below es ends) (sym first) ∙ ap (λ (lists : List (List Marked)). part (floor ends) (length (take end es)) (take end es) ∷ lists) (sym others)

-- ## Parentheses

module _ (es : List Entry) (ends : List ℕ) (close : ℕ) (s : AreStack es ends) (c : ClosesAt (floor ends) es close) where
  pub opened-lists : (d : Entry) (hides : ℕ) → hides ≡ (get_or es close d).marked.hides → OpensAt (stack_of es ends) (stack_of (take (length es - 1) es) (close ∷ ends)) hides
  opened-lists d hides h =
      let count = length-take-le (length es - 1) es (omega arith) in
      record {
        found = record { inside = part (close + 1) (length es - 1) es; close = (get_or es close d).marked; after = part (floor ends) close es };
        parens = c.parens d;
        close_is = h;
        stack = same-stack _ _ _ _ (ap (λ (n : ℕ). part (close + 1) n (take (length es - 1) es)) count ∙ part-take (close + 1) (length es - 1) (length es - 1) es (omega arith))
            (lists_below-take (length es - 1) es (close ∷ ends) (omega (arith, c.below_open), AreEnds-above (length es) close ends s.above c.within));
      }

-- ## Cuts

module _ (es : List Entry) (ends places : List ℕ) (most : ℕ) (s : AreStack es ends) (c : CutsAt most (floor ends) es places) where
  pub cut-stack : AreStack es (places ++ ends)
  cut-stack = record {
    linked = s.linked;
    above = AreEnds-append (length es) places ends c.fall (AreEnds-above (length es) (lowest (length es) places) ends s.above c.within);
  }

  length-parts : (end : ℕ) (ps : List ℕ) → length (parts_above es end ps) ≡ length ps
  length-parts end [] = refl
  length-parts end (p ∷ ps) = ap suc (length-parts p ps)

  pub cut-stacks : (count : ℕ) → count ≡ length places + 1 → Cuts most (stack_of es ends) (stack_of es (places ++ ends)) count
  cut-stacks count n = record {
    lists = lists-append es (length es) places ends
        ∙ sym (append_assoc (parts_above es (length es) places) (part (floor ends) (lowest (length es) places) es ∷ []) (lists_below es ends))
        ∙ ap (λ (lists : List (List Marked)). lists ++ lists_below es ends) (sym c.lists);
    count_is = n ∙ omega (arith, ap (length {A = List Marked}) c.lists, length-append (parts_above es (length es) places) (part (floor ends) (lowest (length es) places) es ∷ []), length-parts (length es) places);
  }
