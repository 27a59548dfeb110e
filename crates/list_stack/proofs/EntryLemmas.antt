-- Parts of a stack's entries, and the lists that they hold.
use Rattle.std.proofs.Common.{◌≡◌, sym, ◌∙◌, ap, subst, refl, ℕ, ◌+◌, ◌-◌, ◌<◌, ◌≤◌, List, [], ◌∷◌, ◌++◌, length, map, take, drop, get_or, append_assoc, length-append, arith}
use Rattle.std.proofs.Common.{inl, inr}
use Rattle.std.specs.Prelude.{reverse, None, false}
use Rattle.scan_model.specs.declared.token.Kind.TheVariants.{Punct}
use Rattle.std.proofs.lemmas.Bool.{cases_lt}
use Rattle.std.proofs.lemmas.List.{map-append, append-nil, reverse-append, length-reverse, length-map, length-take, length-take-le, length-drop, take-append-drop, take-take, take_all, take_at, take_more, take-append-le, drop_at, drop_all, drop-append-le, get_or-take, get_or_append_left, get_or_push}
use Rattle.substitution.specs.declared.marked.Marked.{Marked}
use Rattle.list_stack.specs.declared.entry.Entry.{Entry}
use Rattle.list_stack.specs.Places.{tokens, part, places_of, AreLinked, Adds, floor, AreEnds, lists_below, parts_above, lowest}

-- an entry for lookups that are within their list
abbrev pub no_entry : Entry
no_entry = record {
  marked = record { tok = record { kind = Punct; text = []; space = false; line = 0 }; hides = 0 };
  places = record { close = None; stop = None };
}

-- ## Parts

pub tokens-append : (es fs : List Entry) → tokens (es ++ fs) ≡ tokens fs ++ tokens es
tokens-append es fs = ap (reverse {A = Marked}) (map-append (λ (e : Entry). e.marked) es fs) ∙ reverse-append (map (λ (e : Entry). e.marked) es) (map (λ (e : Entry). e.marked) fs)

pub length-part : (from end : ℕ) (es : List Entry) → end ≤ length es → length (part from end es) ≡ end - from
length-part from end es l =
    length-reverse (map (λ (e : Entry). e.marked) (drop from (take end es))) ∙ length-map (drop from (take end es)) (λ (e : Entry). e.marked) ∙ length-drop from (take end es)
    ∙ ap (λ (n : ℕ). n - from) (length-take-le end es l)

pub part-split : (from mid end : ℕ) (es : List Entry) → from ≤ mid → mid ≤ end → end ≤ length es → part from end es ≡ part mid end es ++ part from mid es
part-split from mid end es l m n =
    let halves : take end es ≡ take mid es ++ drop mid (take end es) = sym (take-append-drop mid (take end es)) ∙ ap (λ (xs : List Entry). xs ++ drop mid (take end es)) (take-take mid end es m) in
    ap (λ (xs : List Entry). tokens (drop from xs)) halves
    ∙ ap tokens (drop-append-le from (take mid es) (drop mid (take end es)) (omega (arith, length-take-le mid es (omega arith))))
    ∙ tokens-append (drop from (take mid es)) (drop mid (take end es))

pub part-one : (at : ℕ) (es : List Entry) (d : Entry) → at < length es → part at (at + 1) es ≡ (get_or es at d).marked ∷ []
part-one at es d l =
    ap (λ (xs : List Entry). tokens (drop at xs)) (take_more es at d l)
    ∙ ap tokens (drop_at (take at es) (get_or es at d ∷ []) at (length-take-le at es (omega arith)))

pub part-at : (from at end : ℕ) (es : List Entry) (d : Entry) → from ≤ at → at < end → end ≤ length es → part from end es ≡ part (at + 1) end es ++ (get_or es at d).marked ∷ part from at es
part-at from at end es d l m n =
    part-split from (at + 1) end es (omega arith) (omega arith) n
    ∙ ap (λ (xs : List Marked). part (at + 1) end es ++ xs) (part-split from at (at + 1) es l (omega arith) (omega arith) ∙ ap (λ (xs : List Marked). xs ++ part from at es) (part-one at es d (omega arith)))

pub part-to : (at end : ℕ) (es : List Entry) (d : Entry) → at < end → end ≤ length es → part at end es ≡ part (at + 1) end es ++ (get_or es at d).marked ∷ []
part-to at end es d m n = part-split at (at + 1) end es (omega arith) (omega arith) n ∙ ap (λ (xs : List Marked). part (at + 1) end es ++ xs) (part-one at es d (omega arith))

pub part-empty : (from end : ℕ) (es : List Entry) → end ≤ from → end ≤ length es → part from end es ≡ []
part-empty from end es l n = ap tokens (drop_all from (take end es) (omega (arith, length-take-le end es n)))

pub part-head : (from at : ℕ) (es : List Entry) (d : Entry) → from ≤ at → at < length es → part from (at + 1) es ≡ (get_or es at d).marked ∷ part from at es
part-head from at es d l m = part-at from at (at + 1) es d l (omega arith) (omega arith) ∙ ap (λ (xs : List Marked). xs ++ (get_or es at d).marked ∷ part from at es) (part-empty (at + 1) (at + 1) es (omega arith) (omega arith))

pub part-take : (from end count : ℕ) (es : List Entry) → end ≤ count → part from end (take count es) ≡ part from end es
part-take from end count es l = ap (λ (xs : List Entry). tokens (drop from xs)) (take-take end count es l)

pub part-under : (from end : ℕ) (es fs : List Entry) → end ≤ length es → part from end (es ++ fs) ≡ part from end es
part-under from end es fs l = ap (λ (xs : List Entry). tokens (drop from xs)) (take-append-le end es fs l)

-- ## What the entries know

pub AreLinked-take : (count : ℕ) (es : List Entry) → AreLinked es → AreLinked (take count es)
AreLinked-take count es h = λ k d l.
    let within : (k < count) × (k < length es) = (omega (arith, length-take count es), omega (arith, length-take count es)) in
    ap (λ (e : Entry). e.places) (get_or-take count es k d within.0) ∙ h k d within.1 ∙ ap (places_of 0) (sym (part-take 0 (k + 1) count es (omega arith)))

pub AreLinked-same : (es fs : List Entry) → es ≡ fs → AreLinked fs → AreLinked es
AreLinked-same es fs e h = subst AreLinked (sym e) h

-- ## Entries on top

pub Adds-part : (old new : List Entry) (front : List Marked) (from : ℕ) → from ≤ length old → Adds old new front → part from (length new) new ≡ front ++ part from (length old) old
Adds-part old new front from l a =
    ap (λ (es : List Entry). tokens (drop from es)) (take_all (length new) new (omega arith) ∙ a.grown)
    ∙ ap tokens (drop-append-le from old a.entries l) ∙ tokens-append (drop from old) a.entries
    ∙ ap (λ (xs : List Marked). xs ++ tokens (drop from old)) a.added
    ∙ ap (λ (es : List Entry). front ++ tokens (drop from es)) (sym (take_all (length old) old (omega arith)))

pub Adds-none : (es : List Entry) → Adds es es []
Adds-none es = record { entries = []; grown = sym (append-nil es); added = refl }

pub Adds-on : (old now new : List Entry) (front : List Marked) (m : Marked) → Adds now new (m ∷ []) → Adds old now front → Adds old new (m ∷ front)
Adds-on old now new front m b a = record {
  entries = a.entries ++ b.entries;
  grown = b.grown ∙ ap (λ (es : List Entry). es ++ b.entries) a.grown ∙ append_assoc old a.entries b.entries;
  added = tokens-append a.entries b.entries ∙ ap (λ (xs : List Marked). xs ++ tokens a.entries) b.added ∙ ap (λ (xs : List Marked). m ∷ xs) a.added;
}

-- ## What a new entry knows

pub AreLinked-push : (es : List Entry) (e : Entry) → AreLinked es → e.places ≡ places_of 0 (e.marked ∷ part 0 (length es) es) → AreLinked (es ++ e ∷ [])
AreLinked-push es e h p = λ k d l. elim (cases_lt k (length es)) [
  | inl lt ↦
      ap (λ (f : Entry). f.places) (get_or_append_left es (e ∷ []) d k lt) ∙ h k d lt
      ∙ ap (places_of 0) (sym (part-under 0 (k + 1) es (e ∷ []) (omega arith)))
  | inr le ↦
      let one = length-append es (e ∷ []) in
      let last : length es ≡ k = omega (arith, one) in
      let count : length (es ++ e ∷ []) ≡ k + 1 = omega (arith, one) in
      ap (λ (f : Entry). f.places) (get_or_push es e d k last) ∙ p
      ∙ ap (places_of 0) (sym (ap (λ (n : ℕ). part 0 n (es ++ e ∷ [])) (sym count)
      ∙ Adds-part es (es ++ e ∷ []) (e.marked ∷ []) 0 (omega arith) (record { entries = e ∷ []; grown = refl; added = refl })))
]

-- ## Where lists end

pub floor-le : (count : ℕ) (ends : List ℕ) → AreEnds count ends → floor ends ≤ count
floor-le count [] h = omega arith
floor-le count (end ∷ ends) h = omega (arith, h.0)

pub AreEnds-above : (count count' : ℕ) (ends : List ℕ) → AreEnds count ends → floor ends ≤ count' → AreEnds count' ends
AreEnds-above count count' [] h l = tt
AreEnds-above count count' (end ∷ ends) h l = (omega arith, h.1)

pub AreEnds-more : (count count' : ℕ) (ends : List ℕ) → AreEnds count ends → count ≤ count' → AreEnds count' ends
AreEnds-more count count' ends h l = AreEnds-above count count' ends h (omega (arith, floor-le count ends h))

pub lists_below-take : (count : ℕ) (es : List Entry) (ends : List ℕ) → AreEnds count ends → lists_below (take count es) ends ≡ lists_below es ends
lists_below-take count es [] h = refl
lists_below-take count es (end ∷ ends) h =
    let here = part-take (floor ends) end count es (omega (arith, h.0)) in
    let further = lists_below-take count es ends (AreEnds-more end count ends h.1 (omega (arith, h.0))) in
    cc

pub lists_below-under : (old new : List Entry) (front : List Marked) (ends : List ℕ) → AreEnds (length old) ends → Adds old new front → lists_below new ends ≡ lists_below old ends
lists_below-under old new front ends h a =
    sym (lists_below-take (length old) new ends h) ∙ ap (λ (es : List Entry). lists_below es ends) (ap (take (length old)) a.grown ∙ take_at old a.entries (length old) refl)

-- ## Places in the list at work

pub parts_above-push : (es : List Entry) (end : ℕ) (places : List ℕ) (place : ℕ) → parts_above es end (places ++ place ∷ []) ≡ parts_above es end places ++ part (place + 1) (lowest end places) es ∷ []
parts_above-push es end [] place = refl
parts_above-push es end (p ∷ places) place = ap (λ (lists : List (List Marked)). part (p + 1) end es ∷ lists) (parts_above-push es p places place)

pub lowest-push : (end : ℕ) (places : List ℕ) (place : ℕ) → lowest end (places ++ place ∷ []) ≡ place
lowest-push end [] place = refl
lowest-push end (p ∷ places) place = lowest-push p places place

pub AreEnds-push : (end : ℕ) (places : List ℕ) (place : ℕ) → AreEnds end places → place < lowest end places → AreEnds end (places ++ place ∷ [])
AreEnds-push end [] place h l = (l, tt)
AreEnds-push end (p ∷ places) place h l = (h.0, AreEnds-push p places place h.1 l)

pub AreEnds-append : (end : ℕ) (places ends : List ℕ) → AreEnds end places → AreEnds (lowest end places) ends → AreEnds end (places ++ ends)
AreEnds-append end [] ends h k = k
AreEnds-append end (p ∷ places) ends h k = (h.0, AreEnds-append p places ends h.1 k)

pub lowest-le : (end : ℕ) (places : List ℕ) → AreEnds end places → lowest end places ≤ end
lowest-le end [] h = omega arith
lowest-le end (p ∷ places) h = omega (arith, h.0, lowest-le p places h.1)

pub lists-append : (es : List Entry) (end : ℕ) (places ends : List ℕ) →
    part (floor (places ++ ends)) end es ∷ lists_below es (places ++ ends) ≡ parts_above es end places ++ part (floor ends) (lowest end places) es ∷ lists_below es ends
lists-append es end [] ends = refl
lists-append es end (p ∷ places) ends = ap (λ (lists : List (List Marked)). part (p + 1) end es ∷ lists) (lists-append es p places ends)
