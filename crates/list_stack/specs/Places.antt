-- Where a list's first parentheses and commas are, as each token of a stack's memory knows it.
use Rattle.std.specs.Prelude.{◌≡◌, ℕ, suc, ◌+◌, ◌-◌, ◌<◌, ◌≤◌, ◌&&◌, ◌||◌, ◌==◌, if◌then◌else◌, Bool, List, [], ◌∷◌, ◌++◌, map, length, reverse, take, drop, slice_index_or, Option, Some, None}
use Rattle.hide_sets.specs.Sets.{Sets}
use Rattle.scan_model.specs.declared.token.Tok.{Tok}
use Rattle.scan_model.specs.TokenTests.{is_comma, is_close_paren}
use Rattle.scan_model.specs.Parentheses.{depth_after, in_parens}
use Rattle.substitution.specs.declared.marked.Marked.{Marked}
use Rattle.substitution.specs.Meaning.{all_marked_of, AreMarked}
use Rattle.scan_model.specs.Expansion.{hidden_by}
use Rattle.list_stack.specs.Stacks.{Stack, cut_lists}
use Rattle.list_stack.specs.declared.entry.Places.{Places}
use Rattle.list_stack.specs.declared.entry.Entry.{Entry}

-- what ends an argument
abbrev pub is_stop : Tok → Bool
is_stop t = is_comma t || is_close_paren t

-- how many tokens follow the first that passes the test outside parentheses, of which `depth` are open
abbrev pub found_at : (Tok → Bool) → ℕ → List Marked → Option ℕ
found_at test depth [] = None
found_at test depth (m ∷ ms) =
    let further = found_at test (depth_after m.tok depth) ms in
    if depth == 0 && test m.tok then Some (length ms) else further

-- the places of the first `)`, and of the first `,` or `)`
abbrev pub places_of : ℕ → List Marked → Places
places_of depth ms = record { close = found_at is_close_paren depth ms; stop = found_at is_stop depth ms }

-- ## Entries: the next token is the last

-- the tokens, the next one first
abbrev pub tokens : List Entry → List Marked
tokens entries = reverse (map (λ e. e.marked) entries)

-- the tokens between two places, from the upper one down
abbrev pub part : ℕ → ℕ → List Entry → List Marked
part from end entries = tokens (drop from (take end entries))

-- each entry knows the places of the list that it begins, which goes down to the lowest entry
abbrev pub AreLinked : List Entry → Type 0
AreLinked entries = (k : ℕ) (d : Entry) → k < length entries → (slice_index_or entries k d).places ≡ places_of 0 (part 0 (k + 1) entries)

-- these tokens, the next first, came on top
pub record Adds (old new : List Entry) (front : List Marked) : Type 0 where
  pub entries : List Entry
  pub grown : new ≡ old ++ entries
  pub added : tokens entries ≡ front

-- the list came on top, with these names hidden too
pub record AddsHidden (sets sets' : Sets) (added : List ℕ → Bool) (list : List Marked) (old new : List Entry) : Type 0 where
  pub front : List Marked
  pub adds : Adds old new front
  pub known : AreMarked sets' front
  pub meant : all_marked_of sets' front ≡ map (hidden_by added) (all_marked_of sets list)

-- ## Where lists end: the list at work first

-- the place above a list's end; the lowest list has none
abbrev pub floor : List ℕ → ℕ
floor [] = 0
floor (end ∷ ends) = end + 1

-- each list lies above its end, and the next one below it
abbrev pub AreEnds : ℕ → List ℕ → Type 0
AreEnds count [] = Unit {0}
AreEnds count (end ∷ ends) = (end < count) × AreEnds end ends

-- the lists that follow
abbrev pub lists_below : List Entry → List ℕ → List (List Marked)
lists_below entries [] = []
lists_below entries (end ∷ ends) = part (floor ends) end entries ∷ lists_below entries ends

-- the lists of a stack's memory
abbrev pub stack_of : List Entry → List ℕ → Stack
stack_of entries ends = record { first = part (floor ends) (length entries) entries; others = lists_below entries ends }

-- the entries know their places, and the lists end among them
pub record AreStack (entries : List Entry) (ends : List ℕ) : Type 0 where
  pub linked : AreLinked entries
  pub above : AreEnds (length entries) ends

-- ## The list at work, which goes down to a place

-- it begins with parentheses, whose `)` is here
pub record ClosesAt (from : ℕ) (entries : List Entry) (close : ℕ) : Type 0 where
  pub within : from ≤ close
  pub below_open : close + 1 < length entries
  pub parens : (d : Entry) → in_parens (λ m. m.tok) (part from (length entries) entries)
      ≡ Some (record { inside = part (close + 1) (length entries - 1) entries; close = (slice_index_or entries close d).marked; after = part from close entries })

-- the place of that `)`; none where no parentheses come first
abbrev pub Closes : ℕ → List Entry → Option ℕ → Type 0
Closes from entries None = in_parens (λ m. m.tok) (part from (length entries) entries) ≡ None
Closes from entries (Some close) = ClosesAt from entries close

-- the first comma outside parentheses that it can be cut at is here
pub record CommaAt (from end : ℕ) (entries : List Entry) (comma : ℕ) : Type 0 where
  pub within : from ≤ comma
  pub below : comma < end
  pub cuts : (k : ℕ) → cut_lists (suc k) 0 (part from end entries) ≡ part (comma + 1) end entries ∷ cut_lists k 0 (part from comma entries)

-- that comma's place; none where the list isn't cut, however often it may be
abbrev pub HasComma : ℕ → ℕ → List Entry → Option ℕ → Type 0
HasComma from end entries None = (k : ℕ) → cut_lists k 0 (part from end entries) ≡ part from end entries ∷ []
HasComma from end entries (Some comma) = CommaAt from end entries comma

-- the parts above these places, from the uppermost down
abbrev pub parts_above : List Entry → ℕ → List ℕ → List (List Marked)
parts_above entries end [] = []
parts_above entries end (place ∷ places) = part (place + 1) end entries ∷ parts_above entries place places

-- the lowest of the places, and where there are none, the end
abbrev pub lowest : ℕ → List ℕ → ℕ
lowest end [] = end
lowest end (place ∷ places) = lowest place places

-- the commas at which it is cut, at most k
pub record CutsAt (k from : ℕ) (entries : List Entry) (commas : List ℕ) : Type 0 where
  pub fall : AreEnds (length entries) commas
  pub within : from ≤ lowest (length entries) commas
  pub lists : cut_lists k 0 (part from (length entries) entries)
      ≡ parts_above entries (length entries) commas ++ part from (lowest (length entries) commas) entries ∷ []
