-- One word after another.
use Rattle.std.proofs.Common.{◌≡◌, ◌<◌, ◌≤◌, ◌+◌, ℕ, List, [], drop, length, get_or, Ok, Err, sym, ap, ◌∙◌}
use Rattle.std.proofs.lemmas.List.{at_drop_more, at_drop_all}
use Rattle.scan_model.specs.declared.command.CommandFault.{CommandFault}
use Rattle.command_words.specs.declared.reading.Reading.{Reading}
use Rattle.command_words.specs.Reading.{and_then, ended, step, walk}

-- what is read of the next word, and then of those behind it
walk_next : (directory : List ℕ) (words : List (List ℕ)) (i : ℕ) (r : Reading) (item word : List ℕ) → i < length words → item ≡ get_or words i item → word ≡ item
    → walk directory (drop i words) r ≡ and_then (walk directory (drop (i + 1) words)) (step directory word r)
walk_next directory words i r item word inside at is =
    at_drop_more (λ ws. walk directory ws r) words i item inside
    ∙ ap (λ w. and_then (walk directory (drop (i + 1) words)) (step directory w r)) (sym (is ∙ at))

pub walk_on : (directory : List ℕ) (words : List (List ℕ)) (i : ℕ) (r next : Reading) (item word : List ℕ) → i < length words → item ≡ get_or words i item → word ≡ item
    → step directory word r ≡ Ok next → walk directory (drop i words) r ≡ walk directory (drop (i + 1) words) next
walk_on directory words i r next item word inside at is stepped =
    walk_next directory words i r item word inside at is ∙ ap (and_then (walk directory (drop (i + 1) words))) stepped

pub walk_stops : (directory : List ℕ) (words : List (List ℕ)) (i : ℕ) (r : Reading) (fault : CommandFault) (item word : List ℕ) → i < length words → item ≡ get_or words i item → word ≡ item
    → step directory word r ≡ Err fault → walk directory (drop i words) r ≡ Err fault
walk_stops directory words i r fault item word inside at is stepped =
    walk_next directory words i r item word inside at is ∙ ap (and_then (walk directory (drop (i + 1) words))) stepped

pub walk_end : (directory : List ℕ) (words : List (List ℕ)) (i : ℕ) (r : Reading) → length words ≤ i → walk directory (drop i words) r ≡ ended r
walk_end directory words i r past = at_drop_all (λ ws. walk directory ws r) words i past
