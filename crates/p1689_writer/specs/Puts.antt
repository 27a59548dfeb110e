-- What a write to an object leaves, for private clauses.
use Rattle.std.specs.Prelude.{ℕ, List, [], ◌∷◌}
use Rattle.serde_json.specs.Data.{Data, array, Members, put}
use Rattle.serde_json.specs.View.{items_of}

-- the members with this list at the key, or as they were where the list is empty
abbrev pub put_list : List ℕ → List Data → Members → Members
put_list key [] ms = ms
put_list key (d ∷ ds) ms = put key (array (items_of (d ∷ ds))) ms
