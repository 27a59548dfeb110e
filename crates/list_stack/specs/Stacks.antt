-- Lists of tokens that are to be replaced, one inside the other.
use Rattle.std.specs.Prelude.{◌≡◌, ℕ, zero, suc, ◌&&◌, ◌==◌, if◌then◌else◌, Bool, false, List, [], ◌∷◌, ◌++◌, map, length, Option, Some, None}
use Rattle.std.specs.List.{onto_first}
use Rattle.hide_sets.specs.Sets.{Sets}
use Rattle.scan_model.specs.TokenTests.{is_comma, is_open_paren}
use Rattle.scan_model.specs.Parentheses.{depth_after, Enclosed, in_parens}
use Rattle.scan_model.specs.Expansion.{hidden_by}
use Rattle.substitution.specs.declared.marked.Marked.{Marked}
use Rattle.substitution.specs.Meaning.{all_marked_of, AreMarked}

-- the list at work, and those that follow it, each to be at work after the one before has ended
pub record Stack : Type 0 where
  pub first : List Marked
  pub others : List (List Marked)

-- a `(` comes first
abbrev pub is_called : List Marked → Bool
is_called [] = false
is_called (m ∷ ms) = is_open_paren m.tok

-- the new list is the first one, with these names hidden too, and then the old one
pub record PutsBefore (sets sets' : Sets) (added : List ℕ → Bool) (list old new : List Marked) : Type 0 where
  pub known : AreMarked sets' new
  pub meant : all_marked_of sets' new ≡ map (hidden_by added) (all_marked_of sets list) ++ all_marked_of sets old

-- The list at work begins with parentheses: what they enclose is at work in its place, and what follows them comes next.
pub record OpensAt (old new : Stack) (close : ℕ) : Type 0 where
  pub found : Enclosed Marked
  pub parens : in_parens (λ m. m.tok) old.first ≡ Some found
  pub close_is : close ≡ found.close.hides
  pub stack : new ≡ record { first = found.inside; others = found.after ∷ old.others }

-- the hide set of the `)`; none where no parentheses come first, and then nothing is said of what is left
abbrev pub Opens : Stack → Stack → Option ℕ → Type 0
Opens old new None = in_parens (λ m. m.tok) old.first ≡ None
Opens old new (Some close) = OpensAt old new close

-- the list cut at its first k commas outside parentheses, of which `depth` are open
abbrev pub cut_lists : ℕ → ℕ → List Marked → List (List Marked)
cut_lists k depth [] = [] ∷ []
cut_lists zero depth (m ∷ ms) = (m ∷ ms) ∷ []
cut_lists (suc k) depth (m ∷ ms) =
    let cut = [] ∷ cut_lists k depth ms in
    let further = onto_first m (cut_lists (suc k) (depth_after m.tok depth) ms) in
    if depth == 0 && is_comma m.tok then cut else further

-- the list at work is cut at its first commas, at most k, into this many
pub record Cuts (k : ℕ) (old new : Stack) (count : ℕ) : Type 0 where
  pub lists : new.first ∷ new.others ≡ cut_lists k 0 old.first ++ old.others
  pub count_is : count ≡ length (cut_lists k 0 old.first)
