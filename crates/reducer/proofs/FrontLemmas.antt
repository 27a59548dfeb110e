-- One byte of a word that is looked for at a line's front.
use Rattle.std.proofs.Common.{◌≡◌, ℕ, suc, ◌+◌, ◌<◌, false, List, [], ◌∷◌, refl, ◌∙◌, get_or, drop, length, drop-cons, add-one, Some, None}
use Rattle.std.proofs.lemmas.Bool.{eq-eqb}
use Rattle.scan_model.specs.Spliced.{Spot, byte_at}
use Rattle.scan_model.specs.Tokens.{begins}

shown_word : (c : ℕ) (word : List ℕ) (s : List Spot) (b : ℕ) → byte_at s ≡ Some b → b ≡ c → begins (c ∷ word) s ≡ begins word (drop 1 s)
shown_word c word [] b here same = cc
shown_word c word (x ∷ s) b here same = let byte : x.byte ≡ b = cc in rw (eq-eqb x.byte c (byte ∙ same)) refl

no_word : (c : ℕ) (word : List ℕ) (s : List Spot) → byte_at s ≡ None → begins (c ∷ word) s ≡ false
no_word c word [] here = refl
no_word c word (x ∷ s) here = cc

pub begins_step : (word : List ℕ) (i : ℕ) (s : List Spot) (b : ℕ) → i < length word → byte_at s ≡ Some b → b ≡ get_or word i 0 → begins (drop i word) s ≡ begins (drop (i + 1) word) (drop 1 s)
begins_step word i s b within here same = rw (add-one, drop-cons word i 0) (shown_word (get_or word i 0) (drop (suc i) word) s b here same)

pub begins_none : (word : List ℕ) (i : ℕ) (s : List Spot) → i < length word → byte_at s ≡ None → begins (drop i word) s ≡ false
begins_none word i s within here = rw (drop-cons word i 0) (no_word (get_or word i 0) (drop (suc i) word) s here)
