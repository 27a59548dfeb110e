-- Strings by `#`, byte by byte and token by token.
use Rattle.std.proofs.Common.{◌≡◌, sym, ◌∙◌, ap, refl, ℕ, ◌+◌, ◌<◌, Bool, true, false, ◌&&◌, ◌||◌, ◌==◌, if◌then◌else◌, List, [], ◌∷◌, ◌++◌, length, get_or, drop, append_assoc}
use Rattle.std.proofs.lemmas.List.{drop_more}
use Rattle.scan_model.specs.Spliced.{at_newline}
use Rattle.scan_model.specs.Substitution.{shown_bytes}
use Rattle.substitution.specs.Strings.{shown_first}

three_ways : (a b q : Bool) (c : ℕ) (s : List ℕ) → (if a then s else if b then 92 ∷ 110 ∷ s else if q then 92 ∷ c ∷ s else c ∷ s) ≡ (if a then [] else if b then 92 ∷ 110 ∷ [] else if q then 92 ∷ c ∷ [] else c ∷ []) ++ s
three_ways true b q c s = refl
three_ways false true q c s = refl
three_ways false false true c s = refl
three_ways false false false c s = refl

shown_bytes-first : (quoted : Bool) (c : ℕ) (s : List ℕ) → shown_bytes quoted (c ∷ s) ≡ shown_first quoted (c ∷ s) ++ shown_bytes quoted s
shown_bytes-first quoted c s = three_ways (c == 13 && at_newline (c ∷ s)) (c == 10) (quoted && (c == 34 || c == 92)) c (shown_bytes quoted s)

-- a list that goes on with what one more element gives
grows : (whole first rest start text text' : List ℕ) → text ++ whole ≡ start → whole ≡ first ++ rest → text' ≡ text ++ first → text' ++ rest ≡ start
grows whole first rest start text text' e w t =
    ap (λ (s : List ℕ). s ++ rest) t ∙ append_assoc text first rest ∙ ap (λ (s : List ℕ). text ++ s) (sym w) ∙ e

pub bytes-step : (quoted : Bool) (bytes : List ℕ) (i : ℕ) (start text text' : List ℕ) → i < length bytes → text ++ shown_bytes quoted (drop i bytes) ≡ start → text' ≡ text ++ shown_first quoted (drop i bytes) → text' ++ shown_bytes quoted (drop (i + 1) bytes) ≡ start
bytes-step quoted bytes i start text text' h e t =
    let d = drop_more bytes i 0 h in
    grows (shown_bytes quoted (drop i bytes)) (shown_first quoted (drop i bytes)) (shown_bytes quoted (drop (i + 1) bytes)) start text text' e
    (ap (shown_bytes quoted) d ∙ shown_bytes-first quoted (get_or bytes i 0) (drop (i + 1) bytes) ∙ ap (λ (s : List ℕ). shown_first quoted s ++ shown_bytes quoted (drop (i + 1) bytes)) (sym d)) t
