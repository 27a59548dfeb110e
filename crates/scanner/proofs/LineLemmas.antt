-- The lines of the ends, one after another.
use Rattle.std.proofs.Common.{◌≡◌, ◌<◌, ◌+◌, ℕ, suc, List, [], ◌∷◌, ◌++◌, length, drop, get_or, refl, sym, ◌∙◌, ap, append_assoc, arith}
use Rattle.std.proofs.Math.Seq.{drop-length}
use Rattle.std.proofs.lemmas.List.{drop_more, append-nil}
use Rattle.scan_model.specs.declared.UnitEnd.{UnitEnd}
use Rattle.scanner.specs.Printed.{line_of, lines_from, diagnostics}

-- the lines so far, and those of the ends that are left, are all
pub record LinesSoFar (ends : List UnitEnd) (place : ℕ) (lines : List ℕ) : Type 0 where
  pub all : lines ++ lines_from (place + 1) (drop place ends) ≡ diagnostics ends

pub LinesSoFar-start : (ends : List UnitEnd) (lines : List ℕ) → lines ≡ [] → LinesSoFar ends 0 lines
LinesSoFar-start ends lines none = record { all = rw none refl }

pub LinesSoFar-more : (ends : List UnitEnd) (place : ℕ) (end : UnitEnd) (lines more : List ℕ) → place < length ends → end ≡ get_or ends place end → more ≡ lines ++ line_of (place + 1) end → LinesSoFar ends place lines → LinesSoFar ends (place + 1) more
LinesSoFar-more ends place end lines more inside here added so_far =
    let rest = lines_from ((place + 1) + 1) (drop (place + 1) ends) in
    let first : drop place ends ≡ end ∷ drop (place + 1) ends = drop_more ends place end inside ∙ ap (λ e. e ∷ drop (place + 1) ends) (sym here) in
    let next : suc (place + 1) ≡ (place + 1) + 1 = omega arith in
    let step : lines_from (place + 1) (drop place ends) ≡ line_of (place + 1) end ++ rest =
    ap (lines_from (place + 1)) first ∙ ap (λ n. line_of (place + 1) end ++ lines_from n (drop (place + 1) ends)) next in
    record { all = ap (λ l. l ++ rest) added ∙ (append_assoc lines (line_of (place + 1) end) rest ∙ (ap (λ r. lines ++ r) (sym step) ∙ so_far.all)) }

pub LinesSoFar-end : (ends : List UnitEnd) (place : ℕ) (lines : List ℕ) → place ≡ length ends → LinesSoFar ends place lines → lines ≡ diagnostics ends
LinesSoFar-end ends place lines at_end so_far =
    let nothing : drop place ends ≡ [] = ap (λ n. drop n ends) at_end ∙ drop-length ends in
    sym (ap (λ r. lines ++ lines_from (place + 1) r) nothing ∙ append-nil lines) ∙ so_far.all
