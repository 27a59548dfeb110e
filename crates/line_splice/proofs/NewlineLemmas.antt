-- Newlines of a text, part by part.
use Rattle.std.proofs.Common.{◌≡◌, ℕ, ◌+◌, ◌==◌, cond, List, ap, sym, ◌∙◌, take, drop}
use Rattle.std.proofs.lemmas.List.{take-append-drop}
use Rattle.std.proofs.lemmas.List.Sums.{sum_by-append}
use Rattle.std.proofs.Math.Seq.{take-add}
use Rattle.line_splice.specs.Plain.{newlines}

pub newlines_split : (p : ℕ) (t : List ℕ) → newlines t ≡ newlines (take p t) + newlines (drop p t)
newlines_split p t = ap newlines (sym (take-append-drop p t)) ∙ sum_by-append (λ x. cond (x == 10) 1 0) (take p t) (drop p t)

pub newlines_more : (p n : ℕ) (t : List ℕ) → newlines (take (p + n) t) ≡ newlines (take p t) + newlines (take n (drop p t))
newlines_more p n t = ap newlines (take-add p n t) ∙ sum_by-append (λ x. cond (x == 10) 1 0) (take p t) (take n (drop p t))
