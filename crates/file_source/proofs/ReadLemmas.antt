-- What a reader has given once a turn gives nothing.
use Rattle.std.proofs.Common.{◌≡◌, ◌<◌, ◌++◌, ℕ, List, [], length, take, sym, ap, ◌∙◌}
use Rattle.std.specs.Prelude.{Option, Some, None, IfSome}
use Rattle.std.specs.Io.KnownBytes.{Consumes, IsAtEnd}
use Rattle.std.proofs.lemmas.List.{append-nil}

take_none : (n : ℕ) (xs : List ℕ) → n ≡ 0 → take n xs ≡ []
take_none n xs e = ap (λ k. take k xs) e

-- the bytes that came are all that there were
pub read_whole : (first left last : Option (List ℕ)) (bytes whole buf : List ℕ) (n : ℕ) → Consumes first left bytes → whole ≡ bytes → n ≡ 0 → 0 < length buf
    → Consumes left last (take n buf) × (n ≡ 0 → 0 < length buf → IsAtEnd last) → IfSome first (λ xs. whole ≡ xs)
read_whole None left last bytes whole buf n before is none room turn = tt
read_whole (Some xs) None last bytes whole buf n before is none room turn = absurd before
read_whole (Some xs) (Some ys) None bytes whole buf n before is none room turn = absurd turn.0
read_whole (Some xs) (Some ys) (Some zs) bytes whole buf n before is none room turn =
    let nothing : ys ≡ [] = turn.0 ∙ (λ i. take_none n buf none i ++ turn.1 none room i) in
    is ∙ sym (before ∙ (ap (λ z. bytes ++ z) nothing ∙ append-nil bytes))
