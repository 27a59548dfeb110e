-- Where a statement ends.
use Rattle.std.proofs.Common.{◌≡◌, ℕ, ◌<◌, zero, suc, Bool, true, false, List, [], ◌∷◌, length, take, get_or, arith, refl, ap}
use Rattle.std.proofs.lemmas.Bool.{or_parts}
use Rattle.std.specs.Prelude.{Some, None}
use Rattle.std.specs.List.{list_any}
use Rattle.std.specs.Option.{option_map}
use Rattle.scan_model.specs.declared.token.Tok.{Tok}
use Rattle.scan_model.specs.TokenTests.{is_sign}
use Rattle.scan_model.specs.ModuleLines.{statement}

abbrev pub ends : Tok → Bool
ends t = is_sign (";" ∷ []) t

pub statement-found : (ts : List Tok) (i : ℕ) (t : Tok) → i < length ts → list_any ends (take i ts) ≡ false → t ≡ get_or ts i t → ends t ≡ true → Some (take i ts) ≡ statement ts
statement-found [] i t h k e p = absurd (omega arith)
statement-found (x ∷ xs) zero t h k e p = let q : ends x ≡ true = rw e at p in rw q
statement-found (x ∷ xs) (suc i) t h k e p =
    let both = or_parts (ends x) (list_any ends (take i xs)) k in
    let q : ends x ≡ false = both.0 in
    let r : list_any ends (take i xs) ≡ false = both.1 in
    let l : i < length xs = omega arith in
    rw q (ap (λ s. option_map (x ∷◌) s) (statement-found xs i t l r e p))

pub statement-none : (ts : List Tok) → list_any ends ts ≡ false → None ≡ statement ts
statement-none [] h = refl
statement-none (x ∷ xs) h =
    let both = or_parts (ends x) (list_any ends xs) h in
    let q : ends x ≡ false = both.0 in
    let r : list_any ends xs ≡ false = both.1 in
    rw q (ap (λ s. option_map (x ∷◌) s) (statement-none xs r))
