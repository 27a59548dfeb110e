-- Places of names, and sets of names, one after another.
use Rattle.std.proofs.Common.{◌≡◌, sym, ◌∙◌, ap, refl, ℕ, suc, ◌+◌, ◌<◌, ◌≤◌, Bool, true, false, if◌then◌else◌, List, [], ◌∷◌, length, drop, get_or, Some, None, arith}
use Rattle.std.specs.Prelude.{Option}
use Rattle.std.specs.Option.{option_map}
use Rattle.std.proofs.lemmas.List.{drop_more}
use Rattle.scan_model.specs.TokenTests.{same}
use Rattle.substitution.specs.Places.{place_of}

-- a place that is counted from this one on
abbrev pub shifted : ℕ → Option ℕ → Option ℕ
shifted i o = option_map (λ k. i + k) o

shifted-if : (i : ℕ) (b : Bool) (o : Option ℕ) → shifted i (if b then Some 0 else option_map suc o) ≡ (if b then Some i else shifted (i + 1) o)
shifted-if i true o = ap Some (let n : i + 0 ≡ i = omega arith in n)
shifted-if i false None = refl
shifted-if i false (Some k) = ap Some (let n : i + suc k ≡ i + 1 + k = omega arith in n)

pub place-step : (names : List (List ℕ)) (i : ℕ) (p name : List ℕ) → i < length names → p ≡ get_or names i [] →
    shifted i (place_of (drop i names) name) ≡ (if same p name then Some i else shifted (i + 1) (place_of (drop (i + 1) names) name))
place-step names i p name h e =
    let d : drop i names ≡ p ∷ drop (i + 1) names = drop_more names i [] h ∙ ap (λ (s : List ℕ). s ∷ drop (i + 1) names) (sym e) in
    ap (λ (ps : List (List ℕ)). shifted i (place_of ps name)) d ∙ shifted-if i (same p name) (place_of (drop (i + 1) names) name)
