-- The rules of the ends, one end at a time.
use Rattle.std.proofs.Common.{◌≡◌, ℕ, ◌+◌, ◌<◌, List, [], ◌∷◌, ◌++◌, map, take, length, get_or, refl, ap, ◌∙◌, arith}
use Rattle.std.proofs.lemmas.Grind.{common_steps}
use Rattle.std.specs.List.{filter_map}
use Rattle.std.proofs.lemmas.List.{map-append}
use Rattle.std.proofs.lemmas.List.Elements.{filter_map-append}
use Rattle.scan_model.specs.declared.unit_end.Record.{Record}
use Rattle.scan_model.specs.declared.unit_end.UnitEnd.{UnitEnd}
use Rattle.scan_model.specs.declared.unit_end.UnitEnd.TheVariants as ends
use Rattle.p1689_writer.specs.Document.{rule_of, record_of, rules}

rules-append : (done more : List UnitEnd) → rules (done ++ more) ≡ rules done ++ rules more
rules-append done more = ap (map rule_of) (filter_map-append record_of done more) ∙ map-append rule_of (filter_map record_of done) (filter_map record_of more)

next_taken : (es : List UnitEnd) (i : ℕ) (e : UnitEnd) → i < length es → e ≡ get_or es i e → take (i + 1) es ≡ take i es ++ e ∷ []
next_taken es i e within is = grind (arith, common_steps)

-- the rules up to an end, and what it adds
pub rules-next : (es : List UnitEnd) (i : ℕ) (e : UnitEnd) → i < length es → e ≡ get_or es i e → rules (take (i + 1) es) ≡ rules (take i es) ++ rules (e ∷ [])
rules-next es i e within is = ap rules (next_taken es i e within is) ∙ rules-append (take i es) (e ∷ [])

-- an end that is no record adds nothing
pub rules-other : (e : UnitEnd) → ((r : Record) → e ≡ ends.Record r → ⊥) → rules (e ∷ []) ≡ []
rules-other (ends.Record r) other = absurd (other r refl)
rules-other (ends.Stopped fault) other = refl
rules-other (ends.Refused fault) other = refl
rules-other ends.NoMemory other = refl
