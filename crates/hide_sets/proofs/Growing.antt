-- Tables that grow.
use Rattle.std.proofs.Common.{◌≡◌, sym, ◌∙◌, ap, ℕ, [], ◌++◌, length, arith, append_assoc}
use Rattle.std.proofs.lemmas.List.{append-nil, length-append}
use Rattle.hide_sets.specs.Sets.{Sets, IsSet, names_of, hides_of, Extends}
use Rattle.hide_sets.proofs.Tree.{names_of-append}

pub Extends-itself : (sets : Sets) → Extends sets sets
Extends-itself sets = record { since = []; grown = sym (append-nil sets) }

pub Extends-on : (a b c : Sets) → Extends a b → Extends b c → Extends a c
Extends-on a b c p q =
    record { since = p.since ++ q.since; grown = q.grown ∙ ap (λ (s : Sets). s ++ q.since) p.grown ∙ append_assoc a p.since q.since }

pub names_of-Extends : (old new : Sets) (set : ℕ) → Extends old new → IsSet old set → names_of new set ≡ names_of old set
names_of-Extends old new set e h = ap (λ (s : Sets). names_of s set) e.grown ∙ names_of-append old e.since set h

-- a number of before means what it meant
pub hides_of-Extends : (old new : Sets) (set : ℕ) → Extends old new → IsSet old set → hides_of new set ≡ hides_of old set
hides_of-Extends old new set e h = let same = names_of-Extends old new set e h in rw same

pub IsSet-Extends : (old new : Sets) (set : ℕ) → Extends old new → IsSet old set → IsSet new set
IsSet-Extends old new set e h = omega (arith, ap length e.grown, length-append old e.since)
