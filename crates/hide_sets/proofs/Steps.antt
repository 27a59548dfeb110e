-- A step of a merge, in tables that grow.
use Rattle.std.proofs.Common.{◌≡◌, sym, ◌∙◌, ap, ℕ, ◌<◌, true, false, List, ◌∷◌, get_or, [], arith}
use Rattle.scan_model.specs.Expansion.{also}
use Rattle.hide_sets.specs.Sets.{Sets, IsSet, names_of, latest_of, has_name, hides_of, Extends, Makes}
use Rattle.hide_sets.proofs.Growing.{Extends-on, names_of-Extends, hides_of-Extends}
use Rattle.hide_sets.proofs.Merging.{Names, Uniting, uniting-added, uniting-skipped, Meeting, meeting-added, meeting-skipped}

-- the first name of what is left, as a larger table tells it
hides_of-rest : (old new : Sets) (set rest : ℕ) → Extends old new → IsSet old set → rest < set → names_of new set ≡ latest_of new set ∷ names_of new rest → hides_of old set ≡ also (latest_of old set) (hides_of old rest)
hides_of-rest old new set rest e h l n =
    let r : IsSet old rest = omega arith in
    let whole = names_of-Extends old new set e h in
    let part = names_of-Extends old new rest e r in
    ap has_name (sym whole ∙ n ∙ ap (λ (s : List (List ℕ)). get_or s 0 [] ∷ names_of new rest) whole ∙ ap (λ (s : List (List ℕ)). latest_of old set ∷ s) part)

latest_of-Extends : (old new : Sets) (set : ℕ) → Extends old new → IsSet old set → latest_of new set ≡ latest_of old set
latest_of-Extends old new set e h = ap (λ (s : List (List ℕ)). get_or s 0 []) (names_of-Extends old new set e h)

made-by : (old mid new : Sets) (set made made' : ℕ) → Extends old mid → IsSet old set → Makes mid new (also (latest_of mid set) (hides_of mid made)) made' → hides_of new made' ≡ also (latest_of old set) (hides_of mid made)
made-by old mid new set made made' e h m = m.meant ∙ ap (λ (s : List ℕ). also s (hides_of mid made)) (latest_of-Extends old mid set e h)

pub uniting-with : (old mid new : Sets) (a b left : Names) (made made' right right' : ℕ) → Extends old mid → IsSet old right → Makes mid new (also (latest_of mid right) (hides_of mid made)) made' → right' < right → names_of new right ≡ latest_of new right ∷ names_of new right' → Uniting a b (hides_of mid made) left (hides_of old right) → Uniting a b (hides_of new made') left (hides_of old right')
uniting-with old mid new a b left made made' right right' e h m l n u =
    uniting-added a b (hides_of mid made) (hides_of new made') left (hides_of old right) (hides_of old right') (latest_of old right) (hides_of-rest old new right right' (Extends-on old mid new e m.extended) h l n) (made-by old mid new right made made' e h m) u

pub uniting-without : (old mid : Sets) (b left : Names) (first made right right' : ℕ) → Extends old mid → IsSet old right → IsSet old first → true ≡ hides_of mid first (latest_of mid right) → right' < right → names_of mid right ≡ latest_of mid right ∷ names_of mid right' → Uniting (hides_of old first) b (hides_of mid made) left (hides_of old right) → Uniting (hides_of old first) b (hides_of mid made) left (hides_of old right')
uniting-without old mid b left first made right right' e h f p l n u =
    let found : true ≡ hides_of old first (latest_of old right) = p ∙ ap (λ (f : Names). f (latest_of mid right)) (hides_of-Extends old mid first e f) ∙ ap (hides_of old first) (latest_of-Extends old mid right e h) in
    uniting-skipped (hides_of old first) b (hides_of mid made) left (hides_of old right) (hides_of old right') (latest_of old right) (hides_of-rest old mid right right' e h l n) found u

pub meeting-with : (old mid new : Sets) (a shared : Names) (second made made' at at' : ℕ) → Extends old mid → IsSet old at → IsSet old second → Makes mid new (also (latest_of mid at) (hides_of mid made)) made' → true ≡ hides_of mid second (latest_of mid at) → at' < at → names_of new at ≡ latest_of new at ∷ names_of new at' → Meeting a (hides_of old second) (hides_of mid made) shared (hides_of old at) → Meeting a (hides_of old second) (hides_of new made') shared (hides_of old at')
meeting-with old mid new a shared second made made' at at' e h f m p l n u =
    let found : true ≡ hides_of old second (latest_of old at) = p ∙ ap (λ (f : Names). f (latest_of mid at)) (hides_of-Extends old mid second e f) ∙ ap (hides_of old second) (latest_of-Extends old mid at e h) in
    meeting-added a (hides_of old second) (hides_of mid made) (hides_of new made') shared (hides_of old at) (hides_of old at') (latest_of old at) (hides_of-rest old new at at' (Extends-on old mid new e m.extended) h l n) (made-by old mid new at made made' e h m) found u

pub meeting-without : (old mid : Sets) (a shared : Names) (second made at at' : ℕ) → Extends old mid → IsSet old at → IsSet old second → false ≡ hides_of mid second (latest_of mid at) → at' < at → names_of mid at ≡ latest_of mid at ∷ names_of mid at' → Meeting a (hides_of old second) (hides_of mid made) shared (hides_of old at) → Meeting a (hides_of old second) (hides_of mid made) shared (hides_of old at')
meeting-without old mid a shared second made at at' e h f p l n u =
    let missed : false ≡ hides_of old second (latest_of old at) = p ∙ ap (λ (f : Names). f (latest_of mid at)) (hides_of-Extends old mid second e f) ∙ ap (hides_of old second) (latest_of-Extends old mid at e h) in
    meeting-skipped a (hides_of old second) (hides_of mid made) shared (hides_of old at) (hides_of old at') (latest_of old at) (hides_of-rest old mid at at' e h l n) missed u
