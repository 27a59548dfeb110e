-- What a unit knows of the files gives what whole files give that have all of it.
use Rattle.std.proofs.Common.{◌≡◌, ℕ, Bool, true, false, if◌then◌else◌, List, [], ◌∷◌, ◌++◌, refl, sym, ◌∙◌, subst, Option, Some, append-nil, append_assoc, None}
use Rattle.std.proofs.lemmas.Slice.Eq.{bytes_eq-Decides}
use Rattle.scan_model.specs.declared.command.Settings.{Settings}
use Rattle.scan_model.specs.declared.command.Command.{Command}
use Rattle.scan_model.specs.declared.command.Job.TheVariants as JobIs
use Rattle.scan_model.specs.declared.unit_end.UnitEnd.{UnitEnd}
use Rattle.scan_model.specs.declared.unit_end.UnitEnd.TheVariants as Ends
use Rattle.scan_model.specs.Files.{FileMap}
use Rattle.scan_model.specs.TokenTests.{same}
use Rattle.scan_model.specs.declared.token.Line.{Line}
use Rattle.unit_laws.specs.Growth.{Begins, Extends}
use Rattle.unit_laws.specs.Reduction.{Given, reduced}
use Rattle.unit_laws.specs.KnownAnswers.{known_looked, IsKnownOf, AsksNext, EndsForAll, Agrees, asked, EndFits, known_of, AsksAsKnown, AsksFurther, EndsAsKnown, LookedStays}
use Rattle.scan_model.specs.Answer.{Known, answer, looked}
use Rattle.unit_laws.proofs.KeptAnswers.{reduced_answers}
use Rattle.unit_laws.proofs.GrowthLemmas.{longer_trans}
use Rattle.unit_laws.proofs.GrowingAnswers.{longer_begins, begins_longer, answer_stays, looked_grows, needs_last}

pub asks_next : AsksNext
asks_next known settings job path h =
    let needed = needs_last (List Line) (λ ls. ls) known settings job path h in (
      needed.0,
      (
        needed.1.0,
        needed.1.1,
        λ files k.
            subst (λ z. Begins z (looked files settings job)) needed.1.1
            (subst (λ z. Begins (known_looked known settings job) z) (reduced_answers files settings job).1
            (looked_grows (List Line) (λ ls. ls) known (reduced files) settings job k)),
      ),
    )

pub ends_for_all : EndsForAll
ends_for_all known settings job end h files k =
    let stays = answer_stays (List Line) (λ ls. ls) known (reduced files) settings job end k h in
    let same = reduced_answers files settings job in
    (sym same.0 ∙ stays.0, sym same.1 ∙ stays.1)

-- ## The answers as a map

one_agrees : (files : FileMap (List ℕ)) (a : List ℕ × Given) (later : Option Given) (path : List ℕ) (content : Given) → reduced files a.0 ≡ Some a.1 →
    (later ≡ Some content → reduced files path ≡ Some content) → (b : Bool) → same a.0 path ≡ b → (if b then Some a.1 else later) ≡ Some content →
    reduced files path ≡ Some content
one_agrees files a later path content here each true e k = subst (λ z. reduced files z ≡ Some content) ((bytes_eq-Decides a.0 path).0 e) (here ∙ k)
one_agrees files a later path content here each false e k = each k

known_agrees : (files : FileMap (List ℕ)) (answers : List (List ℕ × Given)) → Agrees files answers → IsKnownOf (known_of answers) files
known_agrees files [] h path content k = cc
known_agrees files (a ∷ answers) h path content k =
    one_agrees files a (known_of answers path) path content h.0 (known_agrees files answers h.1 path content) (same a.0 path) refl k

one_extends : (given : Given) (later more : Option Given) (content : Given) → (later ≡ Some content → more ≡ Some content) → (b : Bool) →
    (if b then Some given else later) ≡ Some content → (if b then Some given else more) ≡ Some content
one_extends given later more content each true k = k
one_extends given later more content each false k = each k

known_extends : (answers more : List (List ℕ × Given)) → Extends (List Line) (known_of answers) (known_of (answers ++ more))
known_extends [] more path content k = cc
known_extends (a ∷ answers) more path content k =
    one_extends a.1 (known_of answers path) (known_of (answers ++ more) path) content (known_extends answers more path content) (same a.0 path) k

pub looked_stays : LookedStays
looked_stays settings job answers more =
    looked_grows (List Line) (λ ls. ls) (known_of answers) (known_of (answers ++ more)) settings job (known_extends answers more)

begins_trans : (a b c : List (List ℕ)) → Begins a b → Begins b c → Begins a c
begins_trans a b c h k = longer_begins a c (longer_trans a b c (begins_longer a b h) (begins_longer b c k))

pub asks_as_known : AsksAsKnown
asks_as_known settings command answers path h files k =
    begins_trans (asked answers ++ path ∷ []) (known_looked (known_of answers) settings (JobIs.Run command)) (looked files settings (JobIs.Run command)) h
    (subst (λ z. Begins (known_looked (known_of answers) settings (JobIs.Run command)) z) (reduced_answers files settings (JobIs.Run command)).1
    (looked_grows (List Line) (λ ls. ls) (known_of answers) (reduced files) settings (JobIs.Run command) (known_agrees files answers k)))

-- each path that was asked is known
not_asked : (a : List ℕ × Given) (later : Option Given) (needed : List ℕ) (b : Bool) → same a.0 needed ≡ b → (if b then Some a.1 else later) ≡ None →
    (later ≡ None) × (a.0 ≡ needed → ⊥)
not_asked a later needed true e k = let h : ⊥ = cc in absurd h
not_asked a later needed false e k = (k, λ h. let t : same a.0 needed ≡ true = (bytes_eq-Decides a.0 needed).1 h in cc)

asked_is_known : (answers : List (List ℕ × Given)) (before : List (List ℕ)) (needed : List ℕ) → asked answers ≡ before ++ needed ∷ [] → known_of answers needed ≡ None → ⊥
asked_is_known [] [] needed e k = cc
asked_is_known [] (c ∷ before) needed e k = cc
asked_is_known (a ∷ answers) [] needed e k =
    let h : a.0 ≡ needed = cc in (not_asked a (known_of answers needed) needed (same a.0 needed) refl k).1 h
asked_is_known (a ∷ answers) (c ∷ before) needed e k =
    let h : asked answers ≡ before ++ needed ∷ [] = cc in
    asked_is_known answers before needed h (not_asked a (known_of answers needed) needed (same a.0 needed) refl k).0

one_further : (paths looked rest : List (List ℕ)) → looked ≡ paths ++ rest → (looked ≡ paths → ⊥) → (path : List ℕ) × Begins (paths ++ path ∷ []) looked
one_further paths looked [] e h = absurd (h (e ∙ append-nil paths))
one_further paths looked (path ∷ rest) e h = (path, longer_begins (paths ++ path ∷ []) looked (rest, e ∙ sym (append_assoc paths (path ∷ []) rest)))

pub asks_further : AsksFurther
asks_further settings command answers needed h k =
    let looked = known_looked (known_of answers) settings (JobIs.Run command) in
    let last = needs_last (List Line) (λ ls. ls) (known_of answers) settings (JobIs.Run command) needed k in
    let longer = begins_longer (asked answers) looked h in
    one_further (asked answers) looked longer.0 longer.1 (λ same. asked_is_known answers last.1.0 needed (sym same ∙ last.1.1) last.0)

end_fits : (settings : Settings) (command : Command) (answers : List (List ℕ × Given)) (end : UnitEnd) →
    ((files : FileMap (List ℕ)) → Agrees files answers →
    (answer files settings (JobIs.Run command) ≡ Known end) × (looked files settings (JobIs.Run command) ≡ asked answers)) → EndFits settings command answers end
end_fits settings command answers Ends.NoMemory h = tt
end_fits settings command answers (Ends.Record r) h = h
end_fits settings command answers (Ends.Stopped fault) h = h
end_fits settings command answers (Ends.Refused fault) h = h

pub ends_as_known : EndsAsKnown
ends_as_known settings command answers end h k =
    end_fits settings command answers end (λ files agrees.
    let all = ends_for_all (known_of answers) settings (JobIs.Run command) end h files (known_agrees files answers agrees) in (all.0, all.1 ∙ k))
