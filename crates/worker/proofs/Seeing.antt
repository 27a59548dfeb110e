-- What passes see stays, and gives the maps that a unit speaks of.
use Rattle.std.proofs.Common.{◌≡◌, ℕ, List, [], ◌∷◌, ◌++◌, Some, None, refl, sym, ap, ◌∙◌, subst, inl, inr, ⊎_elim}
use Rattle.std.specs.Prelude.{Contains, Option}
use Rattle.std.specs.Option.{option_map}
use Rattle.std.proofs.lemmas.Bool.{cases_Bool, cond-true, cond-false}
use Rattle.std.proofs.lemmas.List.{append-nil, append_assoc}
use Rattle.std.proofs.lemmas.List.Elements.{Contains-append_left}
use Rattle.scan_model.specs.declared.Outcome.{Outcome}
use Rattle.scan_model.specs.declared.Outcome.TheVariants as OutcomeIs
use Rattle.scan_model.specs.declared.token.Line.{Line}
use Rattle.scan_model.specs.Files.{Content, FileMap, content}
use Rattle.scan_model.specs.TokenTests.{same}
use Rattle.unit_laws.specs.Reduction.{Given, reduced_content}
use Rattle.unit_laws.specs.KnownAnswers.{Agrees}
use Rattle.cache_desk.specs.declared.entry.Entry.{Entry}
use Rattle.cache_desk.specs.Log.{publication}
use Rattle.cache_desk.specs.Desk.{told}
use Rattle.shared_cache.specs.Cache.{HasSeen}
use Rattle.shared_cache.specs.Shared.{seen_of, HasRowsOf}
use Rattle.answer_memo.specs.Memo.{known_to, IsKnownFurther}
use Rattle.worker.specs.Seen.{HasPublication, IsSeen, IsMemoOf, AreSeen, SeesFurther}
use Rattle.worker.specs.Claims.{HasClaimed, GoesOn}
use Rattle.shard_cache.proofs.PlaceLemmas.{same_is}

-- ## What was seen goes on

pub further_same : (seen : List (List Entry)) → SeesFurther seen seen
further_same seen path = ([], sym (append-nil (seen_of seen path)))

pub further_chain : (a b c : List (List Entry)) → SeesFurther a b → SeesFurther b c → SeesFurther a c
further_chain a b c first second path =
    let (xs, f) = first path in
    let (ys, s) = second path in
    (xs ++ ys, s ∙ ap (λ l. l ++ ys) f ∙ append_assoc (seen_of a path) xs ys)

-- what was seen stays seen
pub has_further : (a b : List (List Entry)) (path : List ℕ) (o : Outcome) (bytes : List ℕ) → SeesFurther a b → HasSeen (seen_of a path) path o bytes → HasSeen (seen_of b path) path o bytes
has_further a b path o bytes further (w, has) =
    let (rest, grown) = further path in
    (w, subst (λ l. Contains l (publication path w o bytes)) (sym grown) (Contains-append_left (seen_of a path) rest (publication path w o bytes) has))

pub published_further : (a b : List (List Entry)) (path : List ℕ) → SeesFurther a b → HasPublication a path → HasPublication b path
published_further a b path further (o, bytes, has) = (o, bytes, has_further a b path o bytes further has)

pub seen_further : (a b : List (List Entry)) (path : List ℕ) (content : Given) → SeesFurther a b → IsSeen a path content → IsSeen b path content
seen_further a b path content further (o, bytes, has, is) = (o, bytes, has_further a b path o bytes further has, is)

pub published_of_seen : (seen : List (List Entry)) (path : List ℕ) (content : Given) → IsSeen seen path content → HasPublication seen path
published_of_seen seen path content (o, bytes, has, is) = (o, bytes, has)

pub answers_further : (a b : List (List Entry)) (answers : List (List ℕ × Given)) → SeesFurther a b → AreSeen a answers → AreSeen b answers
answers_further a b [] further are = tt
answers_further a b (x ∷ answers) further are = (seen_further a b x.0 x.1 further are.0, answers_further a b answers further are.1)

pub answers_more : (seen : List (List Entry)) (answers : List (List ℕ × Given)) (path : List ℕ) (content : Given) → AreSeen seen answers → IsSeen seen path content → AreSeen seen (answers ++ (path, content) ∷ [])
answers_more seen [] path content are is = (is, tt)
answers_more seen (x ∷ answers) path content are is = (are.0, answers_more seen answers path content are.1 is)

-- a map that has what is seen later has what was seen before
pub rows_before : (a b : List (List Entry)) (files : FileMap (List ℕ)) → SeesFurther a b → HasRowsOf files b → HasRowsOf files a
rows_before a b files further rows path o bytes has = rows path o bytes (has_further a b path o bytes further has)

-- ## Answers

told_is : (o : Outcome) (bytes : List ℕ) → told o bytes ≡ reduced_content (content o bytes)
told_is OutcomeIs.Present bytes = refl
told_is OutcomeIs.Absent bytes = refl
told_is OutcomeIs.Failed bytes = refl
told_is OutcomeIs.Big bytes = refl
told_is OutcomeIs.NoMemory bytes = refl

-- every map that has what was seen agrees with the answers given
pub agrees_of_seen : (files : FileMap (List ℕ)) (seen : List (List Entry)) (answers : List (List ℕ × Given)) → HasRowsOf files seen → AreSeen seen answers → Agrees files answers
agrees_of_seen files seen [] rows are = tt
agrees_of_seen files seen (a ∷ answers) rows are =
    let (o, bytes, has, is) = are.0 in
    (ap (option_map reduced_content) (rows a.0 o bytes has) ∙ ap Some (sym (is ∙ told_is o bytes)), agrees_of_seen files seen answers rows are.1)

-- ## Memos

pub memo_further : (a b : List (List Entry)) (memo : List (List ℕ × Content (List Line))) → SeesFurther a b → IsMemoOf a memo → IsMemoOf b memo
memo_further a b memo further is path content at = seen_further a b path content further (is path content at)

pub memo_none : (seen : List (List Entry)) (memo : List (List ℕ × Content (List Line))) → ((path : List ℕ) → known_to memo path ≡ None) → IsMemoOf seen memo
memo_none seen memo none path content at = let no : Some content ≡ None = sym at ∙ none path in absurd (cc)

abbrev content_in : Option (Content (List Line)) → Content (List Line) → Content (List Line)
content_in None d = d
content_in (Some c) d = c

-- with the answer for a path that was seen
pub memo_more : (seen : List (List Entry)) (old new : List (List ℕ × Content (List Line))) (path : List ℕ) (told_one : Content (List Line)) → IsMemoOf seen old → IsSeen seen path told_one → IsKnownFurther old path told_one new → IsMemoOf seen new
memo_more seen old new path told_one is has (inl stays) other c at = is other c (ap (λ m. known_to m other) (sym stays) ∙ at)
memo_more seen old new path told_one is has (inr more) other c at =
    elim (cases_Bool (same path other)) [
      | inl y ↦
          let here : Some told_one ≡ Some c = sym (cond-true (same path other) (Some told_one) (known_to old other) y) ∙ (sym (more other) ∙ at) in
          subst (λ z. IsSeen seen other z) (ap (λ o. content_in o c) here) (subst (λ z. IsSeen seen z told_one) (same_is path other y) has)
      | inr n ↦ is other c (sym (cond-false (same path other) (Some told_one) (known_to old other) n) ∙ (sym (more other) ∙ at))
    ]

-- ## What was claimed

pub goes_chain : (by : ℕ) (wanted : List ℕ → Type 0) (a b c : List (List Entry)) → GoesOn by wanted a b → GoesOn by wanted b c → GoesOn by wanted a c
goes_chain by wanted a b c first second = record {
  further = further_chain a b c first.further second.further;
  published = λ h. second.published (first.published h);
  claims = λ path h. ⊎_elim (λ (was : HasClaimed b by path). first.claims path was) (λ (new : wanted path). inr new) (second.claims path h);
}

-- by a number that is the same
pub goes_of : (by number : ℕ) (wanted : List ℕ → Type 0) (a b : List (List Entry)) → number ≡ by → GoesOn number wanted a b → GoesOn by wanted a b
goes_of by number wanted a b is goes = subst (λ n. GoesOn n wanted a b) is goes

pub goes_then : (by number : ℕ) (wanted : List ℕ → Type 0) (a b c : List (List Entry)) → number ≡ by → GoesOn by wanted a b → GoesOn number wanted b c → GoesOn by wanted a c
goes_then by number wanted a b c is first second = goes_chain by wanted a b c first (goes_of by number wanted b c is second)

pub goes_wider : (by : ℕ) (wanted wider : List ℕ → Type 0) (a b : List (List Entry)) → ((path : List ℕ) → wanted path → wider path) → GoesOn by wanted a b → GoesOn by wider a b
goes_wider by wanted wider a b more h = record {
  further = h.further;
  published = h.published;
  claims = λ path c. ⊎_elim (λ (was : HasClaimed a by path). inl was) (λ (new : wanted path). inr (more path new)) (h.claims path c);
}
