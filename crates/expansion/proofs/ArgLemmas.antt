-- The arguments of a call, by the commas at which its list is cut.
use Rattle.std.proofs.Common.{◌≡◌, sym, ◌∙◌, ap, subst, refl, ℕ, zero, suc, ◌+◌, ◌<◌, ◌≤◌, Bool, true, false, ◌&&◌, ◌==◌, ◌⊎◌, inl, inr, ⊎_elim, if◌then◌else◌, List, [], ◌∷◌, ◌++◌, length, arith}
use Rattle.std.specs.Prelude.{All, Option, Some, None, IfOk, Result, Ok, Err}
use Rattle.std.specs.List.{onto_first}
use Rattle.std.proofs.lemmas.Bool.{cases_lt, eq-eqb, ne_eqb, lt-ltb, le-ltb}
use Rattle.std.proofs.lemmas.List.{length-map}
use Rattle.std.proofs.lemmas.List.Elements.{All-nil, All-cons, All-head, All-tail}
use Rattle.hide_sets.specs.Sets.{Sets}
use Rattle.scan_model.specs.declared.memory.NoMemory.{NoMemory}
use Rattle.scan_model.specs.TokenTests.{is_comma}
use Rattle.scan_model.specs.Parentheses.{depth_after}
use Rattle.scan_model.specs.Substitution as spec
use Rattle.scan_model.specs.Expansion.{cut_at_commas, exactly, plain_args, variadic_args}
use Rattle.substitution.specs.declared.marked.Marked.{Marked}
use Rattle.substitution.specs.Meaning.{all_marked_of, IsMarked}
use Rattle.list_stack.specs.Stacks.{Stack, Cuts, cut_lists}
use Rattle.list_stack.proofs.MeaningLemmas.{cut_lists-meant, cut_lists-some}
use Rattle.expansion.specs.Cuts.{filled, AreCut}
use Rattle.expansion.specs.States.{weight_of_lists}
use Rattle.expansion.proofs.ListLemmas.{weight_of_lists-cons}

-- ## How many lists there are

abbrev Lists : Type 0
Lists = List (List spec.Marked)

length-onto : (m : spec.Marked) (lists : Lists) → 0 < length lists → length (onto_first m lists) ≡ length lists
length-onto m [] some = absurd (omega (arith, some))
length-onto m (list ∷ lists) some = refl

some-if : (b : Bool) (x y : Lists) → 0 < length x → 0 < length y → 0 < length (if b then x else y)
some-if true x y h k = h
some-if false x y h k = k

most-if : (b : Bool) (n : ℕ) (x y : Lists) → length x ≤ n → length y ≤ n → length (if b then x else y) ≤ n
most-if true n x y h k = h
most-if false n x y h k = k

cut-some : (k depth : ℕ) (ms : List spec.Marked) → 0 < length (cut_at_commas k depth ms)
cut-some k depth [] = omega arith
cut-some zero depth (m ∷ ms) = omega arith
cut-some (suc k) depth (m ∷ ms) =
    let some = cut-some (suc k) (depth_after m.tok depth) ms in
    some-if (depth == 0 && is_comma m.tok) ([] ∷ cut_at_commas k depth ms) (onto_first m (cut_at_commas (suc k) (depth_after m.tok depth) ms))
    (omega arith) (omega (arith, some, length-onto m (cut_at_commas (suc k) (depth_after m.tok depth) ms) some))

-- one more than the commas at which it is cut
cut-most : (k depth : ℕ) (ms : List spec.Marked) → length (cut_at_commas k depth ms) ≤ suc k
cut-most k depth [] = omega arith
cut-most zero depth (m ∷ ms) = omega arith
cut-most (suc k) depth (m ∷ ms) =
    most-if (depth == 0 && is_comma m.tok) (suc (suc k)) ([] ∷ cut_at_commas k depth ms) (onto_first m (cut_at_commas (suc k) (depth_after m.tok depth) ms))
    (omega (arith, cut-most k depth ms))
    (omega (arith, cut-most (suc k) (depth_after m.tok depth) ms, length-onto m (cut_at_commas (suc k) (depth_after m.tok depth) ms) (cut-some (suc k) (depth_after m.tok depth) ms)))

-- and one more than the tokens
cut-short : (k depth : ℕ) (ms : List spec.Marked) → length (cut_at_commas k depth ms) ≤ suc (length ms)
cut-short k depth [] = omega arith
cut-short zero depth (m ∷ ms) = omega arith
cut-short (suc k) depth (m ∷ ms) =
    most-if (depth == 0 && is_comma m.tok) (suc (length (m ∷ ms))) ([] ∷ cut_at_commas k depth ms) (onto_first m (cut_at_commas (suc k) (depth_after m.tok depth) ms))
    (omega (arith, cut-short k depth ms))
    (omega (arith, cut-short (suc k) (depth_after m.tok depth) ms, length-onto m (cut_at_commas (suc k) (depth_after m.tok depth) ms) (cut-some (suc k) (depth_after m.tok depth) ms)))

-- ## More commas at which a list may be cut

-- they make no difference, or there are more than j commas
abbrev Compared : ℕ → Lists → Lists → Type 0
Compared j few many = (many ≡ few) ⊎ ((length few ≡ suc j) × (suc j < length many))

compared-cut : (j : ℕ) (few many : Lists) → Compared j few many → Compared (suc j) ([] ∷ few) ([] ∷ many)
compared-cut j few many h = ⊎_elim
    (λ (same : many ≡ few). let to : Compared (suc j) ([] ∷ few) ([] ∷ many) = inl (ap (λ (lists : Lists). [] ∷ lists) same) in to)
    (λ (more : (length few ≡ suc j) × (suc j < length many)). let to : Compared (suc j) ([] ∷ few) ([] ∷ many) = inr (omega (arith, more.0), omega (arith, more.1)) in to) h

compared-onto : (j : ℕ) (m : spec.Marked) (few many : Lists) → 0 < length few → 0 < length many → Compared j few many → Compared j (onto_first m few) (onto_first m many)
compared-onto j m few many some some' h = ⊎_elim
    (λ (same : many ≡ few). let to : Compared j (onto_first m few) (onto_first m many) = inl (ap (onto_first m) same) in to)
    (λ (more : (length few ≡ suc j) × (suc j < length many)). let to : Compared j (onto_first m few) (onto_first m many) =
    inr (omega (arith, more.0, length-onto m few some), omega (arith, more.1, length-onto m many some')) in to) h

compared-if : (b : Bool) (j : ℕ) (x x' y y' : Lists) → Compared j x x' → Compared j y y' → Compared j (if b then x else y) (if b then x' else y')
compared-if true j x x' y y' h k = h
compared-if false j x x' y y' h k = k

-- where none may be cut at
compared-none : (b : Bool) (m : spec.Marked) (list : List spec.Marked) (x y : Lists) → 1 < length x → Compared 0 ((m ∷ list) ∷ []) y → Compared 0 ((m ∷ list) ∷ []) (if b then x else y)
compared-none true m list x y h k = inr (refl, h)
compared-none false m list x y h k = k

uncut : (depth : ℕ) (m : spec.Marked) (ms : List spec.Marked) → onto_first m (cut_at_commas 0 depth ms) ≡ (m ∷ ms) ∷ []
uncut depth m [] = refl
uncut depth m (n ∷ ms) = refl

compared : (j k depth : ℕ) (ms : List spec.Marked) → j ≤ k → Compared j (cut_at_commas j depth ms) (cut_at_commas k depth ms)
compared j k depth [] le = inl refl
compared zero zero depth (m ∷ ms) le = inl refl
compared zero (suc k) depth (m ∷ ms) le =
    let further : ℕ = depth_after m.tok depth in
    let onto = compared-onto 0 m (cut_at_commas 0 further ms) (cut_at_commas (suc k) further ms) (cut-some 0 further ms) (cut-some (suc k) further ms) (compared zero (suc k) further ms le) in
    compared-none (depth == 0 && is_comma m.tok) m ms ([] ∷ cut_at_commas k depth ms) (onto_first m (cut_at_commas (suc k) further ms))
    (omega (arith, cut-some k depth ms))
    (subst (λ (few : Lists). Compared 0 few (onto_first m (cut_at_commas (suc k) further ms))) (uncut further m ms) onto)
compared (suc j) zero depth (m ∷ ms) le = absurd (omega (arith, le))
compared (suc j) (suc k) depth (m ∷ ms) le =
    let further : ℕ = depth_after m.tok depth in
    compared-if (depth == 0 && is_comma m.tok) (suc j) ([] ∷ cut_at_commas j depth ms) ([] ∷ cut_at_commas k depth ms) (onto_first m (cut_at_commas (suc j) further ms)) (onto_first m (cut_at_commas (suc k) further ms))
    (compared-cut j (cut_at_commas j depth ms) (cut_at_commas k depth ms) (compared j k depth ms (omega (arith, le))))
    (compared-onto (suc j) m (cut_at_commas (suc j) further ms) (cut_at_commas (suc k) further ms) (cut-some (suc j) further ms) (cut-some (suc k) further ms) (compared (suc j) (suc k) further ms le))

-- n commas tell whether a list has n arguments
enough-commas : (n : ℕ) (ms : List spec.Marked) → Compared n (cut_at_commas n 0 ms) (cut_at_commas (length ms) 0 ms)
enough-commas n ms = ⊎_elim
    (λ (short : length ms < n). ⊎_elim
    (λ (same : cut_at_commas n 0 ms ≡ cut_at_commas (length ms) 0 ms). let to : Compared n (cut_at_commas n 0 ms) (cut_at_commas (length ms) 0 ms) = inl (sym same) in to)
    (λ (more : (length (cut_at_commas (length ms) 0 ms) ≡ suc (length ms)) × (suc (length ms) < length (cut_at_commas n 0 ms))). absurd (omega (arith, more.1, cut-short n 0 ms)))
    (compared (length ms) n 0 ms (omega (arith, short))))
    (λ (le : n ≤ length ms). compared n (length ms) 0 ms le)
    (cases_lt (length ms) n)

-- ## Arguments by their number

exactly-some : (n : ℕ) (lists : Lists) → length lists ≡ n → exactly n lists ≡ Some lists
exactly-some n lists h = rw (eq-eqb (length lists) n h) refl

exactly-none : (n : ℕ) (lists : Lists) → (length lists ≡ n → ⊥) → exactly n lists ≡ None
exactly-none n lists h = rw (ne_eqb (length lists) n h) refl

plain-some : (n : ℕ) (ms : List spec.Marked) → 0 < n → length (cut_at_commas n 0 ms) ≡ n → plain_args n ms ≡ Some (cut_at_commas n 0 ms)
plain-some zero ms some h = absurd (omega (arith, some))
plain-some (suc n) ms some h = ⊎_elim
    (λ (same : cut_at_commas (length ms) 0 ms ≡ cut_at_commas (suc n) 0 ms). ap (exactly (suc n)) same ∙ exactly-some (suc n) (cut_at_commas (suc n) 0 ms) h)
    (λ (more : (length (cut_at_commas (suc n) 0 ms) ≡ suc (suc n)) × (suc (suc n) < length (cut_at_commas (length ms) 0 ms))). absurd (omega (arith, more.0, h)))
    (enough-commas (suc n) ms)

plain-none : (n : ℕ) (ms : List spec.Marked) → 0 < n → (length (cut_at_commas n 0 ms) ≡ n → ⊥) → plain_args n ms ≡ None
plain-none zero ms some h = absurd (omega (arith, some))
plain-none (suc n) ms some h = ⊎_elim
    (λ (same : cut_at_commas (length ms) 0 ms ≡ cut_at_commas (suc n) 0 ms). exactly-none (suc n) (cut_at_commas (length ms) 0 ms) (λ is. h (sym (ap length same) ∙ is)))
    (λ (more : (length (cut_at_commas (suc n) 0 ms) ≡ suc (suc n)) × (suc (suc n) < length (cut_at_commas (length ms) 0 ms))). exactly-none (suc n) (cut_at_commas (length ms) 0 ms) (λ is. omega (arith, more.1, is)))
    (enough-commas (suc n) ms)

module _ {X : Type 0} (none : X) (n : ℕ) (xs : List X) where
  pub filled-short : length xs < n → filled none n xs ≡ xs ++ none ∷ []
  filled-short lt = rw (lt-ltb (length xs) n lt) refl

  pub filled-full : n ≤ length xs → filled none n xs ≡ xs
  filled-full le = rw (le-ltb (length xs) n le) refl

variadic-none : (n : ℕ) (ms : List spec.Marked) → length (cut_at_commas n 0 ms) < n → variadic_args n ms ≡ None
variadic-none n ms lt =
    let args : Lists = cut_at_commas n 0 ms in
    let other : length args ≡ n → ⊥ = λ is. omega (arith, is, lt) in
    rw (ne_eqb (length args) n other) (exactly-none (n + 1) args (λ is. omega (arith, is, lt)))

variadic-some : (n : ℕ) (ms : List spec.Marked) → n ≤ length (cut_at_commas n 0 ms) → variadic_args n ms ≡ Some (filled [] (n + 1) (cut_at_commas n 0 ms))
variadic-some n ms le = ⊎_elim
    (λ (full : n < length (cut_at_commas n 0 ms)).
    let args : Lists = cut_at_commas n 0 ms in
    let other : length args ≡ n → ⊥ = λ is. omega (arith, is, full) in
    let some : Lists → Option Lists = λ (lists : Lists). Some lists in
    rw (ne_eqb (length args) n other) (exactly-some (n + 1) args (omega (arith, full, cut-most n 0 ms)))
    ∙ ap some (sym (filled-full [] (n + 1) args (omega (arith, full)))))
    (λ (short : length (cut_at_commas n 0 ms) ≤ n).
    let args : Lists = cut_at_commas n 0 ms in
    let is : length args ≡ n = omega (arith, le, short) in
    let some : Lists → Option Lists = λ (lists : Lists). Some lists in
    rw (eq-eqb (length args) n is) (ap some (sym (filled-short [] (n + 1) args (omega (arith, short))))))
    (cases_lt n (length (cut_at_commas n 0 ms)))

-- ## What the lists are made of

weight-onto : (m : Marked) (lists : List (List Marked)) → 0 < length lists → weight_of_lists (onto_first m lists) ≡ suc (weight_of_lists lists)
weight-onto m [] some = absurd (omega (arith, some))
weight-onto m (list ∷ lists) some = omega (arith, weight_of_lists-cons list lists, weight_of_lists-cons (m ∷ list) lists)

weight-if : (b : Bool) (n : ℕ) (x y : List (List Marked)) → weight_of_lists x ≡ n → weight_of_lists y ≡ n → weight_of_lists (if b then x else y) ≡ n
weight-if true n x y h k = h
weight-if false n x y h k = k

cut-weight : (k depth : ℕ) (ms : List Marked) → weight_of_lists (cut_lists k depth ms) ≡ suc (length ms)
cut-weight k depth [] = refl
cut-weight zero depth (m ∷ ms) = omega (arith, weight_of_lists-cons (m ∷ ms) [])
cut-weight (suc k) depth (m ∷ ms) =
    weight-if (depth == 0 && is_comma m.tok) (suc (length (m ∷ ms))) ([] ∷ cut_lists k depth ms) (onto_first m (cut_lists (suc k) (depth_after m.tok depth) ms))
    (omega (arith, weight_of_lists-cons [] (cut_lists k depth ms), cut-weight k depth ms))
    (omega (arith, weight-onto m (cut_lists (suc k) (depth_after m.tok depth) ms) (cut_lists-some (suc k) (depth_after m.tok depth) ms), cut-weight (suc k) (depth_after m.tok depth) ms))

known-onto : (P : Marked → Type 0) (m : Marked) (lists : List (List Marked)) → P m → All (λ (l : List Marked). All P l) lists → All (λ (l : List Marked). All P l) (onto_first m lists)
known-onto P m [] h k = All-cons (λ (l : List Marked). All P l) (m ∷ []) [] (All-cons P m [] h (All-nil P)) k
known-onto P m (list ∷ lists) h k = All-cons (λ (l : List Marked). All P l) (m ∷ list) lists
    (All-cons P m list h (All-head (λ (l : List Marked). All P l) list lists k)) (All-tail (λ (l : List Marked). All P l) list lists k)

known-if : (P : Marked → Type 0) (b : Bool) (x y : List (List Marked)) → All (λ (l : List Marked). All P l) x → All (λ (l : List Marked). All P l) y → All (λ (l : List Marked). All P l) (if b then x else y)
known-if P true x y h k = h
known-if P false x y h k = k

cut-known : (P : Marked → Type 0) (k depth : ℕ) (ms : List Marked) → All P ms → All (λ (l : List Marked). All P l) (cut_lists k depth ms)
cut-known P k depth [] h = All-cons (λ (l : List Marked). All P l) [] [] h (All-nil (λ (l : List Marked). All P l))
cut-known P zero depth (m ∷ ms) h = All-cons (λ (l : List Marked). All P l) (m ∷ ms) [] h (All-nil (λ (l : List Marked). All P l))
cut-known P (suc k) depth (m ∷ ms) h =
    known-if P (depth == 0 && is_comma m.tok) ([] ∷ cut_lists k depth ms) (onto_first m (cut_lists (suc k) (depth_after m.tok depth) ms))
    (All-cons (λ (l : List Marked). All P l) [] (cut_lists k depth ms) (All-nil P) (cut-known P k depth ms (All-tail P m ms h)))
    (known-onto P m (cut_lists (suc k) (depth_after m.tok depth) ms) (All-head P m ms h) (cut-known P (suc k) (depth_after m.tok depth) ms (All-tail P m ms h)))

-- ## A list that is cut into arguments

module _ (n : ℕ) (old new : Stack) (count : ℕ) (h : Cuts n old new count) where
  meant_count : (sets : Sets) → length (cut_at_commas n 0 (all_marked_of sets old.first)) ≡ count
  meant_count sets = sym (ap length (cut_lists-meant sets n 0 old.first)) ∙ length-map (cut_lists n 0 old.first) (all_marked_of sets) ∙ sym h.count_is

  -- an equation of the definition's arguments, for any table
  cut-by : (written : List spec.Marked → Option Lists) (m : ℕ) → count ≤ m → m ≤ suc count →
      ((sets : Sets) → written (all_marked_of sets old.first) ≡ Some (filled [] m (cut_at_commas n 0 (all_marked_of sets old.first)))) → AreCut written m old new count
  cut-by written m most nearly fits = record {
    args = cut_lists n 0 old.first;
    lists = h.lists;
    count_is = h.count_is;
    enough = omega (arith, h.count_is, most);
    nearly = omega (arith, h.count_is, nearly);
    size = omega (arith, cut-weight n 0 old.first);
    known = λ sets k. cut-known (IsMarked sets) n 0 old.first k;
    meant = λ sets. fits sets ∙ ap (λ (lists : Lists). let some : Option Lists = Some (filled [] m lists) in some) (sym (cut_lists-meant sets n 0 old.first));
  }

  pub plain-cut : 0 < n → count ≡ n → AreCut (plain_args n) n old new count
  plain-cut some is = cut-by (plain_args n) n (omega (arith, is)) (omega (arith, is)) (λ sets.
      let all : List spec.Marked = all_marked_of sets old.first in
      let found = meant_count sets in
      plain-some n all some (found ∙ is)
      ∙ ap (λ (lists : Lists). let made : Option Lists = Some lists in made) (sym (filled-full [] n (cut_at_commas n 0 all) (omega (arith, found, is)))))

  pub plain-misfit : 0 < n → (count ≡ n → ⊥) → (sets : Sets) → plain_args n (all_marked_of sets old.first) ≡ None
  plain-misfit some other sets = plain-none n (all_marked_of sets old.first) some (λ is. other (sym (meant_count sets) ∙ is))

  pub variadic-cut : n ≤ count → AreCut (variadic_args n) (n + 1) old new count
  variadic-cut le = cut-by (variadic_args n) (n + 1) (omega (arith, meant_count [], cut-most n 0 (all_marked_of [] old.first))) (omega (arith, le))
      (λ sets. variadic-some n (all_marked_of sets old.first) (omega (arith, meant_count sets, le)))

  pub variadic-misfit : count < n → (sets : Sets) → variadic_args n (all_marked_of sets old.first) ≡ None
  variadic-misfit lt sets = variadic-none n (all_marked_of sets old.first) (omega (arith, meant_count sets, lt))

pub nothing-misfit : (list : List Marked) → (list ≡ [] → ⊥) → (sets : Sets) → plain_args 0 (all_marked_of sets list) ≡ None
nothing-misfit [] h sets = absurd (h refl)
nothing-misfit (m ∷ ms) h sets = refl

-- ## A result

pub on-ok : {A : Type 0} (P Q : A → Type 0) (result : Result A NoMemory) → ((x : A) → P x → Q x) → IfOk result P → IfOk result Q
on-ok P Q (Ok x) f h = f x h
on-ok P Q (Err error) f h = tt
