-- The longest front that is a name.
use Rattle.std.proofs.Common.{◌≡◌, ℕ, Bool, true, false, ◌==◌, nat_lt, List, [], ◌∷◌, ◌++◌, refl, ap, sym, ◌∙◌, drop, length, arith}
use Rattle.std.proofs.lemmas.Bool.{and_from, and_right, ne_eqb}
use Rattle.std.specs.List.{list_all}
use Rattle.std.specs.Char.{encode_utf8}
use Rattle.scan_model.specs.Spliced.{Spot}
use Rattle.scan_model.specs.Spelling.{is_start, is_continue, is_name, are_name, longest}
use Rattle.scan_model.specs.Tokens.{bytes}
use Rattle.lexeme_reader.specs.Character.{BeginsWith, NoCharacter}
use Rattle.lexeme_reader.specs.Fronts.{line}
use Rattle.lexeme_reader.specs.Passes.{Passes}
use Rattle.lexeme_reader.specs.Names.{PassesName}
use Rattle.lexeme_reader.proofs.TextLemmas.{EndsAt}
use Rattle.lexeme_reader.proofs.PassLemmas.{passes_none, passes_one, passes_more, passes_longest, passes_longest_whole, longest_positive, first_begins, same_character}

-- a newline neither starts a name nor goes on with one
pub continue_line : (c : ℕ) → is_continue c ≡ true → (c == 10) ≡ false
unfolding is_continue
continue_line c h = ne_eqb c 10 (λ e. let z : false ≡ true = ap is_continue (sym e) ∙ h in cc)

pub start_line : (c : ℕ) → is_start c ≡ true → (c == 10) ≡ false
unfolding is_start
start_line c h = ne_eqb c 10 (λ e. let z : false ≡ true = ap is_start (sym e) ∙ h in cc)

-- ## The characters that go on

-- where another character stands
pub ends_here : (t : List ℕ) (c : ℕ) → BeginsWith c t → (p : ℕ → Bool) → p c ≡ false → (d : ℕ) → BeginsWith d t → p d ≡ false
ends_here t c begins p fails d other = ap p (same_character t d c other begins) ∙ fails

pub ends_none : (t : List ℕ) → NoCharacter t → (p : ℕ → Bool) → (d : ℕ) → BeginsWith d t → p d ≡ false
ends_none t none p d other = absurd (none d other)

-- ## The whole name

ends_name : (c : ℕ) (cs t : List ℕ) → ((d : ℕ) → BeginsWith d t → is_continue d ≡ false) → EndsAt are_name (c ∷ cs) t
ends_name c cs t ends e es v scalar there =
    and_right (is_start c) (list_all is_continue (cs ++ e ∷ es)) (stops cs e es (ends e (first_begins e es v t scalar there))) where
      stops : (cs : List ℕ) (e : ℕ) (es : List ℕ) → is_continue e ≡ false → list_all is_continue (cs ++ e ∷ es) ≡ false
      stops [] e es h = rw h refl
      stops (c ∷ cs) e es h = and_right (is_continue c) (list_all is_continue (cs ++ e ∷ es)) (stops cs e es h)

pub record NamePassed (a d : List Spot) : Type 0 where
  pub line_is : d ≡ drop (longest is_name (line a)) a
  pub whole_is : d ≡ drop (longest is_name (bytes a)) a

pub name_passed : (a b d : List Spot) (c : ℕ) → BeginsWith c (bytes a) → is_start c ≡ true → b ≡ drop (length (encode_utf8 c)) a → PassesName b d → NamePassed a d
unfolding is_name
name_passed a b d c begins starts e more =
    let passes : Passes (c ∷ more.cs) a d = passes_more (c ∷ []) more.cs a b d (passes_one c a b begins (start_line c starts) e) more.passes in
    let name : are_name (c ∷ more.cs) ≡ true = and_from (is_start c) (list_all is_continue more.cs) starts more.goes in
    let ends : EndsAt are_name (c ∷ more.cs) (bytes d) = ends_name c more.cs (bytes d) more.ends in
    record {
      line_is = passes.left ∙ ap (λ k. drop k a) (sym (passes_longest are_name (c ∷ more.cs) a d passes (λ z. name) ends));
      whole_is = passes.left ∙ ap (λ k. drop k a) (sym (passes_longest_whole are_name (c ∷ more.cs) a d passes (λ z. name) ends));
    }

pub record NoName (a : List Spot) : Type 0 where
  pub line_is : longest is_name (line a) ≡ 0
  pub whole_is : longest is_name (bytes a) ≡ 0

pub no_name : (a : List Spot) → ((d : ℕ) → BeginsWith d (bytes a) → is_start d ≡ false) → NoName a
unfolding is_name
no_name a none =
    let ends : EndsAt are_name [] (bytes a) = λ e es v scalar there. fails e es (none e (first_begins e es v (bytes a) scalar there)) in
    record {
      line_is = passes_longest are_name [] a a (passes_none a) (λ z. absurd (omega arith)) ends;
      whole_is = passes_longest_whole are_name [] a a (passes_none a) (λ z. absurd (omega arith)) ends;
    } where
      fails : (e : ℕ) (es : List ℕ) → is_start e ≡ false → are_name (e ∷ es) ≡ false
      fails e es h = rw h refl

-- a start character begins a name
pub some_name : (a : List Spot) (c : ℕ) → BeginsWith c (bytes a) → is_start c ≡ true → nat_lt 0 (longest is_name (line a)) ≡ true
unfolding is_name
some_name a c begins starts =
    let b = drop (length (encode_utf8 c)) a in
    longest_positive are_name (c ∷ []) a b (passes_one c a b begins (start_line c starts) refl) (and_from (is_start c) true starts refl) (omega arith)
