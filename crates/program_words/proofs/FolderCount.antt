-- There are no more folders than the text that names them has bytes.
use Rattle.std.proofs.Common.{◌≡◌, ◌≤◌, ◌<◌, ◌+◌, ◌-◌, ℕ, zero, suc, Bool, true, false, not, List, [], ◌∷◌, length, take, drop, get_or, All, map, filter, Option, Some, None, Result, Ok, Err, IfOk, if◌then◌else◌, refl, sym, subst, arith, lit≤, inl, inr, length-drop, length-take}
use Rattle.std.specs.Prelude.{nat_lt, codes, string_bytes, String}
use Rattle.std.specs.Option.{IfSome, option_map_or}
use Rattle.std.specs.List.{slice_split, position_or_len}
use Rattle.std.proofs.lemmas.Bool.{cases_Bool}
use Rattle.std.proofs.lemmas.Bool.Decides.{nat_tests}
use Rattle.std.proofs.lemmas.List.{length-map}
use Rattle.std.proofs.lemmas.List.Elements.{All-nil, All-cons, All-drop, All-from_get_or, All-from_recursion, All-map}
use Rattle.std.proofs.lemmas.List.Splits.{slice_split_first, slice_split_none}
use Rattle.std.proofs.lemmas.List.Sums.{fails_before_first}
use Rattle.clap.specs.Words.{Row, Rule, fault_of, matches_of}
use Rattle.clap.specs.Simple.{argument_words, built, names_of}
use Rattle.clap.specs.Walk.{action_of, is_empty}
use Rattle.scan_model.specs.declared.NoMemory.{NoMemory}
use Rattle.scan_model.specs.Limits.{file_limit}
use Rattle.program_words.specs.declared.reading.Input.{Input}
use Rattle.program_words.specs.declared.reading.Usage.{Usage}
use Rattle.program_words.specs.declared.reading.Words.{Words}
use Rattle.program_words.specs.Options.{app}
use Rattle.scan_model.specs.Fits.{SettingsFit}
use Rattle.program_words.specs.Words.{by_rows, folders_in, folders_of, input_of, is_colon, is_known_format, is_named, usage, value, words_of, words_with}
use Rattle.program_words.proofs.ShortRows.{AreShort, IsNoCount, IsShort, IsShortRule, rows_short, value_short}

part_count : (b : Bool) (part : List ℕ) (rest : List (List ℕ)) (m : ℕ) → b ≡ is_named part → length (filter is_named rest) ≤ m → length (if b then part ∷ filter is_named rest else filter is_named rest) ≤ length part + m
part_count true [] rest m is h = cc
part_count true (x ∷ xs) rest m is h = omega arith
part_count false part rest m is h = omega arith

no_colon_left : (text : List ℕ) → length text ≤ position_or_len is_colon text → length (filter is_named (slice_split is_colon text)) ≤ length text
no_colon_left text past =
    let none : All (λ c. is_colon c ≡ false) text = All-from_get_or (λ c. is_colon c ≡ false) text 0 (λ k inside. fails_before_first is_colon text k 0 (omega arith)) in
    let one = part_count (is_named text) text [] 0 refl (omega arith) in
    rw (slice_split_none is_colon text none) (omega (arith, one))

parts_named : (n : ℕ) (text : List ℕ) → length text ≤ n → length (filter is_named (slice_split is_colon text)) ≤ length text
parts_named zero text fits = no_colon_left text (omega arith)
parts_named (suc n) text fits =
    let at = position_or_len is_colon text in
    elim (cases_Bool (nat_lt at (length text))) [
      | inr none ↦ no_colon_left text (grind (arith, nat_tests))
      | inl some ↦
          let inside : at < length text = grind (arith, nat_tests) in
          let shorter : length (drop (at + 1) text) ≤ n = rw (length-drop (at + 1) text) (omega arith) in
          let rest = parts_named n (drop (at + 1) text) shorter in
          let all = part_count (is_named (take at text)) (take at text) (slice_split is_colon (drop (at + 1) text)) (length (drop (at + 1) text)) refl rest in
          rw (slice_split_first is_colon text 0 inside) (omega (arith, all, length-take at text, length-drop (at + 1) text))
    ]

folders_fit : (text : Option (List ℕ)) → IfSome text IsShort → length (folders_of text) ≤ file_limit
folders_fit None short = omega arith
folders_fit (Some text) short =
    let parts = parts_named (length text) text (omega arith) in
    rw length-map (omega (arith, parts))

-- ---- the words

options_short : All IsShortRule (built app).top.rules
options_short =
    All-from_recursion IsShortRule (built app).top.rules (
      record { missing = All-nil IsShort; defaults = All-nil IsShort; no_count = tt },
      (
        record { missing = All-nil IsShort; defaults = All-cons IsShort (codes "p1689") [] (lit≤ tt) (All-nil IsShort); no_count = tt },
        (
          record { missing = All-nil IsShort; defaults = All-cons IsShort (codes "4") [] (lit≤ tt) (All-nil IsShort); no_count = tt },
          (
            record { missing = All-nil IsShort; defaults = All-nil IsShort; no_count = tt },
            (
              record { missing = All-nil IsShort; defaults = All-nil IsShort; no_count = tt },
              (
                record { missing = All-nil IsShort; defaults = All-nil IsShort; no_count = tt },
                (record { missing = All-nil IsShort; defaults = All-nil IsShort; no_count = tt }, tt),
              ),
            ),
          ),
        ),
      ),
    )

matches_short : (words : List (List ℕ)) → All IsShort words → AreShort (matches_of app words)
matches_short words all = rows_short (built app).top.rules (names_of (built app)) (argument_words app words) options_short (All-drop IsShort 1 words all)

named : (rows : List Row) → AreShort rows → (known : Bool) (input : Option Input) → IfOk (if known then option_map_or (λ input. Ok (words_with rows input)) input (Err usage) else Err usage) (λ words. SettingsFit words.settings)
named rows short true (Some input) = folders_fit (value (codes "system-dirs") rows) (value_short (codes "system-dirs") rows short)
named rows short true None = tt
named rows short false (Some input) = tt
named rows short false None = tt

faultless : (rows : List Row) → AreShort rows → (fine : Bool) → IfOk (if fine then by_rows rows else Err usage) (λ words. SettingsFit words.settings)
faultless rows short true = named rows short (is_known_format (value (codes "format") rows)) (input_of (value (codes "compilation-database") rows) (value (codes "made") rows))
faultless rows short false = tt

words_fit : (words : List (List ℕ)) → All IsShort words → IfOk (words_of words) (λ words. SettingsFit words.settings)
unfolding words_of
words_fit words all = faultless (matches_of app words) (matches_short words all) (is_empty (fault_of app words))

pub read_fits : (words : List (List ℕ)) (r : Result (Result Words Usage) NoMemory) → All IsShort words → IfOk r (λ read. read ≡ words_of words) → IfOk r (λ read. IfOk read (λ words. SettingsFit words.settings))
read_fits words (Ok read) all is = subst (λ w. IfOk w (λ words. SettingsFit words.settings)) (sym is) (words_fit words all)
read_fits words (Err none) all is = tt
