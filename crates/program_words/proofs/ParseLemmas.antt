-- What the words ask for is what their parse gives.
use Rattle.std.proofs.Common.{◌≡◌, ℕ, true, List, [], Option, Some, None, Err, if◌then◌else◌, refl, sym, ap, ◌∙◌, subst}
use Rattle.clap.specs.Faults.{is_simple_and_free}
use Rattle.clap.specs.Walk.{is_empty}
use Rattle.clap.specs.Words.{App, HasMatchesOf, fault_of, matches_of}
use Rattle.clap.specs.declared.ArgMatches.{ArgMatches}
use Rattle.program_words.specs.Options.{app}
use Rattle.program_words.specs.Words.{IsParse, by_parse, by_rows, usage, words_of}

pub parse_reads : (words : List (List ℕ)) (parse : Option ArgMatches) → IsParse words parse → by_parse parse ≡ words_of words
unfolding words_of
parse_reads words None fault = sym (ap (λ b. if b then by_rows (matches_of app words) else Err usage) fault)
parse_reads words (Some m) fine =
    ap by_rows fine.1 ∙ sym (ap (λ b. if b then by_rows (matches_of app words) else Err usage) fine.0)

-- the matches of a command that was told of the program's options
pub parsed : (told : App) (words : List (List ℕ)) (m : ArgMatches) → told ≡ app → HasMatchesOf told words m → (is_simple_and_free told ≡ true → fault_of told words ≡ []) → IsParse words (Some m)
parsed told words m is has fine =
    (ap is_empty (subst (λ a. is_simple_and_free a ≡ true → fault_of a words ≡ []) is fine refl), (subst (λ a. HasMatchesOf a words m) is has refl).0)
