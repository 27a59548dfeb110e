-- What a command's words add stays within the limits.
use Rattle.std.proofs.Common.{◌≡◌, ◌<◌, ◌≤◌, ◌+◌, ℕ, Bool, true, false, ◌&&◌, ◌||◌, List, [], ◌∷◌, ◌++◌, take, drop, length, codes, Option, Some, None, Result, Ok, Err, IfOk, if◌then◌else◌, refl, sym, subst, arith, length-append, length-drop, length-take}
use Rattle.std.specs.Prelude.{nat_lt}
use Rattle.std.specs.Option.{option_map_or}
use Rattle.std.specs.List.{All, position_or_len, before_first, after_first}
use Rattle.std.proofs.lemmas.Bool.Decides.{nat_tests}
use Rattle.std.proofs.lemmas.List.{length_push}
use Rattle.std.proofs.lemmas.List.Elements.{All-nil, All-cons, All-append}
use Rattle.scan_model.specs.declared.command.CommandFault.{CommandFault}
use Rattle.scan_model.specs.declared.command.CommandFault.TheVariants.{BadCommand}
use Rattle.scan_model.specs.declared.command.Job.{Job}
use Rattle.scan_model.specs.declared.command.Setting.{Setting}
use Rattle.scan_model.specs.declared.command.Setting.TheVariants as SettingIs
use Rattle.scan_model.specs.declared.memory.NoMemory.{NoMemory}
use Rattle.scan_model.specs.Limits.{file_limit}
use Rattle.scan_model.specs.Paths.{join}
use Rattle.scan_model.specs.WholeUnit.{setting_text}
use Rattle.compile_db.specs.declared.Entry.{Entry}
use Rattle.command_words.specs.declared.bad_command.BadCommand as Bad
use Rattle.command_words.specs.declared.options.Purpose.{Purpose}
use Rattle.command_words.specs.declared.options.Purpose.TheVariants.{Define, Undefine, AngledFolder, QuoteFolder, SystemFolder, AfterFolder, ForcedFile, Output, Nothing}
use Rattle.command_words.specs.declared.options.WordClass.{WordClass}
use Rattle.command_words.specs.declared.options.WordClass.TheVariants.{Takes, Joined, Unsupported, Other}
use Rattle.command_words.specs.declared.reading.Reading.{Reading}
use Rattle.command_words.specs.Options.{class_of}
use Rattle.command_words.specs.Reading as words
use Rattle.scan_model.specs.Fits.{CommandFits, JobFits}
use Rattle.command_words.specs.Jobs.{job_of, job_of_words, job_by, words_of}

abbrev HasRoom : Setting → Type 0
HasRoom setting = length (setting_text setting) ≤ file_limit

-- what is read so far is within the limits
record ReadingFits (r : Reading) : Type 0 where
  texts : All HasRoom r.settings
  number : words.added r ≤ file_limit

neither : (a b : Bool) → (a || b) ≡ false → (a ≡ false) × (b ≡ false)
neither true b h = cc
neither false b h = (refl, h)

if_ok : {X E : Type 0} (b : Bool) (e : E) (x y : X) → (if b then Err e else Ok x) ≡ Ok y → (b ≡ false) × (x ≡ y)
if_ok true e x y h = cc
if_ok false e x y h = (refl, cc)

abbrev ok_of : Reading → Result Reading CommandFault
ok_of r = Ok r

ok_same : (x y : Reading) → ok_of x ≡ ok_of y → x ≡ y
ok_same x y h = cc

room_left : (r : Reading) → words.is_full r ≡ false → words.added r + 1 ≤ file_limit
room_left r h = grind (arith, nat_tests)

short_text : (text : List ℕ) → words.is_bad_setting text ≡ false → length text ≤ 33554400
short_text text h = let long = (neither (nat_lt 33554400 (length text)) _ h).0 in grind (arith, nat_tests)

defined_length : (b : Bool) (text front back : List ℕ) → length front + length back ≤ length text
    → length (if b then front ++ 32 ∷ back else text ++ codes " 1") ≤ length text + 2
defined_length true text front back h = omega (arith, length-append front (32 ∷ back))
defined_length false text front back h = omega (arith, length-append text (codes " 1"))

defined_short : (text : List ℕ) → length (words.defined text) ≤ length text + 2
defined_short text =
    let at = position_or_len words.is_equals text in
    defined_length (nat_lt at (length text)) text (before_first words.is_equals text) (after_first words.is_equals text) (omega (arith, length-take at text, length-drop (at + 1) text))

push_text : (settings : List Setting) (setting : Setting) → All HasRoom settings → HasRoom setting → All HasRoom (settings ++ setting ∷ [])
push_text settings setting all one = All-append HasRoom settings (setting ∷ []) all (All-cons HasRoom setting [] one (All-nil HasRoom))

text_fits : (directory : List ℕ) (purpose : Purpose) (text : List ℕ) (r : Reading) → ReadingFits r → words.is_refused purpose text r ≡ false → ReadingFits (words.with_text directory purpose text r)
text_fits directory Define text r fits ok =
    let no = neither (words.is_full r) (words.is_bad_setting text) ok in
    let room = room_left r no.0 in
    let short = short_text text no.1 in
    let setting : Setting = SettingIs.Define (words.defined text) in
    record {
      texts = push_text r.settings setting fits.texts (omega (arith, length-append (codes "#define ") (words.defined text), defined_short text));
      number = omega (arith, length_push r.settings setting);
    }
text_fits directory Undefine text r fits ok =
    let no = neither (words.is_full r) (words.is_bad_setting text) ok in
    let room = room_left r no.0 in
    let short = short_text text no.1 in
    let setting : Setting = SettingIs.Undef text in
    record {
      texts = push_text r.settings setting fits.texts (omega (arith, length-append (codes "#undef ") text));
      number = omega (arith, length_push r.settings setting);
    }
text_fits directory AngledFolder text r fits ok =
    let room = room_left r (neither (words.is_full r) false ok).0 in
    record { texts = fits.texts; number = omega (arith, length_push r.search.angled (join directory text)) }
text_fits directory QuoteFolder text r fits ok =
    let room = room_left r (neither (words.is_full r) false ok).0 in
    record { texts = fits.texts; number = omega (arith, length_push r.search.quote (join directory text)) }
text_fits directory SystemFolder text r fits ok =
    let room = room_left r (neither (words.is_full r) false ok).0 in
    record { texts = fits.texts; number = omega (arith, length_push r.search.system (join directory text)) }
text_fits directory AfterFolder text r fits ok =
    let room = room_left r (neither (words.is_full r) false ok).0 in
    record { texts = fits.texts; number = omega (arith, length_push r.search.after (join directory text)) }
text_fits directory ForcedFile text r fits ok =
    let room = room_left r (neither (words.is_full r) false ok).0 in
    record { texts = fits.texts; number = omega (arith, length_push r.forced text) }
text_fits directory Output text r fits ok = record { texts = fits.texts; number = fits.number }
text_fits directory Nothing text r fits ok = fits

take_fits : (directory : List ℕ) (purpose : Purpose) (text : List ℕ) (r next : Reading) → ReadingFits r → words.take directory purpose text r ≡ Ok next → ReadingFits next
take_fits directory purpose text r next fits e =
    let h = if_ok (words.is_refused purpose text r) BadCommand (words.with_text directory purpose text r) next e in
    subst (λ s. ReadingFits s) h.1 (text_fits directory purpose text r fits h.0)

class_fits : (directory : List ℕ) (class : WordClass) (word : List ℕ) (r next : Reading) → ReadingFits r → words.by_class directory class word r ≡ Ok next → ReadingFits next
class_fits directory (Takes purpose) word r next fits e =
    subst (λ s. ReadingFits s) (ok_same _ _ e) (record { texts = fits.texts; number = fits.number })
class_fits directory (Joined purpose n) word r next fits e = take_fits directory purpose (drop n word) r next fits e
class_fits directory Unsupported word r next fits e = cc
class_fits directory Other word r next fits e =
    subst (λ s. ReadingFits s) (ok_same _ _ e) (record { texts = fits.texts; number = fits.number })

waiting_fits : (directory word : List ℕ) (waits : Option Purpose) (r next : Reading) → ReadingFits r
    → option_map_or (λ purpose. words.take directory purpose word (record r { waits = None })) waits (words.by_class directory (class_of word) word r) ≡ Ok next → ReadingFits next
waiting_fits directory word (Some purpose) r next fits e =
    take_fits directory purpose word (record r { waits = None }) next (record { texts = fits.texts; number = fits.number }) e
waiting_fits directory word None r next fits e = class_fits directory (class_of word) word r next fits e

ended_same : (waits : Option Purpose) (r next : Reading) → option_map_or (λ purpose. Err BadCommand) waits (Ok r) ≡ Ok next → r ≡ next
ended_same (Some purpose) r next e = cc
ended_same None r next e = ok_same r next e

first_ok : (f : Reading → Result Reading CommandFault) (s : Result Reading CommandFault) (next : Reading) → words.and_then f s ≡ Ok next → (mid : Reading) × (s ≡ Ok mid) × (f mid ≡ Ok next)
first_ok f (Ok mid) next e = (mid, refl, e)
first_ok f (Err fault) next e = cc

walk_fits : (directory : List ℕ) (ws : List (List ℕ)) (r next : Reading) → ReadingFits r → words.walk directory ws r ≡ Ok next → ReadingFits next
walk_fits directory [] r next fits e = subst (λ s. ReadingFits s) (ended_same r.waits r next e) fits
walk_fits directory (word ∷ ws) r next fits e =
    let h = first_ok (words.walk directory ws) (words.step directory word r) next e in
    walk_fits directory ws h.0 next (waiting_fits directory word r.waits r h.0 fits h.1) h.2

nothing_fits : ReadingFits words.nothing_read
nothing_fits = record { texts = All-nil HasRoom; number = omega arith }

by_fits : (entry : Entry) (s : Result Reading CommandFault) → ((r : Reading) → s ≡ Ok r → ReadingFits r) → JobFits (job_by entry s)
by_fits entry (Ok r) fits = let h = fits r refl in record { texts = h.texts; number = h.number }
by_fits entry (Err fault) fits = tt

words_fit : (entry : Entry) (ws : Result (List (List ℕ)) Bad.BadCommand) → JobFits (job_of_words entry ws)
words_fit entry (Ok ws) = by_fits entry _ (λ r e. walk_fits _ (drop 1 ws) words.nothing_read r nothing_fits e)
words_fit entry (Err bad) = tt

-- each job that is made fits
pub fits_of : (entry : Entry) (job : Result Job NoMemory) → IfOk job (λ made. made ≡ job_of entry) → IfOk job (λ made. JobFits made)
unfolding job_of
fits_of entry (Ok made) is = subst JobFits (sym is) (words_fit entry (words_of entry.words))
fits_of entry (Err none) is = tt
