-- No text of a made tree is too long to be read, so that a read gives it.
use Rattle.std.proofs.Common.{◌≡◌, ℕ, zero, suc, ◌+◌, ◌*◌, ◌/◌, ◌≤◌, Bool, true, false, nat_le, nat_lt, if◌then◌else◌, List, [], ◌∷◌, ◌++◌, length, map, codes, decimal, Option, Some, refl, ap, sym, length-append, mod-lt, lit<, lit≤, arith}
use Rattle.std.specs.List.{range_with_len, AllByRecursion}
use Rattle.std.specs.Str.{bytes_eq}
use Rattle.std.proofs.lemmas.Bool.{le-leb}
use Rattle.std.proofs.lemmas.Fmt.{length-decimal-le}
use Rattle.scan_model.specs.Files.{Content, Present, content}
use Rattle.scan_model.specs.Limits.{file_limit}
use Rattle.file_source.specs.declared.made_file.MadeFile.{MadeFile}
use Rattle.file_source.specs.declared.given.Came.{Came}
use Rattle.file_source.specs.declared.given.Came.TheVariants as CameIs
use Rattle.file_source.specs.CameOf.{outcome_of, bytes_of}
use Rattle.file_source.specs.Made.{text_at, came_of_text, came_at}
use Rattle.big_gen.specs.MadeTexts.{include_text, import_text, parent_text, own_text, header_text, header_of, condition_text, module_text, needs_text, function_text, unit_text, made_header, made_unit, made_files}
use Rattle.made_scan.specs.MadeScans.{content_of, made_map}

-- ## Lengths

within : (n : ℕ) (xs ys : List ℕ) (a b : ℕ) → length xs ≤ a → length ys ≤ b → a + b ≤ n → length (xs ++ ys) ≤ n
within n xs ys a b h k e = let both = length-append xs ys in omega (arith, both)

digits_few : (n : ℕ) → n ≤ 9999 → length (decimal n) ≤ 4
digits_few n h = length-decimal-le 4 n (lit< tt) (omega arith) (omega arith)

-- a text round a number
around : (before after : List ℕ) (n : ℕ) → length before ≤ 50 → length after ≤ 50 → n ≤ 9999 → length (before ++ decimal n ++ after) ≤ 104
around before after n h k few = within 104 (before ++ decimal n) after 54 50 (within 54 before (decimal n) 50 4 h (digits_few n few) (lit≤ tt)) k (lit≤ tt)

include_few : (header : ℕ) → header ≤ 9999 → length (include_text header) ≤ 104
include_few header few = around (codes "#include \"h") (codes ".h\"\n") header (lit≤ tt) (lit≤ tt) few

import_few : (unit : ℕ) → unit ≤ 9999 → length (import_text unit) ≤ 104
import_few unit few = around (codes "import m") (codes ";\n") unit (lit≤ tt) (lit≤ tt) few

few_if : (b : Bool) (xs : List ℕ) → length xs ≤ 104 → length (if b then xs else []) ≤ 104
few_if true xs h = h
few_if false xs h = lit≤ tt

half_few : (n : ℕ) → n ≤ 9999 → n / 2 ≤ 9999
half_few n few = omega arith

own_few : (header : ℕ) → header ≤ 9999 → length (own_text header) ≤ 208
own_few header few =
    let digits = digits_few header few in
    let line = around (codes "#define H") (codes " 1\n") header (lit≤ tt) (lit≤ tt) few in
    let named = within 154 (codes "#define H" ++ decimal header ++ codes " 1\n") (codes "int f") 104 50 line (lit≤ tt) (lit≤ tt) in
    let numbered = within 158 (codes "#define H" ++ decimal header ++ codes " 1\n" ++ codes "int f") (decimal header) 154 4 named digits (lit≤ tt) in
    within 208 (codes "#define H" ++ decimal header ++ codes " 1\n" ++ codes "int f" ++ decimal header) (codes "(int);\n") 158 50 numbered (lit≤ tt) (lit≤ tt)

header_few : (header : ℕ) → header ≤ 9999 → length (header_text header) ≤ 400
header_few header few =
    within 400 (codes "#pragma once\n" ++ parent_text header) (own_text header) 154 208
    (within 154 (codes "#pragma once\n") (parent_text header) 50 104 (lit≤ tt) (few_if (nat_lt 1 header) (include_text (header / 2)) (include_few (header / 2) (half_few header few))) (lit≤ tt))
    (own_few header few) (lit≤ tt)

header_of_few : (unit : ℕ) → header_of unit ≤ 9999
header_of_few unit = let below = mod-lt (7 * unit) {m = 64} (lit< tt) in omega (arith, below)

unit_few : (unit : ℕ) → unit ≤ 9999 → length (unit_text unit) ≤ 600
unit_few unit few =
    let header = header_of unit in
    let included = include_few header (header_of_few unit) in
    let condition = around (codes "#if defined(H") (codes ") && H1\n") header (lit≤ tt) (lit≤ tt) (header_of_few unit) in
    let named = around (codes "export module m") (codes ";\n#endif\n") unit (lit≤ tt) (lit≤ tt) few in
    let needs = few_if (nat_lt 1 unit) (import_text (unit / 2)) (import_few (unit / 2) (half_few unit few)) in
    let function = around (codes "int g") (codes "();\n") unit (lit≤ tt) (lit≤ tt) few in
    within 600 (include_text header ++ condition_text header ++ module_text unit ++ needs_text unit) (function_text unit) 416 104
    (within 416 (include_text header ++ condition_text header ++ module_text unit) (needs_text unit) 312 104
    (within 312 (include_text header ++ condition_text header) (module_text unit) 208 104
    (within 208 (include_text header) (condition_text header) 104 104 included condition (lit≤ tt)) named (lit≤ tt)) needs (lit≤ tt)) function (lit≤ tt)

-- ## Files

abbrev IsShort : MadeFile → Type 0
IsShort file = length file.text ≤ file_limit

short_header : (header : ℕ) → header ≤ 9999 → IsShort (made_header header)
unfolding made_header
short_header header few = let h = header_few header few in omega (arith, h)

short_unit : (unit : ℕ) → unit ≤ 9999 → IsShort (made_unit unit)
unfolding made_unit
short_unit unit few = let h = unit_few unit few in omega (arith, h)

short_ranged : (f : ℕ → MadeFile) → ((k : ℕ) → k ≤ 9999 → IsShort (f k)) → (a n : ℕ) → a + n ≤ 9999 → AllByRecursion IsShort (map f (range_with_len a n))
short_ranged f each a zero few = tt
short_ranged f each a (suc n) few = (each a (omega arith), short_ranged f each (a + 1) n (omega arith))

short_append : (fs gs : List MadeFile) → AllByRecursion IsShort fs → AllByRecursion IsShort gs → AllByRecursion IsShort (fs ++ gs)
short_append [] gs h k = k
short_append (f ∷ fs) gs h k = (h.0, short_append fs gs h.1 k)

all_short : (n : ℕ) → n ≤ 4096 → AllByRecursion IsShort (made_files n)
all_short n few =
    short_append (map made_header (range_with_len 1 64)) (map made_unit (range_with_len 1 n)) (short_ranged made_header short_header 1 64 (lit≤ tt))
    (short_ranged made_unit short_unit 1 n (omega arith))

-- ## Reads

abbrev shown : Came → Content (List ℕ)
shown came = content (outcome_of came) (bytes_of came)

read_short : (text : List ℕ) (b : Bool) → b ≡ true → shown (if b then CameIs.Present text else CameIs.Big (length text)) ≡ Present text
read_short text true e = refl
read_short text false e = cc

first_shown : (b : Bool) (text : List ℕ) (later : Option (List ℕ)) → length text ≤ file_limit → shown (came_of_text later) ≡ content_of later →
    shown (came_of_text (if b then Some text else later)) ≡ content_of (if b then Some text else later)
first_shown true text later short h = read_short text (nat_le (length text) file_limit) (le-leb (length text) file_limit short)
first_shown false text later short h = h

text_shown : (files : List MadeFile) (path : List ℕ) → AllByRecursion IsShort files → shown (came_of_text (text_at files path)) ≡ content_of (text_at files path)
text_shown [] path short = refl
text_shown (file ∷ files) path short = first_shown (bytes_eq file.path path) file.text (text_at files path) short.0 (text_shown files path short.1)

-- the tree has what a read of a listed file gives
pub made_map_is : (n : ℕ) → n ≤ 4096 → (path : List ℕ) → made_map n path ≡ Some (content (outcome_of (came_at (made_files n) path)) (bytes_of (came_at (made_files n) path)))
unfolding made_map
made_map_is n few path = ap Some (sym (text_shown (made_files n) path (all_short n few)))
