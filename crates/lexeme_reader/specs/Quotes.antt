-- How quoted literals open ([lex.ccon], [lex.string]).
use Rattle.std.specs.Prelude.{◌≡◌, ℕ, Bool, true, false, ◌&&◌, ◌||◌, ◌==◌, if◌then◌else◌, List, Option, Some, None, length, drop}
use Rattle.std.specs.Bool.{MatchBool}
use Rattle.scan_model.specs.Spliced.{Spot}
use Rattle.scan_model.specs.Spelling.{opens, opens_raw, after_items}
use Rattle.lexeme_reader.specs.declared.quoted.Quote.{Quote}
use Rattle.lexeme_reader.specs.declared.quoted.Quote.TheVariants.{Single, Double}
use Rattle.lexeme_reader.specs.declared.quoted.Opening.{Opening}
use Rattle.lexeme_reader.specs.declared.quoted.Opening.TheVariants.{Quoted, Raw}
use Rattle.lexeme_reader.specs.Fronts.{line, Along}

-- `'` or `"`
abbrev pub quote_byte : Quote → ℕ
quote_byte Single = 39
quote_byte Double = 34

abbrev pub other_quote : Quote → Quote
other_quote Single = Double
other_quote Double = Single

-- this literal, and no other, opens at the front of a line
abbrev pub IsOpening : Option Opening → List ℕ → Type 0
IsOpening None s = (opens_raw s ≡ false) × (opens 39 s ≡ false) × (opens 34 s ≡ false)
IsOpening (Some Raw) s = (opens_raw s ≡ true) × (opens 39 s ≡ false) × (opens 34 s ≡ false)
IsOpening (Some (Quoted quote)) s = (opens_raw s ≡ false) × (opens (quote_byte quote) s ≡ true) × (opens (quote_byte (other_quote quote)) s ≡ false)

-- a literal may begin with the byte: a quote, `u`, `U`, `L` or `R`
abbrev pub may_open : ℕ → Bool
may_open c = (c == 39 || c == 34) || c == 117 || c == 85 || c == 76 || c == 82

-- the length of the prefix that two bytes begin
abbrev pub encoding_of : ℕ → ℕ → ℕ
encoding_of a b = if a == 117 && b == 56 then 2 else if a == 117 || a == 85 || a == 76 then 1 else 0

-- how a literal opens that has these two bytes after its prefix
abbrev pub opening_of : ℕ → ℕ → Option Opening
opening_of a b = if a == 39 then Some (Quoted Single) else if a == 34 then Some (Quoted Double) else if a == 82 && b == 34 then Some Raw else None

-- The items of a literal have been passed with the quote that closes them, or the rest of the line where none does.
abbrev pub PassesItems : Bool → ℕ → List Spot → List Spot → Type 0
PassesItems closed quote old new = MatchBool closed
    (Along old new × (after_items quote false (line old) ≡ Some (line new)))
    ((after_items quote false (line old) ≡ None) × (new ≡ drop (length (line old)) old))
