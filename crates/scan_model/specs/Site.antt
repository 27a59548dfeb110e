-- The presumed name and line numbers of a file ([cpp.line], [cpp.predefined]).
use Rattle.std.specs.Prelude.{ℕ, pos, ◌+ℤ◌, ◌-ℤ◌, unsigned_abs, ◌||◌, ◌==◌, if◌then◌else◌, List, [], ◌∷◌, ◌++◌}
use Rattle.scan_model.specs.declared.expansion.Site.{Site}

-- the number that `__LINE__` gives on a line
abbrev pub presumed : Site → ℕ → ℕ
presumed site line = unsigned_abs (pos line +ℤ site.shift)

-- after `#line` with this number on a line, which the line `next` follows
abbrev pub renumbered : ℕ → List ℕ → ℕ → Site
renumbered number file next = record { file = file; shift = pos number -ℤ pos next }

abbrev pub escaped : List ℕ → List ℕ
escaped [] = []
escaped (c ∷ s) = let rest = escaped s in if c == 34 || c == 92 then 92 ∷ c ∷ rest else c ∷ rest

-- the string that `__FILE__` gives of a path
abbrev pub file_spelling : List ℕ → List ℕ
file_spelling path = 34 ∷ escaped path ++ 34 ∷ []

-- where a file begins
abbrev pub first_site : List ℕ → Site
first_site path = record { file = file_spelling path; shift = pos 0 }
