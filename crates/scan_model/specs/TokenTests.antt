-- Tests of single tokens, and of the first and the last of a list.
use Rattle.std.specs.Prelude.{ℕ, ◌-◌, Bool, false, ◌&&◌, ◌==◌, nat_eq, List, [], ◌∷◌, slice_index, take, drop, length}
use Rattle.std.specs.List.{list_any}
use lib.Pointwise.{pointwise}
use Prim.Native.String.{String}
use Rattle.scan_model.specs.declared.token.Kind.{Kind}
use Rattle.scan_model.specs.declared.token.Kind.TheVariants.{Ident, Number, Char, Str, Header, Punct, Stray, ModuleKw, ImportKw, ExportKw, LineEnd}
use Rattle.scan_model.specs.declared.token.Tok.{Tok}
use Rattle.scan_model.specs.Spelling.{first, spells, is_one_of}

abbrev pub kind_number : Kind → ℕ
kind_number Ident = 0
kind_number Number = 1
kind_number Char = 2
kind_number Str = 3
kind_number Header = 4
kind_number Punct = 5
kind_number Stray = 6
kind_number ModuleKw = 7
kind_number ImportKw = 8
kind_number ExportKw = 9
kind_number LineEnd = 10

-- the token is of this kind
abbrev pub is_of : Kind → Tok → Bool
is_of kind t = kind_number t.kind == kind_number kind

-- a punctuator with one of these spellings
abbrev pub is_sign : List String → Tok → Bool
is_sign signs t = is_of Punct t && is_one_of signs t.text

-- the first token, if there is one, passes the test
abbrev pub begins_with : (Tok → Bool) → List Tok → Bool
begins_with test [] = false
begins_with test (t ∷ ts) = test t

-- the last token, if there is one, passes the test
abbrev pub ends_with : (Tok → Bool) → List Tok → Bool
ends_with test [] = false
ends_with test (t ∷ []) = test t
ends_with test (t ∷ u ∷ ts) = ends_with test (u ∷ ts)

-- two names are the same bytes
abbrev pub same : List ℕ → List ℕ → Bool
same s r = pointwise nat_eq s r

abbrev pub is_among : List (List ℕ) → List ℕ → Bool
is_among names s = list_any (λ name. same name s) names

-- an identifier with this spelling
abbrev pub is_word : String → Tok → Bool
is_word word t = is_of Ident t && spells word t.text

-- an identifier with this name
abbrev pub is_named : List ℕ → Tok → Bool
is_named name t = is_of Ident t && same name t.text

abbrev pub is_hash : Tok → Bool
is_hash t = is_sign ("#" ∷ "%:" ∷ []) t

abbrev pub is_paste : Tok → Bool
is_paste t = is_sign ("##" ∷ "%:%:" ∷ []) t

abbrev pub is_comma : Tok → Bool
is_comma t = is_sign ("," ∷ []) t

abbrev pub is_open_paren : Tok → Bool
is_open_paren t = is_sign ("(" ∷ []) t

abbrev pub is_close_paren : Tok → Bool
is_close_paren t = is_sign (")" ∷ []) t

-- a string with no prefix, no suffix and no `R`: it begins and ends with `"`, which is 34
abbrev pub is_plain_string : Tok → Bool
is_plain_string t = is_of Str t && first t.text == 34 && slice_index t.text (length t.text - 1) == 34

-- without its first and last byte
abbrev pub unquoted : List ℕ → List ℕ
unquoted s = drop 1 (take (length s - 1) s)
