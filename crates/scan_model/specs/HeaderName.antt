-- The names of headers in tokens ([cpp.include], [cpp.cond]).
use Rattle.std.specs.Prelude.{ℕ, zero, suc, ◌+◌, ◌-◌, Bool, ◌||◌, ◌==◌, if◌then◌else◌, List, [], ◌∷◌, ◌++◌, drop, length, Option, Some, None}
use Rattle.std.specs.Option.{option_map, option_map_or}
use Rattle.scan_model.specs.declared.token.Kind.TheVariants.{Header}
use Rattle.scan_model.specs.declared.token.Tok.{Tok}
use Rattle.scan_model.specs.declared.command.Form.{Form}
use Rattle.scan_model.specs.declared.command.Form.TheVariants.{Quoted, Angled}
use Rattle.scan_model.specs.declared.condition.HasNext.{HasNext}
use Rattle.scan_model.specs.declared.condition.HasNext.TheVariants.{End, Bad, At}
use Rattle.scan_model.specs.Spelling.{first}
use Rattle.scan_model.specs.TokenTests.{is_of, is_word, is_sign, is_open_paren, is_close_paren, is_plain_string, unquoted}

-- a name, its form, and what follows it
pub record Named : Type 0 where
  pub form : Form
  pub name : List ℕ
  pub after : List Tok

abbrev pub form_of : List ℕ → Form
form_of s = if first s == 60 then Angled else Quoted

-- a name that isn't empty
abbrev pub nonempty : Named → Option Named
nonempty n = if length n.name == 0 then None else Some n

abbrev pub written_before : List ℕ → Named → Named
written_before s n = record n { name = s ++ n.name }

-- the spellings up to the first `>`, a space before each that has one; none where there is no `>`
abbrev pub angled_rest : List Tok → Option Named
angled_rest [] = None
angled_rest (t ∷ ts) =
    let further = option_map (written_before (if t.space then 32 ∷ t.text else t.text)) (angled_rest ts) in
    if is_sign (">" ∷ []) t then Some (record { form = Angled; name = []; after = ts }) else further

-- the same after the `<`, where the first token has no space before it
abbrev pub angled : List Tok → Option Named
angled [] = None
angled (t ∷ ts) =
    let further = option_map (written_before t.text) (angled_rest ts) in
    if is_sign (">" ∷ []) t then None else further

-- the name that replaced tokens give an include: a plain string, or `<` up to the first `>`
unfoldable pub name_of : List Tok → Option Named
name_of [] = None
name_of (t ∷ ts) =
    let inside = angled ts in
    if is_plain_string t then nonempty (record { form = Quoted; name = unquoted t.text; after = ts })
    else if is_sign ("<" ∷ []) t then inside else None

abbrev pub header : Tok → List Tok → Named
header t ts = record { form = form_of t.text; name = unquoted t.text; after = ts }

-- the same where a header may stand too
abbrev pub header_or_name : List Tok → Option Named
header_or_name [] = None
header_or_name (t ∷ ts) = let name = name_of (t ∷ ts) in if is_of Header t then Some (header t ts) else name

-- ## `__has_include` and `__has_include_next`

abbrev pub is_has_next : Tok → Bool
is_has_next t = is_word "__has_include_next" t

-- one of both
abbrev pub is_has : Tok → Bool
is_has t = is_word "__has_include" t || is_has_next t

-- the name of a header in parentheses, and what follows the name
abbrev pub before_close : Named → Option Named
before_close n = elim (n.after) [
  | [] ↦ None
  | t ∷ ts ↦ if is_close_paren t then Some n else None
]

abbrev pub has_name : List Tok → Option Named
has_name [] = None
has_name (t ∷ ts) =
    let name = option_map_or before_close (header_or_name ts) None in
    if is_open_paren t then name else None

-- at the place k, where one of both stands in a list of n tokens before the given ones
abbrev pub has_at : Bool → ℕ → ℕ → Option Named → HasNext
has_at next n k None = Bad k
has_at next n k (Some name) = At (record { first = k + 2; past = n - length name.after; form = name.form; next = next })

-- the first one of the tokens from the place k on, in a list of n tokens
abbrev pub next_has_from : ℕ → ℕ → List Tok → HasNext
next_has_from n k [] = End
next_has_from n k (t ∷ ts) = let further = next_has_from n (k + 1) ts in
    let here = has_at (is_has_next t) n k (has_name ts) in
    if is_has t then here else further

unfoldable pub next_has : List Tok → ℕ → HasNext
next_has toks from = next_has_from (length toks) from (drop from toks)

-- A list of tokens in which each `__has_include` or `__has_include_next` with its name is one item, which says whether it
-- is the second.
pub data Term : Type 0 where
  Plain : Tok → Term
  Has : Bool → Form → List ℕ → Term

-- none where one is malformed; each term takes a token at least
abbrev pub has_term : Bool → Option Named → (List Tok → Option (List Term)) → Option (List Term)
has_term next None further = None
has_term next (Some n) further = option_map (Has next n.form n.name ∷◌) (further (drop 1 n.after))

abbrev pub terms_up_to : ℕ → List Tok → Option (List Term)
terms_up_to zero ts = Some []
terms_up_to (suc n) [] = Some []
terms_up_to (suc n) (t ∷ ts) =
    let plain = option_map (Plain t ∷◌) (terms_up_to n ts) in
    let has = has_term (is_has_next t) (has_name ts) (terms_up_to n) in
    if is_has t then has else plain

unfoldable pub terms : List Tok → Option (List Term)
terms ts = terms_up_to (length ts) ts
