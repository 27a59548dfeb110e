-- Lists of tokens whose identifiers are well-formed UTF-8.
use Rattle.std.proofs.Common.{◌≡◌, ℕ, zero, suc, ◌+◌, ◌<◌, Bool, true, false, cond, List, [], ◌∷◌, ◌++◌, map, length, get_or, refl, sym, arith}
use Rattle.std.specs.Prelude.{⊤, Option, Some, None, IfSome, IsTrue, All}
use Rattle.std.specs.List.{AllByRecursion}
use Rattle.std.specs.Option.{option_map, option_and_then}
use Rattle.std.proofs.lemmas.Bool.{true≢false}
use Rattle.std.proofs.lemmas.List.Elements.{All-from_recursion, All-head, All-tail}
use Rattle.scan_model.specs.declared.token.Tok.{Tok}
use Rattle.scan_model.specs.Parentheses.{Enclosed, onto_inside, enclosed, in_parens, depth_after}
use Rattle.scan_model.specs.TokenTests.{is_open_paren, is_close_paren}
use Rattle.scan_model.specs.Substitution.{Marked, spaced, first_spaced}
use Rattle.scan_model.specs.Utf8Names.{HasUtf8Name, HaveUtf8Names}

-- ## Tokens

abbrev pub Good : List Tok → Type 0
Good ts = AllByRecursion HasUtf8Name ts

pub good_of : (ts : List Tok) → HaveUtf8Names ts → Good ts
good_of [] h = tt
good_of (t ∷ ts) h = (All-head HasUtf8Name t ts h, good_of ts (All-tail HasUtf8Name t ts h))

pub names_of : (ts : List Tok) → Good ts → HaveUtf8Names ts
names_of ts h = All-from_recursion HasUtf8Name ts h

-- ## Marked tokens

abbrev pub GoodMark : Marked → Type 0
GoodMark m = HasUtf8Name m.tok

abbrev pub GoodMarks : List Marked → Type 0
GoodMarks ms = AllByRecursion GoodMark ms

pub marks_append : (ms ns : List Marked) → GoodMarks ms → GoodMarks ns → GoodMarks (ms ++ ns)
marks_append [] ns h k = k
marks_append (m ∷ ms) ns h k = (h.0, marks_append ms ns h.1 k)

pub marks_toks : (ms : List Marked) → GoodMarks ms → Good (map (λ m. m.tok) ms)
marks_toks [] h = tt
marks_toks (m ∷ ms) h = (h.0, marks_toks ms h.1)

pub marks_first_spaced : (space : Bool) (ms : List Marked) → GoodMarks ms → GoodMarks (first_spaced space ms)
marks_first_spaced space [] h = tt
marks_first_spaced space (m ∷ ms) h = (h.0, h.1)

-- ## Choices

pub never : {X : Type 0} → IsTrue false → X
never h = absurd (true≢false (sym h))

pub if_cond : {X : Type 0} (P : X → Type 0) (b : Bool) (x y : Option X) → IfSome x P → IfSome y P → IfSome (cond b x y) P
if_cond P true x y p q = p
if_cond P false x y p q = q

pub if_map : {X Y : Type 0} (P : X → Type 0) (Q : Y → Type 0) (f : X → Y) (o : Option X) → ((x : X) → P x → Q (f x)) → IfSome o P → IfSome (option_map f o) Q
if_map P Q f None step h = tt
if_map P Q f (Some x) step h = step x h

pub if_then : {X Y : Type 0} (P : X → Type 0) (Q : Y → Type 0) (f : X → Option Y) (o : Option X) → ((x : X) → P x → IfSome (f x) Q) → IfSome o P → IfSome (option_and_then f o) Q
if_then P Q f None step h = tt
if_then P Q f (Some x) step h = step x h

-- ## Parentheses

module _ {X : Type 0} (tok : X → Tok) (P : X → Type 0) where
  abbrev pub GoodParens : Enclosed X → Type 0
  GoodParens e = AllByRecursion P e.inside × AllByRecursion P e.after

  pub enclosed_good : (depth : ℕ) (xs : List X) → AllByRecursion P xs → IfSome (enclosed tok depth xs) GoodParens
  enclosed_good depth [] h = tt
  enclosed_good depth (x ∷ xs) h =
      if_cond GoodParens _ (Some (record { inside = []; close = x; after = xs })) (option_map (onto_inside x) (enclosed tok (depth_after (tok x) depth) xs)) (tt, h.1)
      (if_map GoodParens GoodParens (onto_inside x) (enclosed tok (depth_after (tok x) depth) xs) (λ e g. ((h.0, g.0), g.1)) (enclosed_good (depth_after (tok x) depth) xs h.1))

  pub parens_good : (xs : List X) → AllByRecursion P xs → IfSome (in_parens tok xs) GoodParens
  parens_good [] h = tt
  parens_good (x ∷ xs) h = if_cond GoodParens (is_open_paren (tok x)) (enclosed tok 0 xs) None (enclosed_good 0 xs h.1) tt
