-- Steps of a cursor along its line.
use Rattle.std.proofs.Common.{◌<◌, ◌≡◌, ◌≢◌, ℕ, suc, ◌+◌, ◌-◌, ◌<◌, ◌≤◌, List, [], ◌∷◌, refl, ap, sym, ◌∙◌, drop, length, length-drop, arith, Some, None}
use Rattle.std.proofs.lemmas.Bool.{ne_eqb, eq-eqb}
use Rattle.std.proofs.lemmas.List.{drop-drop}
use Rattle.scan_model.specs.Spliced.{Spot, byte_at}
use Rattle.scan_model.specs.Tokens.{bytes, rest_of_line}
use Rattle.scan_model.proofs.RestLemmas.{rest_of_line-cons, rest_of_line-newline, rest_of_line-nil}
use Rattle.lexeme_reader.specs.Fronts.{line, Along}
use Rattle.lexeme_reader.proofs.SpotLemmas.{bytes-cons, bytes-drop, byte_at-none}
use Rattle.lexeme_reader.proofs.LineLemmas.{rest_of_line-drop}

-- a byte that is no newline, and what is left
pub line-cons : (s : List Spot) (c : ℕ) → byte_at s ≡ Some c → c ≢ 10 → line s ≡ c ∷ line (drop 1 s)
line-cons s c here ne = ap rest_of_line (bytes-cons s c here) ∙ rest_of_line-cons c (bytes (drop 1 s)) (ne_eqb c 10 ne)

pub line-newline : (s : List Spot) (c : ℕ) → byte_at s ≡ Some c → c ≡ 10 → line s ≡ []
line-newline s c here e = ap rest_of_line (bytes-cons s c here) ∙ rest_of_line-newline c (bytes (drop 1 s)) (eq-eqb c 10 e)

pub line-none : (s : List Spot) → byte_at s ≡ None → line s ≡ []
line-none s e = ap line (byte_at-none s e) ∙ rest_of_line-nil

pub line-drop : (s : List Spot) (n : ℕ) → n ≤ length (line s) → line (drop n s) ≡ drop n (line s)
line-drop s n h = ap rest_of_line (bytes-drop s n) ∙ rest_of_line-drop (bytes s) n h

pub along_line : (a b : List Spot) (along : Along a b) → line b ≡ drop along.len (line a)
along_line a b along = ap line along.left ∙ line-drop a along.len along.within

pub along_none : (a : List Spot) → Along a a
along_none a = record { len = 0; within = omega arith; left = refl }

pub along_more : (a b d : List Spot) (c : ℕ) → Along a b → byte_at b ≡ Some c → c ≢ 10 → d ≡ drop 1 b → Along a d
along_more a b d c along here ne e =
    let whole : suc (length (line (drop 1 b))) ≡ length (drop along.len (line a)) = sym (ap length (line-cons b c here ne)) ∙ ap length (along_line a b along) in record {
      len = along.len + 1;
      within = omega (arith, whole, length-drop along.len (line a), along.within);
      left = e ∙ ap (drop 1) along.left ∙ drop-drop 1 along.len a;
    }

pub along_further : (a b d : List Spot) → Along a b → Along b d → Along a d
along_further a b d p q =
    let left : length (line b) ≡ length (line a) - p.len = ap length (along_line a b p) ∙ length-drop p.len (line a) in record {
      len = p.len + q.len;
      within = omega (arith, left, p.within, q.within);
      left = q.left ∙ ap (drop q.len) p.left ∙ drop-drop q.len p.len a ∙ ap (λ k. drop k a) (omega arith);
    }

pub along_shorter : (a b : List Spot) → Along a b → length b ≤ length a
along_shorter a b p = let e : length b ≡ length (drop p.len a) = ap length p.left in omega (arith, e, length-drop p.len a)

pub byte_at-positive : (s : List Spot) (c : ℕ) → byte_at s ≡ Some c → 0 < length s
byte_at-positive [] c here = cc
byte_at-positive (x ∷ s) c here = omega arith

-- at the line's end
pub along_end : (a b : List Spot) → Along a b → line b ≡ [] → b ≡ drop (length (line a)) a
along_end a b along none =
    let z : length (drop along.len (line a)) ≡ 0 = ap length (sym (along_line a b along) ∙ none) in
    let e : along.len ≡ length (line a) = omega (arith, z, length-drop along.len (line a), along.within) in
    along.left ∙ ap (λ k. drop k a) e

-- a byte that is no newline is on the line
pub line_some : (s : List Spot) (c : ℕ) → byte_at s ≡ Some c → c ≢ 10 → 0 < length (line s)
line_some s c here ne = omega (arith, ap length (line-cons s c here ne))
