-- The text behind an option's name is well-formed by itself.
use Rattle.std.proofs.Common.{◌≡◌, ◌<◌, ◌+◌, ℕ, suc, Bool, true, false, ◌&&◌, List, drop, length, get_or, codes, Option, Some, None, if◌then◌else◌, refl, subst, arith, lit<}
use Rattle.std.specs.Prelude.{IsUtf8, nat_eq}
use Rattle.std.specs.Option.{option_map_or}
use Rattle.std.specs.List.{starts_with}
use Rattle.std.specs.Str.{IsCharBoundary}
use Rattle.std.proofs.lemmas.Bool.Decides.{Decides-eqb}
use Rattle.std.proofs.lemmas.List.Prefix.{front_fits, front_reads}
use Rattle.std.proofs.lemmas.Slice.Eq.{starts_is}
use Rattle.std.proofs.lemmas.Str.{IsCharBoundary-after_ascii}
use Rattle.command_words.specs.declared.options.Purpose.{Purpose}
use Rattle.command_words.specs.declared.options.WordClass.{WordClass}
use Rattle.command_words.specs.declared.options.WordClass.TheVariants.{Takes, Joined, Unsupported, Other}
use Rattle.command_words.specs.Options.{next_purpose, short_purpose, is_joined, long_class, joined_class, class_of}

-- a text may be cut behind a name that ends in an ASCII character
after_name : (name word : List ℕ) (k : ℕ) → IsUtf8 word → starts_with nat_eq word name ≡ true → length name ≡ k + 1 → get_or name k 0 < 128 → IsCharBoundary word (k + 1)
after_name name word k utf8 begins long ascii =
    let is = (starts_is Decides-eqb word name (starts_with nat_eq word name) refl).0 begins in
    let fits : length name < suc (length word) = (let h = front_fits word name (drop (length name) word) is in omega (arith, h)) in
    let read = front_reads 0 word name (drop (length name) word) is k (omega arith) in
    IsCharBoundary-after_ascii word k utf8 (omega arith) (omega (arith, read))

both_left : (a b : Bool) → (a && b) ≡ true → a ≡ true
both_left true b h = refl
both_left false b h = h

if_some : (P : Type 0) (b : Bool) (x : Purpose) (o : Option Purpose) (p : Purpose) → (if b then Some x else o) ≡ Some p → (b ≡ true → P) → (o ≡ Some p → P) → P
if_some P true x o p e here later = here refl
if_some P false x o p e here later = later e

if_class : (P : Type 0) (b : Bool) (x rest : WordClass) (p : Purpose) (n : ℕ) → (if b then x else rest) ≡ Joined p n → (b ≡ true → x ≡ Joined p n → P) → (rest ≡ Joined p n → P) → P
if_class P true x rest p n e here later = here refl e
if_class P false x rest p n e here later = later e

short_boundary : (word : List ℕ) (p : Purpose) → IsUtf8 word → short_purpose word ≡ Some p → IsCharBoundary word 2
short_boundary word p utf8 e =
    let P = IsCharBoundary word 2 in
    if_some P (starts_with nat_eq word (codes "-D")) _ _ p e (λ h. after_name (codes "-D") word 1 utf8 h refl (lit< tt))
    (λ e. if_some P (starts_with nat_eq word (codes "-U")) _ _ p e (λ h. after_name (codes "-U") word 1 utf8 h refl (lit< tt))
    (λ e. if_some P (starts_with nat_eq word (codes "-I")) _ _ p e (λ h. after_name (codes "-I") word 1 utf8 h refl (lit< tt))
    (λ e. if_some P (starts_with nat_eq word (codes "-o")) _ _ p e (λ h. after_name (codes "-o") word 1 utf8 h refl (lit< tt))
    (λ e. cc))))

name_boundary : (name word : List ℕ) (k : ℕ) (q p : Purpose) (n : ℕ) → IsUtf8 word → is_joined name word ≡ true → length name ≡ k + 1 → get_or name k 0 < 128 → Joined q (k + 1) ≡ Joined p n → IsCharBoundary word n
name_boundary name word k q p n utf8 h long ascii e =
    let same : k + 1 ≡ n = cc in
    subst (λ m. IsCharBoundary word m) same (after_name name word k utf8 (both_left _ _ h) long ascii)

long_boundary : (word : List ℕ) (p : Purpose) (n : ℕ) → IsUtf8 word → long_class word ≡ Joined p n → IsCharBoundary word n
long_boundary word p n utf8 e =
    let P = IsCharBoundary word n in
    if_class P (starts_with nat_eq word (codes "-imacros")) _ _ p n e (λ h e. cc)
    (λ e. if_class P (is_joined (codes "-isystem") word) _ _ p n e (λ h e. name_boundary (codes "-isystem") word 7 _ p n utf8 h refl (lit< tt) e)
    (λ e. if_class P (is_joined (codes "-iquote") word) _ _ p n e (λ h e. name_boundary (codes "-iquote") word 6 _ p n utf8 h refl (lit< tt) e)
    (λ e. if_class P (is_joined (codes "-idirafter") word) _ _ p n e (λ h e. name_boundary (codes "-idirafter") word 9 _ p n utf8 h refl (lit< tt) e)
    (λ e. cc))))

joined_boundary : (word : List ℕ) (o : Option Purpose) (rest : WordClass) (p : Purpose) (n : ℕ) → (o ≡ Some p → IsCharBoundary word 2) → (rest ≡ Joined p n → IsCharBoundary word n) → option_map_or (λ purpose. Joined purpose 2) o rest ≡ Joined p n → IsCharBoundary word n
joined_boundary word (Some q) rest p n short long e =
    let two : 2 ≡ n = cc in
    let it : q ≡ p = cc in
    subst (λ m. IsCharBoundary word m) two (short (let P : Purpose → Type 0 = λ r. Some q ≡ Some r in subst P it refl))
joined_boundary word None rest p n short long e = long e

not_taken : (o : Option Purpose) (rest : WordClass) (p : Purpose) (n : ℕ) → option_map_or (λ purpose. Takes purpose) o rest ≡ Joined p n → rest ≡ Joined p n
not_taken (Some q) rest p n e = cc
not_taken None rest p n e = e

-- a word may be cut where its option's text begins
pub class_boundary : (word : List ℕ) (p : Purpose) (n : ℕ) → class_of word ≡ Joined p n → IsUtf8 word → IsCharBoundary word n
unfolding class_of
class_boundary word p n e utf8 =
    joined_boundary word (short_purpose word) (long_class word) p n (short_boundary word p utf8) (long_boundary word p n utf8)
    (not_taken (next_purpose word) (joined_class word) p n e)
