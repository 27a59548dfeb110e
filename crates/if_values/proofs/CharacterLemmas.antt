-- The characters of a literal, one after another.
use Rattle.std.proofs.Common.{◌≡◌, ℕ, ◌+◌, ◌<◌, ◌≤◌, ◌≢◌, zero, suc, Bool, true, false, cond, List, [], ◌∷◌, ◌++◌, length, take, drop, set, refl, ap, sym, ◌∙◌, append_assoc, arith, length-drop}
use Rattle.std.specs.Prelude.{Option, Some, None, IfSome, ◌==◌, nat_le}
use Rattle.std.specs.Option.{option_map, option_map_or, option_and_then}
use Rattle.std.proofs.lemmas.Option.{IfSome_then}
use Rattle.std.proofs.lemmas.List.{take_more_set}
use Rattle.std.specs.List.{prefix_len}
use Rattle.scan_model.specs.Spelling.{first, encoding_len}
use Rattle.scan_model.specs.Literals.{up_to_255, digits_escape, number_of, octal_len, is_hex_digit, simple_escape, escape, character, characters_up_to, char_value}
use Rattle.if_values.specs.Characters.{characters, literal_bits}
use Rattle.scan_model.specs.ConditionTree.{signed_value}

-- ---- each takes a byte at least

IfSome-cond : {X : Type 0} (P : X → Type 0) (b : Bool) (x y : Option X) → IfSome x P → IfSome y P → IfSome (cond b x y) P
IfSome-cond P true x y p q = p
IfSome-cond P false x y p q = q

IfSome-map_or : {X Y : Type 0} (P : Y → Type 0) (f : X → Option Y) (o : Option X) (d : Option Y) → ((x : X) → IfSome (f x) P) → IfSome d P → IfSome (option_map_or f o d) P
IfSome-map_or P f None d p q = q
IfSome-map_or P f (Some x) d p q = p x

-- what is left is no longer than this
abbrev Within : ℕ → ℕ × List ℕ → Type 0
Within k found = length found.1 ≤ k

within_drop : (n k : ℕ) (s : List ℕ) → length s ≤ k → length (drop n s) ≤ k
within_drop n k s h = grind (arith, length-drop {A = ℕ})

digits_within : (base n k : ℕ) (s : List ℕ) → length s ≤ k → IfSome (digits_escape base n s) (Within k)
digits_within base n k s h = let m = number_of base (take n s) in
    IfSome-cond (Within k) (n == 0) None (up_to_255 m (drop n s)) tt (IfSome-cond (Within k) (nat_le m 255) (Some (m, drop n s)) None (within_drop n k s h) tt)

escape_within : (k : ℕ) (s : List ℕ) → length s ≤ k → IfSome (escape s) (Within k)
escape_within k s h =
    IfSome-map_or (Within k) (λ c. Some (c, drop 1 s)) (simple_escape (first s)) _ (λ c. within_drop 1 k s h)
    (IfSome-cond (Within k) (first s == 120) (digits_escape 16 (prefix_len is_hex_digit (drop 1 s)) (drop 1 s)) (digits_escape 8 (octal_len s) s)
    (digits_within 16 (prefix_len is_hex_digit (drop 1 s)) k (drop 1 s) (within_drop 1 k s h)) (digits_within 8 (octal_len s) k s h))

character_within : (c : ℕ) (s : List ℕ) → IfSome (character (c ∷ s)) (Within (length s))
character_within c s = let k = length s in
    IfSome-cond (Within k) (c == 92) (escape s) _ (escape_within k s (omega arith)) (IfSome-cond (Within k) _ (Some (c, s)) None (omega arith) tt)

-- ---- any fuel that suffices gives the same

nothing : (n : ℕ) → characters_up_to n [] ≡ None
nothing zero = refl
nothing (suc n) = ap (option_map (0 ∷◌)) (nothing n)

abbrev then_more : ℕ → ℕ × List ℕ → Option (List ℕ)
then_more n found = option_map (found.0 ∷◌) (characters_up_to n found.1)

then_same : (n m : ℕ) (o : Option (ℕ × List ℕ)) → IfSome o (λ f. characters_up_to n f.1 ≡ characters_up_to m f.1) → option_and_then (then_more n) o ≡ option_and_then (then_more m) o
then_same n m None h = refl
then_same n m (Some f) h = ap (option_map (f.0 ∷◌)) h

same_fuel : (n m : ℕ) (s : List ℕ) → length s ≤ n → length s ≤ m → characters_up_to n s ≡ characters_up_to m s
same_fuel n m [] h k = nothing n ∙ sym (nothing m)
same_fuel zero m (c ∷ s) h k = absurd (omega arith)
same_fuel (suc n) zero (c ∷ s) h k = absurd (omega arith)
same_fuel (suc n) (suc m) (c ∷ s) h k =
    let further = then_same n m (character (c ∷ s)) (IfSome_then (character (c ∷ s)) (character_within c s) (λ f w. same_fuel n m f.1 (omega arith) (omega arith))) in
    ap (λ o. cond (c == 39) (cond (length (c ∷ s) == 1) (Some []) None) o) further

-- ---- one character after another

pub characters-drop : (n : ℕ) (s t : List ℕ) → t ≡ drop n s → characters_up_to (length s) t ≡ characters t
characters-drop n s t e = same_fuel (length s) (length t) t (rw e (within_drop n (length s) s (omega arith))) (omega arith)

not_quote : (s : List ℕ) → first s ≢ 39 → (first s == 39) ≡ false
not_quote s h = grind arith

characters-more : (s t : List ℕ) (v : ℕ) → first s ≢ 39 → 0 < length s → character s ≡ Some (v, t) → (characters s ≡ option_map (v ∷◌) (characters t)) × (length t < length s)
characters-more [] t v h k e = absurd (omega arith)
characters-more (c ∷ s) t v h k e =
    let within : length t ≤ length s = let w = character_within c s in rw e at w in
    (rw (not_quote (c ∷ s) h, e) (ap (option_map (v ∷◌)) (same_fuel (length s) (length t) t within (omega arith))), omega arith)

-- ---- as the loop reads them

joined : (xs : List ℕ) (v : ℕ) (o : Option (List ℕ)) → option_map (xs ++◌) (option_map (v ∷◌) o) ≡ option_map ((xs ++ v ∷ []) ++◌) o
joined xs v None = refl
joined xs v (Some cs) = ap (λ ys. Some ys) (sym (append_assoc xs (v ∷ []) cs))

pub reads-more : (text rest after bytes : List ℕ) (count v : ℕ) → characters text ≡ option_map (take count bytes ++◌) (characters rest) → first rest ≢ 39 → 0 < length rest → count < length bytes → character rest ≡ Some (v, after) → characters text ≡ option_map (take (count + 1) (set bytes count v) ++◌) (characters after)
reads-more text rest after bytes count v e h k l f =
    e ∙ (ap (option_map (take count bytes ++◌)) (characters-more rest after v h k f).0
    ∙ (joined (take count bytes) v (characters after) ∙ ap (λ ys. option_map (ys ++◌) (characters after)) (sym (take_more_set bytes count v l))))

pub reads-shorter : (rest after : List ℕ) (v : ℕ) → first rest ≢ 39 → 0 < length rest → character rest ≡ Some (v, after) → length after < length rest
reads-shorter rest after v h k f = (characters-more rest after v h k f).1

-- ---- the literal's value

either_none : {X : Type 0} (t : Bool) → ◌≡◌ {A = Option X} (cond t None None) None
either_none true = refl
either_none false = refl

literal_long : (n : ℕ) (cs : List ℕ) → 4 < length cs → literal_bits n cs ≡ None
literal_long n [] h = absurd (omega arith)
literal_long n (a ∷ []) h = absurd (omega arith)
literal_long n (a ∷ b ∷ cs) h = let e : nat_le (length (a ∷ b ∷ cs)) 4 ≡ false = grind arith in rw e (either_none (n == 0))

abbrev literal_of : ℕ → Option (List ℕ) → Option ℕ
literal_of n o = option_and_then (literal_bits n) o

literal_none : (n : ℕ) (o : Option (List ℕ)) → ((cs : List ℕ) → o ≡ Some cs → 4 < length cs) → literal_of n o ≡ None
literal_none n None h = refl
literal_none n (Some cs) h = literal_long n cs (h cs refl)

value_is : (s t : List ℕ) → t ≡ drop (encoding_len s + 1) s → char_value s ≡ option_map signed_value (literal_of (encoding_len s) (characters t))
unfolding char_value
value_is s t e = let same = characters-drop (encoding_len s + 1) s t e in
    ap (λ o. option_map signed_value (literal_of (encoding_len s) o)) (ap (characters_up_to (length s)) (sym e) ∙ same)

pub char_value-none : (s t : List ℕ) → t ≡ drop (encoding_len s + 1) s → ((cs : List ℕ) → characters t ≡ Some cs → 4 < length cs) → char_value s ≡ None
char_value-none s t e h = value_is s t e ∙ ap (option_map signed_value) (literal_none (encoding_len s) (characters t) h)

pub char_value-read : (s t cs : List ℕ) (bits : Option ℕ) → t ≡ drop (encoding_len s + 1) s → characters t ≡ Some cs → bits ≡ literal_bits (encoding_len s) cs → char_value s ≡ option_map signed_value bits
char_value-read s t cs bits e r b = value_is s t e ∙ (ap (λ o. option_map signed_value (literal_of (encoding_len s) o)) r ∙ ap (option_map signed_value) (sym b))
