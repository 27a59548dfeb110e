-- The tokens after which a header name is tried, with their spellings as bytes.
use Rattle.std.proofs.Common.{◌≡◌, ◌-◌, Bool, ◌&&◌, ◌||◌, nat_eq, List, [], ◌∷◌, refl, ap, sym, ◌∙◌, map, take, drop, length, codes}
use lib.Pointwise.{pointwise}
use Prim.Native.String.{String}
use Rattle.scan_model.specs.declared.token.Tok.{Tok}
use Rattle.scan_model.specs.Tokens.{are, wants_header}
use Rattle.pp_lexer.specs.Reads.{are_bytes}

are_is : (words : List String) (ts : List Tok) → are words ts ≡ are_bytes (map codes words) ts
are_is [] [] = refl
are_is [] (t ∷ ts) = refl
are_is (word ∷ words) [] = refl
are_is (word ∷ words) (t ∷ ts) = ap (λ b. pointwise nat_eq (codes word) t.text && b) (are_is words ts)

-- the test, of its parts
abbrev pub wanted : Bool → Bool → Bool → Bool → Bool → Bool → Bool → Bool → Bool → Bool → Bool → Bool → Bool
wanted a b m n c d e f g h i j = (a || b) || (m || n) || c || d || (((e || f) || (g || h)) && (i || j))

same : (a b m n c d e f g h i j a' b' m' n' c' d' e' f' g' h' i' j' : Bool) → a ≡ a' → b ≡ b' → m ≡ m' → n ≡ n' → c ≡ c' → d ≡ d' → e ≡ e' → f ≡ f' → g ≡ g' → h ≡ h' → i ≡ i' → j ≡ j'
    → wanted a b m n c d e f g h i j ≡ wanted a' b' m' n' c' d' e' f' g' h' i' j'
same a b m n c d e f g h i j a' b' m' n' c' d' e' f' g' h' i' j' pa pb pm pn pc pd pe pf pg ph pi pj = cc

-- the same, by what the code compares
pub wanted_is : (ts opening last : List Tok) (a b m n c d e f g h i j : Bool) → opening ≡ take 2 ts → last ≡ drop (length ts - 2) ts
    → a ≡ are_bytes (codes "#" ∷ codes "include" ∷ []) ts → b ≡ are_bytes (codes "%:" ∷ codes "include" ∷ []) ts
    → m ≡ are_bytes (codes "#" ∷ codes "include_next" ∷ []) ts → n ≡ are_bytes (codes "%:" ∷ codes "include_next" ∷ []) ts
    → c ≡ are_bytes (codes "import" ∷ []) ts → d ≡ are_bytes (codes "export" ∷ codes "import" ∷ []) ts
    → e ≡ are_bytes (codes "#" ∷ codes "if" ∷ []) opening → f ≡ are_bytes (codes "%:" ∷ codes "if" ∷ []) opening
    → g ≡ are_bytes (codes "#" ∷ codes "elif" ∷ []) opening → h ≡ are_bytes (codes "%:" ∷ codes "elif" ∷ []) opening
    → i ≡ are_bytes (codes "__has_include" ∷ codes "(" ∷ []) last → j ≡ are_bytes (codes "__has_include_next" ∷ codes "(" ∷ []) last
    → wanted a b m n c d e f g h i j ≡ wants_header ts
unfolding wants_header
wanted_is ts opening last a b m n c d e f g h i j front back pa pb pm pn pc pd pe pf pg ph pi pj =
    same a b m n c d e f g h i j _ _ _ _ _ _ _ _ _ _ _ _
    (pa ∙ sym (are_is ("#" ∷ "include" ∷ []) ts)) (pb ∙ sym (are_is ("%:" ∷ "include" ∷ []) ts))
    (pm ∙ sym (are_is ("#" ∷ "include_next" ∷ []) ts)) (pn ∙ sym (are_is ("%:" ∷ "include_next" ∷ []) ts))
    (pc ∙ sym (are_is ("import" ∷ []) ts)) (pd ∙ sym (are_is ("export" ∷ "import" ∷ []) ts))
    (pe ∙ ap (are_bytes (codes "#" ∷ codes "if" ∷ [])) front ∙ sym (are_is ("#" ∷ "if" ∷ []) (take 2 ts)))
    (pf ∙ ap (are_bytes (codes "%:" ∷ codes "if" ∷ [])) front ∙ sym (are_is ("%:" ∷ "if" ∷ []) (take 2 ts)))
    (pg ∙ ap (are_bytes (codes "#" ∷ codes "elif" ∷ [])) front ∙ sym (are_is ("#" ∷ "elif" ∷ []) (take 2 ts)))
    (ph ∙ ap (are_bytes (codes "%:" ∷ codes "elif" ∷ [])) front ∙ sym (are_is ("%:" ∷ "elif" ∷ []) (take 2 ts)))
    (pi ∙ ap (are_bytes (codes "__has_include" ∷ codes "(" ∷ [])) back ∙ sym (are_is ("__has_include" ∷ "(" ∷ []) (drop (length ts - 2) ts)))
    (pj ∙ ap (are_bytes (codes "__has_include_next" ∷ codes "(" ∷ [])) back ∙ sym (are_is ("__has_include_next" ∷ "(" ∷ []) (drop (length ts - 2) ts)))
