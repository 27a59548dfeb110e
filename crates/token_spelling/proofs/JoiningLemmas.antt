-- Two tokens joined, by the kind of their joined spelling.
use Rattle.std.proofs.Common.{◌≡◌, ℕ, Bool, true, false, cond, List, ◌++◌, refl, ap, sym, ◌∙◌, Option, Some, None}
use Rattle.scan_model.specs.declared.token.Kind.{Kind}
use Rattle.scan_model.specs.declared.token.Tok.{Tok}
use Rattle.scan_model.specs.Tokens.{kind_of}
use Rattle.scan_model.specs.Paste.{is_one_token, paste}

-- the token of a joined spelling, or none
unfoldable token_of : Tok → List ℕ → Option Tok
token_of left s = cond (is_one_token s) (Some (record left { kind = kind_of s; text = s })) None

paste_is : (left right : Tok) (s : List ℕ) → s ≡ left.text ++ right.text → paste left right ≡ token_of left s
unfolding paste token_of
paste_is left right s e = ap (token_of left) (sym e)

pub paste_some : (left right : Tok) (s : List ℕ) (kind : Kind) → s ≡ left.text ++ right.text → cond (is_one_token s) (Some (kind_of s)) None ≡ Some kind
    → paste left right ≡ Some (record left { kind = kind; text = s })
unfolding token_of
paste_some left right s kind e h = paste_is left right s e ∙ by_kind (is_one_token s) h where
  by_kind : (b : Bool) → cond b (Some (kind_of s)) None ≡ Some kind → cond b (Some (record left { kind = kind_of s; text = s })) None ≡ Some (record left { kind = kind; text = s })
  by_kind true h = let same : kind_of s ≡ kind = cc in ap (λ k. Some (record left { kind = k; text = s })) same
  by_kind false h = cc

pub paste_none : (left right : Tok) (s : List ℕ) → s ≡ left.text ++ right.text → cond (is_one_token s) (Some (kind_of s)) None ≡ None → paste left right ≡ None
unfolding token_of
paste_none left right s e h = paste_is left right s e ∙ by_kind (is_one_token s) h where
  by_kind : (b : Bool) → cond b (Some (kind_of s)) None ≡ None → cond b (Some (record left { kind = kind_of s; text = s })) None ≡ None
  by_kind true h = cc
  by_kind false h = refl
