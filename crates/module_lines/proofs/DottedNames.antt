-- How a dotted name goes on.
use Rattle.std.proofs.Common.{◌≡◌, ℕ, true, List, [], ◌∷◌, ◌++◌, ◌∙◌, drop, get_or, ap, append_assoc}
use Rattle.std.specs.Prelude.{Some}
use Rattle.scan_model.specs.declared.token.Tok.{Tok}
use Rattle.scan_model.specs.ModuleLines.{Dotted, dotted, dotted_rest, after_text}
use Rattle.module_lines.specs.Further.{has_further}
use Rattle.scan_model.specs.Utf8Names.{HasUtf8Name, HaveUtf8Names}
use Rattle.std.proofs.lemmas.List.Elements.{All-drop}

-- a further identifier is part of the name
dotted-further : (name : List ℕ) (ts : List Tok) (t : Tok) → has_further ts ≡ true → after_text (name ++ 46 ∷ (get_or ts 1 t).text) (dotted_rest (drop 2 ts)) ≡ after_text name (dotted_rest ts)
dotted-further name [] t h = cc
dotted-further name (d ∷ []) t h = cc
dotted-further name (d ∷ u ∷ ts) t h =
    rw h (ap (λ n. let made : Dotted = record { name = n; after = (dotted_rest ts).after } in made) (append_assoc name (46 ∷ u.text) (dotted_rest ts).name))

-- one more identifier, as the loop reads it
pub further-step : (toks after rest : List Tok) (name longer : List ℕ) (t : Tok) → has_further after ≡ true → rest ≡ drop 2 after → longer ≡ name ++ 46 ∷ (get_or after 1 t).text → Some (after_text name (dotted_rest after)) ≡ dotted toks → Some (after_text longer (dotted_rest rest)) ≡ dotted toks
further-step toks after rest name longer t h r l k = rw (r, l) (ap (λ (d : Dotted). Some d) (dotted-further name after t h) ∙ k)

pub HaveUtf8Names-rest : (after rest : List Tok) → rest ≡ drop 2 after → HaveUtf8Names after → HaveUtf8Names rest
HaveUtf8Names-rest after rest r p = rw r (All-drop HasUtf8Name 2 after p)
