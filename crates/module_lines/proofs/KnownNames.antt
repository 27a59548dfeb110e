-- The names that are known, when one more is added.
use Rattle.std.proofs.Common.{◌≡◌, ℕ, Bool, List, [], ◌∷◌, ◌++◌, ap, sym, ◌∙◌}
use Rattle.std.specs.Prelude.{◌||◌}
use Rattle.std.proofs.Math.Bool.{or-false, or_assoc}
use Rattle.scan_model.specs.TokenTests.{same, is_among}
use Rattle.scan_model.specs.Expansion.{also}
use Rattle.module_lines.specs.Known.{AreKnown}

among_more : (names : List (List ℕ)) (added name : List ℕ) → is_among (names ++ added ∷ []) name ≡ (is_among names name || same added name)
among_more [] added name = or-false (same added name)
among_more (n ∷ ns) added name = ap (λ b. same n name || b) (among_more ns added name) ∙ sym (or_assoc (same n name) (is_among ns name) (same added name))

pub known_more : (names more known now : List (List ℕ)) (added : List ℕ) → AreKnown names known → is_among now ≡ also added (is_among known) → more ≡ names ++ added ∷ [] → AreKnown more now
known_more names more known now added are put is name =
    ap (λ (f : List ℕ → Bool). f name) put ∙ ap (λ b. b || same added name) (are name) ∙ sym (among_more names added name) ∙ ap (λ (ns : List (List ℕ)). is_among ns name) (sym is)
