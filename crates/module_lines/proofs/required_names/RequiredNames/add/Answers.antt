use Rattle.std.proofs.Common.{ap, ◌∙◌, List, ℕ, ◌++◌, ◌∷◌, []}
use Rattle.scan_model.specs.Expansion.{also}
use Rattle.scan_model.specs.TokenTests.{is_among}
use Rattle.module_lines.proofs.KnownNames.{known_more}
use Rattle.module_lines.proofs.required_names.RequiredNames.add.Goals as goal

pub invariant_of-self-2 : goal.invariant_of-self-2
invariant_of-self-2 c =
    known_more c.self.inside.names.items c.push_reserved.new.self.items c.self.inside.known c.insert.new.self c.args.name c.self.invariant
    (c.in_ok-insert.ensures.ok ∙ ap (λ s. also s (is_among c.self.inside.known)) c.as_slice-2.ensures.value)
    (c.push_reserved.ensures.items ∙ ap (λ (names : List (List ℕ)). names ++ c.args.name ∷ []) c.reserve.ensures.items)
