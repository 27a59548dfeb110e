use Rattle.std.proofs.Common.{◌++◌, ◌∷◌, [], ◌∙◌, ap, append_assoc}
use Rattle.file_source.proofs.TextLemmas.{one_listed}
use Rattle.file_source.proofs.plain_source.texts_of.Goals as goal

pub files-preserved : goal.files-preserved
files-preserved c =
    let i = c.files.invariant in (
      c.in-Some.file ∷ i.0,
      i.1 ∙ ap (λ l. l ++ i.0) c.in-Some.ensures.items ∙ append_assoc c.pop.new.self.items (c.in-Some.file ∷ []) i.0,
      one_listed c.in-Some.file i.0 c.files.texts.entries c.put_text.new.texts.entries c.in_ok-put_text.ensures i.2,
    )
