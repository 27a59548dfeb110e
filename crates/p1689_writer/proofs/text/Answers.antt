use Rattle.std.proofs.Common.{ap, ◌∙◌}
use Rattle.serde_json.specs.View.{view}
use Rattle.p1689_writer.specs.Document.{document_data}
use Rattle.p1689_writer.proofs.Whole.{document_text}
use Rattle.p1689_writer.proofs.text.Goals as goal

pub returns : goal.returns
returns c =
    let value = view c.in_ok-document.field-0 in
    let same = c.in_ok-document.ensures ∙ ap document_data c.as_slice.ensures in
    c.of_vec.ensures ∙ c.in_ok-push.ensures.items ∙ document_text c.args.ends.now c.in_ok-text.text.items value same c.in_ok-text.ensures.layout c.in_ok-text.ensures.order
