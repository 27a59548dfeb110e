use Rattle.std.proofs.Common.{sym, ◌∙◌, ap, ℕ, true, cond, List}
use Rattle.scan_model.specs.TokenTests.{same}
use Rattle.substitution.specs.Places.{has_name}
use Rattle.substitution.proofs.NameLemmas.{name-added}
use Rattle.substitution.proofs.names.add_name.Goals as goal

pub returns : goal.returns
returns c = λ q.
    name-added q c.args.tok.now c.args.wanted (has_name c.args.names.now.keys q) (has_name c.insert.new.self.keys q) c.if-not-wanted.false
    (sym c.is_ident.ensures ∙ c.if-not-is_ident.false)
    (c.in_ok-insert.ensures.updates.0 (record { ref_ptr = (0, 0); now = q })
    ∙ ap (λ (name : List ℕ). cond (same name q) true (has_name c.args.names.now.keys q)) c.as_slice.ensures)
