use Rattle.std.proofs.Common.{sym, ◌∙◌, subst}
use Rattle.indexmap.proofs.CallerLemmas.{insert_entry-new}
use Rattle.scan_core.specs.Claims.{Lacks}
use Rattle.scan_core.proofs.rows.claim.Goals as goal

pub returns-clause-ok : goal.returns-clause-ok
returns-clause-ok g c =
    let path_is = c.in_ok-key.ensures.items ∙ c.as_slice.ensures.value in
    let lacks = subst (λ z. Lacks c.args.rows.now.entries z) (sym path_is) c.requires in (
      c.len-place.ensures.len,
      record {
        key = c.in_ok-key.key;
        path_is = path_is;
        rows = c.in_ok-insert.ensures.entries ∙ insert_entry-new _ c.args.rows.now c.in_ok-key.key _ lacks;
      },
    )
