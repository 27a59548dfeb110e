use Rattle.std.proofs.Common.{◌≡◌, [], ◌∷◌, All, length, sym, subst, arith}
use Rattle.std.proofs.lemmas.List.Elements.{All-nil, All-cons, All-append}
use Rattle.file_source.specs.declared.plain_source.PlainSource.{PlainSource}
use Rattle.made_scan.proofs.store.made_sources.Goals as goal

pub sources-preserved : goal.sources-preserved
sources-preserved g c =
    let fresh : PlainSource g.row.J.Denot g.J.Listed → Type 0 = λ source. source.asked.items ≡ [] in (
      omega (arith, c.in_ok-push.ensures.len, c.len.ensures, c.sources-test.true),
      subst (All fresh) (sym c.in_ok-push.ensures.items) (All-append fresh c.sources.sources.items (c.in_ok-new.field-0 ∷ []) c.sources.invariant.1
          (All-cons fresh c.in_ok-new.field-0 [] c.in_ok-new.ensures (All-nil fresh))),
    )
