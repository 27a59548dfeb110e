use Rattle.std.proofs.Common.{◌∙◌, ap, inl}
use Rattle.reducer.specs.Answers.{content_of}
use Rattle.answer_memo.specs.Memo.{entries, IsKnownFurther}
use Rattle.answer_memo.proofs.MemoLemmas.{kept_one, either_way}
use Rattle.answer_memo.proofs.memo.Memo.add.Goals as goal

pub returns : goal.returns
returns c =
    let key = c.in-Ok-from_slice.ensures.items ∙ c.as_slice.ensures.value in
    let old = c.self.inside.answers.entries in
    let new = c.insert.new.self.entries in
    rw (← c.self.view_is) (either_way {G = IsKnownFurther (entries old) c.args.path.now (content_of c.args.answer.now) (entries new)} c.insert.result c.insert.ensures.updates c.insert.ensures.err
    (λ u. kept_one c.args.path.now c.in-Ok-from_slice.key.items c.in-Ok.shared (content_of c.args.answer.now) old new key c.in-Ok.ensures.same u.1 u.3)
    (λ n. inl (ap entries n)))
