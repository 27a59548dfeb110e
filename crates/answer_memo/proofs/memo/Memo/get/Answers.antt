use Rattle.answer_memo.proofs.MemoLemmas.{found}
use Rattle.answer_memo.proofs.memo.Memo.get.Goals as goal

pub returns-in-Some : goal.returns-in-Some
returns-in-Some c =
    rw (← c.self.view_is, ← c.as_slice.ensures.value) (found c.self.inside.answers.entries c.as_slice.result.now c.in-Some.answer.now c.share.result c.ok.result c.in-Some.ensures.value c.share.ensures.same c.ok.ensures.value)
