use Rattle.answer_memo.proofs.MemoLemmas.{known_empty}
use Rattle.answer_memo.proofs.memo.Memo.new.Goals as goal

pub returns : goal.returns
returns c path = rw c.new.ensures.empty (known_empty path)
