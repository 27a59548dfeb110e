use Rattle.reducer.specs.Answers.{content_of}
use Rattle.shared_cache.specs.Callers.{seen_by}
use Rattle.worker.proofs.Seeing.{memo_further, memo_more}
use Rattle.worker.proofs.asking.ask.Goals as goal

pub returns-in_err-answer-clause-memo : goal.returns-in_err-answer-clause-memo
returns-in_err-answer-clause-memo g c = memo_further (seen_by c.args.passes.now) (seen_by c.look_until_done.new.passes) c.args.memo.now c.look_until_done.ensures.goes.further c.requires.memo

pub returns-clause-memo : goal.returns-clause-memo
returns-clause-memo g c =
    let seen = seen_by c.look_until_done.new.passes in
    memo_more seen c.args.memo.now c.add.new.self c.args.path.now (content_of c.in_ok-answer.answer) (memo_further (seen_by c.args.passes.now) seen c.args.memo.now c.look_until_done.ensures.goes.further c.requires.memo)
    c.in_ok-answer.ensures.seen c.add.ensures
