use Rattle.std.proofs.Common.{◌≡◌, ◌<◌, ◌+◌, ◌∷◌, [], length, Some, refl, ap, ◌∙◌, arith}
use Rattle.std.specs.Prelude.{slice_get}
use Rattle.std.proofs.lemmas.List.{length-append}
use Rattle.std.proofs.lemmas.Option.{slice_get_within}
use Rattle.tickets.specs.Seats.{drawn_by}
use Rattle.shared_cache.specs.Callers.{number_of, seen_by}
use Rattle.worker.specs.Shares.{ends_in}
use Rattle.worker.specs.Work.{IsLooked}
use Rattle.worker.proofs.Seeing.{memo_none, further_same, further_chain, goes_of}
use Rattle.worker.proofs.Working.{working_begins, working_more, no_more, fewer, as_many}
use Rattle.worker.proofs.drawing.work.Goals as goal

pub numbers-init : goal.numbers-init
numbers-init g c =
    let hand = c.args.hand.now in
    let seen = seen_by hand.passes in
    record {
      own = c.requires.own;
      number = refl;
      seat = c.requires.seat;
      memo = memo_none seen c.new-memo.result c.new-memo.ensures;
      further = further_same seen;
      room = c.requires.room;
      working =
          working_begins c.args.settings.now c.args.jobs.now (number_of hand.passes) (drawn_by hand.seat) seen (ends_in hand.share) c.requires.unclaimed c.requires.drawn c.requires.share;
    }

pub draw-number-requires-clause-few : goal.draw-number-requires-clause-few
draw-number-requires-clause-few g c =
    let hand = c.numbers.hand in
    let count = no_more c.args.settings.now c.args.jobs.now (number_of c.args.hand.now.passes) (drawn_by hand.seat) (seen_by hand.passes) (ends_in hand.share) c.numbers.invariant.working in
    let few = c.requires.few in
    omega arith

pub add-requires : goal.add-requires
add-requires g c =
    let hand = c.numbers.hand in
    let inside : c.draw-number.result < length c.args.jobs.now = slice_get_within c.args.jobs.now c.draw-number.result c.in-Some.job.now c.in-Some.ensures in
    let count =
    fewer c.args.settings.now c.args.jobs.now (number_of c.args.hand.now.passes) (drawn_by hand.seat) (seen_by hand.passes) (ends_in hand.share) c.draw-number.result c.numbers.invariant.working c.draw-number.ensures.later inside in
    let same = as_many c.args.settings.now c.args.jobs.now (number_of c.args.hand.now.passes) (drawn_by hand.seat) (seen_by hand.passes) (ends_in hand.share) c.numbers.invariant.working in
    let room = c.numbers.invariant.room in
    let len = hand.share.ends.ok.0 in
    omega arith

pub numbers-smaller : goal.numbers-smaller
numbers-smaller g c =
    let hand = c.numbers.hand in
    let inside : c.draw-number.result < length c.args.jobs.now = slice_get_within c.args.jobs.now c.draw-number.result c.in-Some.job.now c.in-Some.ensures in
    let count =
    fewer c.args.settings.now c.args.jobs.now (number_of c.args.hand.now.passes) (drawn_by hand.seat) (seen_by hand.passes) (ends_in hand.share) c.draw-number.result c.numbers.invariant.working c.draw-number.ensures.later inside in
    let more : length (drawn_by c.draw-number.new.seat) ≡ length (drawn_by hand.seat) + 1 = ap length c.draw-number.ensures.drawn ∙ length-append (drawn_by hand.seat) (c.draw-number.result ∷ []) in
    omega arith

pub numbers-preserved : goal.numbers-preserved
numbers-preserved g c =
    let by = number_of c.args.hand.now.passes in
    let settings = c.args.settings.now in
    let jobs = c.args.jobs.now in
    let hand = c.numbers.hand in
    let before = seen_by hand.passes in
    let now = seen_by c.end_of_job-end.new.passes in
    let number = c.draw-number.result in
    let job = c.in-Some.job.now in
    let at : slice_get jobs number ≡ Some job = c.in-Some.ensures in
    let inside : number < length jobs = slice_get_within jobs number job at in
    let goes = goes_of by (number_of hand.passes) (IsLooked settings job now) before now c.numbers.invariant.number c.end_of_job-end.ensures.goes in
    record {
      own = c.end_of_job-end.ensures.own.0;
      number = c.end_of_job-end.ensures.own.1 ∙ c.numbers.invariant.number;
      seat = c.draw-number.ensures.own;
      memo = c.end_of_job-end.ensures.memo;
      further = further_chain (seen_by c.args.hand.now.passes) before now c.numbers.invariant.further goes.further;
      room = let same = c.add.ensures.room in let room = c.numbers.invariant.room in omega arith;
      working =
          working_more settings jobs by (drawn_by hand.seat) (drawn_by c.draw-number.new.seat) before now (ends_in hand.share) (ends_in c.add.new.self) number job c.end_of_job-end.result c.numbers.invariant.working
          c.draw-number.ensures.later inside at c.end_of_job-end.ensures.end goes c.draw-number.ensures.drawn c.add.ensures.ends;
    }
