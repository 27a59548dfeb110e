use Rattle.std.proofs.Common.{◌<◌, length, sym, subst, ap, ◌∙◌}
use Rattle.unit_scan.specs.Parts.{answers_of, setup_of}
use Rattle.unit_scan.proofs.Answering.{present_told, absent_told, failed_told, big_told, no_memory_told, failed_faulty, big_faulty, no_memory_follows, log_there}
use Rattle.unit_scan.proofs.answers.on_answer.Goals as goal

pub last_outcome-requires : goal.last_outcome-requires
last_outcome-requires c =
    let h = c.requires in
    subst (λ z. 0 < length z) (sym c.deref.ensures.value) (log_there (setup_of c.args.scan.now) c.args.run.now h.0 h.1.0 h.1.1.0 h.1.1.1.last)

pub on_present-requires : goal.on_present-requires
on_present-requires c =
    let h = c.requires in
    (h.0, (h.1.0, present_told (setup_of c.args.scan.now) c.args.run.now c.args.lookup h.0 h.1.0 h.1.1.0 (c.in-Present.ensures h.0 (h.1.0, h.1.1.0) (ap answers_of c.deref.ensures.value ∙ h.1.1.1.last)) h.1.1.1))

pub on_absent-requires : goal.on_absent-requires
on_absent-requires c =
    let h = c.requires in
    (h.0, (h.1.0, absent_told (setup_of c.args.scan.now) c.args.run.now c.args.lookup h.0 h.1.0 h.1.1.0 (c.in-Absent.ensures h.0 (h.1.0, h.1.1.0) (ap answers_of c.deref.ensures.value ∙ h.1.1.1.last)) h.1.1.1))

pub faulty-requires : goal.faulty-requires
faulty-requires c =
    let h = c.requires in
    failed_faulty (setup_of c.args.scan.now) c.args.run.now c.args.lookup h.0 h.1.0
    (failed_told (setup_of c.args.scan.now) c.args.run.now c.args.lookup h.0 h.1.0 h.1.1.0 (c.in-Failed.ensures h.0 (h.1.0, h.1.1.0) (ap answers_of c.deref.ensures.value ∙ h.1.1.1.last)) h.1.1.1)

pub faulty-requires-in-Big : goal.faulty-requires-in-Big
faulty-requires-in-Big c =
    let h = c.requires in
    big_faulty (setup_of c.args.scan.now) c.args.run.now c.args.lookup h.0 h.1.0
    (big_told (setup_of c.args.scan.now) c.args.run.now c.args.lookup h.0 h.1.0 h.1.1.0 (c.in-Big.ensures h.0 (h.1.0, h.1.1.0) (ap answers_of c.deref.ensures.value ∙ h.1.1.1.last)) h.1.1.1)

pub returns-in-NoMemory-clause-next : goal.returns-in-NoMemory-clause-next
returns-in-NoMemory-clause-next c =
    let h = c.requires in
    no_memory_follows (setup_of c.args.scan.now) c.args.run.now c.args.lookup h.0 h.1.0
    (no_memory_told (setup_of c.args.scan.now) c.args.run.now c.args.lookup h.0 h.1.0 h.1.1.0 (c.in-NoMemory.ensures h.0 (h.1.0, h.1.1.0) (ap answers_of c.deref.ensures.value ∙ h.1.1.1.last)) h.1.1.1)
