use Rattle.std.proofs.Common.{sym, subst, ap, ◌∙◌}
use Rattle.unit_scan.specs.declared.stage.Blame.TheVariants as BlameIs
use Rattle.unit_scan.specs.declared.stage.Stage.TheVariants as StageIs
use Rattle.unit_scan.specs.Parts.{setup_of}
use Rattle.unit_scan.specs.Standing.{Follows, IsAbsent, blamed, stopped}
use Rattle.unit_scan.proofs.Answering.{first_absent, name_absent, next_fits, log_there}
use Rattle.unit_scan.proofs.answers.on_absent.Goals as goal

pub fault-requires-clause-files : goal.fault-requires-clause-files
fault-requires-clause-files c = c.requires.1.1.sound.files

pub fault-requires-clause-some : goal.fault-requires-clause-some
fault-requires-clause-some c = let h = c.requires in log_there (setup_of c.args.scan.now) c.args.run.now h.0 h.1.0 _ h.1.1.last

pub returns-in_ok-end-in-First-clause-next : goal.returns-in_ok-end-in-First-clause-next
returns-in_ok-end-in-First-clause-next c =
    let setup = setup_of c.args.scan.now in
    let run = c.args.run.now in
    let h = subst (λ z. IsAbsent setup run z) c.in-First.is c.requires in
    subst (λ e. Follows setup run 5 run (StageIs.Over e)) (sym (c.in_ok-end-in-First.ensures ∙ ap (λ k. stopped k (blamed setup run BlameIs.Alone)) c.missing_of.ensures))
    (first_absent setup run c.in-First.first h.0 h.1.0 h.1.1)

pub overflow_add-name : goal.overflow_add-name
overflow_add-name c =
    let h = subst (λ z. IsAbsent (setup_of c.args.scan.now) c.args.run.now z) c.in-Named.is c.requires in
    record { fits = next_fits (setup_of c.args.scan.now) c.args.run.now c.in-Named.name c.in-Named.purpose h.0 h.1.0 _ h.1.1 }

pub returns-in-Named-clause-next : goal.returns-in-Named-clause-next
returns-in-Named-clause-next c =
    let h = subst (λ z. IsAbsent (setup_of c.args.scan.now) c.args.run.now z) c.in-Named.is c.requires in
    name_absent (setup_of c.args.scan.now) c.args.run.now c.in-Named.name h.0 h.1.0 c.in-Named.purpose h.1.1
