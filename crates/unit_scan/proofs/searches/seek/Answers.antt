use Rattle.std.proofs.Common.{subst}
use Rattle.unit_scan.specs.declared.stage.Lookup.TheVariants.{First}
use Rattle.unit_scan.specs.Parts.{setup_of}
use Rattle.unit_scan.specs.Standing.{Seeking}
use Rattle.unit_scan.proofs.Seeking.{first_some, first_asks, asked_follows}
use Rattle.unit_scan.proofs.searches.seek.Goals as goal

pub first_path-requires : goal.first_path-requires
first_path-requires c =
    let h = subst (λ z. Seeking (setup_of c.args.scan.now) c.args.run.now z) c.in-First.is c.requires in
    h.sought

pub ask-requires : goal.ask-requires
ask-requires c =
    let h = subst (λ z. Seeking (setup_of c.args.scan.now) c.args.run.now z) c.in-First.is c.requires in
    first_some (setup_of c.args.scan.now) c.args.run.now c.in-First.first h

pub seek_named-requires : goal.seek_named-requires
seek_named-requires c = subst (λ z. Seeking (setup_of c.args.scan.now) c.args.run.now z) c.in-Named.is c.requires

pub returns-in_ok-path-in-First-clause-next : goal.returns-in_ok-path-in-First-clause-next
returns-in_ok-path-in-First-clause-next c =
    let setup = setup_of c.args.scan.now in
    let run = c.args.run.now in
    let h = subst (λ z. Seeking setup run z) c.in-First.is c.requires in
    asked_follows setup run c.ask.new.run (First c.in-First.first) c.in_ok-path-in-First.path c.ask.ensures.same (first_asks setup run c.in-First.first h c.in_ok-path-in-First.path c.in_ok-path-in-First.ensures)
    c.ask.result c.ask.ensures.asks c.ask.ensures.after c.ask.ensures.room
