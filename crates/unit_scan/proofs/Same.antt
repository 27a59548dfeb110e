-- The same unit, with other memory behind its log, and other counts of tests and candidates.
use Rattle.std.proofs.Common.{◌≡◌, ℕ, ◌<◌, ◌^◌, ap, sym, ◌∙◌, subst}
use Rattle.std.specs.Prelude.{Option}
use Rattle.std.specs.List.{AllByRecursion}
use Rattle.std.specs.Global.{Vec}
use Rattle.scan_model.specs.State.{Setup}
use Rattle.unit_steps.specs.Searches.{Search}
use Rattle.unit_steps.specs.Moments.{Moment}
use Rattle.unit_steps.specs.Stands.{Stands}
use Rattle.unit_scan.specs.declared.parts.Answered.{Answered}
use Rattle.unit_scan.specs.declared.parts.Run.{Run}
use Rattle.unit_scan.specs.declared.stage.Name.{Name}
use Rattle.unit_scan.specs.declared.stage.Purpose.{Purpose}
use Rattle.unit_scan.specs.declared.stage.Purpose.TheVariants as PurposeIs
use Rattle.unit_scan.specs.declared.stage.Lookup.{Lookup}
use Rattle.unit_scan.specs.declared.stage.Lookup.TheVariants.{First, Named as ByName}
use Rattle.unit_scan.specs.Parts.{IsFile, Sound, answers_of, frames_of, present, told, moment_of}
use Rattle.unit_scan.specs.Lookups.{IsFor, IsLookup, search_of}
use Rattle.unit_scan.specs.Standing.{search_now}

module _ (setup : Setup) (run : Run) (log : Vec Answered) (k : ℕ) (same : log.items ≡ run.log.items) where
  abbrev again : Run
  again = record run { log = log; candidates = k }

  pub told_same : told again ≡ told run
  told_same = ap answers_of same

  pub frames_again : frames_of (told again) run.stack.items ≡ frames_of (told run) run.stack.items
  frames_again = ap (λ z. frames_of z run.stack.items) told_same

  pub moment_again : (search : Option Search) → moment_of setup again search ≡ moment_of setup run search
  moment_again search = ap (λ z. let m : Moment = record (moment_of setup run search) { frames = z } in m) frames_again

  pub sound_again : Sound setup run → k < 2 ^ 64 → Sound setup again
  sound_again h small = record {
    command = h.command;
    settings = h.settings;
    files = subst (λ z. AllByRecursion (IsFile z) run.stack.items) (sym told_same) h.files;
    depth = h.depth;
    entered = h.entered;
    left = h.left;
    tests = h.tests;
    candidates = small;
  }

  pub search_again : (lookup : Lookup) → search_now setup again lookup ≡ search_now setup run lookup
  search_again lookup = ap (λ z. search_of setup (frames_of z run.stack.items) (present z run.stack.items) lookup) told_same

  pub stands_again : (search : Option Search) → Stands setup (moment_of setup run search) (told run) → Stands setup (moment_of setup again search) (told again)
  stands_again search h = subst (λ z. Stands setup (moment_of setup again search) z) (sym told_same) (subst (λ m. Stands setup m (told run)) (sym (moment_again search)) h)

  for_again : (n : Name) (purpose : Purpose) → IsFor setup run n purpose → IsFor setup again n purpose
  for_again n PurposeIs.Included h = tt
  for_again n (PurposeIs.Tested t) h = (
    record {
      taken = h.0.taken;
      within = h.0.within;
      formed = h.0.formed;
      entries = h.0.entries;
      tests = h.0.tests;
    },
    h.1 ∙ ap (λ z. (present z run.stack.items).line) (sym told_same),
  )

  pub lookup_again : (lookup : Lookup) → IsLookup setup run lookup → IsLookup setup again lookup
  lookup_again (First first) h = h
  lookup_again (ByName n purpose) h = for_again n purpose h
