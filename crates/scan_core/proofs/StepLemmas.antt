-- What a step ensures, by its event.
use Rattle.std.proofs.Common.{◌≡◌, ◌<◌, ℕ, List, sym, subst}
use Rattle.std.specs.Prelude.{OnOk, OnErr, Result}
use Rattle.std.specs.declared.result.Result.TheVariants.{Ok, Err}
use Rattle.scan_model.specs.Files.{Content}
use Rattle.cache_machine.specs.Steps.{act}
use Rattle.cache_machine.specs.Spending.{spend}
use Rattle.cache_machine.specs.Steps as step
use Rattle.scan_core.specs.declared.event.Event.{Event}
use Rattle.scan_core.specs.declared.event.Event.TheVariants as EventIs
use Rattle.scan_core.specs.CoreView.{CoreView}
use Rattle.scan_core.specs.CoreSteps.{Steps, after_step}
use Rattle.scan_core.specs.Events.{event_of, IsReachedCore, IsSameScan, RunsUnit, worker_in, IsSpent}

pub record Stepped {R A E : Type 0} (content : R → Content (List ℕ)) (old new : CoreView) (result : Result A E) (event : Event R) : Type 0 where
  pub ok : OnOk result (new.machine ≡ act old.jobs old.settings old.machine (event_of content event))
  pub err : OnErr result (new.machine ≡ spend old.jobs old.machine (event_of content event))
  pub runs : OnErr result (RunsUnit (event_of content event))
  pub spent : OnErr result (IsSpent new.machine (worker_in (event_of content event)))
  pub left : new.left < old.left
  pub scan : IsSameScan old new
  pub reached : IsReachedCore new

module _ {R A E : Type 0} (content : R → Content (List ℕ)) (old new : CoreView) where
  goes_well : (result : Result A E) (e : step.Event) → Steps old new (after_step result old.jobs old.settings old.machine e) → OnOk result (new.machine ≡ act old.jobs old.settings old.machine e)
  goes_well (Ok a) e h = h.machine
  goes_well (Err none) e h = tt

  lacks_memory : (result : Result A E) (e : step.Event) → Steps old new (after_step result old.jobs old.settings old.machine e) → OnErr result (new.machine ≡ spend old.jobs old.machine e)
  lacks_memory (Ok a) e h = tt
  lacks_memory (Err none) e h = h.machine

  runs_unit : (result : Result A E) (e : step.Event) → RunsUnit e → OnErr result (RunsUnit e)
  runs_unit (Ok a) e h = tt
  runs_unit (Err none) e h = h

  stepped : (result : Result A E) (event : Event R) → RunsUnit (event_of content event) → Steps old new (after_step result old.jobs old.settings old.machine (event_of content event)) →
      OnErr result (IsSpent new.machine (worker_in (event_of content event))) → Stepped content old new result event
  stepped result event runs h spent = record {
    ok = goes_well result (event_of content event) h;
    err = lacks_memory result (event_of content event) h;
    runs = runs_unit result (event_of content event) runs;
    spent = spent;
    left = h.left;
    scan = h.scan;
    reached = h.reached;
  }

  pub stepped_draw : (result : Result A E) (event : Event R) (w : ℕ) → event ≡ EventIs.Draw w → Steps old new (after_step result old.jobs old.settings old.machine (step.Draw w)) →
      OnErr result (IsSpent new.machine w) → Stepped content old new result event
  stepped_draw result event w is h spent = subst (λ z. Stepped content old new result z) (sym is) (stepped result (EventIs.Draw w) tt h spent)

  pub stepped_look : (result : Result A E) (event : Event R) (w : ℕ) → event ≡ EventIs.Look w → Steps old new (after_step result old.jobs old.settings old.machine (step.Look w)) →
      OnErr result (IsSpent new.machine w) → Stepped content old new result event
  stepped_look result event w is h spent = subst (λ z. Stepped content old new result z) (sym is) (stepped result (EventIs.Look w) tt h spent)

  pub stepped_publish : (result : Result A E) (event : Event R) (w : ℕ) → event ≡ EventIs.Publish w → Steps old new (after_step result old.jobs old.settings old.machine (step.Publish w)) →
      OnErr result (IsSpent new.machine w) → Stepped content old new result event
  stepped_publish result event w is h spent = subst (λ z. Stepped content old new result z) (sym is) (stepped result (EventIs.Publish w) tt h spent)

  -- an event that takes no memory
  went : (a : A) (event : Event R) → Steps old new (act old.jobs old.settings old.machine (event_of content event)) → Stepped {E = E} content old new (Ok a) event
  went a event h = record {
    ok = h.machine;
    err = tt;
    runs = tt;
    spent = tt;
    left = h.left;
    scan = h.scan;
    reached = h.reached;
  }

  pub stepped_read : (a : A) (event : Event R) (w : ℕ) (r : R) → event ≡ EventIs.Read w r → Steps old new (act old.jobs old.settings old.machine (step.Read w (content r))) → Stepped {E = E} content old new (Ok a) event
  stepped_read a event w r is h = subst (λ z. Stepped {E = E} content old new (Ok a) z) (sym is) (went a (EventIs.Read w r) h)

  pub stepped_end : (a : A) (event : Event R) (w : ℕ) → event ≡ EventIs.End w → Steps old new (act old.jobs old.settings old.machine (step.End w)) → Stepped {E = E} content old new (Ok a) event
  stepped_end a event w is h = subst (λ z. Stepped {E = E} content old new (Ok a) z) (sym is) (went a (EventIs.End w) h)
