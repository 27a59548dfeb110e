-- What a directive does to a unit, and to a file that it enters ([cpp]).
use Rattle.std.specs.Prelude.{ℕ, List, [], ◌∷◌, ◌++◌, Option}
use Rattle.scan_model.specs.declared.token.Line.{Line}
use Rattle.scan_model.specs.declared.unit_end.FaultKind.{FaultKind}
use Rattle.scan_model.specs.declared.unit_end.Place.{Place}
use Rattle.scan_model.specs.Stream.{ModuleLine, Sent}
use Rattle.scan_model.specs.State.{Stopped, Going, State, Reached, Faulty, Core, Cause}

-- What a directive does: it goes on; it enters a file, of this path, place in the chain and text; it sends a module or
-- import line; or it stops the unit. The first place is that of a fault of entering.
pub data Effect (X : Type 0) : Type 0 where
  Now : Core → Effect X
  Enters : Place → List ℕ → Option ℕ → X → Core → Effect X
  Sends : ModuleLine → Core → Effect X
  Halts : Cause → Core → Effect X

-- Enters a file, whose path, place in the chain and text are given, with the place of a fault of that.
abbrev pub Enter : Type 0 → Type 0
Enter X = Place → List ℕ → Option ℕ → X → State → Reached

abbrev pub halted : Cause → List (List ℕ) → State → Reached
halted cause looked s = Stopped (record { cause = cause; looked = looked; stream = s.stream })

abbrev pub done : {X : Type 0} → Enter X → State → Effect X → Reached
done enter s (Now c) = Going (record s { core = c })
done enter s (Enters place path chain_place text c) = enter place path chain_place text (record s { core = c })
done enter s (Sends line c) = Going (record s { core = c; stream = s.stream ++ Sent line ∷ [] })
done enter s (Halts cause c) = halted cause c.looked s

abbrev pub fault : FaultKind → Place → Cause
fault kind place = Faulty (record { kind = kind; place = place })

abbrev pub stop_at : {X : Type 0} → FaultKind → Place → Core → Effect X
stop_at kind place c = Halts (fault kind place) c

abbrev pub place_of : Core → Line → Place
place_of c l = record { path = c.path; line = l.line }

abbrev pub stop : {X : Type 0} → FaultKind → Core → Line → Effect X
stop kind c l = stop_at kind (place_of c l) c
