-- Files looked for by a directive ([cpp.include]).
use Rattle.std.specs.Prelude.{ℕ, Bool, true, false, List, ◌++◌, Option, Some, None}
use Rattle.scan_model.specs.declared.unit_end.Place.{Place}
use Rattle.scan_model.specs.declared.unit_end.FaultKind.TheVariants as FaultIs
use Rattle.scan_model.specs.declared.command.Form.{Form}
use Rattle.scan_model.specs.declared.command.Form.TheVariants.{Next}
use Rattle.scan_model.specs.HeaderName.{Named}
use Rattle.scan_model.specs.Candidates.{candidates, placed, place_in}
use Rattle.scan_model.specs.Files.{Present, Absent, Failed, Big, NoMemory, FileMap, Found, At, Unread, Nowhere, find, looked_at}
use Rattle.scan_model.specs.State.{Setup, Core, OutOfMemory, Needs}
use Rattle.scan_model.specs.Effect.{Effect, Halts, stop_at}

-- what the found path makes of the state, which has looked: a file's text, or none where all are absent
abbrev pub on_found : {X : Type 0} → Place → Core → (Core → Effect X) → (List ℕ → X → Core → Effect X) → Found X → Effect X
on_found place c absent present Nowhere = absent c
on_found place c absent present (Unread path) = Halts (Needs path) c
on_found place c absent present (At path (Present text)) = present path text c
on_found place c absent present (At path Absent) = absent c
on_found place c absent present (At path Failed) = stop_at FaultIs.ReadFault place c
on_found place c absent present (At path Big) = stop_at FaultIs.FileTooLarge place c
on_found place c absent present (At path NoMemory) = Halts OutOfMemory c

abbrev pub with_found : {X : Type 0} → FileMap X → Place → List (List ℕ) → Core → (Core → Effect X) → (List ℕ → X → Core → Effect X) → Effect X
with_found files place paths c absent present =
    on_found place (record c { looked = c.looked ++ looked_at files paths }) absent present (find files paths)

abbrev pub searched : Setup → Named → List ℕ → List (List ℕ)
searched setup n from = candidates setup.command.search setup.settings.program n.form from n.name

-- the place in the chain of the file that is found so at this path
abbrev pub place_searched : Setup → Named → List ℕ → List ℕ → Option ℕ
place_searched setup n from path = place_in (placed setup.command.search setup.settings.program n.form from n.name) path

-- The form by which a name is looked for. With `next` that is from the current file's place in the chain on, where it
-- has one, whichever form is written.
abbrev pub search_form : Bool → Option ℕ → Form → Form
search_form false chain_place form = form
search_form true None form = form
search_form true (Some n) form = Next n
