-- What an include does ([cpp.include]).
use Rattle.std.specs.Prelude.{ℕ, Bool, if◌then◌else◌, List, [], ◌∷◌, Option, Some, None}
use Rattle.std.specs.Option.{option_and_then}
use Rattle.scan_model.specs.declared.token.Kind.TheVariants.{Header}
use Rattle.scan_model.specs.declared.token.Tok.{Tok}
use Rattle.scan_model.specs.declared.token.Line.{Line}
use Rattle.scan_model.specs.declared.unit_end.Place.{Place}
use Rattle.scan_model.specs.TokenTests.{is_of}
use Rattle.scan_model.specs.HeaderName.{Named, header, nonempty, name_of}
use Rattle.scan_model.specs.Paths.{folder}
use Rattle.scan_model.specs.Files.{FileMap}
use Rattle.scan_model.specs.State.{Setup, Core}
use Rattle.scan_model.specs.Effect.{Effect, Now, Enters, stop_at, place_of, stop}
use Rattle.scan_model.specs.Replacing.{with_replaced}
use Rattle.scan_model.specs.Search.{searched, place_searched, search_form, with_found}
use Rattle.scan_model.specs.declared.expansion.Mode.TheVariants as ModeIs
use Rattle.scan_model.specs.declared.unit_end.FaultKind.TheVariants as FaultIs

-- a path that isn't in the once set is entered; `places` tells its place in the chain
abbrev pub unless_once : {X : Type 0} → Place → (List ℕ → Option ℕ) → List ℕ → X → Core → Effect X
unless_once place places path text c = if c.once path then Now c else Enters place path (places path) text c

abbrev pub include : {X : Type 0} → FileMap X → Place → List (List ℕ) → (List ℕ → Option ℕ) → Core → Effect X
include files place paths places c =
    with_found files place paths c (stop_at FaultIs.IncludeNotFound place) (unless_once place places)

abbrev pub include_by : {X : Type 0} → FileMap X → Setup → Core → Line → Named → Effect X
include_by files setup c l n =
    include files (place_of c l) (searched setup n (folder c.path)) (place_searched setup n (folder c.path)) c

-- `next` is for `#include_next`
abbrev pub include_named : {X : Type 0} → Bool → FileMap X → Setup → Core → Line → Option Named → Effect X
include_named next files setup c l None = stop FaultIs.IncludeSyntax c l
include_named next files setup c l (Some n) = include_by files setup c l (record n { form = search_form next c.chain_place n.form })

abbrev pub include_line : {X : Type 0} → Bool → FileMap X → Setup → Core → Line → List Tok → Effect X
include_line next files setup c l ts =
    let replaced = with_replaced ModeIs.Line c l ts (λ toks. include_named next files setup c l (option_and_then nonempty (name_of toks))) in
    elim ts [
      | [] ↦ replaced
      | t ∷ rest ↦ let named = include_named next files setup c l (nonempty (header t rest)) in
          if is_of Header t then named else replaced
    ]
