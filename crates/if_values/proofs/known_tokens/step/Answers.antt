use Rattle.std.proofs.Common.{◌≡◌, ◌<◌, ◌∙◌, List, ◌∷◌, length, drop, get_or, true, sym, ap}
use Rattle.std.specs.Option.{option_map}
use Rattle.std.specs.Prelude.{Bool, Option, Some}
use Rattle.scan_model.specs.declared.token.Tok.{Tok}
use Rattle.scan_model.specs.HeaderName.{is_has, has_name}
use Rattle.scan_model.specs.declared.command.Form.{Form}
use Rattle.if_values.specs.Names.{shape}
use Rattle.if_values.specs.Known.{HasEntries, known}
use Rattle.if_values.proofs.KnownLemmas.{PassesHas, known-plain, known-has, known-bad}
use Rattle.if_values.proofs.known_tokens.step.Goals as goal

pub unreachable-requires : goal.unreachable-requires
unreachable-requires c =
    known-bad c.args.toks.now c.index-toks-0.result c.args.has.now c.requires.some c.index-toks-0.is (sym c.if-not-is_has.ensures)
    (c.in-None.ensures.value ∙ ap (λ (ts : List Tok). option_map shape (has_name ts)) c.split_at.ensures.back) c.requires.entries

pub returns-then-not-is_has-clause-known : goal.returns-then-not-is_has-clause-known
returns-then-not-is_has-clause-known c =
    (known-plain c.args.toks.now c.index-toks-0.result c.args.has.now c.requires.some c.index-toks-0.is (sym c.if-not-is_has.ensures) c.requires.entries).0
    ∙ ap (λ (ts : List Tok). c.index-toks-0.result ∷ known ts c.args.has.now) (sym c.split_at.ensures.back)

pub returns-then-not-is_has-clause-entries : goal.returns-then-not-is_has-clause-entries
returns-then-not-is_has-clause-entries c =
    rw c.split_at.ensures.back (known-plain c.args.toks.now c.index-toks-0.result c.args.has.now c.requires.some c.index-toks-0.is (sym c.if-not-is_has.ensures) c.requires.entries).1

passes : (toks rest : List Tok) (t : Tok) (form : Form) (after : List Tok) (has : List Bool) → 0 < length toks → HasEntries toks has → t ≡ get_or toks 0 t → is_has t ≡ true → rest ≡ drop 1 toks → ◌≡◌ {A = Option (Form × List Tok)} (Some (form, after)) (option_map shape (has_name rest)) → PassesHas toks after has
passes toks rest t form after has p h e f r g = let k : ◌≡◌ {A = Option (Form × List Tok)} (Some (form, after)) (option_map shape (has_name (drop 1 toks))) = rw r at g in known-has toks t form after has p e f k h

pub first_entry-known-requires : goal.first_entry-known-requires
first_entry-known-requires c =
    (passes c.args.toks.now c.split_at.result.1.now c.index-toks-0.result c.in-Some.name.form c.in-Some.name.after.now c.args.has.now c.requires.some c.requires.entries c.index-toks-0.is (sym c.if-not-is_has.ensures) c.split_at.ensures.back c.in-Some.ensures.value).entry

pub split_at-requires-in-Some-2 : goal.split_at-requires-in-Some-2
split_at-requires-in-Some-2 c =
    (passes c.args.toks.now c.split_at.result.1.now c.index-toks-0.result c.in-Some.name.form c.in-Some.name.after.now c.args.has.now c.requires.some c.requires.entries c.index-toks-0.is (sym c.if-not-is_has.ensures) c.split_at.ensures.back c.in-Some.ensures.value).entry

pub returns-clause-known : goal.returns-clause-known
returns-clause-known c =
    let all = passes c.args.toks.now c.split_at.result.1.now c.index-toks-0.result c.in-Some.name.form c.in-Some.name.after.now c.args.has.now c.requires.some c.requires.entries c.index-toks-0.is (sym c.if-not-is_has.ensures) c.split_at.ensures.back c.in-Some.ensures.value in
    rw (c.first_entry-known.ensures, c.split_at-in-Some.ensures.back, c.split_at-in-Some-2.ensures.back) all.known_is

pub returns-clause-entries : goal.returns-clause-entries
returns-clause-entries c =
    let all = passes c.args.toks.now c.split_at.result.1.now c.index-toks-0.result c.in-Some.name.form c.in-Some.name.after.now c.args.has.now c.requires.some c.requires.entries c.index-toks-0.is (sym c.if-not-is_has.ensures) c.split_at.ensures.back c.in-Some.ensures.value in
    rw (c.split_at-in-Some.ensures.back, c.split_at-in-Some-2.ensures.back) all.entries
