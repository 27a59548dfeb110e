use Rattle.std.proofs.Common.{◌≡◌, IfOk, subst, sym}
use Rattle.serde_json.specs.Errors.{IsMemory}
use Rattle.serde_json.specs.View.{view}
use Rattle.compile_db.proofs.ValueLemmas.{database-array, database-no_array, database-no_json}
use Rattle.compile_db.proofs.database.read.Goals as goal

pub returns-in-Err-2 : goal.returns-in-Err-2
returns-in-Err-2 c =
    let other : IsMemory c.in-Err.error → ⊥ = λ memory. (let h = c.is_memory.ensures.1 memory in cc) in
    sym (database-no_json c.args.text.now (c.in-Err.ensures.err other))

pub returns-in-Some : goal.returns-in-Some
returns-in-Some c =
    let said = c.in-Ok.ensures.ok in
    subst (λ answered. IfOk c.limited_entries.result (λ answer. answer ≡ answered))
    (sym (database-array c.args.text.now (view c.in-Ok.value) _ said.0 said.1 (sym c.in-Some.ensures)))
    c.limited_entries.ensures

pub returns-in-None : goal.returns-in-None
returns-in-None c =
    let said = c.in-Ok.ensures.ok in
    sym (database-no_array c.args.text.now (view c.in-Ok.value) said.0 said.1 (sym c.in-None.ensures))
