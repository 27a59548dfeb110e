-- What a plan is for those who carry it out: its commands and their number.
use Rattle.std.proofs.Common.{◌≡◌, ◌<◌, ◌≤◌, ◌+◌, ℕ, Bool, true, false, if◌then◌else◌, List, [], ◌∷◌, ◌++◌, length, get_or, take, map, All, Option, Some, None, Result, Ok, Err, subst, refl, sym, ◌∙◌, ap}
use Rattle.std.specs.Prelude.{nat_le}
use Rattle.std.proofs.lemmas.Bool.{leb-true}
use Rattle.std.proofs.lemmas.List.{length-map, map_more}
use Rattle.std.proofs.lemmas.List.Elements.{All-push}
use Rattle.std.proofs.lemmas.Slice.Zip.{AllZip-long}
use Rattle.scan_model.specs.declared.command.Job.{Job}
use Rattle.scan_model.specs.declared.command.Settings.{Settings}
use Rattle.scan_model.specs.declared.unit_end.UnitEnd.{UnitEnd}
use Rattle.scan_model.specs.Files.{FileMap}
use Rattle.serde_json.specs.Data.{Data, Items}
use Rattle.serde_json.specs.Find.{as_array}
use Rattle.compile_db.specs.declared.entry.Entry.{Entry}
use Rattle.compile_db.specs.declared.database.DbFault.{DbFault}
use Rattle.compile_db.specs.declared.database.DbFault.TheVariants.{TooMany}
use Rattle.compile_db.specs.Database.{database, entries_from, limited, max_entries, of_items, of_value, value_of}
use Rattle.scan_model.specs.Fits.{JobFits}
use Rattle.command_words.specs.Jobs.{job_of}
use Rattle.shard_cache.specs.Ends.{AreEnds, IsEnd}
use Rattle.scanner.specs.declared.verdict.Manner.{Manner}
use Rattle.scanner.specs.Verdict.{MannerFits, PlanFits}

-- ## The number of commands

within : (b : Bool) (found entries : List Entry) → nat_le (length found) max_entries ≡ b → (if b then Ok found else Err (TooMany (length found))) ≡ Ok entries → length entries ≤ max_entries
within true found entries passed e =
    let same : found ≡ entries = cc in
    subst (λ (es : List Entry). length es ≤ max_entries) same (leb-true (length found) max_entries passed)
within false found entries passed e = cc

limited_few : (found : Result (List Entry) DbFault) (entries : List Entry) → limited found ≡ Ok entries → length entries ≤ max_entries
limited_few (Ok found) entries e = within (nat_le (length found) max_entries) found entries refl e
limited_few (Err fault) entries e = cc

items_few : (items : Option Items) (entries : List Entry) → of_items items ≡ Ok entries → length entries ≤ max_entries
items_few None entries e = cc
items_few (Some ds) entries e = limited_few (entries_from 1 ds) entries e

value_few : (value : Option Data) (entries : List Entry) → of_value value ≡ Ok entries → length entries ≤ max_entries
value_few None entries e = cc
value_few (Some d) entries e = items_few (as_array d) entries e

few_entries : (text : List ℕ) (entries : List Entry) → database text ≡ Ok entries → length entries ≤ max_entries
unfolding database
few_entries text entries e = value_few (value_of text) entries e

-- the plan of a database fits
pub PlanFits-of : (text : List ℕ) (entries : List Entry) (jobs : List Job) (manner : Manner) → Ok entries ≡ database text → jobs ≡ map (λ entry. job_of entry) entries → All JobFits jobs → MannerFits manner
    → PlanFits (record { jobs = jobs; manner = manner })
PlanFits-of text entries jobs manner read made fit fits = record {
  jobs = fit;
  manner = fits;
  few = subst (λ n. n ≤ max_entries) (sym (ap (λ js. length js) made ∙ length-map entries (λ entry. job_of entry))) (few_entries text entries (sym read));
}

-- ## The commands, entry by entry

-- the jobs are those of the first entries
pub record JobsSoFar (entries : List Entry) (count : ℕ) (jobs : List Job) : Type 0 where
  pub made : jobs ≡ map (λ entry. job_of entry) (take count entries)
  pub fit : All JobFits jobs

pub JobsSoFar-more : (entries : List Entry) (count : ℕ) (entry : Entry) (job : Job) (jobs more : List Job) → count < length entries → entry ≡ get_or entries count entry → job ≡ job_of entry → JobFits job
    → more ≡ jobs ++ job ∷ [] → JobsSoFar entries count jobs → JobsSoFar entries (count + 1) more
JobsSoFar-more entries count entry job jobs more inside here is fits added so_far = record {
  made = added ∙ (ap (λ js. js ++ job ∷ []) so_far.made ∙ (ap (λ j. map (λ e. job_of e) (take count entries) ++ j ∷ []) (is ∙ ap (λ e. job_of e) here) ∙ sym (map_more (λ e. job_of e) entries count entry inside)));
  fit = subst (All JobFits) (sym added) (All-push JobFits jobs job so_far.fit fits);
}

-- ## The number of ends

-- there are as many ends as commands, which are few
pub few_ends : (files : FileMap (List ℕ)) (settings : Settings) (jobs : List Job) (ends : List UnitEnd) → AreEnds files settings jobs ends → length jobs ≤ max_entries → length ends ≤ max_entries
few_ends files settings jobs ends are few = subst (λ n. n ≤ max_entries) (sym (AllZip-long (IsEnd files settings) jobs ends are)) few
