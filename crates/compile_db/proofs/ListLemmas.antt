-- What is done of a list, before what is still to come.
use Rattle.std.proofs.Common.{◌≡◌, ℕ, List, [], ◌∷◌, ◌++◌, Option, option_map, Result, Ok, Err}
use Rattle.compile_db.specs.declared.entry.Entry.{Entry}
use Rattle.compile_db.specs.declared.database.DbFault.{DbFault}

-- the texts that are done, before those to come
abbrev pub done_texts : List (List ℕ) → Option (List (List ℕ)) → Option (List (List ℕ))
done_texts done later = option_map (λ texts. done ++ texts) later

-- the entries that are done, before those to come or the fault that stops them
abbrev pub done_entries : List Entry → Result (List Entry) DbFault → Result (List Entry) DbFault
done_entries done (Ok later) = Ok (done ++ later)
done_entries done (Err fault) = Err fault
