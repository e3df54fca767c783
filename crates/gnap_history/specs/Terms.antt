-- What notes ask for is bounded.
use Rattle.std.specs.Prelude.{◌≤◌, List, length}
use Rattle.std.specs.List.{AllByRecursion}
use Rattle.gnap_model.specs.Limits.{ask_limit}
use Rattle.gnap_model.specs.declared.notes.Note.{Note}
use Rattle.gnap_model.specs.declared.notes.Note.TheVariants.{Opened, Terms, Approved, Issued, Door, Pended, DecidedAs, Finalized, Wrong, Retired}

-- terms ask for at most 8 tokens
abbrev pub AsksForFew : Note → Type 0
AsksForFew (Terms terms) = length terms.asks ≤ ask_limit
AsksForFew (Opened opening) = Unit {0}
AsksForFew (Approved grant consent) = Unit {0}
AsksForFew (Issued token) = Unit {0}
AsksForFew (Door grant value earliest) = Unit {0}
AsksForFew (Pended round) = Unit {0}
AsksForFew (DecidedAs decision) = Unit {0}
AsksForFew (Finalized grant) = Unit {0}
AsksForFew (Wrong grant) = Unit {0}
AsksForFew (Retired serial why) = Unit {0}

abbrev pub AskForFew : List Note → Type 0
AskForFew notes = AllByRecursion AsksForFew notes
