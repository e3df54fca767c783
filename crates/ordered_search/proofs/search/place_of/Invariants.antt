use Rattle.ordered_search.proofs.search.place_of.Given as goal

-- the ledger is the blank's own
abbrev pub ghosts-place_from : goal.ghosts-place_from
ghosts-place_from g a = record { name = a.blank.name; parts = a.blank.parts }
