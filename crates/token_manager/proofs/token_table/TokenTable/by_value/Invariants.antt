use Rattle.token_manager.proofs.token_table.TokenTable.by_value.Given as goal

-- the ledger is the blank's own
abbrev pub ghosts-find_from : goal.ghosts-find_from
ghosts-find_from a = record { name = a.blank.name; parts = a.blank.parts }
