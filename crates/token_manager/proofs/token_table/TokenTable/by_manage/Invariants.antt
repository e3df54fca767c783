use Rattle.token_manager.proofs.token_table.TokenTable.by_manage.Given as goal

-- the ledger is the blank's own
abbrev pub ghosts-find_managed_from : goal.ghosts-find_managed_from
ghosts-find_managed_from a = record { name = a.blank.name; parts = a.blank.parts }
