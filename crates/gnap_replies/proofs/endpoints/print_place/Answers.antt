use Rattle.gnap_replies.proofs.endpoints.print_place.Goals as goal

pub returns-in-Ok : goal.returns-in-Ok
returns-in-Ok c p printed = rw (← c.in-Ok.ensures, ← c.as_str.ensures.value) (c.word.ensures p printed)
