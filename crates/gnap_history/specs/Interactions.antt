-- By what an interaction is found (RFC 9635, section 4.1).
use Rattle.std.specs.Prelude.{ℕ, Bool, false, not, ◌&&◌, ◌==◌}
use Rattle.std.specs.declared.option.Option.{Option}
use Rattle.std.specs.declared.option.Option.TheVariants.{None}
use Rattle.gnap_model.specs.Common.{same_text, is_text, some_if}
use Rattle.gnap_model.specs.declared.notes.Note.{Note}
use Rattle.gnap_model.specs.declared.notes.Note.TheVariants.{Pended}
use Rattle.gnap_model.specs.declared.notes.RoundNote.{RoundNote}
use Rattle.gnap_history.specs.declared.live_rounds.RoundName.{RoundName}
use Rattle.gnap_history.specs.declared.live_rounds.RoundName.TheVariants.{Handle, Code}

-- the round has this handle or this user code
abbrev pub goes_by : RoundName → RoundNote → Bool
goes_by (Handle handle) round = same_text round.handle handle.now
goes_by (Code code) round = is_text code.now round.code

-- the round, where it passes the test
abbrev pub round_where : (RoundNote → Bool) → RoundNote → Option RoundNote
round_where test round = some_if (test round) round

-- the grant of which the note says that it has a round that passes the test
abbrev pub grant_in : (RoundNote → Bool) → Note → Option ℕ
grant_in test (Pended round) = some_if (test round) round.grant
grant_in test _ = None

-- another grant than this one has a round that passes the test
abbrev pub is_round_elsewhere : ℕ → (RoundNote → Bool) → Note → Bool
is_round_elsewhere grant test (Pended round) = test round && not (round.grant == grant)
is_round_elsewhere grant test _ = false
