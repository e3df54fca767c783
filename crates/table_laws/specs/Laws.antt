-- The laws of the rows, for every legal history.
use Rattle.std.specs.Prelude.{◌≡◌, ℕ, ◌<◌, ◌≤◌, List, ◌++◌, length, IfSome}
use Rattle.std.specs.List.{All}
use Rattle.histories.specs.History.{Legal, notes_of, now as latest_of}
use Rattle.gnap_model.specs.Limits.{live_limit, wrong_limit}
use Rattle.gnap_model.specs.declared.objects.Setup.{Setup}
use Rattle.gnap_model.specs.declared.calls.Call.{Call}
use Rattle.gnap_model.specs.Notes.{Event}
use Rattle.gnap_model.specs.Answer.{gnap_answer}
use Rattle.gnap_model.specs.Legal.{grant_law}
use Rattle.gnap_tables.specs.declared.rows.Round.{Round}
use Rattle.gnap_tables.specs.declared.rows.GrantRow.{GrantRow}
use Rattle.gnap_tables.specs.Tables.{Tables}
use Rattle.gnap_tables.specs.RowSearches.{live_rows}
use Rattle.gnap_tables.specs.StandsFor.{kept_of, at_moment, row_answer, with_notes}

-- The answer to a call by the rows is the machine's.
abbrev pub RowsAnswer : Type 0
RowsAnswer = (rules : Setup) (h : List Event) (now : ℕ) (draw : List ℕ) (call : Call) → Legal grant_law rules h
    → row_answer rules (kept_of (notes_of h) now) draw call ≡ gnap_answer rules (notes_of h) now draw call

-- The notes of the answer change the rows as each of them says.
abbrev pub RowsChange : Type 0
RowsChange = (rules : Setup) (h : List Event) (now : ℕ) (draw : List ℕ) (call : Call) → Legal grant_law rules h
    → kept_of (notes_of h ++ (gnap_answer rules (notes_of h) now draw call).notes) now
    ≡ with_notes (gnap_answer rules (notes_of h) now draw call).notes (kept_of (notes_of h) now)

-- Time takes out what it ends.
abbrev pub RowsEnd : Type 0
RowsEnd = (rules : Setup) (h : List Event) (latest now : ℕ) → Legal grant_law rules h → latest ≤ now
    → kept_of (notes_of h) now ≡ at_moment now (kept_of (notes_of h) latest)

-- the round has fewer wrong references than end the grant
abbrev pub HasFewWrongs : GrantRow → Type 0
HasFewWrongs row = IfSome row.round (λ (round : Round). round.wrongs < wrong_limit)

-- No more rows of grants and rows of live tokens than may be live.
pub record HasFewRows (tables : Tables) (now : ℕ) : Type 0 where
  pub grants : length tables.grants ≤ live_limit
  pub tokens : length (live_rows now tables.grants tables.tokens) ≤ live_limit
  pub wrongs : All HasFewWrongs tables.grants

-- The limits hold of what is kept, at each moment from the history's greatest one on.
abbrev pub RowsKeepLimits : Type 0
RowsKeepLimits = (rules : Setup) (h : List Event) (now : ℕ) → Legal grant_law rules h → latest_of h 0 ≤ now → HasFewRows (kept_of (notes_of h) now).tables now
