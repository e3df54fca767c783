-- What is counted over notes.
use Rattle.std.specs.Prelude.{ℕ, Bool, true, false, List, length, nat_lt, ◌==◌, ◌&&◌, not}
use Rattle.std.specs.List.{sum_by}
use Rattle.gnap_model.specs.Notes.{note_values}
use Rattle.gnap_model.specs.Standing.{is_live}
use Rattle.gnap_model.specs.declared.notes.Note.{Note}
use Rattle.gnap_model.specs.declared.notes.Note.TheVariants.{Issued, Opened, Pended, Finalized, Retired}

abbrev pub is_issue : Note → Bool
is_issue (Issued t) = true
is_issue _ = false

-- the values of the notes
abbrev pub value_count : List Note → ℕ
value_count notes = sum_by (λ note. length (note_values note)) notes

-- a token was issued whose end has not come
abbrev pub is_unexpired : ℕ → Note → Bool
is_unexpired now (Issued t) = nat_lt now t.until
is_unexpired now _ = false

-- a live token of another grant was issued
abbrev pub is_live_elsewhere : List Note → ℕ → ℕ → Note → Bool
is_live_elsewhere trail now grant (Issued t) = is_live trail now t && not (t.grant == grant)
is_live_elsewhere trail now grant _ = false

-- the note ends no grant and no token and makes no grant pending, and a grant that it opens has not come to its end
abbrev pub lets_go_on : ℕ → Note → Bool
lets_go_on now (Opened o) = nat_lt now o.end
lets_go_on now (Pended r) = false
lets_go_on now (Finalized g) = false
lets_go_on now (Retired serial why) = false
lets_go_on now _ = true
