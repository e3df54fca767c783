-- Replies of three kinds, counted.
use Rattle.std.specs.Prelude.{◌≡◌, ℕ, ◌+◌, List, [], ◌∷◌}
use Rattle.gnap_model.specs.declared.calls.Reply.{Reply}
use Rattle.gnap_model.specs.declared.calls.Reply.TheVariants.{Active, Inactive, Done}
use Rattle.grant_machine.specs.Gnap.{GnapEntry}
use Rattle.desk_load.specs.declared.tally.Tally.{Tally}

abbrev pub one_if_active : Reply → ℕ
one_if_active (Active access iat exp instance bearer) = 1
one_if_active _ = 0

abbrev pub one_if_inactive : Reply → ℕ
one_if_inactive Inactive = 1
one_if_inactive _ = 0

abbrev pub one_if_done : Reply → ℕ
one_if_done Done = 1
one_if_done _ = 0

-- what the replies of a history's entries count together
abbrev pub count_by : (Reply → ℕ) → List GnapEntry → ℕ
count_by one [] = 0
count_by one (e ∷ h) = one e.reply + count_by one h

abbrev pub none_counted : Tally
none_counted = record { active = 0; inactive = 0; done = 0 }

-- all that was counted
abbrev pub counted_in : Tally → ℕ
counted_in t = t.active + t.inactive + t.done

abbrev pub tally_of_reply : Reply → Tally
tally_of_reply reply = record { active = one_if_active reply; inactive = one_if_inactive reply; done = one_if_done reply }

-- the tally of all replies of a history's entries
abbrev pub tally_of : List GnapEntry → Tally
tally_of h = record { active = count_by one_if_active h; inactive = count_by one_if_inactive h; done = count_by one_if_done h }

-- so much was counted in addition
pub record Adds (more before after : Tally) : Type 0 where
  pub active : after.active ≡ before.active + more.active
  pub inactive : after.inactive ≡ before.inactive + more.inactive
  pub done : after.done ≡ before.done + more.done

-- tallies added up
abbrev pub sum_by_tally : (Tally → ℕ) → List Tally → ℕ
sum_by_tally field [] = 0
sum_by_tally field (t ∷ ts) = field t + sum_by_tally field ts

abbrev pub sum_of_tallies : List Tally → Tally
sum_of_tallies ts = record {
  active = sum_by_tally (λ t. t.active) ts;
  inactive = sum_by_tally (λ t. t.inactive) ts;
  done = sum_by_tally (λ t. t.done) ts;
}
