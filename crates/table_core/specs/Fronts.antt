-- What the consent front is told of interactions, from the rows.
use Rattle.std.specs.Prelude.{option_map}
use Rattle.std.specs.declared.option.Option.{Option}
use Rattle.gnap_model.specs.Asked.{asked_rights}
use Rattle.gnap_model.specs.Front.{decide_on}
use Rattle.gnap_model.specs.Actions.{Action, on_found}
use Rattle.gnap_model.specs.Actions.Action.{ShowRound, ShowHandle}
use Rattle.gnap_model.specs.declared.objects.DecideRequest.{DecideRequest}
use Rattle.gnap_model.specs.declared.objects.ErrorCode.TheVariants.{UnknownInteraction}
use Rattle.gnap_tables.specs.declared.rows.GrantRow.{GrantRow}
use Rattle.gnap_tables.specs.declared.rows.Round.{Round}
use Rattle.gnap_tables.specs.RowSearches.{Interaction, opening_of, terms_of_row, round_of}

-- the interaction of the row's round
abbrev pub interaction_of : GrantRow → Option Interaction
interaction_of row = option_map (λ (round : Round). record { row = row; round = round_of row.number round }) row.round

-- what is done with an interaction
abbrev pub show_round : Option Interaction → Action
show_round found = on_found UnknownInteraction (λ (i : Interaction). ShowRound i.round (terms_of_row i.row) (opening_of i.row)) found

abbrev pub show_handle : Option Interaction → Action
show_handle found = on_found UnknownInteraction (λ (i : Interaction). ShowHandle i.round) found

abbrev pub take_decision : DecideRequest → Option Interaction → Action
take_decision request found = on_found UnknownInteraction (λ (i : Interaction). decide_on request i.round (asked_rights i.row.asks)) found
