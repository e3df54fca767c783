-- A plan for a modification does what the notes of the modification do.
use Rattle.std.proofs.Common.{ℕ, ◌≡◌, ◌≤◌, ◌<◌, ◌+◌, ◌*◌, ◌^◌, List, [], ◌∷◌, ◌++◌, length, map, refl, sym, ◌∙◌, ap, subst, arith, append_assoc, true, Some, None}
use Rattle.gnap_model.specs.Common.{Text}
use Rattle.gnap_model.specs.Limits.{wait}
use Rattle.gnap_model.specs.Standing.{is_opening}
use Rattle.gnap_model.specs.Actions.{Supply, outcome_of, drawn_value, round_for, terms_for, tokens_for, retire}
use Rattle.gnap_model.specs.Actions.Action.{ModifyAtOnce, ModifyAsking}
use Rattle.gnap_model.specs.declared.rights.Right.{Right}
use Rattle.gnap_model.specs.declared.objects.Ask.{Ask}
use Rattle.gnap_model.specs.declared.objects.GrantRequest.{GrantRequest}
use Rattle.gnap_model.specs.declared.objects.Modes.{Modes}
use Rattle.gnap_model.specs.declared.calls.Reply.{Reply}
use Rattle.gnap_model.specs.declared.notes.OpeningNote.{OpeningNote}
use Rattle.gnap_model.specs.declared.notes.TermsNote.{TermsNote}
use Rattle.gnap_model.specs.declared.notes.TokenNote.{TokenNote}
use Rattle.gnap_model.specs.declared.notes.Note.{Note}
use Rattle.gnap_model.specs.declared.notes.Note.TheVariants.{Terms, Approved, Door, Issued, Pended}
use Rattle.gnap_laws.proofs.NoteCounts.{grant_skipped, pend_skipped, retire_skipped}
use Rattle.gnap_laws.proofs.Serials.{grant_values, pend_values, retired_none}
use Rattle.gnap_tables.specs.declared.rows.GrantRow.{GrantRow}
use Rattle.gnap_tables.specs.declared.rows.Round.{Round}
use Rattle.gnap_tables.specs.Rows.{round_row}
use Rattle.gnap_tables.specs.declared.rows.TokenRow.{TokenRow}
use Rattle.gnap_tables.specs.Tables.{after_notes, change_grant, drop_tokens_of, new_token, with_approval, with_door, with_terms}
use Rattle.gnap_tables.specs.RowSearches.{opening_of, token_of}
use Rattle.gnap_tables.specs.ActionsByRows.{rows_of_grant}
use Rattle.table_laws.proofs.NotesAsOneChange.{HaveOneSerial, all_issued, grant_dropped}
use Rattle.token_manager.specs.Tokens.{AreTokenRows}
use Rattle.grant_states.proofs.Placed.{one_key}
use Rattle.table_core.specs.CallEffects.{tables_in}
use Rattle.table_core.specs.Entries.{supply, tables}
use Rattle.table_core.specs.Plans.{Plans, rows_in, RiseFrom, GrantsOn, granting_plan}
use Rattle.table_core.specs.Askings.{begun_round, asking_reply, asking_values}
use Rattle.table_core.specs.declared.entering.Entering.{Entering}
use Rattle.table_core.specs.declared.entering.Plan.{Plan}
use Rattle.table_core.specs.declared.entering.TableChange.TheVariants.{Pend}
use Rattle.table_core.proofs.PlanLemmas.{drawn_at, tokens_rise, values_granted, skips}
use Rattle.table_core.proofs.OpeningPlans.{values_asked, asking_few}

one_serial : (rows : List TokenRow) → AreTokenRows rows → HaveOneSerial rows
one_serial rows are a b ha hb same = one_key (λ (row : TokenRow). row.serial) rows a b are.ascending ha hb same

abbrev old_tokens : Entering → GrantRow → List TokenNote
old_tokens entering row = map token_of (rows_of_grant row.number (tables entering).tokens)

pub granted_anew : (entering : Entering) (row : GrantRow) (request : GrantRequest) (asks : List Ask) (terms : TermsNote) (consent : List Right) (plan : Plan)
    → AreTokenRows (tables entering).tokens → asks ≡ request.asks → length request.asks ≤ 8 → entering.supply.first < 2 ^ 63
    → terms ≡ terms_for (opening_of row) request → consent ≡ row.consent
    → GrantsOn entering row asks request.single None true (Some terms) consent plan
    → Plans entering (ModifyAtOnce (opening_of row) row.consent (old_tokens entering row) request) plan
granted_anew entering row request asks terms consent plan are sliced few small termed agreed made =
    let s : Supply = supply entering in
    let o : OpeningNote = opening_of row in
    let old : List TokenNote = old_tokens entering row in
    let issued : List TokenNote = tokens_for s o request.asks 0 in
    let after : List Note = Terms (terms_for o request) ∷ Approved row.number row.consent ∷ [] in
    let v : Text = drawn_value s (2 * length request.asks) in
    let last : List Note = Door row.number v (entering.supply.moment + wait) ∷ [] in
    let approved : List GrantRow = change_grant row.number (with_approval row.consent)
    (change_grant row.number (with_terms (terms_for o request)) (tables entering).grants) in
    let dropped : List TokenRow = drop_tokens_of row.number (tables entering).tokens in
    let rows : rows_in made.tokens ≡ map new_token issued = made.rows ∙ ap (λ (given : List Ask). map new_token (tokens_for s o given 0)) sliced in
    let is : plan ≡ granting_plan entering row request.asks request.single None true (Some (terms_for o request)) row.consent made.tokens = made.is
    ∙ ap (λ (given : List Ask). granting_plan entering row given request.single None true (Some terms) consent made.tokens) sliced
    ∙ ap (λ (t : TermsNote). granting_plan entering row request.asks request.single None true (Some t) consent made.tokens) termed
    ∙ ap (λ (rights : List Right). granting_plan entering row request.asks request.single None true (Some (terms_for o request)) rights made.tokens) agreed in
    subst (λ (p : Plan). Plans entering (ModifyAtOnce o row.consent old request) p) (sym is) (record {
      reply = refl;
      change = ap (λ (ts : List TokenRow). tables_in (change_grant row.number (with_door v (entering.supply.moment + wait)) approved) (dropped ++ ts)) rows
          ∙ sym (all_issued issued last approved dropped)
          ∙ sym (grant_dropped row.number (after ++ (map Issued issued ++ last)) (tables entering).grants (tables entering).tokens
          (one_serial (tables entering).tokens are))
          ∙ ap (λ (ns : List Note). after_notes ns (tables entering))
          (sym (append_assoc (retire old ++ after) (map Issued issued) last ∙ append_assoc (retire old) after (map Issued issued ++ last)));
      opened = sym (grant_skipped is_opening s o (retire old ++ after) request.asks request.single None None skips ∙ retire_skipped is_opening old after skips);
      drawn = sym (values_granted s o (retire old ++ after) request.asks request.single None None
          (outcome_of s (ModifyAtOnce o row.consent old request)).notes (retired_none old after)
          (grant_values s o (retire old ++ after) request.asks request.single None None (retired_none old after)));
      few = omega arith;
      can = (
        drawn_at entering (2 * length request.asks) (entering.supply.first + 2 * length request.asks) (2 * length request.asks + 1) v refl refl (omega arith),
        subst
            (RiseFrom entering.supply.first) (sym rows) (tokens_rise s o request.asks 0 entering.supply.first small (omega arith) (omega arith)),
      );
    })

pub asked_anew : (entering : Entering) (row : GrantRow) (request : GrantRequest) (modes : Modes) (reply : Reply) (count : ℕ) (terms : TermsNote) (round : Round)
    (door : Text)
    → AreTokenRows (tables entering).tokens → terms ≡ terms_for (opening_of row) request
    → round ≡ round_row 0 None (begun_round entering row.number row.end modes)
    → reply ≡ asking_reply entering door (begun_round entering row.number row.end modes) None → count ≡ asking_values modes → door ≡ drawn_value (supply entering) 0
    → Plans entering (ModifyAsking (opening_of row) (old_tokens entering row) request modes)
    (record { reply = reply; drawn = count; change = Pend terms round door entering.supply.first (entering.supply.moment + wait) })
asked_anew entering row request modes reply count terms round door are termed begun says counted drawn =
    let s : Supply = supply entering in
    let o : OpeningNote = opening_of row in
    let old : List TokenNote = old_tokens entering row in
    let after : List Note = Terms (terms_for o request) ∷ [] in
    let last : List Note = Door row.number (drawn_value s 0) (entering.supply.moment + wait) ∷ Pended (round_for s o modes) ∷ [] in
    let few = asking_few modes in
    record {
      reply = says ∙ ap (λ (d : Text). asking_reply entering d (begun_round entering row.number row.end modes) None) drawn;
      change = rw (drawn, termed, begun)
          (sym (grant_dropped row.number (after ++ last) (tables entering).grants (tables entering).tokens (one_serial (tables entering).tokens are))
          ∙ ap (λ (ns : List Note). after_notes ns (tables entering)) (sym (append_assoc (retire old) after last)));
      opened = sym (pend_skipped is_opening s o (retire old ++ after) modes None skips ∙ retire_skipped is_opening old after skips);
      drawn = counted ∙ sym (values_asked s modes (outcome_of s (ModifyAsking o old request modes)).notes
          (pend_values s o (retire old ++ after) modes None (retired_none old after)));
      few = subst (λ n. n ≤ 17) (sym counted) few.1;
      can = drawn_at entering 0 entering.supply.first count door drawn (omega arith) (let low = few.0 in omega (arith, low, counted));
    }
