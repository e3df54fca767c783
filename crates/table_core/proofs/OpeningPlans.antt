-- A plan that opens a grant does what the notes of its opening do.
use Rattle.std.proofs.Common.{ℕ, zero, suc, ◌≡◌, ◌≤◌, ◌<◌, ◌+◌, ◌*◌, ◌^◌, Bool, true, false, List, [], ◌∷◌, ◌++◌, length, map, refl, sym, ◌∙◌, ap, subst, arith, append-nil, None}
use Rattle.std.specs.Prelude.{is_some, if◌then◌else◌, ◌==◌}
use Rattle.std.specs.Global.{Box}
use Rattle.std.specs.List.{All, flat_map}
use Rattle.std.specs.Option.{option_to_list}
use Rattle.std.proofs.lemmas.Bool.Decides.{nat_tests}
use Rattle.gnap_model.specs.Common.{Text, some_if}
use Rattle.gnap_model.specs.Limits.{wait}
use Rattle.gnap_model.specs.Notes.{note_values}
use Rattle.gnap_model.specs.Standing.{is_opening}
use Rattle.gnap_model.specs.Actions.{Supply, outcome_of, drawn_value, round_for, terms_for, tokens_for, instance_of}
use Rattle.gnap_model.specs.Actions.Action.{OpenAtOnce, OpenAsking}
use Rattle.gnap_model.specs.declared.objects.GrantRequest.{GrantRequest}
use Rattle.gnap_model.specs.declared.objects.Modes.{Modes}
use Rattle.gnap_model.specs.declared.calls.Reply.{Reply}
use Rattle.gnap_model.specs.declared.notes.OpeningNote.{OpeningNote}
use Rattle.gnap_model.specs.declared.notes.Note.{Note}
use Rattle.gnap_model.specs.declared.notes.Note.TheVariants.{Opened, Terms, Approved}
use Rattle.gnap_laws.proofs.NoteCounts.{grant_skipped, pend_skipped}
use Rattle.gnap_laws.proofs.Serials.{grant_values, pend_values}
use Rattle.gnap_tables.specs.declared.rows.GrantRow.{GrantRow}
use Rattle.gnap_tables.specs.declared.rows.TokenRow.{TokenRow}
use Rattle.gnap_tables.specs.Tables.{new_grant, new_token, with_door, with_round, with_terms}
use Rattle.table_laws.proofs.NotesAsOneChange.{IsFree, opened_at_once, opened_asking}
use Rattle.table_core.specs.CallEffects.{tables_in}
use Rattle.table_core.specs.Entries.{supply, tables}
use Rattle.table_core.specs.Plans.{Plans, rows_in, RiseFrom}
use Rattle.table_core.specs.Askings.{begun_round, asking_reply, asking_values}
use Rattle.table_core.specs.declared.entering.Entering.{Entering}
use Rattle.table_core.specs.declared.entering.TableChange.TheVariants.{Open}
use Rattle.table_core.proofs.PlanLemmas.{drawn_at, tokens_rise, values_granted, skips}

-- no row has a number that is greater than all
pub next_free : (number : ℕ) (rows : List GrantRow) → All (λ (row : GrantRow). row.number < number) rows → IsFree number rows
next_free number [] below = refl
next_free number (r ∷ rs) below =
    let first = below zero r (omega arith) in
    let other : (number == r.number) ≡ false = grind (arith, nat_tests, first) in
    rw other (next_free number rs (λ k d inside. below (suc k) d (omega arith)))

-- the row of a grant that was just opened
abbrev pub opened_row : OpeningNote → GrantRequest → Text → ℕ → GrantRow
opened_row o request door earliest = with_door door earliest (with_terms (terms_for o request) (new_grant o))

pub at_once_is : (entering : Entering) (o : OpeningNote) (request : GrantRequest) (count : ℕ) (reply : Reply) (row : Box GrantRow) (door : Text)
    (boxes : List (Box TokenRow))
    → o.grant ≡ entering.next → All (λ (r : GrantRow). r.number < entering.next) (tables entering).grants → count ≡ length request.asks
    → length request.asks ≤ 8 → entering.supply.first < 2 ^ 63
    → reply ≡ (outcome_of (supply entering) (OpenAtOnce o request)).reply → row.value ≡ opened_row o request door (entering.supply.moment + wait)
    → door ≡ drawn_value (supply entering) (2 * count) → rows_in boxes ≡ map new_token (tokens_for (supply entering) o request.asks 0)
    → Plans entering (OpenAtOnce o request) (record { reply = reply; drawn = 2 * count + 1; change = Open row (entering.supply.first + 2 * count) boxes })
at_once_is entering o request count reply row door boxes number below counted few small says is drawn rows =
    let s : Supply = supply entering in
    let before : List Note = Opened o ∷ Terms (terms_for o request) ∷ Approved o.grant [] ∷ [] in
    let v : Text = drawn_value s (2 * length request.asks) in
    let at : door ≡ v = drawn ∙ ap (λ n. drawn_value s (2 * n)) counted in
    let free : IsFree o.grant (tables entering).grants = subst (λ n. IsFree n (tables entering).grants) (sym number)
    (next_free entering.next (tables entering).grants below) in
    let here : row.value ≡ opened_row o request v (entering.supply.moment + wait) = is
    ∙ ap (λ (d : Text). opened_row o request d (entering.supply.moment + wait)) at in
    record {
      reply = says;
      change = ap (λ (r : GrantRow). tables_in ((tables entering).grants ++ r ∷ []) ((tables entering).tokens ++ rows_in boxes)) here
          ∙ ap (λ (ts : List TokenRow). tables_in ((tables entering).grants ++ opened_row o request v (entering.supply.moment + wait) ∷ [])
          ((tables entering).tokens ++ ts)) rows
          ∙ sym (opened_at_once o (terms_for o request) (tokens_for s o request.asks 0) v (entering.supply.moment + wait) (tables entering).grants
          (tables entering).tokens free refl);
      opened = sym (grant_skipped is_opening s o before request.asks request.single None (instance_of o) skips);
      drawn = (let e = values_granted s o before request.asks request.single None (instance_of o) (outcome_of s (OpenAtOnce o request)).notes refl
          (grant_values s o before request.asks request.single None (instance_of o) refl) in omega (arith, e, counted));
      few = omega arith;
      can = (
        ap (λ (r : GrantRow). r.number) is ∙ number,
        drawn_at entering (2 * count) (entering.supply.first + 2 * count) (2 * count + 1) row.value.door (ap (λ (r : GrantRow). r.door) is ∙ drawn) refl
            (omega arith),
        subst (RiseFrom entering.supply.first) (sym rows) (tokens_rise s o request.asks 0 entering.supply.first small (omega arith) (omega arith)),
      );
    }

-- how many values a continuation value and a round are
pub values_asked : (s : Supply) (modes : Modes) (notes : List Note)
    → flat_map note_values notes ≡ drawn_value s 0 ∷ drawn_value s 1 ∷ option_to_list (some_if (is_some modes.finish) (drawn_value s 2))
    → length (flat_map note_values notes) ≡ asking_values modes
values_asked s modes notes are = ap (length {A = Text}) are ∙ by (is_some modes.finish)
  where
    by : (b : Bool) → length (drawn_value s 0 ∷ drawn_value s 1 ∷ option_to_list (some_if b (drawn_value s 2))) ≡ (if b then 3 else 2)
    by true = refl
    by false = refl

pub asking_few : (modes : Modes) → (1 ≤ asking_values modes) × (asking_values modes ≤ 17)
asking_few modes = by (is_some modes.finish)
  where
    by : (b : Bool) → (1 ≤ (if b then 3 else 2)) × ((if b then 3 else 2) ≤ 17)
    by true = (omega arith, omega arith)
    by false = (omega arith, omega arith)

pub asking_is : (entering : Entering) (o : OpeningNote) (request : GrantRequest) (modes : Modes) (reply : Reply) (count : ℕ) (row : Box GrantRow) (door : Text)
    (boxes : List (Box TokenRow))
    → o.grant ≡ entering.next → All (λ (r : GrantRow). r.number < entering.next) (tables entering).grants
    → reply ≡ asking_reply entering door (begun_round entering o.grant o.end modes) (instance_of o) → count ≡ asking_values modes → boxes ≡ []
    → row.value ≡ with_round (begun_round entering o.grant o.end modes) (opened_row o request door (entering.supply.moment + wait))
    → door ≡ drawn_value (supply entering) 0
    → Plans entering (OpenAsking o request modes) (record { reply = reply; drawn = count; change = Open row entering.supply.first boxes })
asking_is entering o request modes reply count row door boxes number below says counted none is drawn =
    let s : Supply = supply entering in
    let before : List Note = Opened o ∷ Terms (terms_for o request) ∷ [] in
    let free : IsFree o.grant (tables entering).grants = subst (λ n. IsFree n (tables entering).grants) (sym number)
    (next_free entering.next (tables entering).grants below) in
    let few = asking_few modes in
    let here : row.value ≡ with_round (round_for s o modes) (opened_row o request (drawn_value s 0) (entering.supply.moment + wait)) =
    is ∙ ap (λ (d : Text). with_round (round_for s o modes) (opened_row o request d (entering.supply.moment + wait))) drawn in
    record {
      reply = says ∙ ap (λ (d : Text). asking_reply entering d (begun_round entering o.grant o.end modes) (instance_of o)) drawn;
      change = rw none (ap (λ (ts : List TokenRow). tables_in ((tables entering).grants ++ row.value ∷ []) ts) (append-nil (tables entering).tokens)
          ∙ ap (λ (r : GrantRow). tables_in ((tables entering).grants ++ r ∷ []) (tables entering).tokens) here
          ∙ sym (opened_asking o (terms_for o request) (round_for s o modes) (drawn_value s 0) (entering.supply.moment + wait) (tables entering).grants
          (tables entering).tokens free refl refl));
      opened = sym (pend_skipped is_opening s o before modes (instance_of o) skips);
      drawn = counted ∙ sym (values_asked s modes (outcome_of s (OpenAsking o request modes)).notes (pend_values s o before modes (instance_of o) refl));
      few = subst (λ n. n ≤ 17) (sym counted) few.1;
      can = (
        ap (λ (r : GrantRow). r.number) is ∙ number,
        drawn_at entering 0 entering.supply.first count row.value.door (ap (λ (r : GrantRow). r.door) is ∙ drawn) (omega arith)
            (let low = few.0 in omega (arith, low, counted)),
        subst (λ (ts : List (Box TokenRow)). RiseFrom entering.supply.first (rows_in ts)) (sym none) tt,
      );
    }
