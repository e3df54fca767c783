-- What plans come to: of each action the reply, the tables after its notes, and what they count.
use Rattle.std.proofs.Common.{ℕ, ◌≡◌, ◌≤◌, ◌<◌, ◌+◌, ◌*◌, ◌^◌, Bool, true, false, List, [], ◌∷◌, ◌++◌, length, map, refl, sym, ◌∙◌, ap, subst, arith, append-nil, length-append, Option, Some, None}
use Rattle.std.specs.Prelude.{Result, Ok, Err, IfOk, OnOk, is_some, option_map, slice_index, if◌then◌else◌, ◌==◌}
use Rattle.std.specs.Global.{Box}
use Rattle.std.specs.List.{flat_map}
use Rattle.std.specs.Option.{option_to_list}
use Rattle.bytes_and_lists.specs.declared.memory.Mem.{Mem}
use Rattle.gnap_model.specs.Common.{Text, some_if}
use Rattle.gnap_model.specs.Limits.{wait}
use Rattle.gnap_model.specs.Values.{value_text, drawn}
use Rattle.gnap_model.specs.Notes.{note_values}
use Rattle.gnap_model.specs.Standing.{is_opening}
use Rattle.gnap_model.specs.Actions.{Action, Supply, outcome_of, drawn_value, token_for, tokens_for, token_out, finish_of}
use Rattle.gnap_model.specs.Actions.Action.{LastWrongReference, RenewDoor, TakeDecision, CollectDecision}
use Rattle.gnap_model.specs.declared.rights.Right.{Right}
use Rattle.gnap_model.specs.declared.objects.Ask.{Ask}
use Rattle.gnap_model.specs.declared.objects.Finish.{Finish}
use Rattle.gnap_model.specs.declared.objects.DecideRequest.{DecideRequest}
use Rattle.gnap_model.specs.declared.objects.ErrorCode.TheVariants.{TooManyAttempts}
use Rattle.gnap_model.specs.declared.calls.Reply.{Reply}
use Rattle.gnap_model.specs.declared.calls.Reply.TheVariants.{Error, Continuing, Decided, Granted}
use Rattle.gnap_model.specs.declared.calls.FinishOut.{FinishOut}
use Rattle.gnap_model.specs.declared.notes.OpeningNote.{OpeningNote}
use Rattle.gnap_model.specs.declared.notes.TermsNote.{TermsNote}
use Rattle.gnap_model.specs.declared.notes.DecisionNote.{DecisionNote}
use Rattle.gnap_model.specs.declared.notes.Note.{Note}
use Rattle.gnap_model.specs.declared.notes.Note.TheVariants.{Approved, Door, Issued}
use Rattle.gnap_laws.proofs.NoteCounts.{SkipsCommon, grant_skipped}
use Rattle.gnap_laws.proofs.Serials.{tokens_length, grant_values}
use Rattle.gnap_tables.specs.declared.rows.GrantRow.{GrantRow}
use Rattle.gnap_tables.specs.declared.rows.TokenRow.{TokenRow}
use Rattle.gnap_tables.specs.declared.rows.Round.{Round}
use Rattle.gnap_tables.specs.Tables.{Tables, change_grant, drop_grant, drop_tokens_of, new_token, with_approval, with_door, with_wrong}
use Rattle.gnap_tables.specs.RowSearches.{opening_of, round_of, terms_of_row}
use Rattle.table_laws.proofs.NotesAsOneChange.{all_issued}
use Rattle.grant_rules.specs.Drawn.{finish_told}
use Rattle.token_manager.specs.Tokens.{IsTokenRow}
use Rattle.grant_states.specs.declared.changes.Change.TheVariants.{Decide}
use Rattle.table_core.specs.CallEffects.{ActsBy, tables_in}
use Rattle.table_core.specs.Entries.{supply, tables}
use Rattle.table_core.specs.Plans.{Plans, rows_in, carried, opened_by, IsDrawn, RiseFrom, GrantsOn, granting_plan}
use Rattle.table_core.specs.declared.answered.Answered.{Answered}
use Rattle.table_core.specs.declared.entering.Entering.{Entering}
use Rattle.table_core.specs.declared.entering.Plan.{Plan}
use Rattle.table_core.specs.declared.entering.TableChange.{TableChange}
use Rattle.table_core.specs.declared.entering.TableChange.TheVariants.{Nothing, Open, Alter, End, Renew, Pend}

-- ---- a plan that was carried out, and another name of its action

carried_acts : (entering : Entering) (action : Action) (plan : Plan) (after : Tables) (answered : Answered) → Plans entering action plan
    → answered ≡ record { reply = plan.reply; opened = opened_by plan.change; drawn = plan.drawn } → after ≡ carried plan.change (tables entering)
    → ActsBy (supply entering) action (tables entering) after answered
carried_acts entering action plan after answered plans is becomes = record {
  reply = ap (λ (a : Answered). a.reply) is ∙ plans.reply;
  tables = becomes ∙ plans.change;
  opened = ap (λ (a : Answered). a.opened) is ∙ plans.opened;
  drawn = ap (λ (a : Answered). a.drawn) is ∙ plans.drawn;
}

-- the same of what may run out of memory
pub carried_ok : (entering : Entering) (action : Action) (plan : Plan) (after : Tables) (result : Result Answered Mem) → Plans entering action plan
    → IfOk result (λ (answered : Answered). answered ≡ record { reply = plan.reply; opened = opened_by plan.change; drawn = plan.drawn })
    → OnOk result (after ≡ carried plan.change (tables entering))
    → IfOk result (ActsBy (supply entering) action (tables entering) after)
carried_ok entering action plan after (Ok answered) plans is becomes = carried_acts entering action plan after answered plans is becomes
carried_ok entering action plan after (Err e) plans is becomes = tt

opened_once : (change : TableChange) → opened_by change ≤ 1
opened_once Nothing = omega arith
opened_once (Open row serial tokens) = omega arith
opened_once (End number) = omega arith
opened_once (Alter number change) = omega arith
opened_once (Renew renewal) = omega arith
opened_once (Pend terms round door serial earliest) = omega arith

pub counted_few : (plan : Plan) (result : Result Answered Mem) → plan.drawn ≤ 17
    → IfOk result (λ (answered : Answered). answered ≡ record { reply = plan.reply; opened = opened_by plan.change; drawn = plan.drawn })
    → IfOk result (λ (answered : Answered). (answered.opened ≤ 1) × (answered.drawn ≤ 17))
counted_few plan (Ok answered) few is = rw is (opened_once plan.change, few)
counted_few plan (Err e) few is = tt

pub plan_as : (entering : Entering) (plan : Plan) (a b : Action) → a ≡ b → Plans entering a plan → Plans entering b plan
plan_as entering plan a b same plans = subst (λ (x : Action). Plans entering x plan) same plans

pub plans_as : (entering : Entering) (result : Result Plan Mem) (a b : Action) → a ≡ b → IfOk result (Plans entering a) → IfOk result (Plans entering b)
plans_as entering result a b same plans = subst (λ (x : Action). IfOk result (Plans entering x)) same plans

-- ---- the last wrong reference ends a grant

drop_changed : (number : ℕ) (change : GrantRow → GrantRow) (rows : List GrantRow) → ((row : GrantRow) → (change row).number ≡ row.number)
    → drop_grant number (change_grant number change rows) ≡ drop_grant number rows
drop_changed number change [] keeps = refl
drop_changed number change (r ∷ rs) keeps = at (number == r.number) refl (drop_changed number change rs keeps)
  where
    at : (b : Bool) → (number == r.number) ≡ b → drop_grant number (change_grant number change rs) ≡ drop_grant number rs
        → drop_grant number ((if b then change r else r) ∷ change_grant number change rs) ≡ drop_grant number (r ∷ rs)
    at true e rest = let same : (number == (change r).number) ≡ true = ap (λ n. number == n) (keeps r) ∙ e in rw (same, e) rest
    at false e rest = rw e (ap (λ (xs : List GrantRow). r ∷ xs) rest)

pub last_wrong_ends : (entering : Entering) (row : GrantRow)
    → Plans entering (LastWrongReference (opening_of row)) (record { reply = Error TooManyAttempts; drawn = 0; change = End row.number })
last_wrong_ends entering row = record {
  reply = refl;
  change = ap (λ (rows : List GrantRow). tables_in rows (drop_tokens_of row.number (tables entering).tokens))
      (sym (drop_changed row.number with_wrong (tables entering).grants (λ r. refl)));
  opened = refl;
  drawn = refl;
  few = omega arith;
  can = tt;
}

-- ---- a decision

reference_told : (entering : Entering) (told_nonce : Option Text) (finish : Option Finish)
    → option_map (λ (ending : FinishOut). ending.reference) (finish_told entering.supply told_nonce finish)
    ≡ some_if (is_some finish) (drawn_value (supply entering) 0)
reference_told entering told_nonce None = refl
reference_told entering told_nonce (Some f) = refl

ending_told : (entering : Entering) (number : ℕ) (round : Round) (finish : Option Finish)
    → finish_told entering.supply round.nonce finish ≡ finish_of (supply entering) (round_of number round) finish
ending_told entering number round None = refl
ending_told entering number round (Some f) = refl

abbrev told_count : Option FinishOut → ℕ
told_count finish = if is_some finish then 1 else 0

references_counted : (entering : Entering) (told_nonce : Option Text) (finish : Option Finish) (value : Text)
    → told_count (finish_told entering.supply told_nonce finish) ≡ length (option_to_list (some_if (is_some finish) value) ++ [])
references_counted entering told_nonce None value = refl
references_counted entering told_nonce (Some f) value = refl

told_few : (finish : Option FinishOut) → told_count finish ≤ 17
told_few None = omega arith
told_few (Some f) = omega arith

pub decided : (entering : Entering) (row : GrantRow) (round : Round) (rights : List Right) (request : DecideRequest) (finish : Option FinishOut)
    (reference : Option Text) (drawn : ℕ)
    → finish ≡ finish_told entering.supply round.nonce round.modes.finish → reference ≡ option_map (λ (ending : FinishOut). ending.reference) finish
    → drawn ≡ told_count finish
    → Plans entering (TakeDecision (round_of row.number round) rights request)
    (record {
      reply = Decided finish;
      drawn = drawn;
      change = Alter row.number
          (Decide (record { verdict = request.verdict; reference = reference; rights = rights; subject = request.subject }));
    })
decided entering row round rights request finish reference drawn is refers counts =
    let value : Text = drawn_value (supply entering) 0 in
    let named : reference ≡ some_if (is_some round.modes.finish) value = refers ∙ ap (option_map (λ (ending : FinishOut). ending.reference)) is
    ∙ reference_told entering round.nonce round.modes.finish in
    record {
      reply = ap (λ (f : Option FinishOut). Decided f) (is ∙ ending_told entering row.number round round.modes.finish);
      change = rw named refl;
      opened = refl;
      drawn = counts ∙ ap told_count is ∙ references_counted entering round.nonce round.modes.finish value;
      few = subst (λ n. n ≤ 17) (sym counts) (told_few finish);
      can = tt;
    }

-- ---- drawn values

pub drawn_at : (entering : Entering) (index serial count : ℕ) (value : Text) → value ≡ drawn_value (supply entering) index
    → serial ≡ entering.supply.first + index → index < count
    → IsDrawn entering.supply.first count serial value
drawn_at entering index serial count value is at within = record {
  begins = (
    slice_index entering.supply.words.now (2 * index),
    slice_index entering.supply.words.now (2 * index + 1),
    is
        ∙ ap (λ n. value_text n (slice_index entering.supply.words.now (2 * index)) (slice_index entering.supply.words.now (2 * index + 1))) (sym at),
  );
  low = omega arith;
  high = omega arith;
}

token_row_is : (s : Supply) (o : OpeningNote) (ask : Ask) (index : ℕ) → s.first < 2 ^ 63 → index ≤ 16 → IsTokenRow (new_token (token_for s o ask index))
token_row_is s o ask index small within = record {
  small = omega arith;
  value = (slice_index s.words (2 * index), slice_index s.words (2 * index + 1), refl);
  manage = (
    slice_index s.words (2 * (index + 1)),
    slice_index s.words (2 * (index + 1) + 1),
    (let e : s.first + (index + 1) ≡ s.first + index
        + 1 = omega arith in ap (λ n. value_text n (slice_index s.words (2 * (index + 1))) (slice_index s.words (2 * (index + 1) + 1))) e),
  );
}

pub tokens_rise : (s : Supply) (o : OpeningNote) (asks : List Ask) (index low : ℕ) → s.first < 2 ^ 63 → index + 2 * length asks ≤ 16 → low ≤ s.first + index
    → RiseFrom low (map new_token (tokens_for s o asks index))
tokens_rise s o [] index low small within le = tt
tokens_rise s o (ask ∷ asks) index low small within le = (
  token_row_is s o ask index small (omega arith),
  le,
  tokens_rise s o asks (index + 2) (s.first + index + 1) small (omega arith) (omega arith),
)

-- ---- a grant that goes on

pub door_renewed : (entering : Entering) (row : GrantRow) (door : Text) (tokens : List (Box TokenRow)) → door ≡ drawn_value (supply entering) 0 → tokens ≡ []
    → Plans entering (RenewDoor (opening_of row)) (record {
      reply = Continuing door;
      drawn = 1;
      change = Renew (record {
        number = row.number;
        retires = false;
        terms = None;
        consent = None;
        door = door;
        serial = entering.supply.first;
        earliest =
            entering.supply.moment + wait;
        tokens = tokens;
      });
    })
door_renewed entering row door tokens is none = record {
  reply = ap (λ (v : Text). Continuing v) is;
  change = rw (is, none) (ap (λ (ts : List TokenRow). tables_in
      (change_grant row.number (with_door (drawn_value (supply entering) 0) (entering.supply.moment + wait)) (tables entering).grants) ts)
      (append-nil (tables entering).tokens));
  opened = refl;
  drawn = refl;
  few = omega arith;
  can = (
    drawn_at entering 0 entering.supply.first 1 door is (omega arith) (omega arith),
    subst
        (λ (ts : List (Box TokenRow)). RiseFrom entering.supply.first (rows_in ts)) (sym none) tt,
  );
}

pub skips : SkipsCommon is_opening
skips = record { issued = λ t. refl; retired = λ s. refl; door = λ g v x. refl; pended = λ r. refl }

-- how many values tokens and a continuation value are
pub values_granted : (s : Supply) (o : OpeningNote) (before : List Note) (asks : List Ask) (single : Bool) (subject instance : Option Text) (notes : List Note)
    → flat_map note_values before ≡ []
    → flat_map note_values notes ≡ flat_map note_values (map Issued (tokens_for s o asks 0)) ++ drawn_value s (2 * length asks) ∷ []
    → length (flat_map note_values notes) ≡ 2 * length asks + 1
values_granted s o before asks single subject instance notes none are =
    ap (length {A = Text}) are ∙ length-append (flat_map note_values (map Issued (tokens_for s o asks 0))) (drawn_value s (2 * length asks) ∷ [])
    ∙ ap (λ n. n + 1) (tokens_length s o asks 0)

-- ---- asks that are granted to a grant that goes on

pub grants_on : (entering : Entering) (row : GrantRow) (asks : List Ask) (single : Bool) (subject : Option Text) (retires : Bool) (terms : Option TermsNote)
    (consent : List Right) (count : ℕ) (reply : Reply) (door : Text) (tokens : List (Box TokenRow))
    → count ≡ length asks
    → reply ≡ Granted (drawn_value (supply entering) (2 * length asks))
    (map (token_out entering.supply.moment) (tokens_for (supply entering) (opening_of row) asks 0)) single subject None
    → door ≡ drawn_value (supply entering) (2 * count) → rows_in tokens ≡ map new_token (tokens_for (supply entering) (opening_of row) asks 0)
    → GrantsOn entering row asks single subject retires terms consent (record {
      reply = reply;
      drawn = 2 * count + 1;
      change = Renew (record {
        number = row.number;
        retires = retires;
        terms = terms;
        consent = Some consent;
        door = door;
        serial = entering.supply.first + 2 * count;
        earliest = entering.supply.moment + wait;
        tokens = tokens;
      });
    })
grants_on entering row asks single subject retires terms consent count reply door tokens counted says drawn rows = record {
  tokens = tokens;
  rows = rows;
  is = rw (says, drawn, counted) refl;
}

pub collected_is : (entering : Entering) (row : GrantRow) (decision : DecisionNote) (asks : List Ask) (subject : Option Text) (consent : List Right) (plan : Plan)
    → length asks ≤ 8 → entering.supply.first < 2 ^ 63 → subject ≡ (if row.subject then decision.subject else None) → consent ≡ decision.rights
    → GrantsOn entering row asks row.single subject false None consent plan
    → Plans entering (CollectDecision (opening_of row) (terms_of_row row) decision asks) plan
collected_is entering row decision asks subject consent plan few small tells agreed made =
    let s : Supply = supply entering in
    let o : OpeningNote = opening_of row in
    let told : Option Text = if row.subject then decision.subject else None in
    let v : Text = drawn_value s (2 * length asks) in
    let approved : List GrantRow = change_grant row.number (with_approval decision.rights) (tables entering).grants in
    let is : plan ≡ granting_plan entering row asks row.single told false None decision.rights made.tokens = made.is
    ∙ ap (λ (name : Option Text). granting_plan entering row asks row.single name false None consent made.tokens) tells
    ∙ ap (λ (rights : List Right). granting_plan entering row asks row.single told false None rights made.tokens) agreed in
    subst (λ (p : Plan). Plans entering (CollectDecision o (terms_of_row row) decision asks) p) (sym is) (record {
      reply = refl;
      change = ap (λ (ts : List TokenRow). tables_in (change_grant row.number (with_door v (entering.supply.moment + wait)) approved)
          ((tables entering).tokens ++ ts)) made.rows
          ∙ sym (all_issued (tokens_for s o asks 0) (Door row.number v (entering.supply.moment + wait) ∷ []) approved (tables entering).tokens);
      opened = sym (grant_skipped is_opening s o (Approved row.number decision.rights ∷ []) asks row.single told None skips);
      drawn = sym (values_granted s o (Approved row.number decision.rights ∷ []) asks row.single told None
          (outcome_of s (CollectDecision o (terms_of_row row) decision asks)).notes refl
          (grant_values s o (Approved row.number decision.rights ∷ []) asks row.single told None refl));
      few = omega arith;
      can = (
        drawn_at entering (2 * length asks) (entering.supply.first + 2 * length asks) (2 * length asks + 1) v refl refl (omega arith),
        subst
            (RiseFrom entering.supply.first) (sym made.rows) (tokens_rise s o asks 0 entering.supply.first small (omega arith) (omega arith)),
      );
    })
