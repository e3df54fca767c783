-- Token requests that were read and printed are read again.
use Rattle.std.proofs.Common.{◌≡◌, ◌∙◌, ℕ, List, [], ◌∷◌, ◌++◌, length, map, Bool, true, false, not, Option, Some, None, option_map, Result, Ok, Err, nat_lt, codes, refl, sym, ap, subst, append_assoc}
use Rattle.std.specs.Prelude.{◌==◌, ◌||◌, is_some, if◌then◌else◌}
use Rattle.std.proofs.lemmas.List.{append-nil}
use Rattle.std.specs.List.{AllByRecursion, list_any}
use Rattle.serde_json.specs.Data.{Data, string, Items, no_items, item}
use Rattle.serde_json.specs.Find.{get, as_array, as_object}
use Rattle.json_objects.specs.Objects.{items, object_of}
use Rattle.json_objects.specs.Reading.{◌>>=◌}
use Rattle.access_rights.specs.Fits.{Fits}
use Rattle.access_rights.specs.Printing.{rights_data}
use Rattle.access_rights.specs.Reading.{rights_of}
use Rattle.access_rights.specs.declared.reading.RightsFault.{RightsFault}
use Rattle.access_rights.specs.declared.reading.RightsFault.TheVariants as rights_faults
use Rattle.gnap_model.specs.declared.rights.Right.{Right}
use Rattle.gnap_model.specs.declared.objects.Ask.{Ask}
use Rattle.gnap_objects.specs.declared.fault.ObjectFault.TheVariants as faults
use Rattle.gnap_objects.specs.Fits.{AskFits}
use Rattle.gnap_objects.specs.Reading.{required, under, rights_under, counted_rights, text_of, sized, checked}
use Rattle.gnap_objects.specs.TokenRequests.{access_of, has_label, label_in, label_of, flags_in, flags_of, token_request_of, object_request, token_requests_from, counted_requests, requests_in, requests_under, token_requests_of}
use Rattle.grant_values.specs.TokenRequests.{asked_flags, token_request_fields, token_request_data, token_requests_data}
use Rattle.grant_values.proofs.Readings.{bind_ok, same_ok, along, carried, twice_not, sized_again, checked_again, text_again, or_none, found}
use Rattle.grant_values.proofs.RightsAgain.{rights_again}

-- ---- access

under_ok : (name : List ℕ) (r : Result (List Right) RightsFault) (rs : List Right) → under name r ≡ Ok rs → r ≡ Ok rs
under_ok name (Ok ss) rs is = cc
under_ok name (Err rights_faults.Wrong) rs is = absurd cc
under_ok name (Err rights_faults.TooMany) rs is = absurd cc
under_ok name (Err rights_faults.OutOfMemory) rs is = absurd cc

counted_again : (name : List ℕ) (rs ss : List Right) → counted_rights name rs ≡ Ok ss → (rs ≡ ss) × (counted_rights name ss ≡ Ok ss)
counted_again name rs ss is =
    let parts = twice_not (length rs == 0) (nat_lt 16 (length rs)) (faults.Wrong name) (faults.TooMany name) rs ss is in
    (parts.2, subst (λ x. counted_rights name x ≡ Ok x) parts.2 (rw (parts.0, parts.1) refl))

access_again : (d e : Data) (rs : List Right) → access_of d ≡ Ok rs → AllByRecursion Fits rs → get (codes "access") e ≡ Some (rights_data rs)
    → access_of e ≡ Ok rs
unfolding access_of rights_under
access_again d e rs is fits there =
    let read = bind_ok (rights_under (codes "access") d) (counted_rights (codes "access")) rs is in
    let member = bind_ok (required (codes "access") d) (λ a. under (codes "access") (rights_of a)) read.0 read.1 in
    let counted = counted_again (codes "access") read.0 rs read.2 in
    let rights : rights_of member.0 ≡ Ok rs = under_ok (codes "access") (rights_of member.0) read.0 member.2 ∙ ap Ok counted.0 in
    rw (there, rights_again member.0 rs rights fits) counted.1

-- ---- label

abbrev is_new : List Ask → List ℕ → Bool
is_new before label = not (list_any (has_label label) before)

label_none : (needed : Bool) (before : List Ask) (own : Option (List ℕ)) → label_in needed before None ≡ Ok own
    → label_in needed before (option_map string own) ≡ Ok own
label_none true before own is = absurd cc
label_none false before None is = refl
label_none false before (Some s) is = absurd cc

label_some : (needed : Bool) (before : List Ask) (d : Data) (own : Option (List ℕ)) → label_in needed before (Some d) ≡ Ok own
    → label_in needed before (option_map string own) ≡ Ok own
label_some needed before d own is =
    let last = bind_ok (text_of (codes "label") d >>= sized 64 (codes "label") >>= checked (is_new before) (codes "label")) _ own is in
    let tested = bind_ok (text_of (codes "label") d >>= sized 64 (codes "label")) (checked (is_new before) (codes "label")) last.0 last.1 in
    let text = bind_ok (text_of (codes "label") d) (sized 64 (codes "label")) tested.0 tested.1 in
    let fresh = checked_again (is_new before) (codes "label") tested.0 last.0 tested.2 in
    let size : sized 64 (codes "label") last.0 ≡ Ok last.0 = sized_again 64 (codes "label") (codes "label") text.0 last.0 (text.2 ∙ ap Ok fresh.0) in
    subst (λ (o : Option (List ℕ)). label_in needed before (option_map string o) ≡ Ok o) (same_ok (Some last.0) own last.2)
    (rw (text_again (codes "label") last.0, size, fresh.1) refl)

label_in_again : (needed : Bool) (before : List Ask) (o : Option Data) (own : Option (List ℕ)) → label_in needed before o ≡ Ok own
    → label_in needed before (option_map string own) ≡ Ok own
label_in_again needed before None own is = label_none needed before own is
label_in_again needed before (Some d) own is = label_some needed before d own is

label_again : (needed : Bool) (before : List Ask) (d e : Data) (own : Option (List ℕ)) → label_of needed before d ≡ Ok own
    → get (codes "label") e ≡ option_map string own → label_of needed before e ≡ Ok own
unfolding label_of
label_again needed before d e own is there = ap (label_in needed before) there ∙ label_in_again needed before (get (codes "label") d) own is

-- ---- flags

flags_in_again : (bearer : Bool) → flags_in (asked_flags bearer) ≡ Ok (record { bearer = bearer; repeated = false })
unfolding text_of
flags_in_again true = refl
flags_in_again false = refl

flags_again : (e : Data) (bearer : Bool) → get (codes "flags") e ≡ asked_flags bearer → flags_of e ≡ Ok (record { bearer = bearer; repeated = false })
unfolding flags_of
flags_again e bearer there = ap flags_in there ∙ flags_in_again bearer

-- ---- a token request

taken : {E A : Type 0} (b : Bool) (e : E) (r : Result A E) (y : A) → (if b then r else Err e) ≡ Ok y → r ≡ Ok y
taken true e r y is = is
taken false e r y is = absurd cc

request_parts : (needed : Bool) (before : List Ask) (ask : Ask) (d : Data) → access_of d ≡ Ok ask.rights → label_of needed before d ≡ Ok ask.label
    → flags_of d ≡ Ok (record { bearer = ask.bearer; repeated = false }) → object_request needed before d ≡ Ok (record { ask = ask; repeats_flag = false })
request_parts needed before ask d access label flags = rw (access, label, flags) refl

printed_request : (needed : Bool) (before : List Ask) (d : Data) (ask : Ask) → access_of d ≡ Ok ask.rights → label_of needed before d ≡ Ok ask.label
    → AskFits ask
    → token_request_of needed before (token_request_data ask) ≡ Ok (record { ask = ask; repeats_flag = false })
unfolding token_request_of token_request_data
printed_request needed before d ask access label fits =
    let e = object_of (token_request_fields ask) in
    let fs = token_request_fields ask in
    request_parts needed before ask e
    (access_again d e ask.rights access fits.1 (found (codes "access") fs))
    (label_again needed before d e ask.label label (found (codes "label") fs ∙ or_none _))
    (flags_again e ask.bearer (found (codes "flags") fs ∙ or_none _))

request_again : (needed : Bool) (before : List Ask) (d : Data) (t : _) → token_request_of needed before d ≡ Ok t → AskFits t.ask
    → token_request_of needed before (token_request_data t.ask) ≡ Ok (record { ask = t.ask; repeats_flag = false })
unfolding token_request_of
request_again needed before d t is fits =
    let whole = taken (is_some (as_object d)) _ (object_request needed before d) t is in
    let access = bind_ok (access_of d) _ t whole in
    let label = bind_ok (label_of needed before d) _ t access.2 in
    let flags = bind_ok (flags_of d) _ t label.2 in
    let same = same_ok _ t flags.2 in
    printed_request needed before d t.ask (access.1 ∙ ap Ok (along same (λ x. x.ask.rights))) (label.1 ∙ ap Ok (along same (λ x. x.ask.label))) fits

-- ---- several of them

-- All these requests are those before and further ones, which are in an array. The further ones are read again behind those before.
record Follows (before all : List Ask) (single : Bool) : Type 0 where
  asks : List Ask
  all_are : all ≡ before ++ asks
  listed : single ≡ false
  again : AllByRecursion AskFits asks
      → token_requests_from before false (items (map token_request_data asks)) ≡ token_requests_from (before ++ asks) false no_items

follows : (before : List Ask) (repeats : Bool) (ds : Items) (ts : _) → token_requests_from before repeats ds ≡ Ok ts → Follows before ts.asks ts.single
follows before repeats no_items ts is =
    carried (same_ok _ ts is) (λ x. Follows before x.asks x.single) (record {
      asks = [];
      all_are = sym (append-nil before);
      listed = refl;
      again = λ fits. ap (λ (xs : List Ask). token_requests_from xs false no_items) (sym (append-nil before));
    })
follows before repeats (item d ds) ts is =
    let first = bind_ok (token_request_of true before d) _ ts is in
    let rest = follows (before ++ first.0.ask ∷ []) (repeats || first.0.repeats_flag) ds ts first.2 in
    let joined = append_assoc before (first.0.ask ∷ []) rest.asks in
    record {
      asks = first.0.ask ∷ rest.asks;
      all_are = rest.all_are ∙ joined;
      listed = rest.listed;
      again = λ fits. rw (request_again true before d first.0 first.1 fits.0)
          (rest.again fits.1 ∙ ap (λ (xs : List Ask). token_requests_from xs false no_items) joined);
    }

-- ---- `access_token`

no_array : (ask : Ask) → as_array (token_request_data ask) ≡ None
unfolding token_request_data
no_array ask = refl

counted_array : (asks : List Ask) → (length asks == 0) ≡ false → nat_lt 8 (length asks) ≡ false
    → token_requests_from [] false (items (map token_request_data asks)) ≡ token_requests_from asks false no_items
    → requests_under (token_requests_data false asks) ≡ Ok (record { asks = asks; single = false; repeats_flag = false })
counted_array [] some few read = absurd cc
counted_array (ask ∷ asks) some few read = rw (read, some, few) refl

requests_in_again : (d : Data) (o : Option Items) (ts : _) → requests_in d o ≡ Ok ts → AllByRecursion AskFits ts.asks
    → requests_under (token_requests_data ts.single ts.asks) ≡ Ok (record { asks = ts.asks; single = ts.single; repeats_flag = false })
requests_in_again d None ts is fits =
    let t = bind_ok (token_request_of false [] d) _ ts is in
    let same = same_ok _ ts t.2 in
    let fit = carried (sym same) (λ x. AllByRecursion AskFits x.asks) fits in
    carried same (λ x. requests_under (token_requests_data x.single x.asks) ≡ Ok (record { asks = x.asks; single = x.single; repeats_flag = false }))
    (rw (no_array t.0.ask, request_again false [] d t.0 t.1 fit.0) refl)
requests_in_again d (Some ds) ts is fits =
    let us = bind_ok (token_requests_from [] false ds) counted_requests ts is in
    let counts = twice_not (length us.0.asks == 0) (nat_lt 8 (length us.0.asks)) _ _ us.0 ts us.2 in
    let rest = follows [] false ds us.0 us.1 in
    let asks : us.0.asks ≡ ts.asks = along counts.2 (λ x. x.asks) in
    let own : rest.asks ≡ ts.asks = sym rest.all_are ∙ asks in
    let listed : ts.single ≡ false = along (sym counts.2) (λ x. x.single) ∙ rest.listed in
    let some : (length ts.asks == 0) ≡ false = carried asks (λ xs. (length xs == 0) ≡ false) counts.0 in
    let few : nat_lt 8 (length ts.asks) ≡ false = carried asks (λ xs. nat_lt 8 (length xs) ≡ false) counts.1 in
    let again = λ (xs : List Ask). AllByRecursion AskFits xs
    → token_requests_from [] false (items (map token_request_data xs)) ≡ token_requests_from xs false no_items in
    let read = carried own again rest.again fits in
    rw listed (counted_array ts.asks some few read)

requests_under_again : (o : Option Data) (ts : _) → requests_under o ≡ Ok ts → AllByRecursion AskFits ts.asks
    → requests_under (token_requests_data ts.single ts.asks) ≡ Ok (record { asks = ts.asks; single = ts.single; repeats_flag = false })
requests_under_again None ts is fits =
    carried (same_ok _ ts is) (λ x. requests_under (token_requests_data x.single x.asks)
    ≡ Ok (record { asks = x.asks; single = x.single; repeats_flag = false })) refl
requests_under_again (Some d) ts is fits = requests_in_again d (as_array d) ts is fits

pub requests_again : (d e : Data) (ts : _) → token_requests_of d ≡ Ok ts → AllByRecursion AskFits ts.asks
    → get (codes "access_token") e ≡ token_requests_data ts.single ts.asks
    → token_requests_of e ≡ Ok (record { asks = ts.asks; single = ts.single; repeats_flag = false })
unfolding token_requests_of
requests_again d e ts is fits there = ap requests_under there ∙ requests_under_again (get (codes "access_token") d) ts is fits
