-- Where the calls of a history fit, so do its notes and its replies.
use Rattle.std.proofs.Common.{◌≡◌, ◌+◌, ◌*◌, ℕ, nat_le, Bool, true, false, List, [], ◌∷◌, ◌++◌, length, refl, sym, subst, append-nil, inl, inr}
use Rattle.std.specs.Prelude.{IsUtf8, slice_index}
use Rattle.std.specs.List.{AllByRecursion}
use Rattle.std.specs.declared.option.Option.{Option}
use Rattle.std.specs.declared.option.Option.TheVariants.{None, Some}
use Rattle.std.proofs.lemmas.Str.{IsUtf8-from_ascii}
use Rattle.base64.specs.Engines.{url_safe_no_pad}
use Rattle.base64.proofs.EngineFacts.{IsAscii-encode_of}
use Rattle.histories.specs.History.{Legal, now, notes_of}
use Rattle.histories.specs.Histories.{legal-front}
use Rattle.access_rights.specs.Fits.{Fits}
use Rattle.gnap_model.specs.Common.{Text}
use Rattle.gnap_model.specs.Values.{value_text}
use Rattle.gnap_model.specs.Keys.{key_of, server_names}
use Rattle.gnap_model.specs.Judging.{serves_all}
use Rattle.gnap_model.specs.declared.rights.Right.{Right}
use Rattle.gnap_model.specs.declared.objects.Setup.{Setup}
use Rattle.gnap_tables.proofs.Lists.{HasItem}
use Rattle.resource_sets.specs.Sets.{SetCall, SetNote, SetEvent, SetFits, set_limit, same_set, has_reference, set_of, set_named, new_set, resolved, set_answer, sets}
use Rattle.resource_sets.specs.SetsFit.{SetReplyFits, SetNoteFits}
use Rattle.resource_sets.specs.declared.sets.SetCall.TheVariants.{Register, Resolve, Lapse}
use Rattle.resource_sets.proofs.References.{found-stands}
use Rattle.resource_sets.proofs.SetPasts.{where_room, where_served, before-or-last, notes-hold}

abbrev AllFit : List SetNote → Type 0
AllFit ns = (note : SetNote) → HasItem ns note → SetNoteFits note

value-fits : (s a b : ℕ) → IsUtf8 (value_text s a b)
unfolding value_text
value-fits s a b = IsUtf8-from_ascii _ (IsAscii-encode_of url_safe_no_pad _)

fit-same : (ns : List SetNote) → AllFit ns → AllFit (ns ++ [])
fit-same ns fit = subst AllFit (sym (append-nil ns)) fit

fit-next : (ns : List SetNote) (n : SetNote) → AllFit ns → SetNoteFits n → AllFit (ns ++ n ∷ [])
fit-next ns n fit new note has = elim (before-or-last ns n note has) [
  | inl earlier ↦ fit note earlier
  | inr last ↦ subst SetNoteFits (sym last) new
]

room-fits : (full : Bool) (ns : List SetNote) (words : List ℕ) (server : Text) (rights : List Right) → AllFit ns → IsUtf8 server → AllByRecursion Fits rights
    → AllFit (ns ++ (where_room full ns words server rights).notes) × SetReplyFits (where_room full ns words server rights).reply
room-fits true ns words server rights fit text shown = (fit-same ns fit, tt)
room-fits false ns words server rights fit text shown =
    let reference = value-fits (length ns + 1 + 0) (slice_index words (2 * 0)) (slice_index words (2 * 0 + 1)) in
    (fit-next ns (new_set ns words server rights) fit (record { server = text; rights = shown; reference = reference }), reference)

served-fits : (served : Bool) (known : Option SetNote) (ns : List SetNote) (words : List ℕ) (server : Text) (rights : List Right)
    → set_of server rights ns ≡ known → AllFit ns → IsUtf8 server → AllByRecursion Fits rights
    → AllFit (ns ++ (where_served served known ns words server rights).notes) × SetReplyFits (where_served served known ns words server rights).reply
served-fits false known ns words server rights is fit text shown = (fit-same ns fit, tt)
served-fits true (Some note) ns words server rights is fit text shown =
    (fit-same ns fit, (fit note (found-stands (same_set server rights) ns note is).0).reference)
served-fits true None ns words server rights is fit text shown = room-fits (nat_le set_limit (length ns)) ns words server rights fit text shown

resolved-fits : (known : Option SetNote) (ns : List SetNote) (reference : Text) → set_named reference ns ≡ known → AllFit ns
    → AllFit (ns ++ (resolved known).notes) × SetReplyFits (resolved known).reply
resolved-fits None ns reference is fit = (fit-same ns fit, tt)
resolved-fits (Some note) ns reference is fit =
    let found = fit note (found-stands (has_reference reference) ns note is).0 in
    (fit-same ns fit, (found.server, found.rights))

answer-fits : (rules : Setup) (ns : List SetNote) (at : ℕ) (words : List ℕ) (call : SetCall) → AllFit ns → SetFits call
    → AllFit (ns ++ (set_answer rules ns at words call).notes) × SetReplyFits (set_answer rules ns at words call).reply
answer-fits rules ns at words (Register server rights) fit fits =
    served-fits (serves_all (server_names (key_of rules server)) (Some rights)) (set_of server rights ns) ns words server rights refl fit fits.0 fits.1
answer-fits rules ns at words (Resolve asker reference) fit fits = resolved-fits (set_named reference ns) ns reference refl fit
answer-fits rules ns at words Lapse fit fits = (fit-same ns fit, tt)

notes-fit : (rules : Setup) (h : List SetEvent) → Legal sets rules h → AllFit (notes_of h)
notes-fit rules = notes-hold SetFits rules AllFit (λ note has. absurd has)
    (λ h e follows fit. subst (λ (ns : List SetNote). AllFit (notes_of h ++ ns)) (sym follows.notes)
    (answer-fits rules (notes_of h) (now h e.moment) e.draw e.call fit follows.fits).0)

-- Each reply of a legal history fits.
pub replies-fit : (rules : Setup) (h before : List SetEvent) (e : SetEvent) (after : List SetEvent) → Legal sets rules h → h ≡ before ++ e ∷ after
    → SetReplyFits e.reply
replies-fit rules h before e after legal is =
    let follows = legal before e after is in
    let front = legal-front sets rules before (e ∷ after) (subst (λ (k : List SetEvent). Legal sets rules k) is legal) in
    subst SetReplyFits (sym follows.reply)
    (answer-fits rules (notes_of before) (now before e.moment) e.draw e.call (notes-fit rules before front) follows.fits).1
