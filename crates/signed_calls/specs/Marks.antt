-- Marks: what a signature says of itself, which marks are refused, and what is remembered of the others.
use Rattle.std.specs.Prelude.{ℕ, ◌+◌, nat_le, nat_lt, Bool, true, false, ◌&&◌, ◌||◌, List, [], ◌++◌, map, if◌then◌else◌}
use Rattle.std.specs.List.{list_any, filter_map}
use Rattle.std.specs.Option.{option_to_list}
use Rattle.std.specs.declared.option.Option.{Option}
use Rattle.std.specs.declared.option.Option.TheVariants.{None, Some}
use Rattle.histories.specs.declared.entry.Entry.{Entry}
use Rattle.histories.specs.History.{Answer, Law, by_notes}
use Rattle.gnap_model.specs.Common.{Text, same_text}
use Rattle.gnap_model.specs.declared.objects.Setup.{Setup}
use Rattle.gnap_model.specs.declared.calls.Call.{Call}
use Rattle.gnap_model.specs.declared.calls.Reply.{Reply}
use Rattle.gnap_model.specs.declared.calls.Call.TheVariants.{Cancel, Revoke, Lapse}
use Rattle.gnap_model.specs.declared.calls.Reply.TheVariants.{Error}
use Rattle.gnap_model.specs.declared.objects.ErrorCode.TheVariants.{InvalidClient}
use Rattle.gnap_model.specs.declared.notes.Note.{Note}
use Rattle.gnap_laws.specs.Refusals.{caller}
use Rattle.gnap_model.specs.Answer.{gnap_answer}
use Rattle.gnap_model.specs.Legal.{HasFewAsks}
pub use Rattle.signed_calls.specs.declared.signed.Mark.{Mark}
pub use Rattle.signed_calls.specs.declared.signed.Signed.{Signed}
pub use Rattle.signed_calls.specs.declared.signed.NonceNote.{NonceNote}
pub use Rattle.signed_calls.specs.declared.signed.SignedNote.{SignedNote}
use Rattle.signed_calls.specs.declared.signed.SignedNote.TheVariants.{Nonce, Plain}

-- an entry of a history of the machine with marks
abbrev pub SignedEvent : Type 0
SignedEvent = Entry Signed Reply SignedNote

-- for so many seconds after its creation a signature is taken (RFC 9421, section 7.2.2)
abbrev pub mark_time : ℕ
mark_time = 300

-- the note says that the key used the nonce, and that this is remembered at the moment
abbrev pub remembers : ℕ → Text → Text → SignedNote → Bool
remembers now key nonce (Nonce note) = same_text note.key key && same_text note.nonce nonce && nat_le now note.until
remembers now key nonce (Plain note) = false

-- the mark is too old, or its nonce is remembered
abbrev pub refuses : List SignedNote → ℕ → Text → Option Mark → Bool
refuses notes now key None = false
refuses notes now key (Some mark) = nat_lt (mark.created + mark_time) now || list_any (remembers now key mark.nonce) notes

-- A repeated cancellation or revocation changes nothing, so its nonce isn't remembered.
abbrev pub is_remembered : Call → Bool
is_remembered (Cancel key value) = false
is_remembered (Revoke key value) = false
is_remembered _ = true

abbrev pub nonce_note : Text → Mark → SignedNote
nonce_note key mark = Nonce (record { key = key; nonce = mark.nonce; until = mark.created + mark_time })

-- the notes that a call leaves of its mark
abbrev pub mark_notes : Signed → List SignedNote
mark_notes signed = if is_remembered signed.call then map (nonce_note (caller signed.call)) (option_to_list signed.mark) else []

-- the other notes
abbrev pub plain_in : SignedNote → Option Note
plain_in (Plain note) = Some note
plain_in (Nonce note) = None

abbrev pub plain_notes : List SignedNote → List Note
plain_notes notes = filter_map plain_in notes

-- after the notes of the mark, what the call is answered and notes
abbrev pub behind : List SignedNote → Answer Reply Note → Answer Reply SignedNote
behind before answer = record { reply = answer.reply; notes = before ++ map Plain answer.notes }

-- The mark is looked at first.
abbrev pub signed_answer : Setup → List SignedNote → ℕ → List ℕ → Signed → Answer Reply SignedNote
signed_answer rules notes now draw signed =
    if refuses notes now (caller signed.call) signed.mark then record { reply = Error InvalidClient; notes = [] }
    else behind (mark_notes signed) (gnap_answer rules (plain_notes notes) now draw signed.call)

-- what stands in place of a call for which memory was wanting
abbrev pub unmarked_lapse : Signed
unmarked_lapse = record { mark = None; call = Lapse }

-- The machine with marks, where a call fits that has few asks. A crate above may ask for more of a call and of its mark.
abbrev pub SignedFewAsks : Signed → Type 0
SignedFewAsks signed = HasFewAsks signed.call

abbrev pub signed_law : Law Setup Signed Reply SignedNote
signed_law = by_notes signed_answer SignedFewAsks unmarked_lapse
