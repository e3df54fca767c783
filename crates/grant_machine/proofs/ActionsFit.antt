-- An action that fits has a reply and notes that fit.
use Rattle.std.proofs.Common.{◌≡◌, ℕ, zero, suc, ◌+◌, ◌*◌, ◌/◌, ◌%◌, Bool, true, false, List, [], ◌∷◌, ◌++◌, length, map, replicate, refl, arith, Option, Some, None}
use Rattle.std.specs.List.{AllByRecursion, list_any, list_all}
use Rattle.std.specs.Str.{IsUtf8, IsAscii}
use Rattle.std.specs.Prelude.{if◌then◌else◌, nat_lt, codes, slice_index}
use Rattle.std.proofs.lemmas.Bool.{ltb-true, and_parts}
use Rattle.std.proofs.lemmas.Str.{IsUtf8-from_ascii}
use Rattle.std.proofs.lemmas.Str.Ascii.{IsAscii-nil, IsAscii-push, IsAscii-cons}
use Rattle.base64.specs.Engines.{url_safe_no_pad}
use Rattle.base64.proofs.EngineFacts.{IsAscii-encode_of}
use Rattle.access_rights.specs.Fits.{IsUtf8Or}
use Rattle.gnap_model.specs.Common.{Text, some_if, same_text}
use Rattle.gnap_model.specs.Values.{value_text, code_digits, code_text, code_count, free_code}
use Rattle.gnap_model.specs.Actions.{Action, Supply, outcome_of, tokens_for, token_out, door_note, round_for, or_zeros, terms_for, instance_of, retire, finish_of, grant_outcome, pending_outcome}
use Rattle.gnap_model.specs.Actions.Action.{Refuse, ShowToken, ShowInactive, LapseAction, OpenAtOnce, OpenAsking, ShowRound, ShowHandle, TakeDecision, RenewDoor, CollectDecision, WrongReference, LastWrongReference, RefuseAndFinalize, ModifyAtOnce, ModifyAsking, CancelGrant, RotateToken, RevokeToken}
use Rattle.gnap_model.specs.declared.notes.Why.TheVariants.{ByRevocation}
use Rattle.gnap_model.specs.declared.notes.Note.{Note}
use Rattle.gnap_model.specs.declared.notes.Note.TheVariants.{Opened, Terms, Approved, Issued, Retired}
use Rattle.gnap_model.specs.declared.notes.OpeningNote.{OpeningNote}
use Rattle.gnap_model.specs.declared.notes.TokenNote.{TokenNote}
use Rattle.gnap_model.specs.declared.notes.RoundNote.{RoundNote}
use Rattle.gnap_model.specs.declared.objects.Ask.{Ask}
use Rattle.gnap_model.specs.declared.objects.Modes.{Modes}
use Rattle.gnap_model.specs.declared.objects.Finish.{Finish}
use Rattle.gnap_objects.specs.Fits.{AskFits}
use Rattle.gnap_objects.specs.CallsFit.{RightsFit, FinishFitsOr, ModesFit, TokenFits, EndingFits, DecisionFits, ReplyFits, NoteFits, NotesFit}
use Rattle.grant_machine.proofs.FoundFits.{all-append, if_both, OpeningFits, TermsFit, TokenNoteFits, RoundFits, DecidedFits}

-- ---- drawn texts

value_fits : (s a b : ℕ) → IsUtf8 (value_text s a b)
unfolding value_text
value_fits s a b = IsUtf8-from_ascii _ (IsAscii-encode_of url_safe_no_pad _)

ascii_where : (bs : List ℕ) → list_all (λ b. nat_lt b 128) bs ≡ true → IsAscii bs
ascii_where [] h = IsAscii-nil
ascii_where (b ∷ bs) h = let both = and_parts (nat_lt b 128) (list_all (λ b. nat_lt b 128) bs) h in
    IsAscii-cons b bs (ltb-true b 128 both.0) (ascii_where bs both.1)

digits_ascii : (places number : ℕ) → IsAscii (code_digits places number)
digits_ascii zero number = IsAscii-nil
digits_ascii (suc places) number = IsAscii-push (code_digits places (number / 20)) (slice_index (codes "BCDFGHJKLMNPQRSTVWXZ") (number % 20))
    (digits_ascii places (number / 20)) (ascii_where (codes "BCDFGHJKLMNPQRSTVWXZ") refl (number % 20))

code_fits : (number : ℕ) → IsUtf8 (code_text number)
unfolding code_text
code_fits number = IsUtf8-from_ascii (code_digits 8 number) (digits_ascii 8 number)

free_code_fits : (tries number : ℕ) (taken : List Text) → IsUtf8 (free_code tries number taken)
free_code_fits zero number taken = code_fits (number % code_count)
free_code_fits (suc tries) number taken = if_both IsUtf8 (list_any (same_text (code_text (number % code_count))) taken)
    (free_code tries (number + 1) taken) (code_text (number % code_count)) (free_code_fits tries (number + 1) taken) (code_fits (number % code_count))

zeros_ascii : (n : ℕ) → IsAscii (replicate n 0)
zeros_ascii zero = IsAscii-nil
zeros_ascii (suc n) = IsAscii-cons 0 (replicate n 0) (omega arith) (zeros_ascii n)

zeros_fit : (n : ℕ) (text : Option Text) → IsUtf8Or text → IsUtf8 (or_zeros n text)
zeros_fit n None fit = IsUtf8-from_ascii (replicate n 0) (zeros_ascii n)
zeros_fit n (Some text) fit = fit

text_if_fits : (b : Bool) (text : Text) → IsUtf8 text → IsUtf8Or (some_if b text)
text_if_fits true text fit = fit
text_if_fits false text fit = tt

-- ---- tokens and rounds

tokens_fit : (supply : Supply) (o : OpeningNote) (asks : List Ask) (k : ℕ) → AllByRecursion AskFits asks
    → AllByRecursion TokenFits (map (token_out supply.now) (tokens_for supply o asks k))
tokens_fit supply o [] k h = tt
tokens_fit supply o (ask ∷ asks) k h = ((value_fits _ _ _, value_fits _ _ _, h.0.0, h.0.1), tokens_fit supply o asks (k + 2) h.1)

issued_fit : (supply : Supply) (o : OpeningNote) (asks : List Ask) (k : ℕ) → OpeningFits o → AllByRecursion AskFits asks
    → NotesFit (map Issued (tokens_for supply o asks k))
issued_fit supply o [] k key h = tt
issued_fit supply o (ask ∷ asks) k key h = ((h.0.0, h.0.1, key.0, value_fits _ _ _, value_fits _ _ _), issued_fit supply o asks (k + 2) key h.1)

retired_fit : (tokens : List TokenNote) (rest : List Note) → NotesFit rest → NotesFit (retire tokens ++ rest)
retired_fit [] rest fit = fit
retired_fit (t ∷ tokens) rest fit = (tt, retired_fit tokens rest fit)

round_fits : (supply : Supply) (o : OpeningNote) (modes : Modes) → ModesFit modes → RoundFits (round_for supply o modes)
round_fits supply o modes fit = (fit, value_fits _ _ _, text_if_fits _ _ (free_code_fits _ _ supply.taken), text_if_fits _ _ (value_fits _ _ _))

ending_fits : (supply : Supply) (round : RoundNote) (finish : Option Finish) → RoundFits round → FinishFitsOr finish
    → EndingFits (finish_of supply round finish)
ending_fits supply round None fit finish_fit = tt
ending_fits supply round (Some finish) fit finish_fit = (finish_fit, zeros_fit 32 round.nonce fit.3, value_fits _ _ _)

-- ---- actions

-- what an action needs to have a reply and notes that fit
abbrev pub ActionFits : Action → Type 0
ActionFits (Refuse code) = Unit {0}
ActionFits (ShowToken access token) = RightsFit access × TokenNoteFits token
ActionFits ShowInactive = Unit {0}
ActionFits LapseAction = Unit {0}
ActionFits (OpenAtOnce o request) = OpeningFits o × AllByRecursion AskFits request.asks
ActionFits (OpenAsking o request modes) = OpeningFits o × AllByRecursion AskFits request.asks × ModesFit modes
ActionFits (ShowRound round terms o) = TermsFit terms × OpeningFits o
ActionFits (ShowHandle round) = RoundFits round
ActionFits (TakeDecision round rights request) = RoundFits round × RightsFit rights × DecisionFits request
ActionFits (RenewDoor o) = Unit {0}
ActionFits (CollectDecision o terms decision asks) = OpeningFits o × DecidedFits decision × AllByRecursion AskFits asks
ActionFits (WrongReference o) = Unit {0}
ActionFits (LastWrongReference o) = Unit {0}
ActionFits (RefuseAndFinalize o code) = Unit {0}
ActionFits (ModifyAtOnce o consent retired request) = OpeningFits o × RightsFit consent × AllByRecursion AskFits request.asks
ActionFits (ModifyAsking o retired request modes) = AllByRecursion AskFits request.asks × ModesFit modes
ActionFits (CancelGrant o) = Unit {0}
ActionFits (RotateToken o token key) = TokenNoteFits token × IsUtf8 key
ActionFits (RevokeToken token was_retired) = Unit {0}

abbrev pub OutcomeFits : Supply → Action → Type 0
OutcomeFits supply action = ReplyFits (outcome_of supply action).reply × NotesFit (outcome_of supply action).notes

grant_fits : (supply : Supply) (o : OpeningNote) (before : List Note) (asks : List Ask) (single : Bool) (subject instance : Option Text)
    → OpeningFits o → NotesFit before → AllByRecursion AskFits asks → IsUtf8Or subject → IsUtf8Or instance
    → ReplyFits (grant_outcome supply o before asks single subject instance).reply × NotesFit (grant_outcome supply o before asks single subject instance).notes
grant_fits supply o before asks single subject instance o_fits before_fits asks_fit subject_fits instance_fits = (
  (value_fits _ _ _, tokens_fit supply o asks 0 asks_fit, subject_fits, instance_fits),
  all-append NoteFits (before ++ map Issued (tokens_for supply o asks 0)) (door_note supply o (2 * length asks) ∷ [])
      (all-append NoteFits before (map Issued (tokens_for supply o asks 0)) before_fits (issued_fit supply o asks 0 o_fits asks_fit)) (value_fits _ _ _, tt),
)

pending_fits : (supply : Supply) (o : OpeningNote) (before : List Note) (modes : Modes) (instance : Option Text)
    → NotesFit before → ModesFit modes → IsUtf8Or instance
    → ReplyFits (pending_outcome supply o before modes instance).reply × NotesFit (pending_outcome supply o before modes instance).notes
pending_fits supply o before modes instance before_fits modes_fit instance_fits =
    let fit = round_fits supply o modes modes_fit in (
      (value_fits _ _ _, modes_fit, value_fits _ _ _, zeros_fit 8 _ fit.2, zeros_fit 32 _ fit.3, instance_fits),
      all-append NoteFits before _ before_fits (value_fits _ _ _, (fit, tt)),
    )

instance_fits : (o : OpeningNote) → OpeningFits o → IsUtf8Or (instance_of o)
instance_fits o fit = text_if_fits o.by_object o.key fit.0

-- An action that fits has a reply and notes that fit.
pub outcome_fits : (supply : Supply) (action : Action) → ActionFits action → OutcomeFits supply action
outcome_fits supply (Refuse code) fit = (tt, tt)
outcome_fits supply (ShowToken access token) fit = ((fit.0, fit.1.2), tt)
outcome_fits supply ShowInactive fit = (tt, tt)
outcome_fits supply LapseAction fit = (tt, tt)
outcome_fits supply (OpenAtOnce o request) fit =
    grant_fits supply o (Opened o ∷ Terms (terms_for o request) ∷ Approved o.grant [] ∷ []) request.asks request.single None (instance_of o)
    fit.0 (fit.0, (fit.1, (tt, tt))) fit.1 tt (instance_fits o fit.0)
outcome_fits supply (OpenAsking o request modes) fit =
    pending_fits supply o (Opened o ∷ Terms (terms_for o request) ∷ []) modes (instance_of o) (fit.0, (fit.1, tt)) fit.2 (instance_fits o fit.0)
outcome_fits supply (ShowRound round terms o) fit = ((fit.0, fit.1.0, fit.1.1), tt)
outcome_fits supply (ShowHandle round) fit = (fit.1, tt)
outcome_fits supply (TakeDecision round rights request) fit =
    (ending_fits supply round round.modes.finish fit.0 fit.0.0, ((text_if_fits _ _ (value_fits _ _ _), fit.1, fit.2.2), tt))
outcome_fits supply (RenewDoor o) fit = (value_fits _ _ _, (value_fits _ _ _, tt))
outcome_fits supply (CollectDecision o terms decision asks) fit =
    grant_fits supply o (Approved o.grant decision.rights ∷ []) asks terms.single (if terms.subject then decision.subject else None) None
    fit.0 (fit.1.1, tt) fit.2 (if_both IsUtf8Or terms.subject decision.subject None fit.1.2 tt) tt
outcome_fits supply (WrongReference o) fit = (tt, (tt, tt))
outcome_fits supply (LastWrongReference o) fit = (tt, (tt, (tt, tt)))
outcome_fits supply (RefuseAndFinalize o code) fit = (tt, (tt, tt))
outcome_fits supply (ModifyAtOnce o consent retired request) fit =
    let after = Terms (terms_for o request) ∷ Approved o.grant consent ∷ [] in
    grant_fits supply o (retire retired ++ after) request.asks request.single None None fit.0 (retired_fit retired after (fit.2, (fit.1, tt))) fit.2 tt tt
outcome_fits supply (ModifyAsking o retired request modes) fit =
    let after = Terms (terms_for o request) ∷ [] in pending_fits supply o (retire retired ++ after) modes None (retired_fit retired after (fit.0, tt)) fit.1 tt
outcome_fits supply (CancelGrant o) fit = (tt, (tt, tt))
outcome_fits supply (RotateToken o token key) fit =
    ((value_fits _ _ _, value_fits _ _ _, fit.0.0, fit.0.1), (tt, ((fit.0.0, fit.0.1, fit.1, value_fits _ _ _, value_fits _ _ _), tt)))
outcome_fits supply (RevokeToken token was_retired) fit = (tt, if_both NotesFit was_retired [] (Retired token.serial ByRevocation ∷ []) tt (tt, tt))
