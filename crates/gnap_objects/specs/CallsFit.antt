-- Texts that can be shown: a call, a reply and a note fit where their rights do, where a finish has a URI of the web, and where their other texts are UTF-8.
use Rattle.std.specs.Prelude.{◌≡◌, ℕ, true, List}
use Rattle.std.specs.List.{AllByRecursion}
use Rattle.std.specs.Str.{IsUtf8}
use Rattle.std.specs.declared.option.Option.{Option}
use Rattle.std.specs.declared.option.Option.TheVariants.{None, Some}
use Rattle.json_objects.specs.Texts.{IsUtf8Or}
use Rattle.interaction.specs.Uris.{uri_fits}
use Rattle.access_rights.specs.Fits.{Fits}
use Rattle.gnap_objects.specs.Fits.{AskFits, RequestFits}
use Rattle.gnap_model.specs.declared.rights.Right.{Right}
use Rattle.gnap_model.specs.declared.objects.Finish.{Finish}
use Rattle.gnap_model.specs.declared.objects.Modes.{Modes}
use Rattle.gnap_model.specs.declared.objects.DecideRequest.{DecideRequest}
use Rattle.gnap_model.specs.declared.calls.Call.{Call}
use Rattle.gnap_model.specs.declared.calls.Call.TheVariants.{Begin, Continue, Modify, Cancel, Rotate, Revoke, Introspect, Look, FindCode, Decide, Lapse}
use Rattle.gnap_model.specs.declared.calls.TokenOut.{TokenOut}
use Rattle.gnap_model.specs.declared.calls.FinishOut.{FinishOut}
use Rattle.gnap_model.specs.declared.calls.Reply.{Reply}
use Rattle.gnap_model.specs.declared.calls.Reply.TheVariants.{Granted, Pending, Continuing, Rotated, Done, Active, Inactive, Shown, Handle, Decided, Error, Lapsed}
use Rattle.gnap_model.specs.declared.notes.Note.{Note}
use Rattle.gnap_model.specs.declared.notes.Note.TheVariants.{Opened, Terms, Approved, Issued, Door, Pended, DecidedAs, Finalized, Wrong, Retired}

-- ---- parts

abbrev pub RightsFit : List Right → Type 0
RightsFit rights = AllByRecursion Fits rights

abbrev pub RightsFitOr : Option (List Right) → Type 0
RightsFitOr None = Unit {0}
RightsFitOr (Some rights) = RightsFit rights

-- the address that a client is told at (RFC 9635, section 2.5.2) is a finish URI, be it joined with two pairs or printed as it is
abbrev pub AddressFits : List ℕ → Type 0
AddressFits uri = uri_fits uri ≡ true

abbrev pub FinishFits : Finish → Type 0
FinishFits finish = AddressFits finish.uri × IsUtf8 finish.nonce

abbrev pub FinishFitsOr : Option Finish → Type 0
FinishFitsOr None = Unit {0}
FinishFitsOr (Some finish) = FinishFits finish

-- ways to interact
abbrev pub ModesFit : Modes → Type 0
ModesFit modes = FinishFitsOr modes.finish

abbrev pub ModesFitOr : Option Modes → Type 0
ModesFitOr None = Unit {0}
ModesFitOr (Some modes) = ModesFit modes

-- a decision of the user
abbrev pub DecisionFits : DecideRequest → Type 0
DecisionFits request = IsUtf8 request.handle × RightsFitOr request.rights × IsUtf8Or request.subject

-- ---- calls

-- The texts of a call. A presented value may be any bytes, and so may a code.
abbrev pub TextsFit : Call → Type 0
TextsFit (Begin key request not_after) = IsUtf8 key × RequestFits request × ModesFitOr request.modes
TextsFit (Continue key value reference) = IsUtf8 key × IsUtf8Or reference
TextsFit (Modify key value request) = IsUtf8 key × RequestFits request × ModesFitOr request.modes
TextsFit (Cancel key value) = IsUtf8 key
TextsFit (Rotate key value new_key) = IsUtf8 key × IsUtf8Or new_key
TextsFit (Revoke key value) = IsUtf8 key
TextsFit (Introspect server value binding wanted) = IsUtf8 server × RightsFitOr wanted
TextsFit (Look front handle) = IsUtf8 front × IsUtf8 handle
TextsFit (FindCode front code) = IsUtf8 front
TextsFit (Decide front request) = IsUtf8 front × DecisionFits request
TextsFit Lapse = Unit {0}

-- ---- replies

-- a token as it is handed out
abbrev pub TokenFits : TokenOut → Type 0
TokenFits t = IsUtf8 t.value × IsUtf8 t.manage × IsUtf8Or t.label × RightsFit t.rights

-- what the client is to be told of the end of an interaction
abbrev pub EndingFits : Option FinishOut → Type 0
EndingFits None = Unit {0}
EndingFits (Some out) = FinishFits out.finish × IsUtf8 out.server_nonce × IsUtf8 out.reference

abbrev pub ReplyFits : Reply → Type 0
ReplyFits (Granted door tokens single subject instance) = IsUtf8 door × AllByRecursion TokenFits tokens × IsUtf8Or subject × IsUtf8Or instance
ReplyFits (Pending door modes handle code nonce expires_in instance) =
    IsUtf8 door × ModesFit modes × IsUtf8 handle × IsUtf8 code × IsUtf8 nonce × IsUtf8Or instance
ReplyFits (Continuing door) = IsUtf8 door
ReplyFits (Rotated token) = TokenFits token
ReplyFits Done = Unit {0}
ReplyFits (Active access iat exp instance bearer) = RightsFit access × IsUtf8 instance
ReplyFits Inactive = Unit {0}
ReplyFits (Shown asks client expires_in subject user) = AllByRecursion AskFits asks × IsUtf8 client × IsUtf8Or user
ReplyFits (Handle handle) = IsUtf8 handle
ReplyFits (Decided finish) = EndingFits finish
ReplyFits (Error code) = Unit {0}
ReplyFits Lapsed = Unit {0}

-- ---- notes

abbrev pub NoteFits : Note → Type 0
NoteFits (Opened o) = IsUtf8 o.key × IsUtf8Or o.user
NoteFits (Terms t) = AllByRecursion AskFits t.asks
NoteFits (Approved grant consent) = RightsFit consent
NoteFits (Issued t) = IsUtf8Or t.label × RightsFit t.rights × IsUtf8 t.key × IsUtf8 t.value × IsUtf8 t.manage
NoteFits (Door grant value earliest) = IsUtf8 value
NoteFits (Pended r) = ModesFit r.modes × IsUtf8 r.handle × IsUtf8Or r.code × IsUtf8Or r.nonce
NoteFits (DecidedAs d) = IsUtf8Or d.reference × RightsFit d.rights × IsUtf8Or d.subject
NoteFits (Finalized grant) = Unit {0}
NoteFits (Wrong grant) = Unit {0}
NoteFits (Retired serial why) = Unit {0}

abbrev pub NotesFit : List Note → Type 0
NotesFit notes = AllByRecursion NoteFits notes
