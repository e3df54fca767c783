-- A legal history of sets, and its replies: the laws aren't empty.
use Rattle.std.proofs.Common.{◌≡◌, List, [], ◌∷◌, ◌++◌, map, replicate, codes, refl, lit≤}
use Rattle.std.specs.Str.{IsUtf8}
use lib.Utf8.{encode}
use Rattle.base64.specs.Rfc4648.{encode_symbols}
use Rattle.histories.specs.History.{Legal, entry_of}
use Rattle.histories.specs.Histories.{legal-nil, legal-append}
use Rattle.gnap_model.specs.Common.{Text}
use Rattle.gnap_model.specs.Values.{value_text}
use Rattle.gnap_model.specs.declared.rights.Right.{Right}
use Rattle.gnap_model.specs.declared.rights.Right.TheVariants.{Reference}
use Rattle.gnap_model.specs.declared.objects.Setup.{Setup}
use Rattle.gnap_model.specs.declared.objects.Role.TheVariants.{Server}
use Rattle.gnap_model.specs.declared.objects.ErrorCode.TheVariants.{InvalidAccess, InvalidRequest}
use Rattle.resource_sets.specs.Sets.{SetCall, SetEvent, SetFits, sets}
use Rattle.resource_sets.specs.declared.sets.SetCall.TheVariants.{Register, Resolve}
use Rattle.resource_sets.specs.declared.sets.SetReply.TheVariants.{Registered, Resolved, Error}

abbrev r1 : Text
r1 = codes "r1"

-- one resource server, which serves photos
abbrev setup : Setup
setup = record {
  base = codes "https://as.example";
  front = codes "https://front.example";
  keys = record { id = r1; role = Server; secret = codes "secret-key-of-r1"; auto_rights = []; ask_rights = []; serves = codes "photos" ∷ [] } ∷ [];
}

abbrev photos : List Right
photos = Reference (codes "photos") ∷ []

abbrev calendar : List Right
calendar = Reference (codes "calendar") ∷ []

-- the reference of the first set, and of the second one
abbrev v1 : Text
v1 = codes "AAAAAAAAAAEAAAAAAAAAAAAAAAAAAAAA"

abbrev v2 : Text
v2 = codes "AAAAAAAAAAIAAAAAAAAAAAAAAAAAAAAA"

-- ---- the calls, each at the same moment and with words of 0

abbrev with_call : List SetEvent → SetCall → List SetEvent
with_call h call = h ++ entry_of sets setup h 0 1000 (replicate 48 0) call ∷ []

abbrev played : List SetEvent → List SetCall → List SetEvent
played h [] = h
played h (call ∷ calls) = played (with_call h call) calls

abbrev AllFit : List SetCall → Type 0
AllFit [] = Unit {0}
AllFit (call ∷ calls) = SetFits call × AllFit calls

played_legal : (h : List SetEvent) (calls : List SetCall) → Legal sets setup h → AllFit calls → Legal sets setup (played h calls)
played_legal h [] legal fit = legal
played_legal h (call ∷ calls) legal fit =
    played_legal (with_call h call) calls
    (legal-append sets setup h (entry_of sets setup h 0 1000 (replicate 48 0) call) legal
    (record { fits = fit.0; in_time = lit≤ tt; reply = refl; notes = refl })) fit.1

-- a set, the same again, a right that isn't served, what both references mean, and the same right twice
abbrev calls : List SetCall
calls = Register r1 photos ∷ Register r1 photos ∷ Register r1 calendar ∷ Resolve r1 v1 ∷ Resolve r1 v2 ∷ Register r1 (photos ++ photos) ∷ []

r1_utf8 : IsUtf8 r1
unfolding encode
r1_utf8 = (r1, (refl, refl))

v1_utf8 : IsUtf8 v1
unfolding encode
v1_utf8 = (v1, (refl, refl))

v2_utf8 : IsUtf8 v2
unfolding encode
v2_utf8 = (v2, (refl, refl))

photos_utf8 : IsUtf8 (codes "photos")
unfolding encode
photos_utf8 = (codes "photos", (refl, refl))

calendar_utf8 : IsUtf8 (codes "calendar")
unfolding encode
calendar_utf8 = (codes "calendar", (refl, refl))

example_is_legal : Legal sets setup (played [] calls)
example_is_legal = played_legal [] calls (legal-nil sets setup) (
  (r1_utf8, (photos_utf8, tt)),
  (
    (r1_utf8, (photos_utf8, tt)),
    (
      (r1_utf8, (calendar_utf8, tt)),
      (
        (r1_utf8, v1_utf8),
        (
          (r1_utf8, v2_utf8),
          ((r1_utf8, (photos_utf8, (photos_utf8, tt))), tt),
        ),
      ),
    ),
  ),
)

example_replies : map (λ (e : SetEvent). e.reply) (played [] calls)
    ≡ Registered v1 ∷ Registered v1 ∷ Error InvalidAccess ∷ Resolved r1 photos ∷ Error InvalidRequest ∷ Registered v2 ∷ []
unfolding value_text encode_symbols
example_replies = refl
