-- The replies of a resource server (RFC 9635, section 7; RFC 9110, sections 10.2.1 and 11.6.1).
-- Bytes stand by their numbers: 32 SP, 44 `,`.
use Rattle.std.specs.Prelude.{ℕ, Bool, List, [], ◌∷◌, map, filter, Option, Some, None, codes, slice_get}
use Rattle.bytes_and_lists.specs.declared.message.Message.{Message}
use Rattle.serde_json.specs.Data.{Data, string}
use Rattle.serde_json.specs.Written.{compact_text}
use Rattle.json_objects.specs.Objects.{object_of}
use Rattle.structured_fields.specs.Canonical.{separated_text}
use Rattle.http_edge.specs.declared.reply.HttpReply.{HttpReply}
use Rattle.http_edge.specs.declared.reply.Extra.TheVariants.{Allow}
use Rattle.http_edge.specs.Replies.{plain_reply, busy_reply}
use Rattle.message_signature.specs.Components.{target_path}
use Rattle.resource_server.specs.declared.setup.Route.{Route}
use Rattle.resource_server.specs.declared.setup.RsSetup.{RsSetup}
use Rattle.resource_server.specs.declared.guarded.Guarded.{Guarded}
use Rattle.resource_server.specs.declared.guarded.Guarded.TheVariants as guarded
use Rattle.resource_server.specs.declared.guarded.Why.{Why}
use Rattle.resource_server.specs.declared.guarded.Why.TheVariants as why
use Rattle.resource_server.specs.Routing.{has_path}

abbrev pub shown_fields : List ℕ → List (List ℕ × Option Data)
shown_fields text = (codes "text", Some (string text)) ∷ []

-- the body of a resource that is shown
abbrev pub shown_text : List ℕ → List ℕ
shown_text text = compact_text (object_of (shown_fields text))

-- the methods of the routes with this path, in their order
abbrev pub methods_at : List ℕ → List Route → List (List ℕ)
methods_at path routes = map (λ (r : Route). r.method) (filter (has_path path) routes)

-- the value of `Allow` (RFC 9110, section 10.2.1)
abbrev pub allow_text : List (List ℕ) → List ℕ
allow_text methods = separated_text (44 ∷ 32 ∷ []) (λ m. m) methods

abbrev pub allow_reply : List Route → Message → Bool → HttpReply
allow_reply routes m last = record { status = 405; extra = Allow (allow_text (methods_at (target_path m.target) routes)); body = None; last = last }

-- the reply to a refusal: none has a body
abbrev pub refusal_reply : RsSetup → Message → Bool → ℕ → Why → HttpReply
refusal_reply setup m last status why.NoMethod = allow_reply setup.routes m last
refusal_reply setup m last status reason = plain_reply status None last

abbrev pub shown_reply : Option Route → Bool → HttpReply
shown_reply None last = busy_reply
shown_reply (Some route) last = plain_reply 200 (Some (shown_text route.text)) last

-- the reply to what a request came to; the Bool tells whether the connection closes behind it
abbrev pub rs_reply : RsSetup → Message → Bool → Guarded → HttpReply
rs_reply setup m last (guarded.Allow i) = shown_reply (slice_get setup.routes i) last
rs_reply setup m last (guarded.Deny status reason) = refusal_reply setup m last status reason
rs_reply setup m last guarded.LinkFault = plain_reply 502 None last
rs_reply setup m last guarded.Memory = busy_reply
