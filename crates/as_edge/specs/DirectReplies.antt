-- HTTP replies of the authorization server: how its responses stand in them, and those that need no state.
use Rattle.std.specs.Prelude.{Bool, Some, None, option_map}
use Rattle.serde_json.specs.Written.{compact_text}
use Rattle.http_edge.specs.declared.reply.HttpReply.{HttpReply}
use Rattle.http_edge.specs.declared.reply.Extra.TheVariants.{Allow}
use Rattle.http_edge.specs.Replies.{plain_reply}
use Rattle.gnap_model.specs.declared.objects.Setup.{Setup}
use Rattle.gnap_replies.specs.Responses.{Response, error_response}
use Rattle.gnap_replies.specs.Discovery.{client_discovery, server_discovery}
use Rattle.as_requests.specs.declared.routes.Route.{Route}
use Rattle.as_requests.specs.Routes.{allowed_methods}
use Rattle.as_requests.specs.declared.desk_calls.DirectAnswer.{DirectAnswer}
use Rattle.as_requests.specs.declared.desk_calls.DirectAnswer.TheVariants as direct

-- a response over HTTP: its status, with the challenge at 401, and the compact text of its body
abbrev pub http_reply : Bool → Response → HttpReply
http_reply last r = plain_reply r.status (option_map compact_text r.body) last

-- what is said to a method that the route doesn't have (RFC 9110, section 15.5.6)
abbrev pub allow_reply : Bool → Route → HttpReply
allow_reply last route = record { status = 405; extra = Allow (allowed_methods route); body = None; last = last }

-- what is said to a request that asks no call
abbrev pub direct_reply : Setup → Bool → DirectAnswer → HttpReply
direct_reply setup last direct.NotFound = plain_reply 404 None last
direct_reply setup last (direct.NotAllowed route) = allow_reply last route
direct_reply setup last direct.Discovery = plain_reply 200 (Some (compact_text (client_discovery setup.base))) last
direct_reply setup last direct.RsDiscovery = plain_reply 200 (Some (compact_text (server_discovery setup.base))) last
direct_reply setup last (direct.Error code) = http_reply last (error_response code)
