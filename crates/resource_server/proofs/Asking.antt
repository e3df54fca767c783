-- A question that is asked.
use Rattle.std.proofs.Common.{◌≡◌, ℕ, List, refl, subst}
use Rattle.std.specs.Prelude.{Option, Some, None, Result, Ok, Err, IsSome, option_map, codes}
use Rattle.bytes_and_lists.specs.declared.message.Message.{Message}
use Rattle.outside.specs.Links.{LinkState, Exchanges}
use Rattle.outside.specs.declared.link.LinkFault.{LinkFault}
use Rattle.outside.specs.declared.link.LinkFault.TheVariants as link_faults
use Rattle.message_signature.specs.Signed.{params_of, signed}
use Rattle.message_signature.proofs.SignedBase.{always_signed}
use Rattle.signed_requests.specs.Requests.{unsigned_message, request_bytes, signed_request}
use Rattle.resource_server.specs.declared.setup.RsSetup.{RsSetup}
use Rattle.resource_server.specs.Introspecting.{introspection, introspection_bytes, IsAsked}

there : (o : Option Message) → IsSome o → (b : List ℕ) × (option_map request_bytes o ≡ Some b)
there (Some m) is = (request_bytes m, refl)
there None is = absurd (cc)

-- a question always has a signed request
pub has_request : (setup : RsSetup) (now : ℕ) (text : List ℕ) → (request : List ℕ) × (introspection_bytes setup now text ≡ Some request)
unfolding signed_request
has_request setup now text = there (signed (unsigned_message setup.server (introspection text)) setup.server setup.id setup.secret now (codes "gnap"))
    (always_signed (unsigned_message setup.server (introspection text)) setup.server (params_of setup.id now None (codes "gnap")) setup.secret)

-- memory ran out before it was exchanged
pub never_sent : (setup : RsSetup) (now : ℕ) (text : List ℕ) (link : LinkState) → IsAsked setup now text link link (Err link_faults.OutOfMemory)
never_sent setup now text link =
    let has = has_request setup now text in
    record { request = has.0; signed = has.1; exchanged = refl }

pub sent : (setup : RsSetup) (now : ℕ) (text request bytes : List ℕ) (before after : LinkState) (reply : Result (List ℕ) LinkFault)
    → introspection_bytes setup now text ≡ Some request → bytes ≡ request → Exchanges bytes before after reply → IsAsked setup now text before after reply
sent setup now text request bytes before after reply signed same done =
    record { request = request; signed = signed; exchanged = subst (λ (b : List ℕ). Exchanges b before after reply) same done }
