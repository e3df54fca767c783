-- A request that is made has no signature yet.
use Rattle.std.proofs.Common.{◌≡◌, ℕ, List, [], ◌∷◌, false, refl}
use Rattle.std.specs.Prelude.{Option, Some, None}
use Rattle.message_signature.specs.Components.{field_value}
use Rattle.message_signature.specs.Signed.{has_signature}
use Rattle.signed_requests.specs.declared.unsigned.UnsignedRequest.{UnsignedRequest}
use Rattle.signed_requests.specs.declared.unsigned.Scheme.{Scheme}
use Rattle.signed_requests.specs.Requests.{unsigned_message}

by_parts : (base method target : List ℕ) (presented : Option (Scheme × List ℕ)) (body : List ℕ)
    → has_signature (unsigned_message base (record { method = method; target = target; presented = presented; body = body })) ≡ false
unfolding field_value
by_parts base method target None [] = refl
by_parts base method target None (byte ∷ body) = refl
by_parts base method target (Some presented) [] = refl
by_parts base method target (Some presented) (byte ∷ body) = refl

pub never_signed : (base : List ℕ) (request : UnsignedRequest) → has_signature (unsigned_message base request) ≡ false
never_signed base request = by_parts base request.method request.target request.presented request.body
