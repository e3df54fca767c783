-- What a list asks of its message and of the time.
use Rattle.std.specs.Prelude.{ℕ, ◌+◌, nat_le, Bool, true, false, not, ◌&&◌, ◌||◌, List, Option, Some, None, option_and_then, Result, Ok, ℤ, pos, negsuc, codes}
use Rattle.bytes_and_lists.specs.declared.message.Message.{Message}
use Rattle.structured_fields.specs.declared.bare.Bare.{Bare}
use Rattle.structured_fields.specs.declared.item.Item.{Item}
use Rattle.structured_fields.specs.declared.item.InnerList.{InnerList}
use Rattle.structured_fields.specs.Named.{value_at}
use Rattle.structured_fields.specs.Strings.{is_string}
use Rattle.message_signature.specs.declared.fault.SigFault.{SigFault}
use Rattle.message_signature.specs.declared.fault.SigFault.TheVariants.{Uncovered, Created, Expired, Alg}
use Rattle.message_signature.specs.declared.demands.Covering.{Covering}
use Rattle.message_signature.specs.declared.demands.Demands.{Demands}
use Rattle.message_signature.specs.Base.{is_named}
use Rattle.message_signature.specs.Faults.{◌>>=◌, must}
use Rattle.message_signature.specs.Verified.{integer_in, absent_or, has_body, has_field}

abbrev pub covering_of : List Item → Covering
covering_of items = record {
  target = is_named (codes "@method") items && is_named (codes "@target-uri") items;
  digest = is_named (codes "content-digest") items;
  authorization = is_named (codes "authorization") items;
}

abbrev pub demands_with : Covering → List (List ℕ × Bare) → Demands
demands_with covering params = record {
  covering = covering;
  created = option_and_then integer_in (value_at params (codes "created"));
  expires = option_and_then integer_in (value_at params (codes "expires"));
  right_alg = absent_or (is_string (codes "hmac-sha256")) (value_at params (codes "alg"));
}

abbrev pub demands_of : InnerList → Demands
demands_of list = demands_with (covering_of list.items) list.params

-- what the message needs is covered
abbrev pub are_covering : Message → Covering → Bool
are_covering m covering = covering.target && (not (has_body m) || covering.digest) && (not (has_field (codes "authorization") m) || covering.authorization)

-- `created` is there, and at most 300 seconds from now
abbrev pub is_near : ℕ → Option ℤ → Bool
is_near now (Some (pos created)) = nat_le created (now + 300) && nat_le now (created + 300)
is_near now (Some (negsuc before)) = nat_le (now + (before + 1)) 300
is_near now None = false

-- now isn't past `expires`, where that is there
abbrev pub is_not_past : ℕ → Option ℤ → Bool
is_not_past now (Some (pos expires)) = nat_le now expires
is_not_past now (Some (negsuc before)) = false
is_not_past now None = true

-- the message and the time are as it asks
abbrev pub admitted_by : Message → ℕ → Demands → Result (Unit {0}) SigFault
admitted_by m now demands = do
  _ ← must Uncovered (are_covering m demands.covering)
  _ ← must Created (is_near now demands.created)
  _ ← must Expired (is_not_past now demands.expires)
  _ ← must Alg demands.right_alg
  Ok tt
