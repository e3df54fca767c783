-- What is admitted, by the demands of the list.
use Rattle.std.proofs.Common.{◌≡◌, ℕ, Option, Some, None, refl}
use Rattle.std.specs.Prelude.{option_and_then, pos, negsuc, codes}
use Rattle.bytes_and_lists.specs.declared.message.Message.{Message}
use Rattle.structured_fields.specs.declared.bare.Bare.{Bare}
use Rattle.structured_fields.specs.declared.bare.Bare.TheVariants.{Integer, Decimal, Str, Token, Binary, Boolean, Date, Display}
use Rattle.structured_fields.specs.declared.item.InnerList.{InnerList}
use Rattle.structured_fields.specs.Named.{value_at}
use Rattle.message_signature.specs.Verified.{integer_in, is_in_window, is_not_expired, covers_enough, admitted}
use Rattle.message_signature.specs.Demands.{covering_of, demands_of, are_covering, is_near, is_not_past, admitted_by}

near_same : (now : ℕ) (o : Option Bare) → is_in_window now o ≡ is_near now (option_and_then integer_in o)
near_same now None = refl
near_same now (Some (Integer (pos n))) = refl
near_same now (Some (Integer (negsuc n))) = refl
near_same now (Some (Decimal n)) = refl
near_same now (Some (Str s)) = refl
near_same now (Some (Token s)) = refl
near_same now (Some (Binary b)) = refl
near_same now (Some (Boolean b)) = refl
near_same now (Some (Date n)) = refl
near_same now (Some (Display s)) = refl

not_past_same : (now : ℕ) (o : Option Bare) → is_not_expired now o ≡ is_not_past now (option_and_then integer_in o)
not_past_same now None = refl
not_past_same now (Some (Integer (pos n))) = refl
not_past_same now (Some (Integer (negsuc n))) = refl
not_past_same now (Some (Decimal n)) = refl
not_past_same now (Some (Str s)) = refl
not_past_same now (Some (Token s)) = refl
not_past_same now (Some (Binary b)) = refl
not_past_same now (Some (Boolean b)) = refl
not_past_same now (Some (Date n)) = refl
not_past_same now (Some (Display s)) = refl

module _ (m : Message) (now : ℕ) (list : InnerList) where
  covers_same : covers_enough m list ≡ are_covering m (covering_of list.items)
  covers_same = refl

  pub admitted_by_demands : admitted m now list ≡ admitted_by m now (demands_of list)
  unfolding admitted
  admitted_by_demands =
      rw (covers_same, near_same now (value_at list.params (codes "created")), not_past_same now (value_at list.params (codes "expires"))) refl
