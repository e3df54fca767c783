-- Where nonces and their keys stand among the texts of one second.
use Rattle.std.specs.Prelude.{ℕ, ◌≡◌, ◌+◌, ◌&&◌, nat_le, Bool, List}
use Rattle.std.specs.List.{slice_range}
use Rattle.gnap_model.specs.Common.{Text, same_text}
use Rattle.nonce_store.specs.declared.run.Place.{Place}

-- the place lies within so many bytes
abbrev pub is_within : ℕ → Place → Bool
is_within bytes place = nat_le place.start place.middle && (nat_le place.middle place.end && nat_le place.end bytes)

-- this nonce of this key stands at the place
abbrev pub is_at : List ℕ → Text → Text → Place → Bool
is_at texts key nonce place = same_text (slice_range texts place.start place.middle) key && same_text (slice_range texts place.middle place.end) nonce

-- the place of a key and a nonce of so many bytes, behind so many bytes of others
pub record IsNext (bytes key nonce : ℕ) (place : Place) : Type 0 where
  pub starts : place.start ≡ bytes
  pub middle : place.middle ≡ bytes + key
  pub ends : place.end ≡ bytes + key + nonce
