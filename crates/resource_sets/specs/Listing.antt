-- How sets are listed and looked up.
use Rattle.std.specs.Prelude.{ℕ, ◌≡◌, ◌+◌, ◌<◌, ◌^◌, List, slice_get}
use Rattle.std.specs.Option.{option_and_then}
use Rattle.std.specs.declared.option.Option.{Option}
use Rattle.std.specs.declared.option.Option.TheVariants.{Some}
use Rattle.gnap_model.specs.Common.{Text, some_if}
use Rattle.gnap_model.specs.Values.{value_text}
use Rattle.gnap_model.specs.declared.rights.Right.{Right}
use Rattle.gnap_tables.proofs.Lists.{HasItem}
use Rattle.grant_states.specs.declared.numbers_by_key.Listed.{Listed}
use Rattle.grant_states.specs.Listed.{under}
use Rattle.resource_sets.specs.Fingerprints.{fingerprint}
use Rattle.resource_sets.specs.Sets.{SetNote, has_reference}

-- the place of each set is listed under its fingerprint
abbrev pub AreListed : List Listed → List SetNote → Type 0
AreListed listed sets = (i : ℕ) (set : SetNote) → slice_get sets i ≡ Some set → HasItem listed (under (fingerprint set.server set.rights) i)

-- what was read as the place of a reference: where that is a value of a serial, the number of the serials before it
abbrev pub IsPlaceIn : Option ℕ → Text → Type 0
IsPlaceIn read reference = (i a b : ℕ) → 1 + i < 2 ^ 64 → reference ≡ value_text (1 + i) a b → read ≡ Some i

-- the set at the place, where it has the reference
abbrev pub set_at : ℕ → Text → List SetNote → Option SetNote
set_at place reference sets = option_and_then (λ (set : SetNote). some_if (has_reference reference set) set) (slice_get sets place)

-- This set stands at the place. It is the server's and has the rights.
pub record IsSetAt (server : Text) (rights : List Right) (sets : List SetNote) (place : ℕ) (set : SetNote) : Type 0 where
  pub there : slice_get sets place ≡ Some set
  pub server_is : set.server ≡ server
  pub rights_are : set.rights ≡ rights
