use Rattle.std.proofs.Common.{◌≡◌, ℕ, List, refl}
use Rattle.std.specs.List.{count_by}
use Rattle.grant_states.specs.declared.numbers_by_key.Listed.{Listed}
use Rattle.token_manager.specs.declared.token_table.TokenPlace.{TokenPlace}
use Rattle.token_manager.specs.Tokens.{AreTokenPlaces, AreListed, is_lasting}
use Rattle.token_manager.proofs.token_table.TokenTable.reserve.Goals as goal

-- the invariant holds of parts that are equal
held : (places same_places : List TokenPlace) (listed same_listed : List Listed) (swept lasting : ℕ) → same_places ≡ places → same_listed ≡ listed
    → AreTokenPlaces places × AreListed listed places × (lasting ≡ count_by (is_lasting swept) places)
    → AreTokenPlaces same_places × AreListed same_listed same_places × (lasting ≡ count_by (is_lasting swept) same_places)
held places same_places listed same_listed swept lasting by_places by_listed is = rw (by_places, by_listed) is

pub invariant_of-self : goal.invariant_of-self
invariant_of-self c =
    held c.self.inside.places.items c.reserve.new.self.items c.self.inside.serials.listed c.self.inside.serials.listed c.self.inside.swept
    c.self.inside.lasting c.reserve.ensures.items refl c.self.invariant

pub invariant_of-self-2 : goal.invariant_of-self-2
invariant_of-self-2 c =
    held c.self.inside.places.items c.reserve.new.self.items c.self.inside.serials.listed c.reserve-2.new.self.listed c.self.inside.swept
    c.self.inside.lasting c.reserve.ensures.items c.reserve-2.ensures.listed c.self.invariant
