use Rattle.std.proofs.Common.{ℕ, ◌≡◌, ◌∙◌, ◌/◌, ◌^◌, List, [], get_or, refl, sym, subst, Option, Some, None}
use Rattle.std.specs.Prelude.{IfSome}
use Rattle.gnap_model.specs.Common.{Text}
use Rattle.gnap_tables.proofs.Lists.{HasItem}
use Rattle.grant_states.specs.declared.grant_table.GrantPlace.{GrantPlace}
use Rattle.grant_states.specs.declared.numbers_by_key.Listed.{Listed}
use Rattle.grant_states.specs.declared.open_codes.OpenCodes.{OpenCodes}
use Rattle.grant_states.specs.Listed.{under}
use Rattle.grant_states.specs.OpenCodes.{IsCodeListed}
use Rattle.grant_states.specs.Grants.{AreCodesListed, AreGrantPlaces, AreHandlesListed, code_at}
use Rattle.grant_states.proofs.grant_table.GrantTable.reserve.Goals as goal

-- the invariant holds of parts that are equal, each list of codes to that at its place
held : (swept bound : ℕ) (places same_places : List GrantPlace) (doors same_doors : List Listed) (names same_names : List Listed)
    (codes same_codes : OpenCodes)
    → same_places ≡ places → same_doors ≡ doors → same_names ≡ names
    → ((i : ℕ) → get_or same_codes.lists.items i [] ≡ get_or codes.lists.items i []) → same_codes.complete ≡ codes.complete
    → AreGrantPlaces places doors bound × AreHandlesListed names places × AreCodesListed swept codes places
    → AreGrantPlaces same_places same_doors bound × AreHandlesListed same_names same_places × AreCodesListed swept same_codes same_places
held swept bound places same_places doors same_doors names same_names codes same_codes by_places by_doors by_names by_lists by_complete is =
    subst (λ (ps : List GrantPlace). AreGrantPlaces ps same_doors bound × AreHandlesListed same_names ps × AreCodesListed swept same_codes ps) (sym by_places) (
      subst (λ (ds : List Listed). AreGrantPlaces places ds bound) (sym by_doors) is.0,
      subst (λ (ns : List Listed). AreHandlesListed ns places) (sym by_names) is.1,
      record {
        open_under = λ code number h. is.2.open_under code number
            (subst (λ (ls : List Listed). HasItem ls (under code number)) (by_lists (code / 20 ^ 7)) h);
        listed = λ all p h. still (code_at swept p) p.number (is.2.listed (sym by_complete ∙ all) p h);
      },
    )
  where
    still : (o : Option Text) (number : ℕ) → IfSome o (IsCodeListed codes number) → IfSome o (IsCodeListed same_codes number)
    still None number i = tt
    still (Some text) number i = (i.0, i.1, subst (λ (ls : List Listed). HasItem ls (under i.0 number)) (sym (by_lists (i.0 / 20 ^ 7))) i.2)

pub invariant_of-self : goal.invariant_of-self
invariant_of-self c = held c.self.inside.swept c.self.inside.doors_below c.self.inside.places.items c.reserve.new.self.items c.self.inside.doors.items
    c.self.inside.doors.items c.self.inside.handles.listed c.self.inside.handles.listed c.self.inside.codes c.self.inside.codes
    c.reserve.ensures.items refl refl (λ i. refl) refl c.self.invariant

pub invariant_of-self-then-is_err-2 : goal.invariant_of-self-then-is_err-2
invariant_of-self-then-is_err-2 c = held c.self.inside.swept c.self.inside.doors_below c.self.inside.places.items c.reserve.new.self.items
    c.self.inside.doors.items c.reserve-2.new.self.items c.self.inside.handles.listed c.self.inside.handles.listed c.self.inside.codes c.self.inside.codes
    c.reserve.ensures.items c.reserve-2.ensures.items refl (λ i. refl) refl c.self.invariant

pub invariant_of-self-in_err-reserve : goal.invariant_of-self-in_err-reserve
invariant_of-self-in_err-reserve c = held c.self.inside.swept c.self.inside.doors_below c.self.inside.places.items c.reserve.new.self.items
    c.self.inside.doors.items c.reserve-2.new.self.items c.self.inside.handles.listed c.reserve-3.new.self.listed c.self.inside.codes c.self.inside.codes
    c.reserve.ensures.items c.reserve-2.ensures.items c.in_err-reserve.ensures.listed (λ i. refl) refl c.self.invariant

pub invariant_of-self-2 : goal.invariant_of-self-2
invariant_of-self-2 c = held c.self.inside.swept c.self.inside.doors_below c.self.inside.places.items c.reserve.new.self.items
    c.self.inside.doors.items c.reserve-2.new.self.items c.self.inside.handles.listed c.reserve-3.new.self.listed c.self.inside.codes c.reserve-4.new.self
    c.reserve.ensures.items c.reserve-2.ensures.items c.in_ok-reserve.ensures.listed c.reserve-4.ensures.lists c.reserve-4.ensures.complete c.self.invariant
