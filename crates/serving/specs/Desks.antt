-- A desk as what turns are taken at.
use Rattle.std.proofs.Common.{◌≡◌, ◌∙◌, ℕ, ◌+◌, ◌*◌, ◌≤◌, List, [], ◌++◌, map, length, length-append, refl, ap, sym, subst, append_assoc, arith}
use Rattle.std.proofs.lemmas.List.{append-nil, map-append}
use Rattle.histories.specs.declared.entry.Entry.{Entry}
use Rattle.histories.specs.Turns.{draw_of}
use Rattle.histories.specs.Whole.{own_of}
use Rattle.serving.specs.Backends.{BackendKind, AddsEntries, HasDeskRoom}

module _ {D Rules Home Call Reply Note : Type 0} (rules : D → Rules) (number : D → ℕ) (home : D → Home) (seen : D → List (Entry Call Reply Note) → Type 0) where
  pub adds-none : (b : D) (h : List (Entry Call Reply Note)) → seen b h → AddsEntries rules number home seen b h [] b h
  adds-none b h was = record {
    rules_same = refl;
    number_same = refl;
    home_same = refl;
    seen_now = was;
    own = sym (append-nil (own_of (number b) h));
  }

  pub adds-more : (b c d : D) (h k l es fs : List (Entry Call Reply Note)) → AddsEntries rules number home seen b h es c k
      → AddsEntries rules number home seen c k fs d l → AddsEntries rules number home seen b h (es ++ fs) d l
  adds-more b c d h k l es fs first second = record {
    rules_same = second.rules_same ∙ first.rules_same;
    number_same = second.number_same ∙ first.number_same;
    home_same = second.home_same ∙ first.home_same;
    seen_now = second.seen_now;
    own = subst (λ n. own_of n l ≡ own_of n k ++ fs) first.number_same second.own ∙ ap (λ x. x ++ fs) first.own ∙ append_assoc (own_of (number b) h) es fs;
  }

  pub room-left : (wanted : Rules) (b c : D) (turns left : ℕ) → HasDeskRoom rules number home seen wanted b (turns + left)
      → ((h : List (Entry Call Reply Note)) → seen b h → (es : List (Entry Call Reply Note)) × (k : List (Entry Call Reply Note))
      × AddsEntries rules number home seen b h es c k × (length es ≤ 2 * turns))
      → HasDeskRoom rules number home seen wanted c left
  room-left wanted b c turns left room made =
      let one = made room.history room.was_seen in
      let adds = one.2 in
      record {
        rules_are = adds.rules_same ∙ room.rules_are;
        history = one.1;
        was_seen = adds.seen_now;
        short = (
            let now = ap (λ n. length (own_of n one.1)) adds.number_same in
            let own = ap length adds.own in
            let sum = length-append (own_of (number b) room.history) one.0 in
            let few = one.3 in
            let was = room.short in
            omega (arith, now, own, sum, few, was));
      }

  -- Desks of a machine with these rules. Each entry has words of its own.
  abbrev pub desk_backend : Rules → BackendKind D (List (Entry Call Reply Note)) (Entry Call Reply Note)
  desk_backend wanted = record {
    seen = seen;
    leads = AddsEntries rules number home seen;
    draws = map draw_of;
    has_room = HasDeskRoom rules number home seen wanted;
    none = adds-none;
    more = adds-more;
    sees = λ b c p q es adds. adds.seen_now;
    draws_none = refl;
    draws_more = map-append draw_of;
    room_left = room-left wanted;
  }
