-- What turns are taken at beside a connection: a desk of a machine, or whatever else a server asks.
use Rattle.std.specs.Prelude.{◌≡◌, ℕ, ◌+◌, ◌*◌, ◌<◌, ◌≤◌, List, [], ◌∷◌, ◌++◌, length}
use Rattle.outside.specs.Gears.{GearState, with_uses}
use Rattle.histories.specs.declared.entry.Entry.{Entry}
use Rattle.histories.specs.Whole.{own_of}

-- What makes a type a kind of backend. A past is what one has seen; several may fit it, as a core may stand for several histories.
pub record BackendKind (B Past E : Type 0) : Type 1 where
  -- it has seen this past
  pub seen : B → Past → Type 0
  -- of one that had seen the first past, these entries made one that has seen the second
  pub leads : B → Past → List E → B → Past → Type 0
  -- the words that were drawn for entries
  pub draws : List E → List (List ℕ)
  -- there is room for so many turns, of two entries each
  pub has_room : B → ℕ → Type 0
  pub none : (b : B) (p : Past) → seen b p → leads b p [] b p
  pub more : (b c d : B) (p q r : Past) (es fs : List E) → leads b p es c q → leads c q fs d r → leads b p (es ++ fs) d r
  pub sees : (b c : B) (p q : Past) (es : List E) → leads b p es c q → seen c q
  pub draws_none : draws [] ≡ []
  pub draws_more : (es fs : List E) → draws (es ++ fs) ≡ draws es ++ draws fs
  pub room_left : (b c : B) (turns left : ℕ) → has_room b (turns + left)
      → ((p : Past) → seen b p → (es : List E) × (q : Past) × leads b p es c q × (length es ≤ 2 * turns)) → has_room c left

module _ {B Past E : Type 0} (kind : BackendKind B Past E) where
  -- These entries were made at one moment of a gear, and with its words.
  pub record Entered (before : B) (past : Past) (entries : List E) (moment : ℕ) (gear gear_now : GearState) (after : B) (past_now : Past) : Type 0 where
    pub leads : kind.leads before past entries after past_now
    pub used : gear_now ≡ with_uses (moment ∷ []) (kind.draws entries) gear

-- ---- desks

module _ {D Rules Home Call Reply Note : Type 0} (rules : D → Rules) (number : D → ℕ) (home : D → Home) (seen : D → List (Entry Call Reply Note) → Type 0) where
  -- A desk stayed the same one. Others' entries may have come to what it had seen, and of its own number these ones.
  pub record AddsEntries (before : D) (h entries : List (Entry Call Reply Note)) (after : D) (history : List (Entry Call Reply Note)) : Type 0 where
    pub rules_same : rules after ≡ rules before
    pub number_same : number after ≡ number before
    pub home_same : home after ≡ home before
    pub seen_now : seen after history
    pub own : own_of (number before) history ≡ own_of (number before) h ++ entries

  -- A desk has these rules, and room for two own entries in each of so many turns.
  pub record HasDeskRoom (wanted : Rules) (desk : D) (turns : ℕ) : Type 0 where
    pub rules_are : rules desk ≡ wanted
    pub history : List (Entry Call Reply Note)
    pub was_seen : seen desk history
    pub short : length (own_of (number desk) history) + 2 * turns < 4503599627370496
