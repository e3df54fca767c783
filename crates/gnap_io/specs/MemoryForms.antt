-- What sources, sinks, connections, gears and links in memory are, and how exactly they answer.
use Rattle.std.specs.Prelude.{◌≡◌, ◌⊎◌, ℕ, ◌+◌, ◌-◌, ◌<◌, min, true, false, List, [], ◌∷◌, ◌++◌, take, drop, length, map, replicate, Result, Ok, Err, Option, Some, None}
use Rattle.outside.specs.declared.device.Failed.{Failed}
use Rattle.outside.specs.declared.link.LinkFault.{LinkFault}
use Rattle.outside.specs.declared.link.LinkFault.TheVariants.{Failed as LinkFailed, OutOfMemory as LinkOutOfMemory}
use Rattle.outside.specs.Outside.{Told, IsUntouched, one_more, served_of}
use Rattle.outside.specs.Gears.{GearState}
use Rattle.outside.specs.Links.{LinkState, Exchange}
use Rattle.gnap_io.specs.FaultPlans.{Plan, new_plan, is_bad, called}

-- ---- sources

-- the bytes that were read and those that are left, the faults, and which reads fail
pub record SourceForm : Type 0 where
  pub taken : List ℕ
  pub left : List ℕ
  pub faults : ℕ
  pub reads : Plan

abbrev pub new_source : List ℕ → List ℕ → SourceForm
new_source bytes bad_reads = record { taken = []; left = bytes; faults = 0; reads = new_plan bad_reads }

-- all bytes of a source, read or not
abbrev pub bytes_of : SourceForm → List ℕ
bytes_of source = source.taken ++ source.left

abbrev pub source_told : SourceForm → Told
source_told source = record { taken = source.taken; left = Some source.left; written = [] }

-- The answer to a read with so much room. It fails exactly where its number is bad, and else gives as many bytes as are left and fit.
abbrev pub ReadsByPlan : ℕ → SourceForm → SourceForm → Result ℕ Failed → Type 0
ReadsByPlan room before after (Ok count) = (is_bad before.reads ≡ false) × (count ≡ min room (length before.left))
    × (after ≡ record before { taken = before.taken ++ take count before.left; left = drop count before.left; reads = called before.reads })
ReadsByPlan room before after (Err e) = (is_bad before.reads ≡ true)
    × (after ≡ record before { faults = one_more before.faults; reads = called before.reads })

-- ---- sinks

-- the bytes that were written, the room for more, the faults, and which writes fail
pub record SinkForm : Type 0 where
  pub written : List ℕ
  pub room : ℕ
  pub faults : ℕ
  pub writes : Plan

abbrev pub new_sink : ℕ → List ℕ → SinkForm
new_sink room bad_writes = record { written = []; room = room; faults = 0; writes = new_plan bad_writes }

-- The answer to a write. It fails exactly where no room is left or its number is bad, and else takes as many bytes as fit.
abbrev pub WritesByPlan : List ℕ → SinkForm → SinkForm → Result ℕ Failed → Type 0
WritesByPlan piece before after (Ok count) = (0 < before.room) × (is_bad before.writes ≡ false) × (count ≡ min (length piece) before.room)
    × (after ≡ record before { written = before.written ++ take count piece; room = before.room - count; writes = called before.writes })
WritesByPlan piece before after (Err e) = ((before.room ≡ 0) ⊎ (is_bad before.writes ≡ true))
    × (after ≡ record before { faults = one_more before.faults; writes = called before.writes })

-- ---- connections

-- what is read from, and what is written to
pub record ConnForm : Type 0 where
  pub source : SourceForm
  pub sink : SinkForm

abbrev pub new_conn : List ℕ → ℕ → List ℕ → List ℕ → ConnForm
new_conn bytes room bad_reads bad_writes = record { source = new_source bytes bad_reads; sink = new_sink room bad_writes }

abbrev pub told_of : ConnForm → Told
told_of conn = record (source_told conn.source) { written = conn.sink.written }

abbrev pub faults_of : ConnForm → ℕ
faults_of conn = conn.source.faults + conn.sink.faults

-- a connection that nothing was done with
abbrev pub IsUnusedConn : ConnForm → Type 0
IsUnusedConn conn = IsUntouched (told_of conn) (faults_of conn)

-- ---- gears

-- The connections to come, how many are out, those that are back, the faults, and which accepts fail; the moments to come, the last one, and those
-- that were given; the draws to come, and those that were given.
pub record GearForm : Type 0 where
  pub waiting : List ConnForm
  pub out : ℕ
  pub served : List ConnForm
  pub faults : ℕ
  pub accepts : Plan
  pub moments : List ℕ
  pub moment : ℕ
  pub given : List ℕ
  pub draws : List (List ℕ)
  pub drawn : List (List ℕ)

-- Where it has no moment, it gives 0.
abbrev pub unused_gear : List ConnForm → List ℕ → List (List ℕ) → List ℕ → GearForm
unused_gear conns moments draws bad_accepts = record {
  waiting = conns;
  out = 0;
  served = [];
  faults = 0;
  accepts = new_plan bad_accepts;
  moments = moments;
  moment = 0;
  given = [];
  draws = draws;
  drawn = [];
}

abbrev pub gear_state : GearForm → GearState
gear_state gear = record {
  out = gear.out;
  left = length gear.waiting;
  faults = gear.faults;
  log = record { served = map (λ conn. served_of (told_of conn) (faults_of conn)) gear.served; moments = gear.given; draws = gear.drawn };
}

-- The answer to an accept. It fails exactly where its number is bad, and else gives the next connection, where one is to come.
abbrev pub AcceptsByPlan : GearForm → GearForm → Result (Option ConnForm) Failed → Type 0
AcceptsByPlan before after (Ok (Some conn)) = (is_bad before.accepts ≡ false) × (before.waiting ≡ conn ∷ after.waiting)
    × (after ≡ record before { waiting = after.waiting; out = before.out + 1; accepts = called before.accepts })
AcceptsByPlan before after (Ok None) = (is_bad before.accepts ≡ false) × (before.waiting ≡ []) × (after ≡ record before { accepts = called before.accepts })
AcceptsByPlan before after (Err e) = (is_bad before.accepts ≡ true)
    × (after ≡ record before { faults = one_more before.faults; accepts = called before.accepts })

-- the first of a list, or this where there is none
abbrev pub first_or : {X : Type 0} → X → List X → X
first_or other [] = other
first_or other (x ∷ xs) = x

-- a connection was taken back
abbrev pub gear_serving : ConnForm → GearForm → GearForm
gear_serving conn gear = record gear { out = gear.out - 1; served = gear.served ++ conn ∷ [] }

-- the clock gave its next moment, or the last one again
abbrev pub next_moment : GearForm → ℕ
next_moment gear = first_or gear.moment gear.moments

abbrev pub gear_timed : GearForm → GearForm
gear_timed gear = record gear { moments = drop 1 gear.moments; moment = next_moment gear; given = gear.given ++ next_moment gear ∷ [] }

-- the next words were drawn, or zeros
abbrev pub next_draw : GearForm → List ℕ
next_draw gear = first_or (replicate 48 0) gear.draws

abbrev pub gear_drawn : GearForm → GearForm
gear_drawn gear = record gear { draws = drop 1 gear.draws; drawn = gear.drawn ++ next_draw gear ∷ [] }

-- ---- links

-- the replies to come, the exchanges, the faults, and which exchanges fail
pub record LinkForm : Type 0 where
  pub replies : List (List ℕ)
  pub asked : List Exchange
  pub faults : ℕ
  pub exchanges : Plan

abbrev pub unasked_link : List (List ℕ) → List ℕ → LinkForm
unasked_link replies bad_exchanges = record { replies = replies; asked = []; faults = 0; exchanges = new_plan bad_exchanges }

abbrev pub link_state : LinkForm → LinkState
link_state link = record { faults = link.faults; asked = link.asked }

-- The answer to a request. It fails exactly where no reply is left or its number is bad, and else it is the next reply; memory may run out.
abbrev pub ExchangesByPlan : List ℕ → LinkForm → LinkForm → Result (List ℕ) LinkFault → Type 0
ExchangesByPlan request before after (Ok reply) = (is_bad before.exchanges ≡ false) × (before.replies ≡ reply ∷ after.replies)
    × (after ≡ record before { replies = after.replies; asked = before.asked ++ (request, Some reply) ∷ []; exchanges = called before.exchanges })
ExchangesByPlan request before after (Err LinkFailed) = ((before.replies ≡ []) ⊎ (is_bad before.exchanges ≡ true))
    × (after ≡ record before { asked = before.asked ++ (request, None) ∷ []; faults = one_more before.faults; exchanges = called before.exchanges })
ExchangesByPlan request before after (Err LinkOutOfMemory) = after ≡ record before { exchanges = called before.exchanges }
