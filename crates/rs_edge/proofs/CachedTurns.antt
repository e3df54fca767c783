-- Turns with a cache, as the steps of which the laws of a cache speak.
use Rattle.std.proofs.Common.{◌≡◌, ◌∙◌, ◌⊎◌, inl, inr, ◌+◌, ◌<◌, ◌≤◌, ℕ, suc, true, false, Bool, List, [], ◌∷◌, ◌++◌, Contains, refl, ap, sym, subst}
use Rattle.std.specs.Prelude.{Some, None}
use Rattle.std.proofs.lemmas.List.{append-nil}
use Rattle.lru.proofs.Splits.{cons_head, Contains-head, Contains-tail, Contains-cons, Contains-nil}
use Rattle.bytes_and_lists.specs.declared.message.Message.{Message}
use Rattle.outside.specs.Gears.{Log, GearState}
use Rattle.outside.specs.Links.{Exchange, LinkState}
use Rattle.outside.specs.Outside.{Served}
use Rattle.histories.specs.Turns.{Turn, Each, entries_in}
use Rattle.histories.proofs.TurnLemmas.{entries_in-append, each-append}
use Rattle.http_edge.specs.declared.fault.EdgeFault.{EdgeFault}
use Rattle.http_serving.specs.EdgeWire.{edge_wire}
use Rattle.serving.specs.Connections.{AreTurns, is_closing}
use Rattle.serving.specs.Logs.{joined}
use Rattle.serving.specs.declared.ends.ConnectionEnd.{ConnectionEnd}
use Rattle.reply_readers.specs.declared.judgement.Judgement.TheVariants.{Active}
use Rattle.signed_requests.specs.declared.unsigned.Scheme.{Scheme}
use Rattle.resource_server.specs.declared.setup.Route.{Route}
use Rattle.resource_server.specs.declared.setup.RsSetup.{RsSetup}
use Rattle.resource_server.specs.declared.guarded.Guarded.{Guarded}
use Rattle.resource_server.specs.declared.guarded.Guarded.TheVariants as guarded
use Rattle.resource_server.specs.Introspecting.{question_text}
use Rattle.resource_server.specs.Guarding.{SaysOfToken, Guards}
use Rattle.resource_server.specs.Laws.{Presents, AllowedByReply, IsIntrospected}
use Rattle.introspection_cache.specs.declared.kept_reply.KeptReply.{KeptReply}
use Rattle.introspection_cache.specs.Caching.{Cache, Caches, fresh_to, new_cache}
use Rattle.introspection_cache.specs.Laws.{CachedStep, CameIn, IsKept, Chained as CachedChained}
use Rattle.introspection_cache.proofs.Chains.{cached_allow_means_law, cached_is_guard_law, fresh_is_silent_law}
use Rattle.rs_edge.specs.GuardedSteps.{GuardedStep, Chained, exchanges_in}
use Rattle.rs_edge.specs.Exchanges.{chained-append}
use Rattle.rs_edge.specs.RsTurns.{RsTurn, IsRsTurn, answered, starved}
use Rattle.rs_edge.specs.RsSessions.{ServesResources, RsSessions, IsRsAccount}
use Rattle.rs_edge.specs.CachedTurns.{IsCachedTurn, AreCachedTurns, IsGuarded, BroughtReply, WasKept, IsAnsweredByKept, IsLetThrough, IsByCache, AreByCache}
use Rattle.rs_edge.specs.CachedTurns.{CachedTurnsMean, AccountsMean, CachedAccountsMean, ServesCached}

-- ---- a turn as a step

abbrev guarded_step : CachedStep → GuardedStep Cache
guarded_step s = record { before = s.before; exchanges = s.exchanges; answer = s.answer; after = s.after }

module _ (setup : RsSetup) where
  -- what guarding the message of a turn did, as a step of a cache
  record AsStep (turn : RsTurn Cache) : Type 0 where
    step : CachedStep
    setup_is : step.setup ≡ setup
    moment_is : step.moment ≡ turn.moment
    entries : turn.entries ≡ guarded_step step ∷ []

  as_step : (last : Bool) (turn : RsTurn Cache) → IsRsTurn Caches setup last turn → AsStep turn
  as_step last _ (answered m moment step caches fed) = record {
    step = record {
      setup = setup;
      message = m;
      moment = moment;
      before = step.before;
      exchanges = step.exchanges;
      answer = step.answer;
      after = step.after;
      caches = caches;
    };
    setup_is = refl;
    moment_is = refl;
    entries = refl;
  }
  as_step last _ (starved m moment step caches) = record {
    step = record {
      setup = setup;
      message = m;
      moment = moment;
      before = step.before;
      exchanges = step.exchanges;
      answer = step.answer;
      after = step.after;
      caches = caches;
    };
    setup_is = refl;
    moment_is = refl;
    entries = refl;
  }

  abbrev steps_of : (turns : List (RsTurn Cache)) → Each (IsCachedTurn setup) turns → List CachedStep
  steps_of [] each = []
  steps_of (t ∷ ts) each = (as_step each.0.0 t each.0.1).step ∷ steps_of ts each.1

  steps_chained : (turns : List (RsTurn Cache)) (each : Each (IsCachedTurn setup) turns) (first last : Cache) → Chained first (entries_in turns) last
      → CachedChained first (steps_of turns each) last
  steps_chained [] each first last c = c
  steps_chained (t ∷ ts) each first last c =
      let a = as_step each.0.0 t each.0.1 in
      let parts : (a.step.before ≡ first) × Chained a.step.after (entries_in ts) last =
      subst (λ (es : List (GuardedStep Cache)). Chained first (es ++ entries_in ts) last) a.entries c in
      (parts.0, steps_chained ts each.1 a.step.after last parts.1)

  -- the turn of a step
  record HasTurn (turns : List (RsTurn Cache)) (s : CachedStep) : Type 0 where
    turn : RsTurn Cache
    among : Contains turns turn
    setup_is : s.setup ≡ setup
    moment_is : s.moment ≡ turn.moment
    exchanges_are : exchanges_in turn.entries ≡ s.exchanges

  turn_of : (turns : List (RsTurn Cache)) (each : Each (IsCachedTurn setup) turns) (s : CachedStep) → Contains (steps_of turns each) s → HasTurn turns s
  turn_of [] each s c = absurd (Contains-nil s c)
  turn_of (t ∷ ts) each s c =
      let a = as_step each.0.0 t each.0.1 in
      elim (Contains-cons a.step (steps_of ts each.1) s c) [
        | inl same ↦ record {
          turn = t;
          among = Contains-head t ts;
          setup_is = ap (λ (x : CachedStep). x.setup) (sym same) ∙ a.setup_is;
          moment_is = ap (λ (x : CachedStep). x.moment) (sym same) ∙ a.moment_is;
          exchanges_are = ap exchanges_in a.entries ∙ append-nil a.step.exchanges ∙ ap (λ (x : CachedStep). x.exchanges) same;
        }
        | inr later ↦
            let rest = turn_of ts each.1 s later in
            record {
              turn = rest.turn;
              among = Contains-tail t ts rest.turn rest.among;
              setup_is = rest.setup_is;
              moment_is = rest.moment_is;
              exchanges_are = rest.exchanges_are;
            }
      ]

  -- ---- what lets a request through

  -- the exchange of a step was that of its turn
  brought_by : (turns : List (RsTurn Cache)) (s : CachedStep) (has : HasTurn turns s) (text reply : List ℕ)
      → IsIntrospected s.setup s.moment text reply s.exchanges → BroughtReply setup has.turn text reply
  brought_by turns s has text reply is =
      subst (λ (x : List Exchange). IsIntrospected setup has.turn.moment text reply x) (sym has.exchanges_are)
      (subst (λ (n : ℕ). IsIntrospected setup n text reply s.exchanges) has.moment_is
      (subst (λ (x : RsSetup). IsIntrospected x s.moment text reply s.exchanges) has.setup_is is))

  module _ (earlier : List (RsTurn Cache)) (each : Each (IsCachedTurn setup) earlier) (capacity : ℕ) (before : Cache)
      (chained : Chained (new_cache capacity) (entries_in earlier) before) where
    module _ (m : Message) (moment : ℕ) (bytes : List ℕ) (on : Bool) (step : GuardedStep Cache)
        (caches : Caches setup m moment step.before step.exchanges step.answer step.after) (begins : step.before ≡ before) where
      abbrev turn : RsTurn Cache
      turn = record { message = m; moment = moment; entries = step ∷ []; bytes = bytes; on = on }

      was_kept : (text reply : List ℕ) → IsKept (steps_of earlier each) text reply moment step.exchanges → WasKept setup earlier turn text reply
      was_kept text reply is =
          let has = turn_of earlier each is.step is.among in
          let at : is.kept.moment ≡ has.turn.moment = is.came.moment ∙ has.moment_is in
          record {
            silent = append-nil step.exchanges ∙ is.silent;
            source = has.turn;
            among = has.among;
            brought = brought_by earlier is.step has text reply
                (subst (λ (r : List ℕ). IsIntrospected is.step.setup is.step.moment text r is.step.exchanges) is.same is.came.introspected);
            begun = subst (λ (n : ℕ). n ≤ moment) at is.begun;
            recent = subst (λ (n : ℕ). moment ≤ n + 30) at is.recent;
            access = is.came.access;
            key = is.came.key;
            exp = is.kept.exp;
            active = subst (λ (r : List ℕ). SaysOfToken r (Active is.came.access is.came.key is.kept.exp)) is.same is.came.active;
            lasts = is.lasts;
          }

      -- the steps before
      led : CachedChained (new_cache capacity) (steps_of earlier each) step.before
      led = subst (λ (c : Cache). CachedChained (new_cache capacity) (steps_of earlier each) c) (sym begins)
          (steps_chained earlier each (new_cache capacity) before chained)

      by_guard : Guards setup m moment step.exchanges step.answer ⊎ IsAnsweredByKept setup earlier turn step.answer
      by_guard = elim (cached_is_guard_law capacity (steps_of earlier each) step.before step.after led setup m moment step.exchanges step.answer caches) [
        | inl asked ↦ inl asked
        | inr kept ↦ inr (record {
          place = kept.place;
          route = kept.route;
          token = kept.token;
          presents = kept.presents;
          reply = kept.reply;
          kept = was_kept (question_text setup kept.route kept.token) kept.reply kept.kept;
          request = kept.request;
          request_is = kept.request_is;
          guards = kept.guards;
        })
      ]

      let_through : (i : ℕ) → step.answer ≡ guarded.Allow i → IsLetThrough setup earlier turn i
      let_through i is =
          let means = cached_allow_means_law capacity (steps_of earlier each) step.before step.after led setup m moment i step.exchanges
          (subst (λ (g : Guarded). Caches setup m moment step.before step.exchanges g step.after) is caches) in
          record {
            reply = means.0;
            by_reply = means.1;
            came = elim (means.2) [
              | inl now ↦ inl (subst (λ (x : List Exchange).
                  IsIntrospected setup moment (question_text setup means.1.route means.1.token) means.0 x) (sym (append-nil step.exchanges)) now)
              | inr kept ↦ inr (was_kept (question_text setup means.1.route means.1.token) means.0 kept)
            ];
          }

      by_step : IsByCache setup earlier turn
      by_step = record {
        is_guard = λ s is.
            let same = cons_head step s [] [] is in
            subst (λ (x : GuardedStep Cache). Guards setup m moment x.exchanges x.answer ⊎ IsAnsweredByKept setup earlier turn x.answer) same by_guard;
        through = λ s i is answer.
            let same = cons_head step s [] [] is in
            let_through i (ap (λ (x : GuardedStep Cache). x.answer) same ∙ answer);
        silent = λ s i route token r is presents fresh.
            let same = cons_head step s [] [] is in
            append-nil step.exchanges ∙ fresh_is_silent_law setup m moment i route token step.before step.after step.exchanges step.answer r presents
            (ap (λ (x : GuardedStep Cache). fresh_to (question_text setup route token) moment x.before.kept) same ∙ fresh) caches;
      }

    by_turn : (last : Bool) (turn : RsTurn Cache) (after : Cache) → IsRsTurn Caches setup last turn → Chained before turn.entries after
        → IsByCache setup earlier turn
    by_turn last _ after (answered m moment step caches fed) c = by_step m moment _ true step caches c.0
    by_turn last _ after (starved m moment step caches) c = by_step m moment _ false step caches c.0

-- ---- each turn of many

each-parts : (P : RsTurn Cache → Type 0) (us vs : List (RsTurn Cache)) → Each P (us ++ vs) → Each P us × Each P vs
each-parts P [] vs each = (tt, each)
each-parts P (u ∷ us) vs each = let rest = each-parts P us vs each.1 in ((each.0, rest.0), rest.1)

chained-parts : (ss ts : List (GuardedStep Cache)) (first last : Cache) → Chained first (ss ++ ts) last
    → (middle : Cache) × Chained first ss middle × Chained middle ts last
chained-parts [] ts first last c = (first, refl, c)
chained-parts (s ∷ ss) ts first last c = let rest = chained-parts ss ts s.after last c.1 in (rest.0, (c.0, rest.1), rest.2)

pub turns_mean : CachedTurnsMean
turns_mean setup capacity turns cache are earlier later turn is =
    let each : Each (IsCachedTurn setup) (earlier ++ turn ∷ later) = subst (Each (IsCachedTurn setup)) is are.each in
    let eachs = each-parts (IsCachedTurn setup) earlier (turn ∷ later) each in
    let all : Chained (new_cache capacity) (entries_in earlier ++ entries_in (turn ∷ later)) cache =
    subst (λ (ss : List (GuardedStep Cache)). Chained (new_cache capacity) ss cache) (ap entries_in is
    ∙ entries_in-append earlier (turn ∷ later)) are.chained in
    let at = chained-parts (entries_in earlier) (entries_in (turn ∷ later)) (new_cache capacity) cache all in
    let here = chained-parts turn.entries (entries_in later) at.0 cache at.2 in
    by_turn setup earlier eachs.0 capacity at.0 at.1 eachs.1.0.0 turn here.0 eachs.1.0.1 here.1

-- ---- the turns of connections

session_turns : (setup : RsSetup) (place : ℕ) (turns : List (RsTurn Cache)) → AreTurns edge_wire (IsRsTurn Caches setup) place turns
    → Each (IsCachedTurn setup) turns
session_turns setup place [] are = tt
session_turns setup place (t ∷ ts) are = ((is_closing edge_wire place t.message, are.0), session_turns setup (suc place) ts are.1)

account_turns : (setup : RsSetup) (conns : List Served) (turns : List (List (RsTurn Cache))) → RsSessions Caches setup conns turns
    → Each (IsCachedTurn setup) (joined turns)
account_turns setup [] [] are = tt
account_turns setup [] (ts ∷ tss) are = absurd are
account_turns setup (c ∷ conns) [] are = absurd are
account_turns setup (c ∷ conns) (ts ∷ tss) are =
    each-append (IsCachedTurn setup) ts (joined tss) (session_turns setup 0 ts are.0.1.each) (account_turns setup conns tss are.1)

pub accounts_mean : CachedAccountsMean
accounts_mean setup capacity log asked last account =
    turns_mean setup capacity (joined account.turns) last (record
    { each = account_turns setup log.served account.turns account.sessions; chained = account.chained })

-- one more connection
pub serves_cached : (setup : RsSetup) (link link_now : LinkState) (cache cache_now : Cache) (gear gear_now : GearState) (conn : Served)
    (ended : ConnectionEnd EdgeFault) → ServesResources Caches setup link link_now cache cache_now gear gear_now conn ended
    → ServesCached setup link link_now cache cache_now gear gear_now conn ended
serves_cached setup link link_now cache cache_now gear gear_now conn ended serves = record {
  serves = serves;
  goes_on = goes_on;
  by_cache = λ capacity earlier are. turns_mean setup capacity (earlier ++ serves.turns) cache_now (goes_on capacity earlier are);
}
  where
    goes_on : (capacity : ℕ) (earlier : List (RsTurn Cache)) → AreCachedTurns setup capacity earlier cache
        → AreCachedTurns setup capacity (earlier ++ serves.turns) cache_now
    goes_on capacity earlier are = record {
      each = each-append (IsCachedTurn setup) earlier serves.turns are.each (session_turns setup 0 serves.turns serves.session.each);
      chained = subst (λ (ss : List (GuardedStep Cache)). Chained (new_cache capacity) ss cache_now) (sym (entries_in-append earlier serves.turns))
          (chained-append (entries_in earlier) (entries_in serves.turns) (new_cache capacity) cache cache_now are.chained serves.chained);
    }
