-- What is kept of a reply, step by step.
use Rattle.std.proofs.Common.{◌≡◌, ◌≢◌, ◌∙◌, ℕ, List, refl, sym, subst}
use Rattle.std.specs.Prelude.{Option, Some, None, Ok, Err}
use Rattle.bytes_and_lists.specs.declared.message.Message.{Message}
use Rattle.outside.specs.Links.{LinkState}
use Rattle.outside.specs.declared.link.LinkFault.TheVariants as link_faults
use Rattle.gnap_model.specs.declared.rights.Right.{Right}
use Rattle.reply_readers.specs.declared.judgement.Judgement.{Judgement}
use Rattle.reply_readers.specs.declared.judgement.Judgement.TheVariants.{Active, Inactive}
use Rattle.resource_server.specs.declared.setup.RsSetup.{RsSetup}
use Rattle.resource_server.specs.declared.guarded.Guarded.{Guarded}
use Rattle.resource_server.specs.declared.guarded.Guarded.TheVariants as guarded
use Rattle.resource_server.specs.declared.guarded.Why.{Why}
use Rattle.resource_server.specs.Introspecting.{IsAsked}
use Rattle.resource_server.specs.Guarding.{SaysOfToken, answer_of, Judged, said, failed, no_room, no_room_after}
use Rattle.introspection_cache.specs.declared.kept_reply.KeptReply.{KeptReply}
use Rattle.introspection_cache.specs.Caching.{Kept, with_reply}
use Rattle.introspection_cache.specs.Steps.{exp_of, KeepsReply, put_first, no_room_for_it, not_let_through, KeepsJudged, through_by_it, not_through}
use Rattle.introspection_cache.specs.Steps.{AnswersAnew, asked_anew, starved_before}

-- ---- an answer and its reply

pub keeps_it : (capacity : ℕ) (text : List ℕ) (r : KeptReply) (others after : Kept) (i : ℕ) → after ≡ with_reply capacity text r others
    → KeepsReply capacity text r others (guarded.Allow i) (guarded.Allow i) after
keeps_it capacity text r others after i e = rw e (put_first i)

pub keeps_no_room : (capacity : ℕ) (text : List ℕ) (r : KeptReply) (others after : Kept) (i : ℕ) → after ≡ others
    → KeepsReply capacity text r others (guarded.Allow i) guarded.Memory after
keeps_no_room capacity text r others after i e = rw e (no_room_for_it i)

pub keeps_denied : (capacity : ℕ) (text : List ℕ) (r : KeptReply) (others : Kept) (status : ℕ) (reason : Why)
    → KeepsReply capacity text r others (guarded.Deny status reason) (guarded.Deny status reason) others
keeps_denied capacity text r others status reason = not_let_through (guarded.Deny status reason) (λ i e. cc)

pub keeps_fault : (capacity : ℕ) (text : List ℕ) (r : KeptReply) (others : Kept) → KeepsReply capacity text r others guarded.LinkFault guarded.LinkFault others
keeps_fault capacity text r others = not_let_through guarded.LinkFault (λ i e. cc)

pub keeps_memory : (capacity : ℕ) (text : List ℕ) (r : KeptReply) (others : Kept) → KeepsReply capacity text r others guarded.Memory guarded.Memory others
keeps_memory capacity text r others = not_let_through guarded.Memory (λ i e. cc)

-- ---- a reply that says something

pub judged_kept : (setup : RsSetup) (m : Message) (now i capacity : ℕ) (wanted : List Right) (text reply : List ℕ) (r : KeptReply) (others after : Kept)
    (says : Judgement) (answer given : Guarded) → SaysOfToken reply says → answer ≡ answer_of setup m now i wanted says
    → KeepsReply capacity text r others answer given after → Judged setup m now i wanted (Ok reply) given
judged_kept setup m now i capacity wanted text reply r others _ says _ _ s e (put_first j) = rw e (said reply says s)
judged_kept setup m now i capacity wanted text reply r others _ says _ _ s e (no_room_for_it j) = no_room_after reply
judged_kept setup m now i capacity wanted text reply r others _ says _ _ s e (not_let_through answer never) = rw e (said reply says s)

by_exp : (capacity : ℕ) (text : List ℕ) (now : ℕ) (reply : List ℕ) (r : KeptReply) (others after : Kept) (access : List Right) (key : Option (List ℕ))
    (answer given : Guarded) → r.reply ≡ reply → r.moment ≡ now → SaysOfToken reply (Active access key r.exp)
    → KeepsReply capacity text r others answer given after → KeepsJudged capacity text now reply others given after
by_exp capacity text now reply r others _ access key _ _ is at s (put_first j) = through_by_it j r is at access key s
by_exp capacity text now reply r others _ access key _ _ is at s (no_room_for_it j) = not_through guarded.Memory (λ i e. cc)
by_exp capacity text now reply r others _ access key _ _ is at s (not_let_through answer never) = not_through answer never

pub keeps_judged : (capacity : ℕ) (text : List ℕ) (now : ℕ) (reply : List ℕ) (others after : Kept) (exp : ℕ) (says : Judgement) (answer given : Guarded)
    → SaysOfToken reply says → Some exp ≡ exp_of says
    → KeepsReply capacity text (record { reply = reply; moment = now; exp = exp }) others answer given after
    → KeepsJudged capacity text now reply others given after
keeps_judged capacity text now reply others after exp Inactive answer given s e k = absurd (cc)
keeps_judged capacity text now reply others after exp (Active access key end) answer given s e k =
    let is : end ≡ exp = cc in
    by_exp capacity text now reply (record { reply = reply; moment = now; exp = exp }) others after access key answer given refl refl
    (subst (λ (n : ℕ). SaysOfToken reply (Active access key n)) is s) k

never_inactive : (setup : RsSetup) (m : Message) (now i : ℕ) (wanted : List Right) (says : Judgement) → None ≡ exp_of says
    → (j : ℕ) → answer_of setup m now i wanted says ≢ guarded.Allow j
never_inactive setup m now i wanted Inactive e j is = cc
never_inactive setup m now i wanted (Active access key exp) e j is = absurd (cc)

-- it says that there is no such token
pub keeps_inactive : (setup : RsSetup) (m : Message) (now i capacity : ℕ) (wanted : List Right) (text reply : List ℕ) (others : Kept) (says : Judgement)
    (answer : Guarded) → answer ≡ answer_of setup m now i wanted says → None ≡ exp_of says → KeepsJudged capacity text now reply others answer others
keeps_inactive setup m now i capacity wanted text reply others says answer e none =
    not_through answer (λ j is. never_inactive setup m now i wanted says none j (sym e ∙ is))

pub keeps_bad : (capacity : ℕ) (text : List ℕ) (now : ℕ) (reply : List ℕ) (others : Kept) (status : ℕ) (reason : Why)
    → KeepsJudged capacity text now reply others (guarded.Deny status reason) others
keeps_bad capacity text now reply others status reason = not_through (guarded.Deny status reason) (λ j is. cc)

pub keeps_none : (capacity : ℕ) (text : List ℕ) (now : ℕ) (reply : List ℕ) (others : Kept) → KeepsJudged capacity text now reply others guarded.Memory others
keeps_none capacity text now reply others = not_through guarded.Memory (λ j is. cc)

-- ---- a question that was asked

pub never_asked : (setup : RsSetup) (m : Message) (now i : ℕ) (wanted : List Right) (text : List ℕ) (capacity : ℕ) (link : LinkState) (others : Kept)
    → AnswersAnew setup m now i wanted text capacity link link others guarded.Memory others
never_asked setup m now i wanted text capacity link others = starved_before refl

pub asked_reply : (setup : RsSetup) (m : Message) (now i : ℕ) (wanted : List Right) (text asked : List ℕ) (capacity : ℕ) (before after : LinkState)
    (others kept_now : Kept) (reply : List ℕ) (answer : Guarded) → asked ≡ text → IsAsked setup now asked before after (Ok reply)
    → Judged setup m now i wanted (Ok reply) answer → KeepsJudged capacity text now reply others answer kept_now
    → AnswersAnew setup m now i wanted text capacity before after others answer kept_now
asked_reply setup m now i wanted text asked capacity before after others kept_now reply answer is done judged keeps =
    asked_anew (Ok reply) (subst (λ (t : List ℕ). IsAsked setup now t before after (Ok reply)) is done) answer judged kept_now keeps

pub asked_fault : (setup : RsSetup) (m : Message) (now i : ℕ) (wanted : List Right) (text asked : List ℕ) (capacity : ℕ) (before after : LinkState)
    (others : Kept)
    → asked ≡ text → IsAsked setup now asked before after (Err link_faults.Failed)
    → AnswersAnew setup m now i wanted text capacity before after others guarded.LinkFault others
asked_fault setup m now i wanted text asked capacity before after others is done =
    asked_anew (Err link_faults.Failed) (subst (λ (t : List ℕ). IsAsked setup now t before after (Err link_faults.Failed)) is done) guarded.LinkFault failed
    others
    ((λ j e. cc), refl)

pub asked_no_room : (setup : RsSetup) (m : Message) (now i : ℕ) (wanted : List Right) (text asked : List ℕ) (capacity : ℕ) (before after : LinkState)
    (others : Kept) → asked ≡ text → IsAsked setup now asked before after (Err link_faults.OutOfMemory)
    → AnswersAnew setup m now i wanted text capacity before after others guarded.Memory others
asked_no_room setup m now i wanted text asked capacity before after others is done =
    asked_anew (Err link_faults.OutOfMemory) (subst (λ (t : List ℕ). IsAsked setup now t before after (Err link_faults.OutOfMemory)) is done) guarded.Memory
    no_room
    others ((λ j e. cc), refl)
