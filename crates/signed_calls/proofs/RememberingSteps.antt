-- The steps of a core that keeps a core of the machine without marks, and the nonces.
use Rattle.std.proofs.Common.{◌≡◌, ◌∙◌, ℕ, ◌+◌, ◌≤◌, ◌||◌, nat_lt, max, true, false, List, [], ◌∷◌, ◌++◌, map, reverse, refl, ap, sym, subst, arith, append-nil, append_assoc}
use Rattle.std.proofs.lemmas.List.{reverse-append, reverse-reverse}
use Rattle.std.specs.declared.option.Option.{Option}
use Rattle.std.specs.declared.option.Option.TheVariants.{Some}
use Rattle.histories.specs.declared.entry.Entry.{Entry}
use Rattle.histories.specs.History.{Answer, Legal, Renumbered, entry_of, notes_of, now, by_notes}
use Rattle.histories.specs.Histories.{legal-nil, legal-append, legal-renumbered, notes-append, notes-renumbered, now-append, now-max, now-renumbered}
use Rattle.histories.specs.Steps.{Answers, Lapses}
use Rattle.bytes_and_lists.specs.Moments.{last_moment}
use Rattle.gnap_model.specs.declared.objects.Setup.{Setup}
use Rattle.gnap_model.specs.declared.objects.ErrorCode.TheVariants.{InvalidClient}
use Rattle.gnap_model.specs.declared.notes.Note.{Note}
use Rattle.gnap_model.specs.declared.calls.Call.{Call}
use Rattle.gnap_model.specs.declared.calls.Call.TheVariants.{Lapse}
use Rattle.gnap_model.specs.declared.calls.Reply.{Reply}
use Rattle.gnap_model.specs.declared.calls.Reply.TheVariants.{Error, Lapsed}
use Rattle.gnap_model.specs.Common.{Text}
use Rattle.gnap_model.specs.Notes.{Event}
use Rattle.gnap_laws.specs.Refusals.{caller}
use Rattle.gnap_model.specs.Answer.{gnap_answer}
use Rattle.signed_calls.specs.declared.signed.Mark.{Mark}
use Rattle.signed_calls.specs.declared.signed.Signed.{Signed}
use Rattle.signed_calls.specs.declared.signed.SignedNote.{SignedNote}
use Rattle.signed_calls.specs.declared.signed.SignedNote.TheVariants.{Plain}
use Rattle.signed_calls.specs.Marks.{SignedEvent, mark_time, refuses, plain_notes, mark_notes, signed_answer, unmarked_lapse}
use Rattle.signed_calls.specs.PlainPast.{is_refused_after, is_refused, plain_entry, plain_past, plain_history}
use Rattle.signed_calls.specs.Remembering.{is_live_at, TellsOf, SignedStands}
use Rattle.signed_calls.proofs.PlainPasts.{answered, plain-behind, turned}
use Rattle.signed_calls.proofs.SignedPasts.{history_notes, history_now}
use Rattle.signed_calls.proofs.Remembered.{tells-plain}

-- a history's next entry is the next one without marks
pub plain-append : (h : List SignedEvent) (e : SignedEvent)
    → plain_history (h ++ e ∷ []) ≡ plain_history h ++ plain_entry (is_refused_after h e) e ∷ []
plain-append h e =
    ap (λ (past : List SignedEvent). reverse (plain_past past)) (reverse-append h (e ∷ []))
    ∙ turned (plain_entry (is_refused (reverse h) e) e) (plain_past (reverse h))
    ∙ ap (λ (x : List SignedEvent). plain_history h ++ plain_entry (is_refused_after x e) e ∷ []) (reverse-reverse h)

refused-entry : (fits : Call → Type 0) (signed_fits : Signed → Type 0) (rules : Setup) (h : List SignedEvent) (k moment : ℕ) (draw : List ℕ) (signed : Signed)
    → refuses (notes_of h) (now h moment) (caller signed.call) signed.mark ≡ true
    → plain_entry true (entry_of (by_notes signed_answer signed_fits unmarked_lapse) rules h k moment draw signed)
    ≡ entry_of (by_notes gnap_answer fits Lapse) rules (plain_history h) k moment draw Lapse
refused-entry fits signed_fits rules h k moment draw signed is =
    ap (λ (ns : List Note). let e : Event = record { number = k; moment = moment; draw = draw; call = Lapse; reply = Lapsed; notes = ns } in e)
    (ap (λ b. plain_notes (answered b rules (notes_of h) (now h moment) draw signed).notes) is)

accepted-entry : (fits : Call → Type 0) (signed_fits : Signed → Type 0) (rules : Setup) (h : List SignedEvent) (k moment : ℕ) (draw : List ℕ) (signed : Signed)
    → refuses (notes_of h) (now h moment) (caller signed.call) signed.mark ≡ false
    → plain_entry false (entry_of (by_notes signed_answer signed_fits unmarked_lapse) rules h k moment draw signed)
    ≡ entry_of (by_notes gnap_answer fits Lapse) rules (plain_history h) k moment draw signed.call
accepted-entry fits signed_fits rules h k moment draw signed is =
    let made : Reply → List Note → Event = λ reply ns. record { number = k; moment = moment; draw = draw; call = signed.call; reply = reply; notes = ns } in
    let g : Answer Reply Note = gnap_answer rules (plain_notes (notes_of h)) (now h moment) draw signed.call in
    ap (λ b. made (answered b rules (notes_of h) (now h moment) draw signed).reply
    (plain_notes (answered b rules (notes_of h) (now h moment) draw signed).notes)) is
    ∙ ap (λ (ns : List Note). made g.reply ns) (plain-behind signed g)
    ∙ sym (ap (λ (ns : List Note). let a : Answer Reply Note = gnap_answer rules ns (now h moment) draw signed.call in made a.reply a.notes) (history_notes h))
    ∙ sym (ap (λ n. let a : Answer Reply Note = gnap_answer rules (notes_of (plain_history h)) n draw signed.call in made a.reply a.notes)
    (history_now h moment))

-- where one more entry stands
signed-next : (signed_fits : Signed → Type 0) (inner after : List Event → Type 0) (until next_until : Text → Text → Option ℕ) (many next_many : ℕ → ℕ)
    (rules : Setup) (latest : ℕ) (h : List SignedEvent) (k moment : ℕ) (draw : List ℕ) (signed : Signed) (e : SignedEvent)
    → e ≡ entry_of (by_notes signed_answer signed_fits unmarked_lapse) rules h k moment draw signed
    → SignedStands signed_fits inner until many rules latest h → signed_fits signed → moment ≤ last_moment
    → after (plain_history h ++ plain_entry (is_refused_after h e) e ∷ [])
    → TellsOf next_until next_many (notes_of h ++ e.notes) (max latest moment)
    → SignedStands signed_fits after next_until next_many rules (max latest moment) (h ++ e ∷ [])
signed-next signed_fits inner after until next_until many next_many rules latest h k moment draw signed e is stands fit time within tells =
    let law = by_notes signed_answer signed_fits unmarked_lapse in
    let at : e.moment ≡ moment = ap (λ (x : SignedEvent). x.moment) is in
    let last : now (h ++ e ∷ []) 0 ≡ now h (max e.moment 0) = now-append h e 0 in
    let more : now h (max e.moment 0) ≡ max (now h 0) (max e.moment 0) = now-max h (max e.moment 0) in
    let was : now h 0 ≡ latest = stands.latest_is in
    record {
      legal = subst (λ (x : SignedEvent). Legal law rules (h ++ x ∷ [])) (sym is)
          (legal-append law rules h (entry_of law rules h k moment draw signed) stands.legal
          (record { fits = fit; in_time = time; reply = refl; notes = refl }));
      within = subst after (sym (plain-append h e)) within;
      tells = subst (λ (ns : List SignedNote). TellsOf next_until next_many ns (max latest moment))
          (sym (notes-append h (e ∷ []) ∙ ap (λ x. notes_of h ++ x) (append-nil e.notes))) tells;
      latest_is = grind (arith, last, more, was, at);
    }

-- The mark is refused: the core without marks lets time go on.
pub signed-refused : (fits : Call → Type 0) (signed_fits : Signed → Type 0) (inner after : List Event → Type 0)
    (until next_until : Text → Text → Option ℕ) (many next_many : ℕ → ℕ)
    (rules : Setup) (latest : ℕ) (h : List SignedEvent) (moment : ℕ) (draw : List ℕ) (signed : Signed)
    → SignedStands signed_fits inner until many rules latest h → signed_fits signed → moment ≤ last_moment
    → refuses (notes_of h) (now h moment) (caller signed.call) signed.mark ≡ true
    → Lapses (by_notes gnap_answer fits Lapse) rules (plain_history h) moment draw after
    → TellsOf next_until next_many (notes_of h) (max latest moment)
    → Answers (by_notes signed_answer signed_fits unmarked_lapse) rules h moment draw signed (Error InvalidClient)
    (SignedStands signed_fits after next_until next_many rules (max latest moment))
signed-refused fits signed_fits inner after until next_until many next_many rules latest h moment draw signed stands fit time is lapses tells =
    let law = by_notes signed_answer signed_fits unmarked_lapse in
    record {
      reply_is = sym (ap (λ b. (answered b rules (notes_of h) (now h moment) draw signed).reply) is);
      stands_now = λ k.
          let e : SignedEvent = entry_of law rules h k moment draw signed in
          let none : e.notes ≡ [] = ap (λ b. (answered b rules (notes_of h) (now h moment) draw signed).notes) is in
          signed-next signed_fits inner after until next_until many next_many rules latest h k moment draw signed e refl stands fit time
          (subst (λ (x : Event). after (plain_history h ++ x ∷ []))
          (sym (ap (λ b. plain_entry b e) is ∙ refused-entry fits signed_fits rules h k moment draw signed is)) (lapses k))
          (subst (λ (ns : List SignedNote). TellsOf next_until next_many ns (max latest moment))
          (sym (ap (λ x. notes_of h ++ x) none ∙ append-nil (notes_of h))) tells);
    }

-- The mark isn't refused: the call is answered by the core without marks, and the mark's note stands before its notes.
pub signed-accepted : (fits : Call → Type 0) (signed_fits : Signed → Type 0) (inner after : List Event → Type 0)
    (until next_until : Text → Text → Option ℕ) (many next_many : ℕ → ℕ)
    (rules : Setup) (latest : ℕ) (h : List SignedEvent) (moment : ℕ) (draw : List ℕ) (signed : Signed) (reply : Reply)
    → SignedStands signed_fits inner until many rules latest h → signed_fits signed → moment ≤ last_moment
    → refuses (notes_of h) (now h moment) (caller signed.call) signed.mark ≡ false
    → Answers (by_notes gnap_answer fits Lapse) rules (plain_history h) moment draw signed.call reply after
    → TellsOf next_until next_many (notes_of h ++ mark_notes signed) (max latest moment)
    → Answers (by_notes signed_answer signed_fits unmarked_lapse) rules h moment draw signed reply
    (SignedStands signed_fits after next_until next_many rules (max latest moment))
signed-accepted fits signed_fits inner after until next_until many next_many rules latest h moment draw signed reply stands fit time is answers tells =
    let law = by_notes signed_answer signed_fits unmarked_lapse in
    let g : Answer Reply Note = gnap_answer rules (plain_notes (notes_of h)) (now h moment) draw signed.call in
    record {
      reply_is = answers.reply_is
          ∙ ap (λ (ns : List Note). (gnap_answer rules ns (now (plain_history h) moment) draw signed.call).reply) (history_notes h)
          ∙ ap (λ n. (gnap_answer rules (plain_notes (notes_of h)) n draw signed.call).reply) (history_now h moment)
          ∙ sym (ap (λ b. (answered b rules (notes_of h) (now h moment) draw signed).reply) is);
      stands_now = λ k.
          let e : SignedEvent = entry_of law rules h k moment draw signed in
          let noted : e.notes ≡ mark_notes signed ++ map Plain g.notes = ap (λ b. (answered b rules (notes_of h) (now h moment) draw signed).notes) is in
          signed-next signed_fits inner after until next_until many next_many rules latest h k moment draw signed e refl stands fit time
          (subst (λ (x : Event). after (plain_history h ++ x ∷ []))
          (sym (ap (λ b. plain_entry b e) is ∙ accepted-entry fits signed_fits rules h k moment draw signed is)) (answers.stands_now k))
          (subst (λ (ns : List SignedNote). TellsOf next_until next_many ns (max latest moment))
          (sym (ap (λ x. notes_of h ++ x) noted ∙ sym (append_assoc (notes_of h) (mark_notes signed) (map Plain g.notes))))
          (tells-plain next_until next_many (notes_of h ++ mark_notes signed) (max latest moment) g.notes tells));
    }

-- Memory was wanting.
pub signed-lapses : (fits : Call → Type 0) (signed_fits : Signed → Type 0) (inner after : List Event → Type 0)
    (until next_until : Text → Text → Option ℕ) (many next_many : ℕ → ℕ)
    (rules : Setup) (latest : ℕ) (h : List SignedEvent) (moment : ℕ) (draw : List ℕ)
    → SignedStands signed_fits inner until many rules latest h → signed_fits unmarked_lapse → moment ≤ last_moment
    → Lapses (by_notes gnap_answer fits Lapse) rules (plain_history h) moment draw after
    → TellsOf next_until next_many (notes_of h) (max latest moment)
    → Lapses (by_notes signed_answer signed_fits unmarked_lapse) rules h moment draw
    (SignedStands signed_fits after next_until next_many rules (max latest moment))
signed-lapses fits signed_fits inner after until next_until many next_many rules latest h moment draw stands fit time lapses tells = λ k.
    let law = by_notes signed_answer signed_fits unmarked_lapse in
    let e : SignedEvent = entry_of law rules h k moment draw unmarked_lapse in
    signed-next signed_fits inner after until next_until many next_many rules latest h k moment draw unmarked_lapse e refl stands fit time
    (lapses k)
    (subst (λ (ns : List SignedNote). TellsOf next_until next_many ns (max latest moment)) (sym (append-nil (notes_of h))) tells)

-- the empty history
pub signed-nil : (signed_fits : Signed → Type 0) (inner : List Event → Type 0) (until : Text → Text → Option ℕ) (many : ℕ → ℕ) (rules : Setup)
    → inner [] → TellsOf until many [] 0 → SignedStands signed_fits inner until many rules 0 []
signed-nil signed_fits inner until many rules empty tells = record {
  legal = legal-nil (by_notes signed_answer signed_fits unmarked_lapse) rules;
  within = empty;
  tells = tells;
  latest_is = refl;
}

-- what the code asks: whether the mark is too old, and what is kept of its nonce, once time has gone on
pub asked : (until : Text → Text → Option ℕ) (many : ℕ → ℕ) (h : List SignedEvent) (latest moment : ℕ) (key : Text) (mark : Mark)
    → now h 0 ≡ latest → TellsOf until many (notes_of h) (max latest moment)
    → refuses (notes_of h) (now h moment) key (Some mark)
    ≡ (nat_lt (mark.created + mark_time) (max latest moment) || is_live_at (max latest moment) (until key mark.nonce))
asked until many h latest moment key mark is tells =
    let at : now h moment ≡ max latest moment = now-max h moment ∙ ap (λ n. max n moment) is in
    ap (λ n. refuses (notes_of h) n key (Some mark)) at
    ∙ ap (λ b. nat_lt (mark.created + mark_time) (max latest moment) || b) (sym (tells.knows (max latest moment) key mark.nonce (omega arith)))

renumbered-append : {C R N : Type 0} (a b : List (Entry C R N)) (e f : Entry C R N) → Renumbered a b → f ≡ record e { number = f.number }
    → Renumbered (a ++ e ∷ []) (b ++ f ∷ [])
renumbered-append [] [] e f same is = (is, tt)
renumbered-append [] (y ∷ b) e f same is = absurd same
renumbered-append (x ∷ a) [] e f same is = absurd same
renumbered-append (x ∷ a) (y ∷ b) e f same is = (same.0, renumbered-append a b e f same.1 is)

renumbered-reverse : {C R N : Type 0} (a b : List (Entry C R N)) → Renumbered a b → Renumbered (reverse a) (reverse b)
renumbered-reverse [] [] same = tt
renumbered-reverse [] (y ∷ b) same = absurd same
renumbered-reverse (x ∷ a) [] same = absurd same
renumbered-reverse {C} {R} {N} (x ∷ a) (y ∷ b) same =
    subst (λ (l : List (Entry C R N)). Renumbered l (reverse (y ∷ b))) (sym (turned x a))
    (subst (λ (l : List (Entry C R N)). Renumbered (reverse a ++ x ∷ []) l) (sym (turned y b))
    (renumbered-append (reverse a) (reverse b) x y (renumbered-reverse a b same.1) same.0))

renumbered-plain : (past other : List SignedEvent) → Renumbered past other → Renumbered (plain_past past) (plain_past other)
renumbered-plain [] [] same = tt
renumbered-plain [] (f ∷ other) same = absurd same
renumbered-plain (e ∷ past) [] same = absurd same
renumbered-plain (e ∷ past) (f ∷ other) same =
    let back = renumbered-reverse past other same.1 in
    let refused : is_refused other f ≡ is_refused past e
    = ap (λ (x : SignedEvent). is_refused other x) same.0
    ∙ sym (ap (λ (ns : List SignedNote). refuses ns (now (reverse past) e.moment) (caller e.call.call) e.call.mark)
    (notes-renumbered (reverse past) (reverse other) back)
    ∙ ap (λ n. refuses (notes_of (reverse other)) n (caller e.call.call) e.call.mark) (now-renumbered (reverse past) (reverse other) e.moment back)) in (
      ap (λ b. plain_entry b f) refused ∙ ap (λ (x : SignedEvent). plain_entry (is_refused past e) x) same.0,
      renumbered-plain past other same.1,
    )

-- What the core stands for doesn't look at numbers.
pub signed-renumbered : (signed_fits : Signed → Type 0) (inner : List Event → Type 0) (until : Text → Text → Option ℕ) (many : ℕ → ℕ)
    (rules : Setup) (latest : ℕ) (h k : List SignedEvent)
    → ((a b : List Event) → Renumbered a b → inner a → inner b) → Renumbered h k
    → SignedStands signed_fits inner until many rules latest h → SignedStands signed_fits inner until many rules latest k
signed-renumbered signed_fits inner until many rules latest h k renumbers same stands = record {
  legal = legal-renumbered signed_answer signed_fits unmarked_lapse rules h k same stands.legal;
  within = renumbers (plain_history h) (plain_history k)
      (renumbered-reverse (plain_past (reverse h)) (plain_past (reverse k))
      (renumbered-plain (reverse h) (reverse k) (renumbered-reverse h k same))) stands.within;
  tells = subst (λ (ns : List SignedNote). TellsOf until many ns latest) (notes-renumbered h k same) stands.tells;
  latest_is = sym (now-renumbered h k 0 same) ∙ stands.latest_is;
}
