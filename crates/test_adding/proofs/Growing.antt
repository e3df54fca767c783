-- Calls that add one amount, one after another.
use Rattle.std.proofs.Common.{◌≡◌, ◌∙◌, ℕ, ◌+◌, List, [], ◌∷◌, ◌++◌, length, length-append, refl, ap, sym, subst, arith, append_assoc, ◌⊎◌, inl, inr}
use Rattle.std.specs.Prelude.{Result, Ok, Err, IfOk, OnErr}
use Rattle.histories.specs.History.{entry_of, places}
use Rattle.histories.specs.Steps.{Enters, EntersLapse, NoneOf}
use Rattle.histories.specs.Whole.{own_of}
use Rattle.histories.proofs.OwnEntries.{own-next, places_own}
use Rattle.test_adding.specs.declared.adding.Call.TheVariants.{Add, Lapse}
use Rattle.test_adding.specs.declared.adding.Reply.{Reply}
use Rattle.test_adding.specs.declared.calls.Made.{Made}
use Rattle.test_adding.specs.Adding.{adding}
use Rattle.test_adding.specs.Amounts.{AddingEntry, EachAdds, one_if_adds, adds_in, sum_or, last_sum, IsWork, GrewBy}

each-next : (amount : ℕ) (h : List AddingEntry) (e : AddingEntry) → EachAdds amount h → (e.call ≡ Add amount) ⊎ (e.call ≡ Lapse) → EachAdds amount (h ++ e ∷ [])
each-next amount [] e all one = (one, tt)
each-next amount (x ∷ h) e all one = (all.0, each-next amount h e all.1 one)

adds-next : (h : List AddingEntry) (e : AddingEntry) → adds_in (h ++ e ∷ []) ≡ adds_in h + one_if_adds e.call
adds-next [] e = omega arith
adds-next (x ∷ h) e = let rest = adds-next h e in omega (arith, rest)

last-next : (before : ℕ) (h : List AddingEntry) (e : AddingEntry) → last_sum before (h ++ e ∷ []) ≡ sum_or (last_sum before h) e.reply
last-next before [] e = refl
last-next before (x ∷ h) e = last-next (sum_or before x.reply) h e

-- An own entry more, after entries of others.
grew-next : (n amount i : ℕ) (was is : Made) (h k others : List AddingEntry) (e : AddingEntry)
    → GrewBy n amount i was h k → NoneOf n others → e.number ≡ n → (e.call ≡ Add amount) ⊎ (e.call ≡ Lapse)
    → is.answered ≡ was.answered + one_if_adds e.call → is.last ≡ sum_or was.last e.reply
    → GrewBy n amount (i + 1) is h (k ++ others ++ e ∷ [])
grew-next n amount i was is h k others e grew nobody mine call answered last =
    let long = length-append grew.own (e ∷ []) in
    let adds = adds-next grew.own e in
    record {
      own = grew.own ++ e ∷ [];
      own_is = own-next n k others e nobody mine ∙ ap (λ x. x ++ e ∷ []) grew.own_is ∙ append_assoc (own_of n h) grew.own (e ∷ []);
      work = record {
        count = let c = grew.work.count in omega (arith, long, c);
        each = each-next amount grew.own e grew.work.each call;
        adds = let c = grew.work.adds in omega (arith, adds, c, answered);
      };
      last = last ∙ ap (λ (x : ℕ). sum_or x e.reply) grew.last ∙ sym (last-next 0 grew.own e);
    }

-- Whether a call was answered or lapsed, and was counted so, the work is one more.
pub grew-counted : {E : Type 0} (rules n moment : ℕ) (draw : List ℕ) (amount i : ℕ) (was is : Made) (before after : List AddingEntry → Type 0)
    (r : Result Reply E)
    → IfOk r (λ reply. (h : List AddingEntry) → before h → Enters adding rules n h moment draw (Add amount) reply after)
    → OnErr r ((h : List AddingEntry) → before h → EntersLapse adding rules n h moment draw after)
    → IfOk r (λ reply. (is.answered ≡ was.answered + 1) × (is.lapsed ≡ was.lapsed) × (is.last ≡ sum_or was.last reply))
    → OnErr r ((is.answered ≡ was.answered) × (is.lapsed ≡ was.lapsed + 1) × (is.last ≡ was.last))
    → (h k : List AddingEntry) → before k → GrewBy n amount i was h k → (l : List AddingEntry) × after l × GrewBy n amount (i + 1) is h l
grew-counted rules n moment draw amount i was is before after (Ok reply) ok err counted lapsed h k b grew =
    let e = ok k b in
    let made : AddingEntry = entry_of adding rules (k ++ e.others) n moment draw (Add amount) in (
      k ++ e.others ++ made ∷ [],
      e.seen_now,
      grew-next n amount i was is h k e.others made grew e.not_mine refl (inl refl) counted.0 (counted.2 ∙ ap (sum_or was.last) e.reply_is),
    )
grew-counted rules n moment draw amount i was is before after (Err x) ok err counted lapsed h k b grew =
    let e = err k b in
    let made : AddingEntry = entry_of adding rules (k ++ e.others) n moment draw Lapse in (
      k ++ e.others ++ made ∷ [],
      e.seen_now,
      grew-next n amount i was is h k e.others made grew e.not_mine refl (inr refl) (let a = lapsed.0 in omega (arith, a)) lapsed.2,
    )

-- one more is counted
pub counted-next : {E : Type 0} (was is : Made) (r : Result Reply E)
    → IfOk r (λ reply. (is.answered ≡ was.answered + 1) × (is.lapsed ≡ was.lapsed) × (is.last ≡ sum_or was.last reply))
    → OnErr r ((is.answered ≡ was.answered) × (is.lapsed ≡ was.lapsed + 1) × (is.last ≡ was.last))
    → is.answered + is.lapsed ≡ was.answered + was.lapsed + 1
counted-next was is (Ok reply) ok err = let a = ok.0 in let b = ok.1 in omega (arith, a, b)
counted-next was is (Err x) ok err = let a = err.0 in let b = err.1 in omega (arith, a, b)

-- So there are as many places more.
pub places-grew : (n amount i : ℕ) (made : Made) (h k : List AddingEntry) → GrewBy n amount i made h k → length (places n k) ≡ length (places n h) + i
places-grew n amount i made h k grew =
    let all = ap length grew.own_is ∙ length-append (own_of n h) grew.own in
    let before = places_own 0 n h in
    let after = places_own 0 n k in
    let count = grew.work.count in
    omega (arith, all, before, after, count)

-- Where nothing was seen before, the work is all that the number has.
pub grew-from-new : (n k amount times : ℕ) (made : Made) (before after : List AddingEntry) → n ≡ k → before ≡ [] → GrewBy n amount times made before after
    → IsWork amount times made.answered (own_of k after)
grew-from-new n k amount times made before after number new grew =
    let all : GrewBy k amount times made [] after
    = subst (λ (b : List AddingEntry). GrewBy k amount times made b after) new (subst (λ j. GrewBy j amount times made before after) number grew) in
    subst (λ (own : List AddingEntry). IsWork amount times made.answered own) (sym all.own_is) all.work
