-- What a desk has seen, call by call.
use Rattle.std.proofs.Common.{◌≡◌, ◌∙◌, ℕ, zero, suc, ◌+◌, ◌<◌, ◌≤◌, ◌^◌, Bool, false, List, [], ◌∷◌, ◌++◌, map, length, length-append, refl, ap, sym, subst, arith, append_assoc}
use Rattle.std.proofs.lemmas.List.{append-nil}
use Rattle.std.specs.Prelude.{All, ◌%◌, ◌==◌, Some, Result, Ok, Err, IfOk}
use Rattle.histories.specs.History.{entry_of, places}
use Rattle.histories.specs.Steps.{Enters}
use Rattle.histories.specs.Whole.{own_of}
use Rattle.histories.proofs.OwnEntries.{own-next, places_own}
use Rattle.gnap_model.specs.declared.calls.Reply.{Reply}
use Rattle.gnap_model.specs.declared.objects.Setup.{Setup}
use Rattle.signed_calls.specs.declared.signed.Signed.{Signed}
use Rattle.grant_machine.specs.Gnap.{gnap, GnapEntry}
use Rattle.desk_load.specs.declared.progress.Progress.{Progress}
use Rattle.desk_load.specs.declared.tally.Tally.{Tally}
use Rattle.desk_load.specs.LoadCalls.{load_moment, marked, opening_place, rotation_place, opening_call, rotation_of, calls_rotated, calls_opened, calls_through}
use Rattle.desk_load.specs.Tallies.{count_by, one_if_active, one_if_inactive, one_if_done, tally_of, tally_of_reply, none_counted, Adds}
use Rattle.random_words.specs.Draws.{draw_from, after_words}
use Rattle.desk_load.specs.Loads.{HasRoom, Grows, Asks, AsksAbout, PutsThrough, AreMade, IsOpenedThrough, IsPutThrough, IsPart, IsShare, IsDrawnShare, DoesShare, begun}
use Rattle.desk_load.proofs.Drawing.{drawn-append, have_draws}

count-append : (one : Reply → ℕ) (h k : List GnapEntry) → count_by one (h ++ k) ≡ count_by one h + count_by one k
count-append one [] k = omega arith
count-append one (e ∷ h) k = let rest = count-append one h k in omega (arith, rest)

adds-none : (t : Tally) → Adds (tally_of []) t t
adds-none t = record { active = omega arith; inactive = omega arith; done = omega arith }

module _ (es fs : List GnapEntry) (t u v : Tally) where
  adds-append : Adds (tally_of es) t u → Adds (tally_of fs) u v → Adds (tally_of (es ++ fs)) t v
  adds-append first second = record {
    active = (let a = first.active in let b = second.active in let c = count-append one_if_active es fs in omega (arith, a, b, c));
    inactive = (let a = first.inactive in let b = second.inactive in let c = count-append one_if_inactive es fs in omega (arith, a, b, c));
    done = (let a = first.done in let b = second.done in let c = count-append one_if_done es fs in omega (arith, a, b, c));
  }

adds-one : (e : GnapEntry) (reply : Reply) (t u : Tally) → e.reply ≡ reply → Adds (tally_of_reply reply) t u → Adds (tally_of (e ∷ [])) t u
adds-one e reply t u is counted = record {
  active = (let a = counted.active in let b = ap one_if_active is in omega (arith, a, b));
  inactive = (let a = counted.inactive in let b = ap one_if_inactive is in omega (arith, a, b));
  done = (let a = counted.done in let b = ap one_if_done is in omega (arith, a, b));
}

-- ---- entries more

pub grows-none : (n : ℕ) (seen : List GnapEntry → Type 0) (h : List GnapEntry) (t : Progress) → seen h → Grows n seen h t t []
grows-none n seen h t s = record { history = h; seen_now = s; own = sym (append-nil (own_of n h)); drawn = refl; counted = adds-none t.tally }

abbrev grows-then : (n n' : ℕ) (seen seen' : List GnapEntry → Type 0) (h : List GnapEntry) (t u v : Progress) (es fs : List GnapEntry)
    → n' ≡ n → (first : Grows n seen h t u es) → Grows n' seen' first.history u v fs → Grows n seen' h t v (es ++ fs)
grows-then n n' seen seen' h t u v es fs same first second =
    let own : own_of n second.history ≡ own_of n first.history ++ fs
    = subst (λ m. own_of m second.history ≡ own_of m first.history ++ fs) same second.own in
    record {
      history = second.history;
      seen_now = second.seen_now;
      own = own ∙ ap (λ x. x ++ fs) first.own ∙ append_assoc (own_of n h) es fs;
      drawn = drawn-append es fs t.words.generator u.words.generator v.words.generator first.drawn second.drawn;
      counted = adds-append es fs t.tally u.tally v.tally first.counted second.counted;
    }

-- a call that was entered and counted
pub asks-entered : (rules : Setup) (n : ℕ) (h : List GnapEntry) (draw : List ℕ) (call : Signed) (reply : Reply) (seen : List GnapEntry → Type 0)
    (t u : Progress)
    → Enters gnap rules n h 1000000 draw call reply seen → draw ≡ draw_from t.words.generator → u.words.generator ≡ after_words 48 t.words.generator
    → Adds (tally_of_reply reply) t.tally u.tally → Asks call reply n seen h t u
asks-entered rules n h draw call reply seen t u e drawn after counted =
    let made : GnapEntry = entry_of gnap rules (h ++ e.others) n 1000000 draw call in
    let replied : made.reply ≡ reply = sym e.reply_is in
    record {
      entry = made;
      call_is = refl;
      reply_is = replied;
      moment_is = refl;
      grows = record {
        history = h ++ e.others ++ made ∷ [];
        seen_now = e.seen_now;
        own = own-next n h e.others made e.not_mine refl;
        drawn = (drawn, after);
        counted = adds-one made reply t.tally u.tally replied counted;
      };
    }

-- ---- room

pub less-room : (n n' : ℕ) (seen : List GnapEntry → Type 0) (m m' : ℕ) → n' ≡ n → m' ≤ m → HasRoom n seen m → HasRoom n' seen m'
less-room n n' seen m m' same less room =
    let left = room.2 in
    (room.0, room.1, subst (λ k. length (places k room.0) + m' < 2 ^ 52) (sym same) (omega (arith, left, less)))

pub room-after : (n n' : ℕ) (seen seen' : List GnapEntry → Type 0) (call : Signed) (reply : Reply) (t u : Progress) (m : ℕ) → n' ≡ n
    → HasRoom n seen (m + 1) → ((h : List GnapEntry) → seen h → Asks call reply n seen' h t u) → HasRoom n' seen' m
room-after n n' seen seen' call reply t u m same room asks =
    let a = asks room.0 room.1 in
    let k = a.grows.history in
    let all = ap length a.grows.own ∙ length-append (own_of n room.0) (a.entry ∷ []) in
    let before = places_own 0 n room.0 in
    let after = places_own 0 n k in
    let left = room.2 in
    (k, a.grows.seen_now, subst (λ j. length (places j k) + m < 2 ^ 52) (sym same) (omega (arith, all, before, after, left)))

-- ---- a grant put through

at_moment : (e : GnapEntry) (es : List GnapEntry) → e.moment ≡ load_moment → All (λ x. x.moment ≡ load_moment) es → All (λ x. x.moment ≡ load_moment) (e ∷ es)
at_moment e es is rest zero d lt = is
at_moment e es is rest (suc k) d lt = rest k d (let lt' : suc k < length (e ∷ es) = lt in omega (arith, lt'))

none_at : All (λ (x : GnapEntry). x.moment ≡ load_moment) []
none_at k d lt = absurd (let lt' : k < 0 = lt in omega (arith, lt'))

-- the number that two desks have
asks-of : (call : Signed) (reply : Reply) (n n' : ℕ) (seen : List GnapEntry → Type 0) (h : List GnapEntry) (t u : Progress) → n' ≡ n
    → Asks call reply n' seen h t u → Asks call reply n seen h t u
asks-of call reply n n' seen h t u same asks = subst (λ k. Asks call reply k seen h t u) same asks

pub made_none : (n : ℕ) (seen : List GnapEntry → Type 0) (h : List GnapEntry) (t : Progress) → seen h → PutsThrough (AreMade []) n seen h t t
made_none n seen h t s = record { entries = []; is_done = record { calls = refl; moments = none_at }; grows = grows-none n seen h t s }

module _ (n n1 : ℕ) (s0 s1 s2 : List GnapEntry → Type 0) (t0 t1 t2 : Progress) (same : n1 ≡ n) where
  -- a call, and calls behind it
  pub made_behind : (call : Signed) (calls : List Signed)
      → ((h : List GnapEntry) → s0 h → (reply : Reply) × Asks call reply n s1 h t0 t1)
      → ((h : List GnapEntry) → s1 h → PutsThrough (AreMade calls) n1 s2 h t1 t2)
      → (h : List GnapEntry) → s0 h → PutsThrough (AreMade (call ∷ calls)) n s2 h t0 t2
  made_behind call calls ask behind h s =
      let a = (ask h s).1 in
      let more = behind a.grows.history a.grows.seen_now in
      let are : map (λ e. e.call) (a.entry ∷ more.entries) ≡ call ∷ calls = rw (a.call_is, more.is_done.calls) refl in
      record {
        entries = a.entry ∷ more.entries;
        is_done = record { calls = are; moments = at_moment a.entry more.entries a.moment_is more.is_done.moments };
        grows = grows-then n n1 s1 s2 h t0 t1 t2 (a.entry ∷ []) more.entries same a.grows more.grows;
      }

  -- the opening, and what is left of the grant
  pub put_through : (ends : Bool) (grant : ℕ) (opened : Reply)
      → ((h : List GnapEntry) → s0 h → Asks (marked grant opening_place opening_call) opened n s1 h t0 t1)
      → ((h : List GnapEntry) → s1 h → PutsThrough (IsOpenedThrough ends grant opened) n1 s2 h t1 t2)
      → (h : List GnapEntry) → s0 h → PutsThrough (IsPutThrough ends grant) n s2 h t0 t2
  put_through ends grant opened ask behind h s =
      let a = ask h s in
      let more = behind a.grows.history a.grows.seen_now in
      let rest = more.is_done in
      let are : map (λ e. e.call) (a.entry ∷ more.entries) ≡ calls_through ends grant opened rest.rotated = rw (a.call_is, rest.calls) refl in
      record {
        entries = a.entry ∷ more.entries;
        is_done = record {
          opened = opened;
          rotated = rest.rotated;
          calls = are;
          opened_is = ap Some a.reply_is;
          rotated_is = rest.rotated_is;
          moments = at_moment a.entry more.entries a.moment_is rest.moments;
        };
        grows = grows-then n n1 s1 s2 h t0 t1 t2 (a.entry ∷ []) more.entries same a.grows more.grows;
      }

module _ (n n1 n2 : ℕ) (s0 s1 s2 s3 : List GnapEntry → Type 0) (t0 t1 t2 t3 : Progress) (same1 : n1 ≡ n) (same2 : n2 ≡ n1) where
  -- a question and the rotation, and what is left of the grant
  pub opened_through : (ends : Bool) (grant : ℕ) (opened rotated : Reply)
      → ((h : List GnapEntry) → s0 h → AsksAbout opened n s1 h t0 t1)
      → ((h : List GnapEntry) → s1 h → Asks (marked grant rotation_place (rotation_of opened)) rotated n1 s2 h t1 t2)
      → ((h : List GnapEntry) → s2 h → PutsThrough (AreMade (calls_rotated ends grant opened rotated)) n2 s3 h t2 t3)
      → (h : List GnapEntry) → s0 h → PutsThrough (IsOpenedThrough ends grant opened) n s3 h t0 t3
  opened_through ends grant opened rotated ask rotate behind h s =
      let a = (ask h s).1 in
      let b = asks-of _ _ n n1 _ _ _ _ same1 (rotate a.grows.history a.grows.seen_now) in
      let more = behind b.grows.history b.grows.seen_now in
      let g2 = grows-then n n s1 s2 h t0 t1 t2 (a.entry ∷ []) (b.entry ∷ []) refl a.grows b.grows in
      let are : map (λ e. e.call) (a.entry ∷ b.entry ∷ more.entries) ≡ calls_opened ends grant opened rotated
      = rw (a.call_is, b.call_is, more.is_done.calls) refl in
      record {
        entries = a.entry ∷ b.entry ∷ more.entries;
        is_done = record {
          rotated = rotated;
          calls = are;
          rotated_is = ap Some b.reply_is;
          moments = at_moment a.entry (b.entry ∷ more.entries) a.moment_is (at_moment b.entry more.entries b.moment_is more.is_done.moments);
        };
        grows = grows-then n n2 s2 s3 h t0 t2 t3 (a.entry ∷ b.entry ∷ []) more.entries (same2 ∙ same1) g2 more.grows;
      }

-- ---- a share

pub part-none : (grant n : ℕ) (seen : List GnapEntry → Type 0) (h : List GnapEntry) (t : Progress) → seen h → PutsThrough (IsPart false grant) n seen h t t
part-none grant n seen h t s = record { entries = []; is_done = refl; grows = grows-none n seen h t s }

pub share-next : (workers worker grant n n' : ℕ) (seen seen' : List GnapEntry → Type 0) (h : List GnapEntry) (t u v : Progress) → n' ≡ n
    → (first : PutsThrough (IsShare workers worker grant) n seen h t u)
    → PutsThrough (IsPart (grant % workers == worker) grant) n' seen' first.grows.history u v
    → PutsThrough (IsShare workers worker (grant + 1)) n seen' h t v
share-next workers worker grant n n' seen seen' h t u v same first second =
    let done : IsShare workers worker (suc grant) (first.entries ++ second.entries) = (first.entries, second.entries, refl, first.is_done, second.is_done) in
    record {
      entries = first.entries ++ second.entries;
      is_done = subst (λ k. IsShare workers worker k (first.entries ++ second.entries)) (let next : suc grant ≡ grant + 1 = omega arith in next) done;
      grows = grows-then n n' seen seen' h t u v first.entries second.entries same first.grows second.grows;
    }

-- who began with the first draw has done its share with its words
pub share-done : (grants start workers worker n : ℕ) (seen : List GnapEntry → Type 0) (h : List GnapEntry) (t : Progress)
    → PutsThrough (IsShare workers worker grants) n seen h (begun start worker) t → DoesShare grants start workers worker n seen h t.tally
share-done grants start workers worker n seen h t p = record {
  entries = p.entries;
  is_done = record { share = p.is_done; draws = have_draws start worker 0 p.entries t.words.generator p.grows.drawn };
  history = p.grows.history;
  seen_now = p.grows.seen_now;
  own = p.grows.own;
  counted = p.grows.counted;
}

-- ---- what was seen by whom alone tells

pub if-ok-then : {T E : Type 0} (r : Result T E) (P Q : T → Type 0) → IfOk r P → ((x : T) → P x → Q x) → IfOk r Q
if-ok-then (Ok x) P Q p f = f x p
if-ok-then (Err e) P Q p f = tt

module _ (grants start workers worker n n' : ℕ) (same : n ≡ n') (seen : List GnapEntry → Type 0) (k : List GnapEntry)
    (one : (h : List GnapEntry) → seen h → h ≡ k) where
  -- who has seen nothing before has done all of its entries
  pub own-done : (t : Tally) → DoesShare grants start workers worker n seen [] t
      → IsDrawnShare grants start workers worker (own_of n' k) × Adds (tally_of (own_of n' k)) none_counted t
  own-done t p =
      let whole : own_of n k ≡ p.entries = ap (own_of n) (sym (one p.history p.seen_now)) ∙ p.own in
      let here : own_of n' k ≡ p.entries = subst (λ m. own_of m k ≡ p.entries) same whole in
      (subst (IsDrawnShare grants start workers worker) (sym here) p.is_done, subst (λ l. Adds (tally_of l) none_counted t) (sym here) p.counted)

-- the same of a call that is made by this definition
pub asks-as : (made call : Signed) (reply : Reply) (n : ℕ) (seen seen' : List GnapEntry → Type 0) (t u : Progress) → made ≡ call
    → ((h : List GnapEntry) → seen h → Asks made reply n seen' h t u) → (h : List GnapEntry) → seen h → Asks call reply n seen' h t u
asks-as made call reply n seen seen' t u same asks h s = subst (λ k. Asks k reply n seen' h t u) same (asks h s)
