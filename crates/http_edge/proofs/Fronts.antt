-- The front of a stream, under more bytes.
use Rattle.std.proofs.Common.{◌≡◌, ℕ, ◌+◌, ◌-◌, ◌*◌, ◌<◌, ◌≤◌, List, [], ◌∷◌, ◌++◌, length, take, drop, refl, sym, ap, ◌∙◌, subst, arith, rules, append_assoc, append-nil, length-append, inl, inr, ◌⊎◌, cond}
use Rattle.std.specs.Prelude.{IsTrue, ◌==◌, ◌||◌, nat_lt, map, slice_range, All, flat_map}
use Rattle.std.proofs.lemmas.List.{take-append-drop, take-append-le, drop-append-le, take_all, length-map, length-drop, length-take}
use Rattle.std.proofs.Math.Seq.{take-append-add, take-append_seam, drop-append_seam}
use Rattle.std.proofs.lemmas.List.Elements.{All-take, All-nil, All-cons, All-head, All-tail}
use Rattle.std.proofs.lemmas.List.Folds.{drop_split}
use Rattle.std.proofs.lemmas.Str.{IsUtf8-from_ascii}
use Rattle.std.proofs.lemmas.Bool.Decides.{nat_tests}
use Rattle.httparse.proofs.RunLemmas.{length-slice_range}
use Rattle.httparse.specs.declared.spans.HeaderSpan.{HeaderSpan}
use Rattle.httparse.specs.declared.spans.RequestSpans.{RequestSpans}
use Rattle.httparse.specs.Spans.{RequestOverflows, RequestExceeds, IsRequestOf, name_and_value}
use Rattle.httparse.specs.Grammar.{Field, print_field, IsField, LineEnd, lf, crlf, print_end, print_blank, print_request, IsToken, is_uri_byte, is_token_byte, RequestHead, IsRequestHead, ReadsRequest, HasNoRequest, NeverHasRequest}
use Rattle.httparse.proofs.GrammarLemmas.{ReadsRequest-append, print_request-append, cons-append}
use Rattle.bytes_and_lists.specs.declared.message.Message.{Message}
use Rattle.http_edge.specs.declared.fault.EdgeFault.TheVariants as faults
use Rattle.http_edge.specs.declared.framing.Framing.{Framing}
use Rattle.http_edge.specs.declared.framing.Framing.TheVariants.{Body}
use Rattle.http_edge.specs.Framing.{framing_of, asks_to_close}
use Rattle.http_edge.specs.Streams.{window, is_inner, InTarget, IsUndecided, IsNoHead, BeginsWith, headers_of, field_of, IsMessage, IsRefusedFor, no_head, too_long, by_head, IsOpen, in_head}
use Rattle.http_edge.specs.Steps.{HasManyFields, EndsAt}

-- two lists in front of equal wholes: one begins the other
pub begins_other : (a x b y : List ℕ) → a ++ x ≡ b ++ y → length b ≤ length a → a ≡ b ++ take (length a - length b) y
begins_other a x b y e short =
    let left : take (length a) (a ++ x) ≡ a = take-append_seam a x in
    let k : length b + (length a - length b) ≡ length a = omega arith in
    let right : take (length b + (length a - length b)) (b ++ y) ≡ b ++ take (length a - length b) y = take-append-add b y (length a - length b) in
    sym left ∙ ap (λ (t : List ℕ). take (length a) t) e ∙ ap (λ (n : ℕ). take n (b ++ y)) (sym k) ∙ right

pub nat_split : (n m : ℕ) → (n ≤ m) ⊎ (m < n)
nat_split n m = grind arith

take_front : (n : ℕ) (b more : List ℕ) → take n (b ++ more) ≡ take n b ++ take (n - length b) more
take_front n b more = elim (nat_split n (length b)) [
  | inl le ↦
      let none : n - length b ≡ 0 = omega arith in
      take-append-le n b more le ∙ sym (append-nil (take n b)) ∙ ap (λ (k : ℕ). take n b ++ take k more) (sym none)
  | inr lt ↦
      let k : length b + (n - length b) ≡ n = omega arith in
      let whole : take n b ≡ b = take_all n b (omega arith) in
      ap (λ (j : ℕ). take j (b ++ more)) (sym k) ∙ take-append-add b more (n - length b) ∙ ap (λ (t : List ℕ). t ++ take (n - length b) more) (sym whole)
]

-- the window grows at its end
pub window_more : (b more : List ℕ) → window (b ++ more) ≡ window b ++ take (16384 - length b) more
unfolding window
window_more b more = take_front 16384 b more

pub window_full : (b more : List ℕ) → 16384 ≤ length b → window (b ++ more) ≡ window b
unfolding window
window_full b more full = take-append-le 16384 b more full

-- a head that begins the bytes begins the window too
pub head_in_window : (b : List ℕ) (h : RequestHead) (rest : List ℕ) → BeginsWith b h rest
    → ReadsRequest (window b) h (take (16384 - length (print_request h)) rest)
unfolding window
head_in_window b h rest x =
    let whole : take 16384 (print_request h) ≡ print_request h = take_all 16384 (print_request h) x.short in (
      x.reads.0,
      ap (take 16384) x.reads.1 ∙ take_front 16384 (print_request h) rest
          ∙ ap (λ (t : List ℕ). t ++ take (16384 - length (print_request h)) rest) whole,
    )

pub never_now : (w : List ℕ) → NeverHasRequest w → HasNoRequest w
never_now w never = λ h rest r. never [] h rest (subst (λ (t : List ℕ). ReadsRequest t h rest) (sym (append-nil w)) r)

pub begins_more : (b more : List ℕ) (h : RequestHead) (rest : List ℕ) → BeginsWith b h rest → BeginsWith (b ++ more) h (rest ++ more)
begins_more b more h rest x = record { reads = ReadsRequest-append b h rest more x.reads; short = x.short }

-- ---- bytes that never become a head

-- the request `a` behind this method
head_after : List LineEnd → List ℕ → RequestHead
head_after blank method = record {
  blank = blank;
  method = method;
  target = 97 ∷ [];
  minor = 1;
  line_end = lf;
  fields = [];
  last = lf;
}

tail_after : List ℕ
tail_after = 97 ∷ 32 ∷ 72 ∷ 84 ∷ 84 ∷ 80 ∷ 47 ∷ 49 ∷ 46 ∷ 49 ∷ 10 ∷ 10 ∷ []

head_after_reads : (blank : List LineEnd) (method : List ℕ) → IsToken method
    → ReadsRequest (print_blank blank ++ method ++ 32 ∷ tail_after) (head_after blank method) []
unfolding head_after tail_after
head_after_reads blank method token = (
  record {
    method = token;
    target = (omega arith, All-cons (λ (c : ℕ). IsTrue (is_uri_byte c)) 97 [] refl (All-nil _));
    target_text = IsUtf8-from_ascii (97 ∷ []) (search rules);
    minor = omega arith;
    fields = All-nil _;
  },
  append_assoc (print_blank blank) method (32 ∷ tail_after) ∙ sym (print_request-append (head_after blank method) []),
)

regroup : (a b c : List ℕ) (x : ℕ) → a ++ b ++ x ∷ [] ++ c ≡ a ++ b ++ x ∷ c
regroup a b c x = simp (append_assoc, cons-append)

outside_stays : (w x : List ℕ) → NeverHasRequest w → ¬ (InTarget w) → ¬ (InTarget (w ++ x))
outside_stays w x never outside t =
    let front : List ℕ = print_blank t.blank ++ t.method ++ 32 ∷ [] in
    let e : w ++ x ≡ front ++ t.target = t.whole ∙ sym (regroup (print_blank t.blank) t.method t.target 32) in
    elim (nat_split (length front) (length w)) [
      | inl le ↦ outside (record {
        blank = t.blank;
        method = t.method;
        target = take (length w - length front) t.target;
        token = t.token;
        inner = All-take (λ (c : ℕ). IsTrue (is_inner c)) (length w - length front) t.target t.inner;
        whole = begins_other w x front t.target e le ∙ regroup (print_blank t.blank) t.method (take (length w - length front) t.target) 32;
      })
      | inr lt ↦
          let le : length w ≤ length front = omega arith in
          let f : front ≡ w ++ take (length front - length w) x = begins_other front t.target w x (sym e) le in
          let y : List ℕ = take (length front - length w) x in
          let whole : print_blank t.blank ++ t.method ++ 32 ∷ tail_after ≡ w ++ (y ++ tail_after) =
          sym (regroup (print_blank t.blank) t.method tail_after 32) ∙ ap (λ (l : List ℕ). l ++ tail_after) f ∙ append_assoc w y tail_after in
          never (y ++ tail_after) (head_after t.blank t.method) []
          (subst (λ (l : List ℕ). ReadsRequest l (head_after t.blank t.method) []) whole (head_after_reads t.blank t.method t.token))
    ]

pub no_head_more : (w x : List ℕ) → IsNoHead w → IsNoHead (w ++ x)
no_head_more w x n = record {
  never = λ more h rest r. n.never (x ++ more) h rest (subst (λ (t : List ℕ). ReadsRequest t h rest) (append_assoc w x more) r);
  outside = outside_stays w x n.never n.outside;
}

-- ---- many fields

pub many_fields : (w : List ℕ) (h : RequestHead) (rest : List ℕ) → RequestOverflows 64 w → ReadsRequest w h rest → HasManyFields w
many_fields w h rest over reads = record {
  head = h;
  rest = rest;
  reads = reads;
  many = over [] h rest (subst (λ (t : List ℕ). ReadsRequest t h rest) (sym (append-nil w)) reads);
}

end_long : (e : LineEnd) → 1 ≤ length (print_end e)
end_long crlf = omega arith
end_long lf = omega arith

field_long : (f : Field) → IsField f → 3 ≤ length (print_field f)
field_long f h =
    let name = length-append f.name (58 ∷ f.raw) in
    let all = length-append (f.name ++ 58 ∷ f.raw) (print_end f.end) in
    omega (arith, name, all, end_long f.end, h.name.0)

fields_long : (fs : List Field) → All IsField fs → 3 * length fs ≤ length (flat_map print_field fs)
fields_long [] all = omega arith
fields_long (f ∷ fs) all =
    omega (arith, length-append (print_field f) (flat_map print_field fs), field_long f (All-head IsField f fs all), fields_long fs (All-tail IsField f fs all))

head_long : (h : RequestHead) → IsRequestHead h → 3 * length h.fields ≤ length (print_request h)
head_long h valid =
    let whole : length (print_request h) ≡ length (print_request h ++ []) = ap length (sym (append-nil (print_request h))) in
    let parts = simp length-append at (ap length (print_request-append h [])) in
    omega (arith, whole, parts, fields_long h.fields valid.fields)

pub no_room_for : (w : List ℕ) → length w ≤ 16384 → RequestExceeds 5462 w → ⊥
no_room_for w short x =
    let h : RequestHead = x.3 in
    let text = ap length (x.4.1 ∙ append-nil (print_request h)) in
    omega (arith, text, length-append x.0 (10 ∷ []), ap length x.2, length-append x.0 x.1, head_long h x.4.0, x.5)

-- ---- what the front is found to be

begins_in_window : (b : List ℕ) (h : RequestHead) (len : ℕ) → ReadsRequest (window b) h (drop len (window b))
    → len ≡ length (print_request h) → len ≤ length (window b) → BeginsWith b h (drop len b)
unfolding window
begins_in_window b h len reads is inside =
    let split : take 16384 b ++ drop 16384 b ≡ b = take-append-drop 16384 b in
    let rest : drop len (take 16384 b) ++ drop 16384 b ≡ drop len b =
    sym (drop-append-le len (take 16384 b) (drop 16384 b) inside) ∙ ap (drop len) split in
    let more = ReadsRequest-append (take 16384 b) h (drop len (take 16384 b)) (drop 16384 b) reads in
    let short : length (take 16384 b) ≤ 16384 = omega (arith, length-take 16384 b) in
    record {
      reads = subst (λ (t : List ℕ). ReadsRequest t h (drop len b)) split (subst (ReadsRequest (take 16384 b ++ drop 16384 b) h) rest more);
      short = omega arith;
    }

pub no_head_refused : (b w : List ℕ) → w ≡ window b → IsNoHead w → IsRefusedFor b faults.BadHead
no_head_refused b w e n = no_head (subst IsNoHead e n)

pub too_long_refused : (b w : List ℕ) → w ≡ window b → IsUndecided w → 16384 ≤ length b → IsRefusedFor b faults.TooLarge
too_long_refused b w e u full = too_long (subst IsUndecided e u) full

pub open_in_head : (b w : List ℕ) → w ≡ window b → IsUndecided w → length b < 16384 → IsOpen b
open_in_head b w e u short = in_head (subst IsUndecided e u) short

nothing_reads : (h : RequestHead) (rest : List ℕ) → ReadsRequest [] h rest → ⊥
nothing_reads h rest r =
    let parts = simp length-append at (ap length (r.1 ∙ print_request-append h rest)) in
    omega (arith, parts)

-- of no bytes it isn't decided what they begin
open_at_first : IsOpen []
unfolding window tail_after is_token_byte
open_at_first = in_head (record {
  none = nothing_reads;
  may = inl (record {
    more = 65 ∷ 32 ∷ tail_after;
    head = head_after [] (65 ∷ []);
    reads = head_after_reads [] (65 ∷ []) (omega arith, All-cons (λ (c : ℕ). IsTrue (is_token_byte c)) 65 [] refl (All-nil _));
  });
}) (omega arith)

pub nothing_open : (b : List ℕ) → b ≡ [] → IsOpen b × (length b < 16384)
nothing_open b none = subst (λ (t : List ℕ). IsOpen t × (length t < 16384)) (sym none) (open_at_first, omega arith)

if_long : (A : Type 0) (n : ℕ) (x y : A) → 64 < n → cond (nat_lt 64 n) x y ≡ x
if_long A n x y h = grind (arith, nat_tests)

pub many_refused : (b w : List ℕ) → w ≡ window b → HasManyFields w → IsRefusedFor b faults.TooLarge
many_refused b w e m =
    let reads : ReadsRequest (window b) m.head m.rest = subst (λ (t : List ℕ). ReadsRequest t m.head m.rest) e m.reads in
    let inside : length (print_request m.head) ≤ length (window b) =
    omega (arith, ap length reads.1, length-append (print_request m.head) m.rest) in
    let after : drop (length (print_request m.head)) (window b) ≡ m.rest =
    ap (drop (length (print_request m.head))) reads.1 ∙ drop-append_seam (print_request m.head) m.rest in
    let n : length (headers_of m.head) ≡ length m.head.fields = length-map m.head.fields name_and_value in
    by_head faults.TooLarge m.head (drop (length (print_request m.head)) b)
    (begins_in_window b m.head (length (print_request m.head)) (subst (ReadsRequest (window b) m.head) (sym after) reads) refl inside)
    (if_long Framing (length (headers_of m.head)) _ _ (omega (arith, m.many, n)))

pub head_here : (b w : List ℕ) (room : List HeaderSpan) (spans : RequestSpans) → w ≡ window b → (of : IsRequestOf w room spans)
    → spans.len ≤ length w → BeginsWith b of.0 (drop spans.len b)
head_here b w room spans e of inside =
    begins_in_window b of.0 spans.len (subst (λ (t : List ℕ). ReadsRequest t of.0 (drop spans.len t)) e of.1.reads) of.1.len
    (subst (λ (t : List ℕ). spans.len ≤ length t) e inside)

length-rest : (n : ℕ) (b : List ℕ) → length (drop n b) ≡ length b - n
length-rest n b = length-drop n b

-- a head and a body of the length that it says
pub whole_message : (b : List ℕ) (h : RequestHead) (len n : ℕ) (m : Message) → BeginsWith b h (drop len b)
    → framing_of (headers_of h) ≡ Body n → len + n ≤ length b
    → m.method ≡ h.method → m.target ≡ h.target → m.fields ≡ map field_of (headers_of h) → m.body ≡ slice_range b len (len + n)
    → m.last ≡ (h.minor == 0 || asks_to_close (headers_of h))
    → IsMessage b m (drop (len + n) b)
whole_message b h len n m begins framed inside method target fields body last =
    let count : length m.body ≡ n = omega (arith, ap length body, length-slice_range b len (len + n) (omega arith) inside) in
    record {
      head = h;
      begins = subst (BeginsWith b h) (drop_split b len (len + n) (omega arith) ∙ ap (λ (t : List ℕ). t ++ drop (len + n) b) (sym body)) begins;
      framed = framed ∙ ap Body (sym count);
      is = λ i. record { method = method i; target = target i; fields = fields i; body = m.body; last = last i };
    }

-- a head whose body isn't whole yet
pub ends_at : (b : List ℕ) (h : RequestHead) (len n : ℕ) → BeginsWith b h (drop len b) → len ≡ length (print_request h)
    → framing_of (headers_of h) ≡ Body n → EndsAt b (len + n)
ends_at b h len n begins is framed = record {
  head = h;
  rest = drop len b;
  count = n;
  begins = begins;
  framed = framed;
  end_is = ap (λ (k : ℕ). k + n) is;
}
