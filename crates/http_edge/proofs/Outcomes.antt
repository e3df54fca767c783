-- What stands at the front of a stream is one thing, and stays it under more bytes.
use Rattle.std.proofs.Common.{◌≡◌, ℕ, ◌-◌, ◌<◌, List, [], ◌∷◌, ◌++◌, length, take, refl, sym, ap, ◌∙◌, subst, arith, append_assoc, append-nil, length-append, inl, inr}
use Rattle.std.proofs.lemmas.List.{append_cancel_left}
use Rattle.httparse.specs.Grammar.{print_request, RequestHead}
use Rattle.httparse.proofs.GrammarLemmas.{request_prefix_free, request_unique}
use Rattle.bytes_and_lists.specs.declared.message.Message.{Message}
use Rattle.http_edge.specs.declared.fault.EdgeFault.{EdgeFault}
use Rattle.http_edge.specs.declared.framing.Framing.{Framing}
use Rattle.http_edge.specs.declared.framing.Framing.TheVariants.{Refused, Body}
use Rattle.http_edge.specs.Framing.{framing_of}
use Rattle.http_edge.specs.Streams.{window, IsUndecided, IsNoHead, BeginsWith, headers_of, message_of, IsMessage, IsRefusedFor, no_head, too_long, by_head, IsOpen, in_head, in_body, HasNoMessage, Messages}
use Rattle.http_edge.specs.declared.messages.Want.{Want}
use Rattle.http_edge.specs.declared.messages.Want.TheVariants.{MoreOfHead, UpTo}
use Rattle.http_edge.specs.Steps.{EndsAt, IsWaiting}
use Rattle.http_edge.specs.Laws.{RefusalStays, OutcomesDiffer, MessagesStay}
use Rattle.http_edge.proofs.Fronts.{begins_other, window_more, window_full, head_in_window, never_now, begins_more, no_head_more}

-- ---- under more bytes

pub refusal_more : (b more : List ℕ) (fault : EdgeFault) → IsRefusedFor b fault → IsRefusedFor (b ++ more) fault
refusal_more b more _ (no_head n) = no_head (subst IsNoHead (sym (window_more b more)) (no_head_more (window b) (take (16384 - length b) more) n))
refusal_more b more _ (too_long u full) = too_long (subst IsUndecided (sym (window_full b more full)) u) (omega (arith, length-append b more))
refusal_more b more _ (by_head fault h rest x v) = by_head fault h (rest ++ more) (begins_more b more h rest x) v

pub message_more : (b more : List ℕ) (m : Message) (r : List ℕ) → IsMessage b m r → IsMessage (b ++ more) m (r ++ more)
message_more b more m r x = record {
  head = x.head;
  begins = subst (BeginsWith (b ++ more) x.head) (append_assoc m.body r more) (begins_more b more x.head (m.body ++ r) x.begins);
  framed = x.framed;
  is = x.is;
}

length_in : Framing → ℕ
length_in (Body n) = n
length_in (Refused f) = 0

pub message_one : (b more : List ℕ) (m n : Message) (r q : List ℕ) → IsMessage b m r → IsMessage (b ++ more) n q
    → (m ≡ n) × (r ++ more ≡ q)
unfolding length_in
message_one b more m n r q x y =
    let same = request_prefix_free b more x.head y.head (m.body ++ r) (n.body ++ q) x.begins.reads y.begins.reads in
    let lengths : length m.body ≡ length n.body = ap length_in (sym x.framed ∙ ap (λ (h : RequestHead). framing_of (headers_of h)) same.0 ∙ y.framed) in
    let rests : m.body ++ (r ++ more) ≡ n.body ++ q = sym (append_assoc m.body r more) ∙ same.1 in
    let zero : length m.body - length n.body ≡ 0 = omega arith in
    let bodies : m.body ≡ n.body = begins_other m.body (r ++ more) n.body q rests (omega arith)
    ∙ ap (λ (k : ℕ). n.body ++ take k q) zero ∙ append-nil n.body in
    let tails : r ++ more ≡ q = append_cancel_left m.body (r ++ more) q (rests ∙ ap (λ (t : List ℕ). t ++ q) (sym bodies)) in
    (x.is ∙ ap (λ (h : RequestHead). message_of h m.body) same.0 ∙ ap (message_of y.head) bodies ∙ sym y.is, tails)

-- ---- the outcomes exclude each other

undecided_no_head : (w : List ℕ) → IsUndecided w → ¬ (IsNoHead w)
undecided_no_head w u n = elim u.may [ inl c ↦ n.never c.more c.head [] c.reads | inr t ↦ n.outside t ]

undecided_begins : (b : List ℕ) (h : RequestHead) (rest : List ℕ) → IsUndecided (window b) → ¬ (BeginsWith b h rest)
undecided_begins b h rest u x = u.none h _ (head_in_window b h rest x)

no_head_begins : (b : List ℕ) (h : RequestHead) (rest : List ℕ) → IsNoHead (window b) → ¬ (BeginsWith b h rest)
no_head_begins b h rest n x = never_now (window b) n.never h _ (head_in_window b h rest x)

-- one head stands at the front, and says one thing of its body
one_framing : (b : List ℕ) (h k : RequestHead) (r q : List ℕ) (f g : Framing) → BeginsWith b h r → BeginsWith b k q
    → framing_of (headers_of h) ≡ f → framing_of (headers_of k) ≡ g → (f ≡ g) × (r ≡ q)
one_framing b h k r q f g x y first second =
    let same = request_unique b h k r q x.reads y.reads in
    (sym first ∙ ap (λ (l : RequestHead). framing_of (headers_of l)) same.0 ∙ second, same.1)

refused_is_no_body : (fault : EdgeFault) (n : ℕ) → ¬ (Refused fault ≡ Body n)
refused_is_no_body fault n e = cc

pub refused_no_message : (b : List ℕ) (fault : EdgeFault) → IsRefusedFor b fault → HasNoMessage b
refused_no_message b _ (no_head n) m rest x = no_head_begins b x.head (m.body ++ rest) n x.begins
refused_no_message b _ (too_long u full) m rest x = undecided_begins b x.head (m.body ++ rest) u x.begins
refused_no_message b _ (by_head fault h r y v) m rest x =
    refused_is_no_body fault (length m.body) (one_framing b h x.head r (m.body ++ rest) (Refused fault) (Body (length m.body)) y x.begins v x.framed).0

shorter : (b : List ℕ) (m : Message) (rest : List ℕ) (h : RequestHead) (r : List ℕ) (n : ℕ) → BeginsWith b h r → framing_of (headers_of h) ≡ Body n
    → length r < n
    → ¬ (IsMessage b m rest)
unfolding length_in
shorter b m rest h r n y v short x =
    let same = one_framing b h x.head r (m.body ++ rest) (Body n) (Body (length m.body)) y x.begins v x.framed in
    let count : n ≡ length m.body = ap length_in same.0 in
    omega (arith, ap length same.1, length-append m.body rest)

pub open_no_message : (b : List ℕ) → IsOpen b → HasNoMessage b
open_no_message b (in_head u short) m rest x = undecided_begins b x.head (m.body ++ rest) u x.begins
open_no_message b (in_body h r n y v short) m rest x = shorter b m rest h r n y v short x

pub open_not_refused : (b : List ℕ) (fault : EdgeFault) → IsRefusedFor b fault → ¬ (IsOpen b)
open_not_refused b _ (no_head n) (in_head u short) = undecided_no_head (window b) u n
open_not_refused b _ (no_head n) (in_body h r k y v short) = no_head_begins b h r n y
open_not_refused b _ (too_long u full) (in_head w short) = omega arith
open_not_refused b _ (too_long u full) (in_body h r k y v short) = undecided_begins b h r u y
open_not_refused b _ (by_head fault h r y v) (in_head u short) = undecided_begins b h r u y
open_not_refused b _ (by_head fault h r y v) (in_body k q n z w short) = refused_is_no_body fault n (one_framing b h k r q (Refused fault) (Body n) y z v w).0

same_refusal : (b : List ℕ) (f g : EdgeFault) → IsRefusedFor b f → IsRefusedFor b g → f ≡ g
same_refusal b _ _ (no_head n) (no_head m) = refl
same_refusal b _ _ (no_head n) (too_long u full) = absurd (undecided_no_head (window b) u n)
same_refusal b _ _ (no_head n) (by_head fault h r y v) = absurd (no_head_begins b h r n y)
same_refusal b _ _ (too_long u full) (no_head n) = absurd (undecided_no_head (window b) u n)
same_refusal b _ _ (too_long u full) (too_long w long) = refl
same_refusal b _ _ (too_long u full) (by_head fault h r y v) = absurd (undecided_begins b h r u y)
same_refusal b _ _ (by_head fault h r y v) (no_head n) = absurd (no_head_begins b h r n y)
same_refusal b _ _ (by_head fault h r y v) (too_long u full) = absurd (undecided_begins b h r u y)
same_refusal b _ _ (by_head fault h r y v) (by_head other k q z w) =
    let same = one_framing b h k r q (Refused fault) (Refused other) y z v w in inner fault other same.0
  where
    inner : (f g : EdgeFault) → Refused f ≡ Refused g → f ≡ g
    inner f g e = cc

pub one_refusal : (b more : List ℕ) (f g : EdgeFault) → IsRefusedFor b f → IsRefusedFor (b ++ more) g → f ≡ g
one_refusal b more f g x y = same_refusal (b ++ more) f g (refusal_more b more f x) y

-- ---- a body that isn't whole yet

pub ends_at_more : (b more : List ℕ) (end : ℕ) → EndsAt b end → EndsAt (b ++ more) end
ends_at_more b more end x = record {
  head = x.head;
  rest = x.rest ++ more;
  count = x.count;
  begins = begins_more b more x.head x.rest x.begins;
  framed = x.framed;
  end_is = x.end_is;
}

pub open_in_body : (b : List ℕ) (end : ℕ) → EndsAt b end → length b < end → IsOpen b
open_in_body b end x short =
    in_body x.head x.rest x.count x.begins x.framed (omega (arith, ap length x.begins.reads.1, length-append (print_request x.head) x.rest, x.end_is))

pub waiting_open : (b : List ℕ) (want : Want) → IsWaiting b want → IsOpen b
waiting_open b MoreOfHead w = w.0
waiting_open b (UpTo end) w = open_in_body b end w.0 w.1

-- ---- the laws

pub refusal_law : RefusalStays
refusal_law b more fault x = (refusal_more b more fault x, λ other. one_refusal b more fault other x)

pub outcomes_law : OutcomesDiffer
outcomes_law = record { refused = refused_no_message; waiting = open_no_message; neither = open_not_refused }

messages_next : (b : List ℕ) (ms : List Message) (rest : List ℕ) (m : Message) (after : List ℕ) → Messages b ms rest → IsMessage rest m after
    → Messages b (ms ++ m ∷ []) after
messages_next b [] rest m after x y = (after, subst (λ (t : List ℕ). IsMessage t m after) (sym x) y, refl)
messages_next b (n ∷ ms) rest m after x y = (x.0, x.1, messages_next x.0 ms rest m after x.2 y)

messages_more : (b : List ℕ) (ms : List Message) (rest more : List ℕ) → Messages b ms rest → Messages (b ++ more) ms (rest ++ more)
messages_more b [] rest more x = ap (λ (t : List ℕ). t ++ more) x
messages_more b (m ∷ ms) rest more x = (x.0 ++ more, message_more b more m x.0 x.1, messages_more x.0 ms rest more x.2)

messages_same : (b more : List ℕ) (ms ns : List Message) (r q : List ℕ) → Messages b ms r → Messages (b ++ more) ns q → length ms ≡ length ns
    → (ms ≡ ns) × (r ++ more ≡ q)
messages_same b more [] [] r q x y e = (refl, ap (λ (t : List ℕ). t ++ more) (sym x) ∙ y)
messages_same b more [] (n ∷ ns) r q x y e = absurd (omega arith)
messages_same b more (m ∷ ms) [] r q x y e = absurd (omega arith)
messages_same b more (m ∷ ms) (n ∷ ns) r q x y e =
    let first = message_one b more m n x.0 y.0 x.1 y.1 in
    let later = messages_same x.0 more ms ns r q x.2 (subst (λ (t : List ℕ). Messages t ns q) (sym first.1) y.2) (omega arith) in
    (λ i. first.0 i ∷ later.0 i, later.1)

pub messages_law : MessagesStay
messages_law = record { next = messages_next; stay = messages_more; same = messages_same }
