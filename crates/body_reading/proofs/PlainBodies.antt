-- A plain text, from its bytes to its tokens and from those to its value.
use Rattle.std.proofs.Common.{◌≡◌, ℕ, suc, ◌-◌, ◌<◌, ◌≤◌, Bool, true, false, IsTrue, ◌||◌, List, [], ◌∷◌, ◌++◌, length, Some, None, Ok, IsAscii, Ordering, Less, Equal, Greater, refl, sym, ap, ap₂, ◌∙◌, subst, arith, append_assoc, length-append}
use Rattle.std.proofs.lemmas.Bool.{or_parts}
use Rattle.std.proofs.lemmas.Str.{IsAscii-append, IsUtf8-from_ascii}
use Rattle.std.proofs.lemmas.Str.Ascii.{IsAscii-nil, IsAscii-cons, IsAscii-push}
use Rattle.std.specs.Ordering.{match_ordering}
use Rattle.json.specs.Token.{Token}
use Rattle.json.specs.Lex.{token, string_token, Place, fresh, after_value, after_comma, after_key, may_begin, may_close, begins_colon, if_allowed, lex, between, place_token, punctuate}
use Rattle.json.specs.Json as json
use Rattle.json.specs.Json.{parse_map, items, members}
use Rattle.json.specs.Print.{escape, quoted}
use Rattle.json.proofs.Grammar.{left, value_is, skip_value-shorter}
use Rattle.json.proofs.Printed.Strings.{content-escape, lex-escape}
use Rattle.serde_json.specs.Data.{Data, string, array, object, Items, Members, no_members, member, put}
use Rattle.serde_json.specs.Read.{of_json, of_items, of_members, converted, read}
use Rattle.serde_json.specs.Written.{has_float, items_have_float, members_have_float}
use Rattle.serde_json.specs.View.{view, items_view}
use Rattle.serde_json.specs.declared.value.Value.{Value}
use Rattle.serde_json.proofs.Nesting.{depth-read}
use Rattle.json_objects.specs.Bodies.{IsBody, body_of}
use Rattle.json_objects.proofs.Bodies.{body_is}
use Rattle.plain_text.specs.PlainText.{IsPlain}
use Rattle.body_reading.specs.PlainBodies.{tokens_from, SpacePassed, BeginsWith, HasItems, HasMembers}
use Rattle.body_reading.proofs.Reading.{converted_some, opened_array, opened_object, item_read, items_over, member_read, members_over, items_before, items_before-no_items, one_more_item, none_before, whole_read}

pub quoted_ascii : (s r : List ℕ) → IsPlain s → IsAscii r → IsAscii (quoted s ++ r)
quoted_ascii s r plain rest =
    let inside = IsAscii-push (escape s) 34 (subst IsAscii (sym plain.0) plain.1) (omega arith) in
    IsAscii-append (quoted s) r (IsAscii-cons 34 (escape s ++ 34 ∷ []) (omega arith) inside) rest

-- ---- tokens

lex-quoted : (s r : List ℕ) → lex between (quoted s ++ r) ≡ token (Token.string s) ∷ lex between r
unfolding lex
lex-quoted s r =
    ap (λ l. lex between (34 ∷ l)) (append_assoc (escape s) (34 ∷ []) r)
    ∙ ap₂ (λ o l. token (string_token o) ∷ l) (content-escape s r) (lex-escape s r)

allowed : (b : Bool) (t : Token) (rest : Place → List Token) (next : Place) → b ≡ true → if_allowed b t rest next ≡ t ∷ rest next
allowed b t rest next may = ap (λ c. if_allowed c t rest next) may

name_first : (place : Place) (k r : List ℕ) → may_begin place ≡ true → tokens_from place (quoted k ++ 58 ∷ r) ≡ Token.key k ∷ tokens_from fresh r
unfolding lex punctuate
name_first place k r may =
    ap (punctuate place) (lex-quoted k (58 ∷ r))
    ∙ allowed (may_begin place) (Token.key k) (λ next. punctuate next (lex between (58 ∷ r))) after_key may

string_first : (place : Place) (s r : List ℕ) → may_begin place ≡ true → begins_colon (lex between r) ≡ false
    → tokens_from place (quoted s ++ r) ≡ Token.string s ∷ tokens_from after_value r
unfolding punctuate
string_first place s r may no_colon =
    let rest = λ (next : Place). punctuate next (lex between r) in
    ap (punctuate place) (lex-quoted s r) ∙ ap (λ b. place_token place (Token.string s) b rest) no_colon
    ∙ allowed (may_begin place) (Token.string s) rest after_value may

brace_first : (place : Place) (r : List ℕ) → may_begin place ≡ true → tokens_from place (123 ∷ r) ≡ Token.begin_object ∷ tokens_from fresh r
unfolding lex punctuate
brace_first place r may = allowed (may_begin place) Token.begin_object (λ next. punctuate next (lex between r)) fresh may

bracket_first : (place : Place) (r : List ℕ) → may_begin place ≡ true → tokens_from place (91 ∷ r) ≡ Token.begin_array ∷ tokens_from fresh r
unfolding lex punctuate
bracket_first place r may = allowed (may_begin place) Token.begin_array (λ next. punctuate next (lex between r)) fresh may

closing_brace : (place : Place) (r : List ℕ) → may_close place ≡ true → tokens_from place (125 ∷ r) ≡ Token.end_object ∷ tokens_from after_value r
unfolding lex punctuate
closing_brace place r may = allowed (may_close place) Token.end_object (λ next. punctuate next (lex between r)) after_value may

closing_bracket : (place : Place) (r : List ℕ) → may_close place ≡ true → tokens_from place (93 ∷ r) ≡ Token.end_array ∷ tokens_from after_value r
unfolding lex punctuate
closing_bracket place r may = allowed (may_close place) Token.end_array (λ next. punctuate next (lex between r)) after_value may

comma_first : (r : List ℕ) → tokens_from after_value (44 ∷ r) ≡ tokens_from after_comma r
unfolding lex punctuate
comma_first r = refl

pub space_passed : (b : Bool) (old new : List ℕ) → (IsTrue b → old ≡ 32 ∷ new) → (b ≡ false → new ≡ old) → SpacePassed old new
unfolding lex
space_passed true old new taken kept =
    let is = taken refl in
    record {
      same = ap (lex between) is;
      ascii = λ h. subst IsAscii (sym is) (IsAscii-cons 32 new (omega arith) h);
      len = omega (arith, ap length is);
    }
space_passed false old new taken kept =
    let is = kept refl in
    record { same = ap (lex between) (sym is); ascii = λ h. subst IsAscii is h; len = omega (arith, ap length is) }

pub no_colon-comma : (old r : List ℕ) → old ≡ 44 ∷ r → begins_colon (lex between old) ≡ false
unfolding lex
no_colon-comma old r is = ap (λ t. begins_colon (lex between t)) is

pub no_colon-brace : (old r : List ℕ) → old ≡ 125 ∷ r → begins_colon (lex between old) ≡ false
unfolding lex
no_colon-brace old r is = ap (λ t. begins_colon (lex between t)) is

pub no_colon-bracket : (old r : List ℕ) → old ≡ 93 ∷ r → begins_colon (lex between old) ≡ false
unfolding lex
no_colon-bracket old r is = ap (λ t. begins_colon (lex between t)) is

-- ---- values

pub string_begins : (depth : ℕ) (s old new : List ℕ) → old ≡ quoted s ++ new → IsPlain s → BeginsWith depth (string s) old new
string_begins depth s old new is plain =
    record {
      value =
          λ place may no_colon. ap (converted of_json)
          (ap (json.value depth) (ap (tokens_from place) is ∙ string_first place s new may no_colon) ∙ value_is depth _);
      ascii = λ rest. subst IsAscii (sym is) (quoted_ascii s new plain rest);
      whole = refl;
      shorter = omega (arith, ap length is, length-append (quoted s) new);
    }

pub object_begins : (depth : ℕ) (ms : Members) (old inner new : List ℕ) → 0 < depth → old ≡ 123 ∷ inner → HasMembers (depth - 1) ms inner new
    → BeginsWith depth (object ms) old new
object_begins depth ms old inner new some is read =
    record {
      value =
          λ place may no_colon. opened_object depth _ _ some (ap (tokens_from place) is ∙ brace_first place inner may) ∙ ap (parse_map object) read.value;
      ascii = λ rest. subst IsAscii (sym is) (IsAscii-cons 123 inner (omega arith) (read.ascii rest));
      whole = read.whole;
      shorter = omega (arith, ap length is, read.shorter);
    }

pub array_begins : (depth : ℕ) (ds : Items) (old inner new : List ℕ) → 0 < depth → old ≡ 91 ∷ inner → HasItems (depth - 1) ds inner new
    → BeginsWith depth (array ds) old new
array_begins depth ds old inner new some is read =
    record {
      value = λ place may no_colon. opened_array depth _ _ some (ap (tokens_from place) is ∙ bracket_first place inner may) ∙ ap (parse_map array) read.value;
      ascii = λ rest. subst IsAscii (sym is) (IsAscii-cons 91 inner (omega arith) (read.ascii rest));
      whole = read.whole;
      shorter = omega (arith, ap length is, read.shorter);
    }

not_read : (p : json.Json × List Token) → None ≡ Some p → ⊥
not_read p e = absurd (cc)

pub begins_behind : (depth : ℕ) (d : Data) (old mid new : List ℕ) → SpacePassed old mid → BeginsWith depth d mid new → BeginsWith depth d old new
begins_behind depth d old mid new passed read =
    record {
      value =
          λ place may no_colon. ap (λ ls. converted of_json (json.value depth (punctuate place ls))) passed.same ∙ read.value place may no_colon;
      ascii = λ h. passed.ascii (read.ascii h);
      whole = read.whole;
      shorter = omega (arith, passed.len, read.shorter);
    }

-- no value begins with the end of an array
not_ended : (depth : ℕ) (ts : List Token) (j : json.Json) (r : List Token) → json.value depth ts ≡ Some (j, r) → json.after_end_array ts ≡ None
not_ended depth [] j r e = refl
not_ended depth (Token.begin_object ∷ ts) j r e = refl
not_ended depth (Token.end_object ∷ ts) j r e = refl
not_ended depth (Token.begin_array ∷ ts) j r e = refl
not_ended depth (Token.end_array ∷ ts) j r e =
    absurd (not_read (j, r) (sym (value_is depth (Token.end_array ∷ ts)) ∙ e))
not_ended depth (Token.key s ∷ ts) j r e = refl
not_ended depth (Token.string s ∷ ts) j r e = refl
not_ended depth (Token.number s ∷ ts) j r e = refl
not_ended depth (Token.boolean b ∷ ts) j r e = refl
not_ended depth (Token.null ∷ ts) j r e = refl
not_ended depth (Token.bad ∷ ts) j r e = refl

pub push_whole : (vs : List Value) (v : Value) → has_float (view v) ≡ false → items_have_float (items_view vs) ≡ false
    → items_have_float (items_view (vs ++ v ∷ [])) ≡ false
push_whole [] v whole others = ap (λ b. b || false) whole
push_whole (w ∷ vs) v whole others =
    let parts = or_parts (has_float (view w)) (items_have_float (items_view vs)) others in
    ap₂ (λ a b. a || b) parts.0 (push_whole vs v whole parts.1)

pub put_whole : (k : List ℕ) (d : Data) (ms : Members) → has_float d ≡ false → members_have_float ms ≡ false → members_have_float (put k d ms) ≡ false
put_whole k d no_members whole others = ap (λ b. b || false) whole
put_whole k d (member l e ms) whole others =
    let parts = or_parts (has_float e) (members_have_float ms) others in
    by_order _ (put_whole k d ms whole parts.1)
  where
    by_order : (o : Ordering) → members_have_float (put k d ms) ≡ false
        → members_have_float (match_ordering o (member k d (member l e ms)) (member l d ms) (member l e (put k d ms))) ≡ false
    by_order Less later = ap₂ (λ a b. a || b) whole others
    by_order Equal later = ap₂ (λ a b. a || b) whole (or_parts (has_float e) (members_have_float ms) others).1
    by_order Greater later = ap₂ (λ a b. a || b) (or_parts (has_float e) (members_have_float ms) others).0 later

-- ---- items and members, one after another

-- Reading came from `start` to `rest`, and `Left` says what is to be read of the tokens of the rest, which take no more than `turns` turns.
pub record Reading (Left : ℕ → List Token → Type 0) (place : Place) (start rest : List ℕ) : Type 0 where
  pub turns : ℕ
  pub enough : length (tokens_from place rest) ≤ turns
  pub left : Left turns (tokens_from place rest)
  pub ascii : IsAscii rest → IsAscii start
  pub shorter : length rest ≤ length start

module _ (Left : ℕ → List Token → Type 0) where
  pub begun : (start : List ℕ) → Left (length (tokens_from fresh start)) (tokens_from fresh start) → Reading Left fresh start start
  begun start left = record { turns = length (tokens_from fresh start); enough = omega arith; left = left; ascii = λ rest. rest; shorter = omega arith }

  comma_passed : (start rest r : List ℕ) → Reading Left after_value start rest → rest ≡ 44 ∷ r → Reading Left after_comma start r
  comma_passed start rest r before is =
      let same : tokens_from after_value rest ≡ tokens_from after_comma r = ap (tokens_from after_value) is ∙ comma_first r in
      record {
        turns = before.turns;
        enough = omega (arith, before.enough, ap length same);
        left = subst (Left before.turns) same before.left;
        ascii = λ h. before.ascii (subst IsAscii (sym is) (IsAscii-cons 44 r (omega arith) h));
        shorter = omega (arith, before.shorter, ap length is);
      }

  pub comma_and_space_passed : (start rest mid r : List ℕ) → Reading Left after_value start rest → rest ≡ 44 ∷ mid → SpacePassed mid r
      → Reading Left after_comma start r
  comma_and_space_passed start rest mid r before is passed =
      let there = comma_passed start rest mid before is in
      let same : tokens_from after_comma mid ≡ tokens_from after_comma r = ap (punctuate after_comma) passed.same in
      record {
        turns = there.turns;
        enough = omega (arith, there.enough, ap length same);
        left = subst (Left there.turns) same there.left;
        ascii = λ h. there.ascii (passed.ascii h);
        shorter = omega (arith, there.shorter, passed.len);
      }

module _ (depth : ℕ) (start : List ℕ) where
  abbrev pub ItemsLeft : List Value → ℕ → List Token → Type 0
  ItemsLeft vs turns ts =
      converted of_items (items (json.value depth) (length (tokens_from fresh start)) (tokens_from fresh start))
      ≡ parse_map (items_before vs) (converted of_items (items (json.value depth) turns ts))

  abbrev pub MembersLeft : Members → ℕ → List Token → Type 0
  MembersLeft found turns ts =
      converted (λ js. of_members js no_members) (members (json.value depth) (length (tokens_from fresh start)) (tokens_from fresh start))
      ≡ converted (λ js. of_members js found) (members (json.value depth) turns ts)

  pub items_begun : (vs : List Value) → vs ≡ [] → Reading (ItemsLeft vs) fresh start start
  items_begun vs is =
      let all = converted of_items (items (json.value depth) (length (tokens_from fresh start)) (tokens_from fresh start)) in
      begun (ItemsLeft vs) start (none_before all ∙ ap (λ ws. parse_map (items_before ws) all) (sym is))

  pub item_passed : (place : Place) (vs : List Value) (v : Value) (rest r : List ℕ) → may_begin place ≡ true → Reading (ItemsLeft vs) place start rest
      → BeginsWith depth (view v) rest r → begins_colon (lex between r) ≡ false → Reading (ItemsLeft (vs ++ v ∷ [])) after_value start r
  item_passed place vs v rest r may before read no_colon =
      let ts = tokens_from place rest in
      let after = tokens_from after_value r in
      let value = read.value place may no_colon in
      let j = converted_some of_json (json.value depth ts) (view v) after value in
      let less = skip_value-shorter depth ts after (ap left j.1) in
      record {
        turns = before.turns - 1;
        enough = omega (arith, before.enough, less);
        left = before.left
            ∙ ap (parse_map (items_before vs))
            (item_read (json.value depth) before.turns ts after (view v) (omega (arith, before.enough, less)) (not_ended depth ts j.0 after j.1) value)
            ∙ one_more_item vs v _;
        ascii = λ h. before.ascii (read.ascii h);
        shorter = omega (arith, before.shorter, read.shorter);
      }

  pub items_over_at : (place : Place) (vs : List Value) (rest new : List ℕ) → may_close place ≡ true → Reading (ItemsLeft vs) place start rest → rest ≡ 93 ∷ new
      → items_have_float (items_view vs) ≡ false → HasItems depth (items_view vs) start new
  items_over_at place vs rest new may before is whole =
      let ended : tokens_from place rest ≡ Token.end_array ∷ tokens_from after_value new = ap (tokens_from place) is ∙ closing_bracket place new may in
      record {
        value = before.left
            ∙ ap (parse_map (items_before vs))
            (items_over (json.value depth) before.turns (tokens_from place rest) (tokens_from after_value new) before.enough (ap json.after_end_array ended))
            ∙ ap (λ ds. Some (ds, tokens_from after_value new)) (items_before-no_items vs);
        ascii = λ h. before.ascii (subst IsAscii (sym is) (IsAscii-cons 93 new (omega arith) h));
        whole = whole;
        shorter = omega (arith, before.shorter, ap length is);
      }

  pub members_begun : (found : Members) → found ≡ no_members → Reading (MembersLeft found) fresh start start
  members_begun found is = subst (λ ms. Reading (MembersLeft ms) fresh start start) (sym is) (begun (MembersLeft no_members) start refl)

  pub member_passed : (place : Place) (found : Members) (k : List ℕ) (d : Data) (rest s r : List ℕ) → may_begin place ≡ true
      → Reading (MembersLeft found) place start rest → rest ≡ quoted k ++ 58 ∷ s → IsPlain k → BeginsWith depth d s r → begins_colon (lex between r) ≡ false
      → Reading (MembersLeft (put k d found)) after_value start r
  member_passed place found k d rest s r may before is plain read no_colon =
      let ts = tokens_from place rest in
      let inner = tokens_from fresh s in
      let after = tokens_from after_value r in
      let named : ts ≡ Token.key k ∷ inner = ap (tokens_from place) is ∙ name_first place k s may in
      let value = read.value fresh refl no_colon in
      let j = converted_some of_json (json.value depth inner) d after value in
      let less = skip_value-shorter depth inner after (ap left j.1) in
      let long : length ts ≡ suc (length inner) = ap length named in
      record {
        turns = before.turns - 1;
        enough = omega (arith, before.enough, less, long);
        left = before.left
            ∙ member_read (json.value depth) found before.turns k ts inner after d (omega (arith, before.enough, long)) (ap json.read_key named) value;
        ascii = λ h. before.ascii (subst IsAscii (sym is) (quoted_ascii k (58 ∷ s) plain (IsAscii-cons 58 s (omega arith) (read.ascii h))));
        shorter = omega (arith, before.shorter, read.shorter, ap length is, length-append (quoted k) (58 ∷ s));
      }

  pub members_over_at : (place : Place) (found : Members) (rest new : List ℕ) → may_close place ≡ true → Reading (MembersLeft found) place start rest
      → rest ≡ 125 ∷ new → members_have_float found ≡ false → HasMembers depth found start new
  members_over_at place found rest new may before is whole =
      let ended : tokens_from place rest ≡ Token.end_object ∷ tokens_from after_value new = ap (tokens_from place) is ∙ closing_brace place new may in
      record {
        value = before.left
            ∙ members_over (json.value depth) found before.turns (tokens_from place rest) (tokens_from after_value new) before.enough (ap json.read_key ended);
        ascii = λ h. before.ascii (subst IsAscii (sym is) (IsAscii-cons 125 new (omega arith) h));
        whole = whole;
        shorter = omega (arith, before.shorter, ap length is);
      }

-- ---- the whole body

module _ (ms : Members) (text inner rest : List ℕ) (is : text ≡ 123 ∷ inner) (members_read : HasMembers 126 ms inner rest) (over : rest ≡ []) where
  read_is : read text ≡ Some (object ms)
  unfolding lex punctuate
  read_is =
      let begins = subst (λ r. BeginsWith 127 (object ms) text r) over (object_begins 127 ms text inner rest (omega arith) is members_read) in
      whole_read (json.value 127 (tokens_from fresh text)) (object ms) (begins.value fresh refl refl)

  pub plain_body : body_of text ≡ Ok (object ms)
  plain_body =
      let ascii : IsAscii text = subst IsAscii (sym is) (IsAscii-cons 123 inner (omega arith) (members_read.ascii (subst IsAscii (sym over) IsAscii-nil))) in
      body_is text (object ms) (IsUtf8-from_ascii text ascii, read_is) ∙ rw members_read.whole

  pub plain_is_body : IsBody (object ms)
  plain_is_body = record { whole = members_read.whole; shallow = depth-read text (object ms) read_is }
