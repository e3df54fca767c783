-- What the trees keep.
use Rattle.std.specs.Prelude.{ℕ, ◌≡◌, ◌≢◌, ◌<◌, ◌≤◌, nat_le, Bool, true, false, sum_by, ◌&&◌, not, is_some, if◌then◌else◌}
use Rattle.std.specs.Option.{option_and_then, option_map_or}
use Rattle.std.specs.List.{list_any, All}
use Rattle.std.specs.declared.option.Option.{Option}
use Rattle.std.specs.declared.option.Option.TheVariants.{Some}
use mathlib.Core.Bool.{Bool-set}
use Rattle.std.specs.Coded.{Π_prop}
use Rattle.std.specs.declared.cmp.Ordering.{Ordering}
use Rattle.std.specs.Ordering.{ordering_then, nat_cmp}
use Rattle.std.specs.Cmp.Lexicographic.{slice_cmp}
use Rattle.std.specs.BTreeMap.{BTreeMap, get_by, values, btree_map_len, IsOrdered}
use Rattle.gnap_model.specs.Common.{Text}
use Rattle.signed_calls.specs.Remembering.{is_live_at}
use Rattle.nonce_store.specs.Texts.{head_of, is_short}
use Rattle.nonce_store.specs.Places.{is_at}
use Rattle.nonce_store.specs.declared.run.Run.{Run}
use Rattle.nonce_store.specs.declared.texts.Text.{Text as KeptText}

-- of one key, up to which moment each nonce is remembered
abbrev pub Untils : Type 0
Untils = BTreeMap KeptText ℕ

abbrev pub Keys : Type 0
Keys = BTreeMap KeptText Untils

-- how a text compares to a kept one
abbrev pub text_cmp : Text → KeptText → Ordering
text_cmp text kept = ordering_then (nat_cmp (head_of text) kept.head) (slice_cmp nat_cmp text kept.bytes.items)

-- the value under a text
abbrev pub under : {V : Type 0} → BTreeMap KeptText V → Text → Option V
under tree text = get_by (text_cmp text) tree

-- the order of texts
abbrev pub text_order : KeptText → KeptText → Ordering
text_order a b = ordering_then (nat_cmp a.head b.head) (slice_cmp nat_cmp a.bytes.items b.bytes.items)

-- the keys ascend, and the nonces of each key do
abbrev pub AreOrdered : Keys → Type 0
AreOrdered keys = IsOrdered text_order keys × All (λ untils. IsOrdered text_order untils) (values keys)

-- up to which moment a nonce of a key is remembered
abbrev pub until_in : Keys → Text → Text → Option ℕ
until_in keys key nonce = option_and_then (λ untils. under untils nonce) (under keys key)

-- both are short enough for the trees
abbrev pub are_short : Text → Text → Bool
are_short key nonce = is_short key && is_short nonce

-- what is remembered is short
abbrev pub AreShort : Keys → Type 0
AreShort keys = (key nonce : Text) (until : ℕ) → until_in keys key nonce ≡ Some until → are_short key nonce ≡ true

pub AreShort-prop : (keys : Keys) → IsProp (AreShort keys)
AreShort-prop keys = Π_prop λ key. Π_prop λ nonce. Π_prop λ until. Π_prop λ is. Bool-set _ _

-- how many of a key's nonces are remembered at a moment
abbrev pub many_of : ℕ → Untils → ℕ
many_of moment untils = sum_by (λ until. if nat_le moment until then 1 else 0) (values untils)

-- how many of all
abbrev pub many_in : Keys → ℕ → ℕ
many_in keys moment = sum_by (many_of moment) (values keys)

-- it was remembered, and isn't any more at this moment
abbrev pub is_over_at : ℕ → Option ℕ → Bool
is_over_at moment until = is_some until && not (is_live_at moment until)

-- this nonce of this key is among those of the second
abbrev pub has : Run → Text → Text → Bool
has run key nonce = list_any (is_at run.texts.items key nonce) run.places.items

abbrev pub is_noted : BTreeMap ℕ Run → ℕ → Text → Text → Bool
is_noted seconds second key nonce = option_map_or (λ run. has run key nonce) (get_by (nat_cmp second) seconds) false

-- each nonce stands in the second up to which it is remembered
abbrev pub Covers : BTreeMap ℕ Run → Keys → Type 0
Covers seconds keys = (key nonce : Text) (until : ℕ) → until_in keys key nonce ≡ Some until → is_noted seconds until key nonce ≡ true

pub Covers-prop : (seconds : BTreeMap ℕ Run) (keys : Keys) → IsProp (Covers seconds keys)
Covers-prop seconds keys = Π_prop λ key. Π_prop λ nonce. Π_prop λ until. Π_prop λ is. Bool-set _ _

-- a second that is over was taken out, with its nonces
pub record IsPopped (latest : ℕ) (before : BTreeMap ℕ Run) (run : Run) (after : BTreeMap ℕ Run) : Type 0 where
  pub second : ℕ
  pub over : second < latest
  pub run_is : (key nonce : Text) → is_noted before second key nonce ≡ has run key nonce
  pub others : (other : ℕ) (key nonce : Text) → other ≢ second → is_noted after other key nonce ≡ is_noted before other key nonce
  pub fewer : btree_map_len after < btree_map_len before

-- Of what was remembered before, some nonces that aren't at this moment were taken out, and nothing else.
pub record IsSweptInPart (latest : ℕ) (before after : Keys) : Type 0 where
  pub stay : (key nonce : Text) → is_live_at latest (until_in before key nonce) ≡ true → until_in after key nonce ≡ until_in before key nonce
  pub were : (key nonce : Text) (until : ℕ) → until_in after key nonce ≡ Some until → until_in before key nonce ≡ Some until
  pub counts : (moment : ℕ) → latest ≤ moment → many_in after moment ≡ many_in before moment
