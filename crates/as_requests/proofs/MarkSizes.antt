-- A mark has a nonce of 1 to 64 bytes, and a moment that isn't too late.
use Rattle.std.proofs.Common.{◌≡◌, ℕ, Bool, true, false, List, Option, Some, None, Result, Ok, Err, refl, subst}
use Rattle.std.specs.Prelude.{nat_le, if◌then◌else◌, ℤ, pos, negsuc, codes}
use Rattle.bytes_and_lists.specs.declared.message.Message.{Message}
use Rattle.structured_fields.specs.declared.bare.Bare.{Bare}
use Rattle.structured_fields.specs.declared.item.InnerList.{InnerList}
use Rattle.structured_fields.specs.Named.{value_at}
use Rattle.structured_fields.specs.Reading.{◌>>=◌}
use Rattle.structured_fields.specs.Strings.{string_in}
use Rattle.message_signature.specs.declared.fault.SigFault.{SigFault}
use Rattle.message_signature.specs.declared.marks.SignatureMark.{SignatureMark}
use Rattle.message_signature.specs.Verified.{integer_in, lone_list}
use Rattle.message_signature.specs.Marks.{has_nonce_length, latest_created, nonce_in, moment_in, created_in, mark_in, mark_in_found, mark_of}

-- its nonce isn't too long, and its moment isn't too late
abbrev pub HasSizes : SignatureMark → Type 0
HasSizes mark = (has_nonce_length mark.nonce ≡ true) × (nat_le mark.created latest_created ≡ true)

nonce_fits : (param : Option Bare) (nonce : List ℕ) → nonce_in param ≡ Some nonce → has_nonce_length nonce ≡ true
nonce_fits None nonce e = absurd cc
nonce_fits (Some value) nonce e = of (string_in value) e
  where
    chosen : (text : List ℕ) (fits : Bool) → has_nonce_length text ≡ fits → (if fits then Some text else None) ≡ Some nonce → has_nonce_length nonce ≡ true
    chosen text true is e = cc
    chosen text false is e = absurd cc

    of : (string : Option (List ℕ)) → (string >>= λ text. if has_nonce_length text then Some text else None) ≡ Some nonce → has_nonce_length nonce ≡ true
    of None e = absurd cc
    of (Some text) e = chosen text (has_nonce_length text) refl e

moment_fits : (integer : ℤ) (created : ℕ) → moment_in integer ≡ Some created → nat_le created latest_created ≡ true
moment_fits (negsuc before) created e = absurd cc
moment_fits (pos moment) created e = of (nat_le moment latest_created) refl e
  where
    of : (fits : Bool) → nat_le moment latest_created ≡ fits → (if fits then Some moment else None) ≡ Some created → nat_le created latest_created ≡ true
    of true is e = cc
    of false is e = absurd cc

created_fits : (param : Option Bare) (created : ℕ) → created_in param ≡ Some created → nat_le created latest_created ≡ true
created_fits None created e = absurd cc
created_fits (Some value) created e = of (integer_in value) e
  where
    of : (integer : Option ℤ) → (integer >>= moment_in) ≡ Some created → nat_le created latest_created ≡ true
    of None e = absurd cc
    of (Some i) e = moment_fits i created e

list_fits : (list : InnerList) (mark : SignatureMark) → mark_in list ≡ Some mark → HasSizes mark
list_fits list mark e = of (nonce_in (value_at list.params (codes "nonce"))) refl (created_in (value_at list.params (codes "created"))) refl e
  where
    of : (nonce : Option (List ℕ)) → nonce_in (value_at list.params (codes "nonce")) ≡ nonce
        → (created : Option ℕ) → created_in (value_at list.params (codes "created")) ≡ created
        → (nonce >>= λ n. created >>= λ c. Some (record { nonce = n; created = c })) ≡ Some mark → HasSizes mark
    of None none created is e = absurd cc
    of (Some n) has None none e = absurd cc
    of (Some n) has (Some c) is e =
        let found : SignatureMark = record { nonce = n; created = c } in
        let same : found ≡ mark = cc in
        subst HasSizes same (nonce_fits (value_at list.params (codes "nonce")) n has, created_fits (value_at list.params (codes "created")) c is)

found_fits : (found : Result InnerList SigFault) (mark : SignatureMark) → mark_in_found found ≡ Some mark → HasSizes mark
found_fits (Ok list) mark e = list_fits list mark e
found_fits (Err fault) mark e = absurd cc

pub mark_fits : (m : Message) (tag : List ℕ) (mark : SignatureMark) → mark_of m tag ≡ Some mark → HasSizes mark
unfolding mark_of
mark_fits m tag mark e = found_fits (lone_list m tag) mark e
