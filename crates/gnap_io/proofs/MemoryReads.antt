-- A source in memory moves the first bytes that it has left.
use Rattle.std.proofs.Common.{◌≡◌, ◌∙◌, ℕ, zero, suc, ◌+◌, ◌-◌, ◌<◌, ◌≤◌, min, List, [], ◌++◌, length, drop, take, replicate, refl, sym, ap, arith, length-drop}
use Rattle.std.specs.Prelude.{Some}
use Rattle.std.proofs.lemmas.List.{take-append-drop, take_all, drop-drop, drop-append-le, drop-replicate}
use Rattle.std.proofs.Math.Seq.{take-add, drop-append-add, drop-length}
use Rattle.std.proofs.Math.ListN.{drop_of_length-le}
use Rattle.outside.specs.Outside.{Reads}
use Rattle.gnap_io.specs.FaultPlans.{Plan}
use Rattle.gnap_io.specs.MemoryForms.{SourceForm}

-- a source at a place of its bytes
abbrev pub source_at : List ℕ → ℕ → ℕ → Plan → SourceForm
source_at bytes at faults reads = record { taken = take at bytes; left = drop at bytes; faults = faults; reads = reads }

-- as many of the bytes that are left as there is room for are moved
pub moved : (bytes : List ℕ) (at n faults : ℕ) (reads : Plan) → source_at bytes (at + n) faults reads
    ≡ record { taken = take at bytes ++ take n (drop at bytes); left = drop n (drop at bytes); faults = faults; reads = reads }
moved bytes at n faults reads =
    ap (λ x. record { taken = x; left = drop (at + n) bytes; faults = faults; reads = reads }) (take-add at n bytes)
    ∙ ap (λ x. record { taken = take at bytes ++ take n (drop at bytes); left = x; faults = faults; reads = reads }) (sym (drop-drop n at bytes))

-- what is copied from the rest of the bytes is what is left
pub from_rest : (bytes shown : List ℕ) (at : ℕ) → shown ≡ bytes → take (length shown - at) (drop at shown) ≡ drop at bytes
from_rest bytes shown at same =
    ap (λ x. take (length x - at) (drop at x)) same ∙ take_all (length bytes - at) (drop at bytes) (omega (arith, length-drop at bytes))

-- so the source has read them
pub reads_moved : (left taken filled : List ℕ) (room n : ℕ) → n ≡ min room (length left) → 0 < room → take n filled ≡ take n left
    → Reads n (take n filled) (record { taken = taken; left = Some left; written = [] })
    (record { taken = taken ++ take n left; left = Some (drop n left); written = [] })
reads_moved left taken filled room n count some same = record {
  takes = record {
    taken = ap (λ x. taken ++ x) (sym same);
    left = sym (take-append-drop n left) ∙ ap (λ x. x ++ drop n left) (sym same);
    written = refl;
  };
  at_end = λ none. ap (λ x. Some x) (drop_of_length-le left (omega (arith, count, none, some)));
}

-- what is left of bytes and then so many times one byte
pub rest_filled : (bytes : List ℕ) (byte at count given : ℕ) → at ≤ length bytes → (0 < given → at ≡ length bytes)
    → drop at bytes ++ replicate (count - given) byte ≡ drop (at + given) (bytes ++ replicate count byte)
rest_filled bytes byte at count zero within full =
    let same : at + 0 ≡ at = omega arith in
    let all : count - 0 ≡ count = omega arith in
    rw same (rw all (sym (drop-append-le at bytes (replicate count byte) within)))
rest_filled bytes byte at count (suc given) within full =
    let end : at ≡ length bytes = full (omega arith) in
    ap (λ n. drop n bytes ++ replicate (count - suc given) byte) end
    ∙ ap (λ xs. xs ++ replicate (count - suc given) byte) (drop-length bytes)
    ∙ sym (drop-replicate (suc given) count byte)
    ∙ sym (drop-append-add bytes (replicate count byte) (suc given))
    ∙ ap (λ n. drop (n + suc given) (bytes ++ replicate count byte)) (sym end)

-- what is copied from there
pub from_start : (bytes shown : List ℕ) (byte at count given : ℕ) → shown ≡ bytes → at ≤ length bytes → (0 < given → at ≡ length bytes)
    → take (length shown - at) (drop at shown) ++ replicate (count - given) byte ≡ drop (at + given) (bytes ++ replicate count byte)
from_start bytes shown byte at count given same within full =
    ap (λ xs. xs ++ replicate (count - given) byte) (from_rest bytes shown at same) ∙ rest_filled bytes byte at count given within full
