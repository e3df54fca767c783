-- The gathering of a line, step by step.
use Rattle.std.proofs.Common.{◌≡◌, ◌∙◌, ℕ, ◌+◌, ◌-◌, ◌≤◌, List, [], ◌∷◌, ◌++◌, length, take, refl, sym, ap, subst, arith, append_assoc, ◌⊎◌, inl, inr, length-append}
use Rattle.std.specs.Prelude.{true, false, ◌==◌, ◌||◌}
use Rattle.std.specs.List.{list_any}
use Rattle.std.proofs.lemmas.List.{append-nil, take_all, take-append-le, length-take}
use Rattle.std.proofs.lemmas.List.Folds.{list_any-append}
use Rattle.std.proofs.Math.Seq.{take-append-add}
use Rattle.outside.specs.Outside.{Told, Takes, IsAtEnd}
use Rattle.outside.proofs.Devices.{takes_none, takes_then}
use Rattle.command_inputs.specs.declared.line_end.LineEnd.TheVariants.{Whole, Last, Long, Full, Failed, Memory}
use Rattle.command_inputs.specs.Lines.{IsLine}
use Rattle.command_inputs.specs.Reading.{MovesPart, IsKept, Came, Gathers, ReadsLine}

line-append : (front back : List ℕ) → IsLine front → IsLine back → IsLine (front ++ back)
line-append front back first second =
    list_any-append (λ byte. byte == 10) front back
    ∙ ap (λ b. b || list_any (λ byte. byte == 10) back) first ∙ second

-- what is kept of a line that goes on
keeps-more : (n : ℕ) (full part : List ℕ) → take n full ++ take (n - length (take n full)) part ≡ take n (full ++ part)
keeps-more n full part =
    let short : (length full ≤ n) ⊎ (n ≤ length full) = grind arith in
    elim short [
      | inl within ↦
          let all : take n full ≡ full = take_all n full within in
          let rest : n ≡ length full + (n - length full) = omega arith in
          ap (λ x. x ++ take (n - length x) part) all ∙ sym (take-append-add full part (n - length full)) ∙ ap (λ m. take m (full ++ part)) (sym rest)
      | inr past ↦
          let size : length (take n full) ≡ n = length-take n full ∙ omega arith in
          let none : n - length (take n full) ≡ 0 = omega arith in
          ap (λ m. take n full ++ take m part) none ∙ append-nil (take n full) ∙ sym (take-append-le n full part past)
    ]

pub kept-more : (limit : ℕ) (line grown full part : List ℕ) → IsKept limit line full → IsLine part
    → grown ≡ line ++ take (limit + 1 - length line) part → IsKept limit grown (full ++ part)
kept-more limit line grown full part is ends grows = record {
  is_line = line-append full part is.is_line ends;
  kept = grows ∙ ap (λ x. x ++ take (limit + 1 - length x) part) is.kept ∙ keeps-more (limit + 1) full part;
}

pub came-none : (taken : ℕ) (told : Told) → Came [] taken taken told told
came-none taken told = record { takes = takes_none told; counted = omega arith }

pub came-more : (bytes more : List ℕ) (a b c : ℕ) (x y z : Told) → Came bytes a b x y → Takes more y z → c ≡ b + length more → Came (bytes ++ more) a c x z
came-more bytes more a b c x y z came takes counted = record {
  takes = takes_then bytes more x y z came.takes takes;
  counted = omega (arith, counted, came.counted, length-append bytes more);
}

pub came-same : (bytes : List ℕ) (a b c : ℕ) (x y z : Told) → Came bytes a b x y → c ≡ b → z ≡ y → Came bytes a c x z
came-same bytes a b c x y z came count told =
    let P : ℕ → Type 0 = λ n. Came bytes a n x z in
    let Q : Told → Type 0 = λ t. Came bytes a b x t in
    subst P (sym count) (subst Q (sym told) came)

pub gathers-start : (limit : ℕ) (line held : List ℕ) (taken : ℕ) (told : Told) → line ≡ [] → Gathers limit line held held taken taken told told
gathers-start limit line held taken told empty = record {
  bytes = [];
  came = came-none taken told;
  full = [];
  is_kept = record { is_line = refl; kept = empty ∙ sym (take_all (limit + 1) [] (omega arith)) };
  parts = append-nil held;
}

module _ (limit : ℕ) (line held held_now : List ℕ) (taken taken_now : ℕ) (x y : Told) (gathers : Gathers limit line held held_now taken taken_now x y) where
  -- an LF was found
  pub reads-whole : (held_next grown : List ℕ) (taken_next : ℕ) → taken_next ≡ taken_now
      → MovesPart (limit + 1 - length line) true held_now held_next line grown → ReadsLine limit grown held held_next taken taken_next x y Whole
  reads-whole held_next grown taken_next count moves =
      let kept = kept-more limit line grown gathers.full moves.part gathers.is_kept moves.is_line moves.grows in
      record {
        bytes = gathers.bytes;
        came = came-same gathers.bytes taken taken_now taken_next x y y gathers.came count refl;
        full = gathers.full ++ moves.part;
        is_line = kept.is_line;
        kept = λ _. kept.kept;
        ends = gathers.parts ∙ ap (λ h. gathers.full ++ h) moves.is_next ∙ sym (append_assoc gathers.full moves.part (10 ∷ held_next));
      }

  -- none was found, and all that was held was moved
  pub gathers-part : (held_next grown : List ℕ) (taken_next : ℕ) → taken_next ≡ taken_now
      → MovesPart (limit + 1 - length line) false held_now held_next line grown → Gathers limit grown held held_next taken taken_next x y
  gathers-part held_next grown taken_next count moves = record {
    bytes = gathers.bytes;
    came = came-same gathers.bytes taken taken_now taken_next x y y gathers.came count refl;
    full = gathers.full ++ moves.part;
    is_kept = kept-more limit line grown gathers.full moves.part gathers.is_kept moves.is_line moves.grows;
    parts = gathers.parts ∙ ap (λ h. gathers.full ++ h) moves.is_next.0 ∙ sym (append-nil (gathers.full ++ moves.part))
        ∙ ap (λ h. gathers.full ++ moves.part ++ h) (sym moves.is_next.1);
  }

  -- memory ran out
  pub reads-starved : (held_next grown : List ℕ) (taken_next : ℕ) (z : Told) → taken_next ≡ taken_now → z ≡ y
      → ReadsLine limit grown held held_next taken taken_next x z Memory
  reads-starved held_next grown taken_next z count told = record {
    bytes = gathers.bytes;
    came = came-same gathers.bytes taken taken_now taken_next x y z gathers.came count told;
    full = [];
    is_line = refl;
    kept = λ no. absurd (no refl);
    ends = tt;
  }

  -- nothing was held, and more came
  pub gathers-more : (held_next : List ℕ) (taken_next : ℕ) (z : Told) → held_now ≡ [] → Takes held_next y z → taken_next ≡ taken_now + length held_next
      → Gathers limit line held held_next taken taken_next x z
  gathers-more held_next taken_next z none takes counted = record {
    bytes = gathers.bytes ++ held_next;
    came = came-more gathers.bytes held_next taken taken_now taken_next x y z gathers.came takes counted;
    full = gathers.full;
    is_kept = gathers.is_kept;
    parts = sym (append_assoc held gathers.bytes held_next)
        ∙ ap (λ h. h ++ held_next) (gathers.parts ∙ ap (λ h. gathers.full ++ h) none ∙ append-nil gathers.full);
  }

  -- nothing was held, and the input is at its end
  pub reads-last : (held_next : List ℕ) (taken_next : ℕ) (z : Told) → held_now ≡ [] → Takes [] y z → IsAtEnd z → held_next ≡ [] → taken_next ≡ taken_now
      → ReadsLine limit line held held_next taken taken_next x z Last
  reads-last held_next taken_next z none takes end held_is count = record {
    bytes = gathers.bytes ++ [];
    came = came-more gathers.bytes [] taken taken_now taken_next x y z gathers.came takes (count ∙ omega arith);
    full = gathers.full;
    is_line = gathers.is_kept.is_line;
    kept = λ _. gathers.is_kept.kept;
    ends = (ap (λ h. held ++ h) (append-nil gathers.bytes) ∙ gathers.parts ∙ ap (λ h. gathers.full ++ h) none ∙ append-nil gathers.full, held_is, end);
  }

  -- the line has no end yet
  pub reads-long : ReadsLine limit line held held_now taken taken_now x y Long
  reads-long = record {
    bytes = gathers.bytes;
    came = gathers.came;
    full = gathers.full;
    is_line = gathers.is_kept.is_line;
    kept = λ _. gathers.is_kept.kept;
    ends = gathers.parts;
  }

  -- it was read no further: all that was read is of the line
  module _ (held_next : List ℕ) (taken_next : ℕ) (z : Told) (none : held_now ≡ []) (held_is : held_next ≡ []) (count : taken_next ≡ taken_now) (told : z ≡ y)
    where
      cut_off : (held ++ gathers.bytes ≡ gathers.full) × (held_next ≡ [])
      cut_off = (gathers.parts ∙ ap (λ h. gathers.full ++ h) none ∙ append-nil gathers.full, held_is)

      pub reads-full : ReadsLine limit line held held_next taken taken_next x z Full
      reads-full = record {
        bytes = gathers.bytes;
        came = came-same gathers.bytes taken taken_now taken_next x y z gathers.came count told;
        full = gathers.full;
        is_line = gathers.is_kept.is_line;
        kept = λ _. gathers.is_kept.kept;
        ends = cut_off;
      }

      pub reads-failed : ReadsLine limit line held held_next taken taken_next x z Failed
      reads-failed = record {
        bytes = gathers.bytes;
        came = came-same gathers.bytes taken taken_now taken_next x y z gathers.came count told;
        full = gathers.full;
        is_line = gathers.is_kept.is_line;
        kept = λ _. gathers.is_kept.kept;
        ends = cut_off;
      }
