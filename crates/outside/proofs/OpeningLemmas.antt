-- Openings one after another, and one inside another.
use Rattle.std.proofs.Common.{◌≡◌, ◌∙◌, ℕ, ◌+◌, List, [], ◌∷◌, ◌++◌, length, refl, ap, sym, subst, arith, append_assoc, length-append}
use Rattle.std.specs.Prelude.{Bool, true, false, ◌||◌, Option, Some, None, IsSome}
use Rattle.std.proofs.lemmas.List.{append-nil}
use Rattle.outside.specs.declared.world.Opening.{Opening}
use Rattle.outside.specs.declared.world.Opening.TheVariants.{File, Gears, Link}
use Rattle.outside.specs.Outside.{Served}
use Rattle.outside.specs.Gears.{GearState}
use Rattle.outside.specs.Links.{LinkState}
use Rattle.outside.specs.Worlds.{WorldState, with_opened, with_returned, with_opening, with_gears, with_link}
use Rattle.outside.specs.Openings.{files_in, gears_in, or_else, has_link, GearsBack, LinkBack, Gives, GivesBack}

files-append : (a b : List Opening) → files_in (a ++ b) ≡ files_in a + files_in b
files-append [] b = omega arith
files-append (File name ∷ a) b = let rest = files-append a b in omega (arith, rest)
files-append (Gears address n quota ∷ a) b = files-append a b
files-append (Link address ∷ a) b = files-append a b

or-else-twice : (x y z : Option ℕ) → or_else (or_else x y) z ≡ or_else x (or_else y z)
or-else-twice None y z = refl
or-else-twice (Some n) y z = refl

or-else-none : (x : Option ℕ) → or_else x None ≡ x
or-else-none None = refl
or-else-none (Some n) = refl

gears-append : (a b : List Opening) → gears_in (a ++ b) ≡ or_else (gears_in b) (gears_in a)
gears-append [] b = sym (or-else-none (gears_in b))
gears-append (File name ∷ a) b = gears-append a b
gears-append (Gears address n quota ∷ a) b = ap (λ x. or_else x (Some n)) (gears-append a b) ∙ or-else-twice (gears_in b) (gears_in a) (Some n)
gears-append (Link address ∷ a) b = gears-append a b

link-append : (a b : List Opening) → has_link (a ++ b) ≡ (has_link a || has_link b)
link-append [] b = refl
link-append (File name ∷ a) b = link-append a b
link-append (Gears address n quota ∷ a) b = link-append a b
link-append (Link address ∷ a) b = refl

gears-then : (x y : Option ℕ) (a b c : List GearState) → GearsBack x a b → GearsBack y b c → GearsBack (or_else y x) a c
gears-then None None a b c p q = q ∙ p
gears-then (Some n) None a b c p q = ap length q ∙ p
gears-then None (Some m) a b c p q = q
gears-then (Some n) (Some m) a b c p q = q

link-then : (x y : Bool) (a b c : Option LinkState) → LinkBack x a b → LinkBack y b c → LinkBack (x || y) a c
link-then false false a b c p q = q ∙ p
link-then false true a b c p q = q
link-then true false a b c p q = subst IsSome (sym q) p
link-then true true a b c p q = q

-- nothing was opened
pub gives-none : (before after : WorldState) → after ≡ record before { faults = after.faults } → Gives [] before after
gives-none before after same = record {
  opened = ap (λ (s : WorldState). s.opened) same ∙ sym (append-nil before.opened);
  files = [];
  files_are = ap (λ (s : WorldState). s.files) same ∙ sym (append-nil before.files);
  many = refl;
  lent = ap (λ (s : WorldState). s.lent) same;
  gears = ap (λ (s : WorldState). s.gears) same;
  link = ap (λ (s : WorldState). s.link) same;
}

-- a file
pub gives-file : (name : List ℕ) (file : Served) (before open_now after : WorldState) → open_now ≡ with_opened (File name) before
    → after ≡ with_returned file open_now
    → Gives (File name ∷ []) before after
gives-file name file before open_now after open_is back = record {
  opened = ap (λ (s : WorldState). s.opened) back ∙ ap (λ (s : WorldState). s.opened) open_is;
  files = file ∷ [];
  files_are = ap (λ (s : WorldState). s.files) back ∙ ap (λ (s : WorldState). s.files ++ file ∷ []) open_is;
  many = refl;
  lent = (let a = ap (λ (s : WorldState). s.lent) back in let b = ap (λ (s : WorldState). s.lent) open_is in omega (arith, a, b));
  gears = ap (λ (s : WorldState). s.gears) back ∙ ap (λ (s : WorldState). s.gears) open_is;
  link = ap (λ (s : WorldState). s.link) back ∙ ap (λ (s : WorldState). s.link) open_is;
}

-- gears
pub gives-gears : (address : List ℕ) (n quota : ℕ) (gears : List GearState) (before open_now after : WorldState)
    → open_now ≡ with_opening (Gears address n quota) before
    → after ≡ with_gears gears open_now → length gears ≡ n → Gives (Gears address n quota ∷ []) before after
gives-gears address n quota gears before open_now after open_is back many = record {
  opened = ap (λ (s : WorldState). s.opened) back ∙ ap (λ (s : WorldState). s.opened) open_is;
  files = [];
  files_are = ap (λ (s : WorldState). s.files) back ∙ ap (λ (s : WorldState). s.files) open_is ∙ sym (append-nil before.files);
  many = refl;
  lent = ap (λ (s : WorldState). s.lent) back ∙ ap (λ (s : WorldState). s.lent) open_is;
  gears = ap (λ (s : WorldState). length s.gears) back ∙ many;
  link = ap (λ (s : WorldState). s.link) back ∙ ap (λ (s : WorldState). s.link) open_is;
}

-- one after another
pub gives-then : (a b : List Opening) (before middle after : WorldState) → Gives a before middle → Gives b middle after → Gives (a ++ b) before after
gives-then a b before middle after first second = record {
  opened = second.opened ∙ ap (λ l. l ++ b) first.opened ∙ append_assoc before.opened a b;
  files = first.files ++ second.files;
  files_are = second.files_are ∙ ap (λ l. l ++ second.files) first.files_are ∙ append_assoc before.files first.files second.files;
  many = (
      let size = length-append first.files second.files in
      let p = first.many in
      let q = second.many in
      let sum = files-append a b in
      omega (arith, size, p, q, sum));
  lent = second.lent ∙ first.lent;
  gears = subst (λ x. GearsBack x before.gears after.gears) (sym (gears-append a b))
      (gears-then (gears_in a) (gears_in b) before.gears middle.gears after.gears first.gears second.gears);
  link = subst (λ x. LinkBack x before.link after.link) (sym (link-append a b))
      (link-then (has_link a) (has_link b) before.link middle.link after.link first.link second.link);
}

-- while a link is open
pub gives-around : (address : List ℕ) (link : LinkState) (done : List Opening) (before open_now middle after : WorldState)
    → open_now ≡ with_opening (Link address) before → Gives done open_now middle → after ≡ with_link link middle → Gives (Link address ∷ done) before after
gives-around address link done before open_now middle after open_is inside back = record {
  opened = ap (λ (s : WorldState). s.opened) back ∙ inside.opened ∙ ap (λ (s : WorldState). s.opened ++ done) open_is
      ∙ append_assoc before.opened (Link address ∷ []) done;
  files = inside.files;
  files_are = ap (λ (s : WorldState). s.files) back ∙ inside.files_are ∙ ap (λ (s : WorldState). s.files ++ inside.files) open_is;
  many = inside.many;
  lent = ap (λ (s : WorldState). s.lent) back ∙ inside.lent ∙ ap (λ (s : WorldState). s.lent) open_is;
  gears = subst (λ g. GearsBack (gears_in done) before.gears g) (sym (ap (λ (s : WorldState). s.gears) back))
      (subst (λ g. GearsBack (gears_in done) g middle.gears) (ap (λ (s : WorldState). s.gears) open_is) inside.gears);
  link = subst IsSome (sym (ap (λ (s : WorldState). s.link) back)) refl;
}

-- ---- as a clause says it

-- the first were opened, and then one could not be
pub back-stopped : (done rest : List Opening) (before after : WorldState) → Gives done before after → GivesBack (done ++ rest) before after
back-stopped done rest before after gives = record { done = done; rest = rest; whole = refl; gives = gives }

pub back-all : (openings : List Opening) (before after : WorldState) → Gives openings before after → GivesBack openings before after
back-all openings before after gives = record { done = openings; rest = []; whole = sym (append-nil openings); gives = gives }

-- what was opened before, and the first of what follows
pub back-then : (a b : List Opening) (before middle after : WorldState) → Gives a before middle → GivesBack b middle after → GivesBack (a ++ b) before after
back-then a b before middle after first second = record {
  done = a ++ second.done;
  rest = second.rest;
  whole = ap (λ l. a ++ l) second.whole ∙ sym (append_assoc a second.done second.rest);
  gives = gives-then a second.done before middle after first second.gives;
}

pub back-around : (address : List ℕ) (link : LinkState) (openings : List Opening) (before open_now middle after : WorldState)
    → open_now ≡ with_opening (Link address) before → GivesBack openings open_now middle → after ≡ with_link link middle
    → GivesBack (Link address ∷ openings) before after
back-around address link openings before open_now middle after open_is inside back = record {
  done = Link address ∷ inside.done;
  rest = inside.rest;
  whole = ap (λ l. Link address ∷ l) inside.whole;
  gives = gives-around address link inside.done before open_now middle after open_is inside.gives back;
}

pub back-more : (a b : List Opening) (before after : WorldState) → GivesBack a before after → GivesBack (a ++ b) before after
back-more a b before after back = record {
  done = back.done;
  rest = back.rest ++ b;
  whole = ap (λ l. l ++ b) back.whole ∙ append_assoc back.done back.rest b;
  gives = back.gives;
}
