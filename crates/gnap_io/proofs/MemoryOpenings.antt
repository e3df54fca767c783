-- What a world in memory notes of an opening.
use Rattle.std.proofs.Common.{◌≡◌, ◌∙◌, ◌+◌, List, [], ◌∷◌, ◌++◌, ap}
use Rattle.outside.specs.declared.world.Opening.{Opening}
use Rattle.gnap_io.specs.MemoryWorlds.{WorldForm}
use Rattle.outside.specs.Worlds.{with_opened, with_opening}

-- of gears or a link
pub noted-opening : (opening : Opening) (inside before : WorldForm) (items : List Opening) → inside ≡ before → items ≡ inside.state.opened ++ opening ∷ []
    → record (inside.state) { opened = items } ≡ with_opening opening before.state
noted-opening opening inside before items is all =
    ap (λ (xs : List Opening). record (inside.state) { opened = xs }) all ∙ ap (λ (w : WorldForm). with_opening opening w.state) is

-- of a file
pub noted-file : (opening : Opening) (inside before : WorldForm) (items : List Opening) → inside ≡ before → items ≡ inside.state.opened ++ opening ∷ []
    → record (inside.state) { lent = inside.state.lent + 1; opened = items } ≡ with_opened opening before.state
noted-file opening inside before items is all =
    ap (λ (xs : List Opening). record (inside.state) { lent = inside.state.lent + 1; opened = xs }) all
    ∙ ap (λ (w : WorldForm). with_opened opening w.state) is
