use Rattle.std.proofs.Common.{◌≡◌, ◌∙◌, ◌||◌, Bool, true, false, List, ℕ, ◌∷◌, Some, Result, Ok, Err, refl, sym, ap}
use Rattle.std.specs.List.{list_any}
use Rattle.std.specs.Str.{bytes_eq}
use Rattle.serde_json.specs.Data.{Data, Items, item}
use Rattle.serde_json.specs.Find.{as_str}
use Rattle.json_objects.specs.Reading.{◌>>=◌, each}
use Rattle.json_objects.proofs.Items.{items_view-drop}
use Rattle.gnap_objects.specs.declared.fault.ObjectFault.{ObjectFault}
use Rattle.gnap_objects.specs.Reading.{text_of, has_string}
use Rattle.gnap_objects.proofs.members.has_string.Goals as goal

or_again : (a b c : Bool) → ((a || b) || c) ≡ (a || (b || c))
or_again true b c = refl
or_again false b c = refl

-- one text more in front
in_front : (test : List ℕ → Bool) (found : Bool) (text : List ℕ) (read : Result (List (List ℕ)) ObjectFault)
    → ((read >>= λ texts. Ok (list_any test texts)) >>= λ later. Ok ((found || test text) || later))
    ≡ (((read >>= λ texts. Ok (text ∷ texts)) >>= λ texts. Ok (list_any test texts)) >>= λ later. Ok (found || later))
in_front test found text (Ok texts) = ap Ok (or_again found (test text) (list_any test texts))
in_front test found text (Err e) = refl

next : (name wanted : List ℕ) (found : Bool) (d : Data) (ds : Items) (text : List ℕ) → Some text ≡ as_str d
    → (has_string name wanted ds >>= λ later. Ok ((found || bytes_eq text wanted) || later))
    ≡ (has_string name wanted (item d ds) >>= λ later. Ok (found || later))
unfolding text_of
next name wanted found d ds text is = rw (← is) (in_front (λ t. bytes_eq t wanted) found text (each (text_of name) ds))

pub loop-item-preserved : goal.loop-item-preserved
loop-item-preserved c =
    rw c.eq-found.ensures (next c.args.name.now c.args.wanted.now c.loop-item.found _ _ c.in-Some.text.now c.in-Some.ensures)
    ∙ ap (λ ds. has_string c.args.name.now c.args.wanted.now ds >>= λ later. Ok (c.loop-item.found || later))
    (sym (items_view-drop c.deref-item-items.result.now c.loop-item.item-index c.item-item.result c.loop-item-test.true c.item-item.is))
    ∙ c.loop-item.invariant
