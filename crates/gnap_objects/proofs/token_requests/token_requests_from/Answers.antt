use Rattle.std.proofs.Common.{◌≡◌, ◌∙◌, ◌||◌, Bool, true, List, [], ◌∷◌, ◌++◌, Ok, refl, sym, ap, subst}
use Rattle.std.specs.List.{AllByRecursion, list_any}
use Rattle.serde_json.specs.Data.{Data, Items, item}
use Rattle.json_objects.specs.Bodies.{AreBodies}
use Rattle.json_objects.proofs.Items.{items_view-drop}
use Rattle.gnap_model.specs.declared.objects.Ask.{Ask}
use Rattle.access_rights.proofs.OneMore.{all_more}
use Rattle.gnap_objects.specs.Fits.{AskFits}
use Rattle.gnap_objects.specs.declared.token_requests.TokenRequest.{TokenRequest}
use Rattle.gnap_objects.specs.TokenRequests.{has_label, token_request_of, token_requests_from}
use Rattle.gnap_objects.proofs.OneMore.{any_more}
use Rattle.gnap_objects.proofs.token_requests.token_requests_from.Goals as goal

-- one request more was read
next : (asks more : List Ask) (repeats : Bool) (d : Data) (ds : Items) (t : TokenRequest) → token_request_of true asks d ≡ Ok t → more ≡ asks ++ t.ask ∷ []
    → token_requests_from more (repeats || t.repeats_flag) ds ≡ token_requests_from asks repeats (item d ds)
next asks more repeats d ds t read is = rw (is, read) refl

pub loop-item-preserved : goal.loop-item-preserved
loop-item-preserved c =
    let asks = c.loop-item.asks in
    let t = c.in_ok-request.request in
    let added = c.in_ok-push.ensures.ok in
    let first = items_view-drop c.deref-item-items.result.now c.loop-item.item-index c.item-item.result c.loop-item-test.true c.item-item.is in
    record {
      read = next asks _ c.loop-item.repeats_flag _ _ t c.in_ok-request.ensures.value added
          ∙ ap (token_requests_from asks c.loop-item.repeats_flag) (sym first)
          ∙ c.loop-item.invariant.read;
      labels = λ label. c.in_ok-request.ensures.labels label
          ∙ ap (λ b. has_label label t.ask || b) (c.loop-item.invariant.labels label)
          ∙ any_more (has_label label) asks t.ask
          ∙ ap (list_any (has_label label)) (sym added);
      bodies = (subst AreBodies first c.loop-item.invariant.bodies).1;
      fits = subst (AllByRecursion AskFits) (sym added) (all_more AskFits asks t.ask c.loop-item.invariant.fits c.in_ok-request.ensures.fits);
    }
