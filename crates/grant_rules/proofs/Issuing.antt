-- The tokens for some asks: one more is issued at the end.
use Rattle.std.proofs.Common.{◌≡◌, ◌∙◌, ℕ, suc, ◌+◌, ◌*◌, ◌<◌, Bool, List, [], ◌∷◌, ◌++◌, length, map, take, get_or, refl, sym, ap, arith, append_assoc, Option}
use Rattle.std.proofs.lemmas.List.{length-take-le, take_more, map-append}
use Rattle.gnap_model.specs.Common.{Text}
use Rattle.gnap_model.specs.Actions.{Supply, drawn_value, tokens_for, token_for, token_out}
use Rattle.gnap_model.specs.declared.calls.Reply.{Reply}
use Rattle.gnap_model.specs.declared.calls.Reply.TheVariants.{Granted}
use Rattle.gnap_model.specs.declared.objects.Ask.{Ask}
use Rattle.gnap_model.specs.declared.notes.OpeningNote.{OpeningNote}
use Rattle.gnap_model.specs.declared.notes.TokenNote.{TokenNote}

tokens_for-push : (supply : Supply) (o : OpeningNote) (asks : List Ask) (ask : Ask) (k : ℕ)
    → tokens_for supply o (asks ++ ask ∷ []) k ≡ tokens_for supply o asks k ++ token_for supply o ask (k + 2 * length asks) ∷ []
tokens_for-push supply o [] ask k =
    let at : k ≡ k + 2 * length {A = Ask} [] = omega arith in
    ap (λ n. token_for supply o ask n ∷ []) at
tokens_for-push supply o (a ∷ asks) ask k =
    let at : k + 2 + 2 * length asks ≡ k + 2 * suc (length asks) = omega arith in
    ap (λ (ts : List TokenNote). token_for supply o a k ∷ ts) (tokens_for-push supply o asks ask (k + 2)
    ∙ ap (λ n. tokens_for supply o asks (k + 2) ++ token_for supply o ask n ∷ []) at)

-- The next ask gives one more token, whose value is the one after those of the tokens before it.
pub issued_more : (supply : Supply) (o : OpeningNote) (asks : List Ask) (i k : ℕ) (ask : Ask) (t : TokenNote)
    → i < length asks → ask ≡ get_or asks i ask → k ≡ 2 * i → t ≡ token_for supply o ask k
    → tokens_for supply o (take (i + 1) asks) 0 ≡ tokens_for supply o (take i asks) 0 ++ t ∷ []
issued_more supply o asks i k ask t within is at made =
    let front : length (take i asks) ≡ i = length-take-le i asks (omega arith) in
    let kth : 0 + 2 * length (take i asks) ≡ k = omega arith in
    ap (λ (xs : List Ask). tokens_for supply o xs 0) (take_more asks i ask within ∙ ap (λ (x : Ask). take i asks ++ x ∷ []) (sym is))
    ∙ tokens_for-push supply o (take i asks) ask 0
    ∙ ap (λ n. tokens_for supply o (take i asks) 0 ++ token_for supply o ask n ∷ []) kth
    ∙ ap (λ (x : TokenNote). tokens_for supply o (take i asks) 0 ++ x ∷ []) (sym made)

-- What is made of the tokens has one more too.
pub made_more : {X : Type 0} (f : TokenNote → X) (before after : List TokenNote) (t : TokenNote) (start xs ys : List X) (x : X)
    → after ≡ before ++ t ∷ [] → xs ≡ start ++ map f before → x ≡ f t → ys ≡ xs ++ x ∷ [] → ys ≡ start ++ map f after
made_more {X} f before after t start xs ys x more had is now =
    now ∙ ap (λ (r : List X). r ++ x ∷ []) had ∙ append_assoc start (map f before) (x ∷ [])
    ∙ ap (λ (y : X). start ++ (map f before ++ y ∷ [])) is
    ∙ ap (λ (r : List X). start ++ r) (sym (map-append f before (t ∷ [])) ∙ sym (ap (map f) more))

-- The same asks of the same grant have the same tokens, as they are stored and as they are handed out.
pub tokens_as : {X : Type 0} (f : TokenNote → X) (supply : Supply) (o same : OpeningNote) (asks likewise : List Ask) (xs : List X) → o ≡ same → asks ≡ likewise
    → xs ≡ map f (tokens_for supply o asks 0) → xs ≡ map f (tokens_for supply same likewise 0)
tokens_as {X} f supply o same asks likewise xs one all is =
    is ∙ ap (λ (x : OpeningNote). map f (tokens_for supply x asks 0)) one ∙ ap (λ (x : List Ask). map f (tokens_for supply same x 0)) all

abbrev granted : Supply → OpeningNote → List Ask → Bool → Option Text → Option Text → Reply
granted supply o asks single subject instance = Granted (drawn_value supply (2 * length asks)) (map (token_out supply.now) (tokens_for supply o asks 0)) single
    subject instance

pub granted_as : (supply : Supply) (o same : OpeningNote) (asks likewise : List Ask) (single : Bool) (subject told instance also : Option Text) (reply : Reply)
    → o ≡ same → asks ≡ likewise
    → subject ≡ told → instance ≡ also
    → reply ≡ Granted (drawn_value supply (2 * length asks)) (map (token_out supply.now) (tokens_for supply o asks 0)) single subject instance
    → reply ≡ Granted (drawn_value supply (2 * length likewise)) (map (token_out supply.now) (tokens_for supply same likewise 0)) single told also
granted_as supply o same asks likewise single subject told instance also reply one all tells names is =
    is ∙ ap (λ (x : OpeningNote). granted supply x asks single subject instance) one ∙ ap (λ (x : List Ask). granted supply same x single subject instance) all
    ∙ ap (λ (x : Option Text). granted supply same likewise single x instance) tells
    ∙ ap (λ (x : Option Text). granted supply same likewise single told x) names
