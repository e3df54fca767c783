use Rattle.std.proofs.Common.{◌≡◌, ◌∙◌, ℕ, List, ap, sym, subst}
use Rattle.std.specs.Prelude.{Some, Ok, Err, option_map}
use Rattle.gnap_model.specs.Keys.{key_of}
use Rattle.std.specs.Option.{option_copied}
use Rattle.message_signature.specs.Signed.{params_of, signed_under}
use Rattle.signed_files.specs.SignedText.{message_text, SignsMessage, no_key, signed_before, signs}
use Rattle.signed_files.proofs.Answers.{unsigned}
use Rattle.signed_files.proofs.SetupIds.{key_id_text}
use Rattle.signed_files.proofs.signing.sign_message.Goals as goal

pub returns-in_default-clause-answer : goal.returns-in_default-clause-answer
returns-in_default-clause-answer c =
    no_key (ap (key_of c.args.setup.now) (sym c.as_slice.ensures.value) ∙ sym c.key.ensures ∙ ap (option_map (λ k. k.now)) c.in_default.is)

pub sign_with-requires-clause-id : goal.sign_with-requires-clause-id
sign_with-requires-clause-id c =
    key_id_text c.args.setup.now c.args.id.now c.in-Some.key.now c.requires.setup
    (ap (key_of c.args.setup.now) (sym c.as_slice.ensures.value) ∙ sym c.in-Some.ensures)

pub returns-in-Ok-clause-answer : goal.returns-in-Ok-clause-answer
returns-in-Ok-clause-answer c =
    let key = c.in-Some.key.now in
    let m = c.args.message.now in
    let n = c.sign_with.new.message in
    let nonce = option_copied c.args.nonce in
    let T : List ℕ → Type 0 = λ tag. signed_under m c.args.setup.now.base (params_of c.args.id.now c.args.created nonce tag) key.secret ≡ Some n in
    let A : List ℕ → Type 0 = λ text. SignsMessage c.args.setup.now c.args.id.now c.args.created nonce m (Ok text) in
    subst A (sym c.in_ok-message_text-in-Ok.ensures)
    (signs key n (ap (key_of c.args.setup.now) (sym c.as_slice.ensures.value) ∙ sym c.in-Some.ensures) (unsigned _ _ c.in-Ok.ensures.signed_before)
    (subst T c.in_ok-tag.ensures c.in-Ok.ensures.ok))

pub returns-in-Err-HasSignature-clause-answer : goal.returns-in-Err-HasSignature-clause-answer
returns-in-Err-HasSignature-clause-answer c =
    signed_before c.in-Some.key.now (ap (key_of c.args.setup.now) (sym c.as_slice.ensures.value) ∙ sym c.in-Some.ensures)
    (c.in-Err-HasSignature.ensures.signed_before.0 (ap Err c.in-Err-HasSignature.field-0-is))
