use Rattle.std.proofs.Common.{◌≡◌, ℕ, Some, ap, sym, ◌∙◌}
use Rattle.std.specs.Int.{from_be_bytes, w64}
use Rattle.base64.specs.Engines.{url_safe_no_pad}
use Rattle.base64.specs.GeneralPurpose.{decode_slice_of, decoded_bytes_of}
use Rattle.gnap_model.specs.Common.{Text}
use Rattle.grant_states.specs.Serials.{serial_of, serial_where, first_word}
use Rattle.grant_states.proofs.Decoding.{value_decoded, serial_read}
use Rattle.grant_states.proofs.serials.serial_in_value.Goals as goal

pub returns-in-Ok-clause-drawn : goal.returns-in-Ok-clause-drawn
returns-in-Ok-clause-drawn c = λ s a b small is.
    let d = value_decoded c.args.value.now s a b is in
    let read : c.from_be_bytes.result ≡ from_be_bytes w64 c.decode_slice.new.output = c.from_be_bytes.ensures in
    ap (λ (n : ℕ). Some n) (read ∙ serial_read s a c.decode_slice.new.output (decoded_bytes_of url_safe_no_pad c.letters_of.result.now) _ small
    c.in-Ok.ensures.written (ap (decoded_bytes_of url_safe_no_pad) c.letters_of.ensures ∙ d.1))

pub returns-in-Err-clause-drawn : goal.returns-in-Err-clause-drawn
returns-in-Err-clause-drawn c = λ s a b small is.
    let d = value_decoded c.args.value.now s a b is in
    let r = c.decode_slice.ensures.value ∙ ap (λ (letters : Text). decode_slice_of url_safe_no_pad letters 9) c.letters_of.ensures ∙ d.0 in
    absurd (cc (sym c.in-Err.is ∙ r))

pub returns-in-Ok-clause-read : goal.returns-in-Ok-clause-read
unfolding serial_of
returns-in-Ok-clause-read c =
    let read : c.from_be_bytes.result ≡ from_be_bytes w64 c.decode_slice.new.output = c.from_be_bytes.ensures in
    ap (λ (n : ℕ). Some n) (read ∙ ap (from_be_bytes w64) c.in-Ok.ensures.written)
    ∙ ap (λ r. serial_where r (first_word c.letters_of.result.now)) (sym c.in-Ok.is ∙ c.decode_slice.ensures.value)
    ∙ ap (λ (letters : Text). serial_where (decode_slice_of url_safe_no_pad letters 9) (first_word letters)) c.letters_of.ensures

pub returns-in-Err-clause-read : goal.returns-in-Err-clause-read
unfolding serial_of
returns-in-Err-clause-read c =
    ap (λ r. serial_where r (first_word c.letters_of.result.now)) (sym c.in-Err.is ∙ c.decode_slice.ensures.value)
    ∙ ap (λ (letters : Text). serial_where (decode_slice_of url_safe_no_pad letters 9) (first_word letters)) c.letters_of.ensures
