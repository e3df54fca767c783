-- The serial with which a drawn value begins.
use Rattle.std.specs.Prelude.{ℕ, ◌++◌, take, drop, length, replicate, Result, Ok, Err}
use Rattle.std.specs.Int.{from_be_bytes, w64}
use Rattle.std.specs.Option.{unwrap_or}
use Rattle.std.specs.declared.option.Option.{Option}
use Rattle.std.specs.declared.option.Option.TheVariants.{None, Some}
use Rattle.base64.specs.declared.DecodeSliceError.{DecodeSliceError}
use Rattle.base64.specs.Engines.{url_safe_no_pad}
use Rattle.base64.specs.GeneralPurpose.{decode_slice_of, decoded_bytes_of}
use Rattle.gnap_model.specs.Common.{Text}

-- the letters at the front of a value that have its serial, and one byte more
abbrev pub serial_letters : ℕ
serial_letters = 12

-- so many bytes they decode into
abbrev pub serial_room : ℕ
serial_room = 9

-- the number of the first 8 bytes into which letters decode, zeros after those that there are
abbrev pub first_word : Text → ℕ
first_word letters =
    from_be_bytes w64 (decoded_bytes_of url_safe_no_pad letters ++ drop (length (decoded_bytes_of url_safe_no_pad letters)) (replicate serial_room 0))

abbrev pub serial_where : Result ℕ DecodeSliceError → ℕ → Option ℕ
serial_where (Ok count) word = Some word
serial_where (Err e) word = None

-- the serial of a text whose front decodes
unfoldable pub serial_of : Text → Option ℕ
serial_of text = serial_where (decode_slice_of url_safe_no_pad (take serial_letters text) serial_room) (first_word (take serial_letters text))

-- a handle is listed under its serial
abbrev pub handle_key : Text → ℕ
handle_key handle = unwrap_or (serial_of handle) 0
