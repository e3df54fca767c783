-- The classes of bytes over which a reader or a writer runs.
use Rattle.std.specs.Prelude.{ℕ, Bool}
use Rattle.structured_fields.specs.declared.letters.Class.{Class}
use Rattle.structured_fields.specs.declared.letters.Class.TheVariants.{Key, Token, Plain, Unquoted, NotColon, NotQuote, Digit, Space, Ows}
use Rattle.structured_fields.specs.Letters.{is_key_byte, is_token_byte, is_plain, is_unquoted, is_digit, is_space, is_ows}
use Rattle.structured_fields.specs.Reading.{is_not_colon, is_not_quote}

-- a byte is of the class
abbrev pub is_of : Class → ℕ → Bool
is_of Key = is_key_byte
is_of Token = is_token_byte
is_of Plain = is_plain
is_of Unquoted = is_unquoted
is_of NotColon = is_not_colon
is_of NotQuote = is_not_quote
is_of Digit = is_digit
is_of Space = is_space
is_of Ows = is_ows
