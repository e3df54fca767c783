-- What the fields of a head say of the body that follows it (RFC 9112, section 6).
use Rattle.std.specs.Prelude.{ℕ, nat_lt, Bool, not, ◌&&◌, ◌||◌, List, [], ◌∷◌, length, if◌then◌else◌, codes}
use Rattle.std.specs.List.{list_all, list_any}
use Rattle.std.specs.Char.{is_ascii_digit}
use Rattle.std.specs.Str.Parse.{digits_value}
use Rattle.http1.specs.Fields.{Header, is_named, values_named, elements_named, has_option}
use Rattle.http_edge.specs.Limits.{field_limit, body_limit}
use Rattle.http_edge.specs.declared.fault.EdgeFault.TheVariants.{BadHead, TooLarge, Coded}
use Rattle.http_edge.specs.declared.framing.Framing.{Framing}
use Rattle.http_edge.specs.declared.framing.Framing.TheVariants.{Refused, Body}

-- the field names a coding of the body
abbrev pub is_coded : Header → Bool
is_coded h = is_named (codes "transfer-encoding") h || is_named (codes "content-encoding") h

-- the values of the `Content-Length` fields
abbrev pub lengths_of : List Header → List (List ℕ)
lengths_of headers = values_named (codes "content-length") headers

-- one digit or more, and nothing else
abbrev pub is_digits : List ℕ → Bool
is_digits v = nat_lt 0 (length v) && list_all is_ascii_digit v

-- what the value of one `Content-Length` says of a request
abbrev pub length_framing : List ℕ → Framing
length_framing v =
    if not (is_digits v) then Refused BadHead
    else (if nat_lt body_limit (digits_value 10 v) then Refused TooLarge else Body (digits_value 10 v))

-- the same of all of them: none is an empty body, and several are refused
abbrev pub lengths_framing : List (List ℕ) → Framing
lengths_framing [] = Body 0
lengths_framing (v ∷ []) = length_framing v
lengths_framing (v ∷ w ∷ more) = Refused BadHead

-- what the fields of a request say of its body, the first fault first
abbrev pub framing_of : List Header → Framing
framing_of headers =
    if nat_lt field_limit (length headers) then Refused TooLarge
    else (if list_any is_coded headers then Refused Coded else lengths_framing (lengths_of headers))

-- `close` stands among the elements of the `Connection` fields, in any case (RFC 9112, section 9.6)
abbrev pub asks_to_close : List Header → Bool
asks_to_close headers = has_option (codes "close") (elements_named (codes "connection") headers)
