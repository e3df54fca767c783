-- The places that replies name: those below the server's base, and those below the consent front's.
use Rattle.std.specs.Prelude.{ℕ, List, ◌++◌, codes}

-- where grants are asked for (RFC 9635, section 2); it names the server too, as the issuer of its tokens
abbrev pub grant_endpoint : List ℕ → List ℕ
grant_endpoint base = base ++ codes "/gnap"

-- where grants are continued (RFC 9635, section 5)
abbrev pub continuation_endpoint : List ℕ → List ℕ
continuation_endpoint base = base ++ codes "/continue"

-- where tokens are rotated and revoked (RFC 9635, section 6)
abbrev pub management_endpoint : List ℕ → List ℕ
management_endpoint base = base ++ codes "/token"

-- where resource servers ask about tokens (RFC 9767, section 3.3)
abbrev pub introspection_endpoint : List ℕ → List ℕ
introspection_endpoint base = base ++ codes "/introspect"

-- where resource servers register sets of resources (RFC 9767, section 3.4)
abbrev pub registration_endpoint : List ℕ → List ℕ
registration_endpoint base = base ++ codes "/resource"

-- where the user is sent for the interaction with this handle (RFC 9635, section 3.3.1)
abbrev pub interaction_page : List ℕ → List ℕ → List ℕ
interaction_page front handle = front ++ codes "/i/" ++ handle

-- where the user types a code (RFC 9635, section 3.3.4)
abbrev pub code_page : List ℕ → List ℕ
code_page front = front ++ codes "/code"
