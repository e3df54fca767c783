-- Moments, in seconds since 1970.
use Rattle.std.specs.Prelude.{ℕ}

-- the last moment that a clock gives: the last second of the year 9999
abbrev pub last_moment : ℕ
last_moment = 253402300799
