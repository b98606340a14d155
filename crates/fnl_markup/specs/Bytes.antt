-- Classes of bytes.
-- Trusted: part of what a promise means.
use Rattle.std.specs.Prelude.{ℕ, Bool, ◌||◌, ◌==◌}
use Rattle.std.specs.Char.{is_ascii_alphabetic, is_ascii_digit}

-- space, tab, CR or LF
abbrev pub is_blank : ℕ → Bool
is_blank b = (b == 32) || ((b == 9) || ((b == 13) || (b == 10)))

-- a letter, `_` or `:`
abbrev pub begins_name : ℕ → Bool
begins_name b = is_ascii_alphabetic b || ((b == 95) || (b == 58))

-- what begins a name, a digit, `-` or `.`
abbrev pub goes_on_name : ℕ → Bool
goes_on_name b = begins_name b || (is_ascii_digit b || ((b == 45) || (b == 46)))
