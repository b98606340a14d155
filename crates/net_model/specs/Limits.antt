-- The limits of what can be run.
-- Trusted: part of what a promise means.
use Rattle.std.specs.Prelude.{ℕ}

abbrev pub max_instances : ℕ
max_instances = 1024

abbrev pub max_links : ℕ
max_links = 4096

-- tokens that one firing takes from a port, or gives on one
abbrev pub max_rate : ℕ
max_rate = 4096

-- the greatest capacity that a link may grow to at a stall
abbrev pub max_grow : ℕ
max_grow = 1048576
