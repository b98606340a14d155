-- The words as texts.
-- Trusted: part of what a promise means.
use Rattle.std.specs.Prelude.{ℕ, List, map, string_bytes}
use Rattle.std.specs.declared.alloc.Global.{Global}
use Rattle.std.specs.declared.string.String.{String}

abbrev pub texts : List (String Global) → List (List ℕ)
texts words = map (λ word. string_bytes word) words
