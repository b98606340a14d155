-- Chains of declared pairs, and what stands above what by them: the priorities of the CAL Language Report
-- (action-level control structures), over any things that are paired.
-- Trusted: part of what a promise means.
use Rattle.std.specs.Prelude.{List, [], ◌∷◌, Contains}

-- from a through these, one after another, to b: each is paired with the next
abbrev pub ChainLeads : {A : Type 0} → List (A × A) → A → List A → A → Type 0
ChainLeads pairs a [] b = Contains pairs (a, b)
ChainLeads pairs a (x ∷ through) b = Contains pairs (a, x) × ChainLeads pairs x through b

-- a chain of at least one pair leads from a to b
abbrev pub IsAbove : {A : Type 0} → List (A × A) → A → A → Type 0
IsAbove {A} pairs a b = (through : List A) × ChainLeads pairs a through b
