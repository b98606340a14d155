-- Functions and procedures in an order of their calls.
-- Trusted: part of what a promise means.
use Rattle.std.specs.Prelude.{◌≡◌, ℕ, List, map}
use Rattle.cal_imports.specs.Behind.{IsOrder, LeadAmong}
use Rattle.cal_imports.specs.Recursion.{edge_to, routines}
use Rattle.cal_imports.specs.Answer.{Gives}
use Rattle.cal_imports.specs.Resolved.{resolved}
use Rattle.cal_imports.specs.Sources.{Source}
use Rattle.cal_imports.specs.Whole.{Scope}

-- an order that holds each routine, behind those that it calls
pub record CallsHaveAnOrder (s : Scope) : Type 0 where
  pub order : List (List ℕ)
  pub is_order : IsOrder (routines s) order
  pub is_whole : LeadAmong (map edge_to (routines s)) order

-- what `resolve` answers for an actor in some files
abbrev pub IsAnswered : Scope → Type 0
IsAnswered s = (files : List Source) × (name : List ℕ) × (resolved files name ≡ Gives s)
