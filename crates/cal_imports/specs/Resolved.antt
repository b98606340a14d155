-- The actor of a class with all that its imports lead to, or a rule of scope that is broken.
-- Trusted: part of what a promise means.
use Rattle.std.specs.Prelude.{ℕ, List, Option, None, Some}
use Rattle.rvc_base.specs.Rules.{import_not_found}
use Rattle.cal_imports.specs.Answer.{Answer, Refuses, and_then}
use Rattle.cal_imports.specs.Recursion.{without_recursion}
use Rattle.cal_imports.specs.Sources.{Source, source_named}
use Rattle.cal_imports.specs.Whole.{Scope, actor_gathered}

-- that none calls itself is judged over all declarations
abbrev pub source_linked : List Source → Source → Answer Scope
source_linked files s = and_then (actor_gathered files s) (λ scope. without_recursion scope)

abbrev pub resolved_source : List Source → Option Source → Answer Scope
resolved_source files None = Refuses import_not_found 0 0
resolved_source files (Some s) = source_linked files s

-- the actor of a class
abbrev pub resolved : List Source → (name : List ℕ) → Answer Scope
resolved files name = resolved_source files (source_named name files)
