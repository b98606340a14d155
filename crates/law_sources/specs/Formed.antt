-- What an actor with what its imports lead to is by the grammar, and by the order of its calls.
-- Trusted: part of what a promise means.
use Rattle.std.specs.Prelude.{◌≡◌, ℕ, List}
use Rattle.cal_model.specs.Sound.{Each}
use Rattle.cal_check.specs.Actors as check
use Rattle.cal_check.specs.Actors.{all_funs, members_of}
use Rattle.cal_check.specs.Formed.{IsActionFormed, IsFunFormed, IsProcFormed, IsScheduleFormed}
use Rattle.cal_check.specs.Schedules.{schedule_in}
use Rattle.cal_check.specs.Sources.{FunDeclsEnd, ProcDeclsEnd, actions_of_source, procs_of_source}
use Rattle.cal_imports.specs.Answer.{Gives}
use Rattle.cal_imports.specs.Resolved.{resolved}
use Rattle.cal_imports.specs.Sources.{Source}
use Rattle.cal_imports.specs.Whole.{Scope}
use Rattle.check_actor.specs.Sources.{source_of}
use Rattle.law_sources.specs.Names.{AreSpelled}

-- ---- the forms of the grammar

-- of functions, those of other files too, of procedures, actions and the schedule
pub record HasFormedParts (s : check.Source) : Type 0 where
  pub funs : Each (λ f. IsFunFormed f.decl) (all_funs s)
  pub procs : Each IsProcFormed (procs_of_source s)
  pub actions : Each IsActionFormed (actions_of_source s)
  pub schedule : IsScheduleFormed (schedule_in (members_of s.actor))

-- an actor has them, if it and all that its imports lead to are files that texts spell
abbrev pub PartsAreFormed : Type 0
PartsAreFormed = (files : List Source) (class : List ℕ) (scope : Scope) → AreSpelled files
    → resolved files class ≡ Gives scope → HasFormedParts (source_of scope)

-- ---- the order of calls

-- no function calls itself, directly or indirectly, and no procedure
pub record HasCallsThatEnd (s : check.Source) : Type 0 where
  pub funs : FunDeclsEnd (all_funs s)
  pub procs : ProcDeclsEnd (procs_of_source s)

-- .. of such an actor
abbrev pub CallsEnd : Type 0
CallsEnd = (files : List Source) (class : List ℕ) (scope : Scope) → AreSpelled files
    → resolved files class ≡ Gives scope → HasCallsThatEnd (source_of scope)
