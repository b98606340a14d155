-- What the scopes of files give an actor: the names of one scope differ, and none hides a function or a procedure that is
-- called there.
--
-- Of other files only functions are asked for, since only these have scopes of their own.
-- Trusted: part of what a promise means.
use Rattle.std.specs.Prelude.{◌≡◌, ℕ, List}
use Rattle.cal_model.specs.Sound.{Each}
use Rattle.cal_check.specs.Actors.{all_funs}
use Rattle.cal_check.specs.Sources.{IsActionScoped, IsFunScoped, IsProcScoped, actions_of_source, procs_of_source}
use Rattle.cal_imports.specs.Answer.{Gives}
use Rattle.cal_imports.specs.Resolved.{resolved}
use Rattle.cal_imports.specs.Sources.{Source}
use Rattle.cal_imports.specs.Whole.{Scope}
use Rattle.check_actor.specs.Sources.{source_of}
use Rattle.law_sources.specs.Names.{AreSpelled}

-- this holds of each actor in its scope, if it and all that its imports lead to are files that texts spell
abbrev pub HoldsOfScopes : (Scope → Type 0) → Type 0
HoldsOfScopes Holds = (files : List Source) (class : List ℕ) (scope : Scope)
    → AreSpelled files → resolved files class ≡ Gives scope → Holds scope

-- of the actor's functions, and those of other files
abbrev pub FunsAreScopedIn : Scope → Type 0
FunsAreScopedIn scope = Each (λ f. IsFunScoped f.decl) (all_funs (source_of scope))

abbrev pub ProcsAreScopedIn : Scope → Type 0
ProcsAreScopedIn scope = Each IsProcScoped (procs_of_source (source_of scope))

abbrev pub ActionsAreScopedIn : Scope → Type 0
ActionsAreScopedIn scope = Each IsActionScoped (actions_of_source (source_of scope))

abbrev pub FunsAreScoped : Type 0
FunsAreScoped = HoldsOfScopes FunsAreScopedIn

abbrev pub ProcsAreScoped : Type 0
ProcsAreScoped = HoldsOfScopes ProcsAreScopedIn

abbrev pub ActionsAreScoped : Type 0
ActionsAreScoped = HoldsOfScopes ActionsAreScopedIn
