-- Which imports and calls are wrong where an actor of some files is refused.
-- Trusted: part of what a promise means.
use Rattle.std.specs.Prelude.{◌≡◌, ◌⊎◌, ℕ, List, None, Some}
use Rattle.rvc_base.specs.Rules.{import_not_found, import_cycle, recursion}
use Rattle.cal_imports.specs.Answer.{Gives, Refuses}
use Rattle.cal_imports.specs.Resolved.{resolved}
use Rattle.cal_imports.specs.Sources.{Source, source_named}
use Rattle.cal_imports.specs.Whole.{Scope, actor_gathered}
use Rattle.law_imports.specs.Calling.{AreNamed, CallsInCircle}
use Rattle.law_imports.specs.Leading.{ImportsInCircle, ImportsNoFile}

-- If an import is told to be missing, it is: the file at this place has an import of a class that no file has. Or
-- there is no file of the class that was asked for.
abbrev pub MissingIsMissing : Type 0
MissingIsMissing = (files : List Source) (class : List ℕ) (file at : ℕ)
    → resolved files class ≡ Refuses import_not_found file at
    → (source_named class files ≡ None)
    ⊎ ((top : Source) × (source_named class files ≡ Some top) × ImportsNoFile files top file at)

-- If imports are told to lead in a circle, they do, and the import at this place stands on it.
abbrev pub CircleOfImportsIsOne : Type 0
CircleOfImportsIsOne = (files : List Source) (class : List ℕ) (file at : ℕ)
    → resolved files class ≡ Refuses import_cycle file at
    → (top : Source) × (source_named class files ≡ Some top) × ImportsInCircle files top file at

-- If functions or procedures are told to call themselves, they do, directly or indirectly, and the call at this place is
-- one of those that lead back. All that is asked is that each has a name.
abbrev pub CircleOfCallsIsOne : Type 0
CircleOfCallsIsOne = (files : List Source) (class : List ℕ) (file at : ℕ)
    → resolved files class ≡ Refuses recursion file at
    → (top : Source) × (scope : Scope) × (source_named class files ≡ Some top)
    × (actor_gathered files top ≡ Gives scope) × (AreNamed scope → CallsInCircle scope file at)
