-- What the checks of an actor ask of its files, and a text leaves in them.
-- Trusted: part of what a promise means.
use Rattle.std.specs.Prelude.{◌≡◌, ℕ, List}
use Rattle.cal_check.specs.Sources.{IsSourceFormed}
use Rattle.cal_imports.specs.Answer.{Gives}
use Rattle.cal_imports.specs.Resolved.{resolved}
use Rattle.cal_imports.specs.Sources.{Source}
use Rattle.cal_imports.specs.Whole.{Scope}
use Rattle.law_sources.specs.Names.{AreSpelled}
use Rattle.fnl_source.specs.Actors.{source_of}

-- The actor of a class, with what its imports lead to, is as the grammar and the scopes leave it, if its files are what
-- texts spell: the texts that stand for its declarations differ, none hides one that is called, and none calls itself.
abbrev pub SpelledAreFormed : Type 0
SpelledAreFormed = (files : List Source) (class : List ℕ) (scope : Scope) → AreSpelled files
    → resolved files class ≡ Gives scope → IsSourceFormed (source_of scope)
