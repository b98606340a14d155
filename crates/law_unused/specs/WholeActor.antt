-- The actor with all that is declared, of which a source actor is the part that it uses.
-- Trusted: part of what a promise means.
use Rattle.std.specs.Prelude.{◌≡◌, List}
use Rattle.cal_model.specs.Actor.{Actor}
use Rattle.cal_model.specs.Firing.{behaviour}
use Rattle.cal_model.specs.Selection.{Priorities}
use Rattle.cal_check.specs.Actions.{or_none}
use Rattle.cal_check.specs.Actors.{IsSource, Source, all_funs, all_valued, around_of, funs_of, is_kept, outers, used}
use Rattle.cal_check.specs.Sources.{IsSourceFormed}
use Rattle.cal_check.specs.Variables.{Given, Spot}
use Rattle.cal_check.specs.Violations.{all_fine}
use Rattle.law_unused.specs.Behaving.{IsStateOf, ShowsTheSame}
use Rattle.law_unused.specs.Closed.{IsClosed}
use Rattle.law_unused.specs.Keeping.{Keep, narrowed_actor}

-- the names that the actor of a source keeps
abbrev pub kept_by : Source → Keep
kept_by s name = is_kept name (outers s) (used s)

-- The actor of a source, with all variables and functions that are declared, in its own file and in
-- those to which its imports lead, used or not; sizes and bounds are written out.
abbrev pub whole_actor : Source → List Given → Spot → Actor → Actor
whole_actor s gs owner actor = record actor {
  vars = (all_valued s gs owner).held;
  funs = or_none (all_fine (funs_of (all_funs s) (around_of s gs owner).names));
}

-- its actions are those of the actor, and so is their order
abbrev pub whole_order : (s : Source) (gs : List Given) (owner : Spot) (actor : Actor)
    → Priorities actor → Priorities (whole_actor s gs owner actor)
whole_order s gs owner actor p = record {
  above = p.above;
  line = p.line;
  is_above = p.is_above;
  is_line = p.is_line;
}

-- the actor of a source is the part of the whole that it keeps, ..
abbrev pub SourcesAreParts : Type 0
SourcesAreParts = (s : Source) (gs : List Given) (owner : Spot) (actor : Actor)
    → IsSource s gs owner actor
    → actor ≡ narrowed_actor (kept_by s) (whole_actor s gs owner actor)

-- .. which uses nothing else, ..
abbrev pub SourcesAreClosed : Type 0
SourcesAreClosed = (s : Source) (gs : List Given) (owner : Spot) (actor : Actor)
    → IsSourceFormed s → IsSource s gs owner actor
    → IsClosed (kept_by s) (whole_actor s gs owner actor)

-- .. and behaves as the whole
abbrev pub SourcesBehaveAsWhole : Type 0
SourcesBehaveAsWhole = (s : Source) (gs : List Given) (owner : Spot) (actor : Actor)
    (p : Priorities actor)
    → IsSourceFormed s → IsSource s gs owner actor
    → ShowsTheSame (kept_by s) (IsStateOf (whole_actor s gs owner actor)) (behaviour actor p)
    (behaviour (whole_actor s gs owner actor) (whole_order s gs owner actor p))
