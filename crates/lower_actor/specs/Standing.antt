-- What it means that a lowered actor stands for an actor of the source.
-- Trusted: part of what a promise means.
use Rattle.std.specs.Prelude.{◌≡◌, length}
use Rattle.net_model.specs.Alike.{BehaveAlike}
use Rattle.cal_model.specs.Actor.{Actor}
use Rattle.cal_model.specs.Firing.{behaviour}
use Rattle.cal_model.specs.Selection.{Priorities}
use Rattle.lowered_actor.specs.Actor as coded
use Rattle.lowered_actor.specs.Facts.{FitTogether, IsLowered}
use Rattle.lowered_actor.specs.declared.parts.Parts.{Parts}
use Rattle.lowered_actor.specs.Meaning as lowered
use Rattle.action_lower.specs.Seats.{numbers_of_vars}
use Rattle.lower_tables.specs.Carrying.{BodiesAreAlike, GuardsAreAlike, HasTables, HoldsNumbers, MayCome, StandsFor}

-- A lowered actor stands for an actor: it has its schedule, its priorities, its rates and its state cells, which hold the
-- numbers of its variables, at first those of the start; its guards say what the actor's say, and its firings leave and
-- send what the actor's do, or trap as they do, by a turn too many as well. So it behaves as the actor does.
pub record StandsForActor (actor : Actor) (l : coded.Actor) : Type 0 where
  pub tables : HasTables actor l
  pub numbers : HoldsNumbers actor numbers_of_vars l
  pub guards : GuardsAreAlike actor numbers_of_vars l
  pub firings : BodiesAreAlike actor numbers_of_vars l
  pub alike : (p : Priorities actor)
      → BehaveAlike (StandsFor actor numbers_of_vars) (MayCome actor) (lowered.behaviour l)
      (behaviour actor p)

-- Parts of a lowered actor that stands for an actor: they fit together, with an action for each of the actor's; and the
-- lowered actor that is made of them, if they keep the facts of one, stands for the actor.
pub record ArePartsOf (actor : Actor) (parts : Parts) : Type 0 where
  pub fits : FitTogether (coded.actor_of parts)
  pub actions : length parts.actions.items ≡ length actor.actions
  pub stand : IsLowered (coded.actor_of parts) → StandsForActor actor (coded.actor_of parts)
