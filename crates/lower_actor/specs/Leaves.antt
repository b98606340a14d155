-- The leaves of a network of actors, and the lowered actors that stand for them.
-- Trusted: part of what a promise means.
use Rattle.std.specs.Prelude.{◌≡◌, List, [], ◌∷◌}
use Rattle.cal_model.specs.Actor.{Actor}
use Rattle.cal_model.specs.Firing.{behaviour}
use Rattle.cal_model.specs.Selection.{Priorities, State}
use Rattle.lowered_actor.specs.Actor as coded
use Rattle.net_model.specs.Network.{Leaf}
use Rattle.lower_actor.specs.Standing.{StandsForActor}

-- a leaf behaves as an actor does, at its priorities
pub record IsLeafOf (actor : Actor) (leaf : Leaf State) : Type 0 where
  pub priorities : Priorities actor
  pub behaviour : leaf.behaviour ≡ behaviour actor priorities

-- .. and so does each leaf as its actor
abbrev pub AreLeavesOf : List Actor → List (Leaf State) → Type 0
AreLeavesOf [] [] = Unit {0}
AreLeavesOf (actor ∷ actors) (leaf ∷ leaves) = IsLeafOf actor leaf × AreLeavesOf actors leaves
AreLeavesOf actors leaves = ⊥

-- each actor has a lowered actor that stands for it
abbrev pub StandForActors : List Actor → List coded.Actor → Type 0
StandForActors [] [] = Unit {0}
StandForActors (actor ∷ actors) (code ∷ codes) =
    StandsForActor actor code × StandForActors actors codes
StandForActors actors codes = ⊥
