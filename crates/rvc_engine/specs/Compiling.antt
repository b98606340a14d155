-- Actors that are compiled one after the other.
-- Not trusted: no promise is read with it.
use Rattle.std.specs.Prelude.{◌≡◌, List, [], ◌∷◌, ◌++◌}
use Rattle.std.specs.Arc.{arc_value}
use Rattle.lower_actor.specs.Standing.{StandsForActor}
use Rattle.cal_model.specs.Actor.{Actor}
use Rattle.rvc_engine.specs.Built.{IsJudged}
use Rattle.rvc_engine.specs.declared.compiling.Compiled.{Compiled}

pub record IsCompiled (actor : Actor) (c : Compiled) : Type 0 where
  pub code : StandsForActor actor (arc_value c.code)
  pub judged : IsJudged actor c.uncertified

abbrev pub AreCompiled : List Actor → List Compiled → Type 0
AreCompiled [] [] = Unit {0}
AreCompiled (actor ∷ actors) (c ∷ all) = IsCompiled actor c × AreCompiled actors all
AreCompiled actors all = ⊥

-- one more
pub record AddsCompiled (actor : Actor) (old new : List Compiled) : Type 0 where
  pub added : Compiled
  pub is : new ≡ old ++ added ∷ []
  pub compiled : IsCompiled actor added
