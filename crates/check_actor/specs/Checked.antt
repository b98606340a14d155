-- What the check of a whole actor answers.
-- Trusted: part of what a promise means.
use Rattle.std.specs.Prelude.{◌≡◌, List}
use Rattle.std.specs.declared.result.Result.{Result}
use Rattle.std.specs.declared.result.Result.TheVariants.{Ok, Err}
use Rattle.rvc_base.specs.declared.refusal.Front.{Front}
use Rattle.rvc_base.specs.declared.refusal.Front.TheVariants as front
use Rattle.rvc_base.specs.declared.refusal.Refusal.{Refusal}
use Rattle.cal_model.specs.View.{actor_of}
use Rattle.cal_model.specs.declared.bound.Bound.{Bound}
use Rattle.cal_check.specs.Actors.{Conforms, IsSource, Source}
use Rattle.cal_check.specs.Variables.{Found, Given, Spot}
use Rattle.check_actor.specs.Functions.{IsBroken}

abbrev pub found_of : Refusal → Found
found_of r = record {
  violation = record { rule = r.rule; at = r.place.offset };
  file = r.place.file;
}

-- a rule that the actor breaks, where it does
abbrev pub IsRefused : Front → Source → List Given → Spot → Type 0
IsRefused (front.Refused r) s gs owner = IsBroken s gs owner (found_of r)
IsRefused front.Memory s gs owner = Unit {0}

-- exactly the source actor, or why there is none; running out of memory says nothing
abbrev pub IsChecked : Result Bound Front → Source → List Given → Spot → Type 0
IsChecked (Ok b) s gs owner = IsSource s gs owner (actor_of b)
IsChecked (Err f) s gs owner = IsRefused f s gs owner

-- an actor that conforms is given: it is never refused
abbrev pub IsComplete : Result Bound Front → Source → List Given → Spot → Type 0
IsComplete result s gs owner =
    (r : Refusal) → result ≡ Err (front.Refused r) → Conforms s gs owner → ⊥
