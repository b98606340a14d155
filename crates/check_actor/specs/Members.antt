-- What the members of an actor come to, and what is left to say.
-- Not trusted: no promise is read with it.
use Rattle.std.specs.Prelude.{◌≡◌, ◌⊎◌, List, [], Option, None, Some, ◌==◌, if◌then◌else◌}
use Rattle.std.specs.declared.result.Result.{Result}
use Rattle.std.specs.declared.result.Result.TheVariants.{Ok, Err}
use Rattle.rvc_base.specs.Rules.{not_constant}
use Rattle.rvc_base.specs.declared.refusal.Front.{Front}
use Rattle.rvc_base.specs.declared.refusal.Front.TheVariants as front
use Rattle.rvc_base.specs.declared.refusal.Place.{Place}
use Rattle.cal_model.specs.Kinding.{Names}
use Rattle.cal_model.specs.declared.bound.Bound.{Bound}
use Rattle.cal_check.specs.Actors.{Source, around_of, heads_found}
use Rattle.cal_check.specs.Variables.{Given, Spot}
use Rattle.check_variable.specs.declared.header.Header.{Header}
use Rattle.check_actor.specs.Parts.{FindsInside, IsInside}
use Rattle.check_actor.specs.Phases.{IsHeaderOf, header_over}
use Rattle.check_actor.specs.Sifting.{IsFault}

abbrev pub not_constant_at : Place → Front
not_constant_at p = front.Refused (record { rule = not_constant; place = p })

-- What is said of a fault behind variables, of which the first that isn't constant stands there: where something isn't
-- constant, that is said of the variables.
abbrev pub said_first : Option Place → Front → Front
said_first None f = f
said_first (Some p) front.Memory = front.Memory
said_first (Some p) (front.Refused r) =
    if r.rule.0 == not_constant.0 then not_constant_at p else front.Refused r

-- the ports of a header; where something isn't constant, that is said of the variables before
abbrev pub TellsHeader : Result Header Front → Option Place → Source → Names → Type 0
TellsHeader (Ok h) noted s names = IsHeaderOf h s names
TellsHeader (Err f) noted s names =
    (g : Front) × (f ≡ said_first noted g) × IsFault g (header_over s names)

-- members that break no rule
pub record AreMembers (found : Bound) (s : Source) (gs : List Given) (owner : Spot) : Type 0 where
  pub heads : heads_found s (around_of s gs owner).names ≡ []
  pub inside : IsInside found s gs owner

abbrev pub FindsMembers : Result Bound Front → Source → List Given → Spot → Type 0
FindsMembers (Ok found) s gs owner = AreMembers found s gs owner
FindsMembers (Err f) s gs owner = IsFault f (heads_found s (around_of s gs owner).names)
    ⊎ ((heads_found s (around_of s gs owner).names ≡ []) × FindsInside (Err f) s gs owner)

-- where something isn't constant in the variables, or they break nothing
abbrev pub Settles : Option Place → Bound → Result Bound Front → Type 0
Settles None found result = result ≡ Ok found
Settles (Some p) found result = result ≡ Err (not_constant_at p)

abbrev pub place_left : Option Place → Place → Place
place_left None owner = owner
place_left (Some p) owner = p
