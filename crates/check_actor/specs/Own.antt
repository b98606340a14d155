-- What calls answer that seek what functions break of themselves.
-- Not trusted: no promise is read with it.
use Rattle.std.specs.Prelude.{◌≡◌, ◌⊎◌, Bool, true, false, ◌==◌, List, [], Contains, Option, None, Some, if◌then◌else◌}
use Rattle.std.specs.declared.result.Result.{Result}
use Rattle.std.specs.declared.result.Result.TheVariants.{Ok, Err}
use Rattle.rvc_base.specs.Rules.{unknown_name}
use Rattle.rvc_base.specs.declared.refusal.Front.{Front}
use Rattle.rvc_base.specs.declared.refusal.Front.TheVariants as front
use Rattle.rvc_base.specs.declared.refusal.Place.{Place}
use Rattle.rvc_base.specs.declared.memory.Memory.{Memory}
use Rattle.cal_model.specs.Kinding.{Names}
use Rattle.cal_model.specs.View.{actor_of}
use Rattle.cal_model.specs.declared.bound.Bound.{Bound}
use Rattle.cal_check.specs.Actors.{IsSource, IsViolated, Source, heads_broken}
use Rattle.cal_check.specs.Routines.{FunDecl}
use Rattle.cal_check.specs.Variables.{Found, Given, Spot}
use Rattle.check_variable.specs.Causes.{inconstant}
use Rattle.check_given.specs.Causes.{IsCause}
use Rattle.check_actor.specs.Checked.{found_of}
use Rattle.check_actor.specs.Functions.{IsCycleAt, fun_found, functions_found, lacking, lacks_kinds, of_themselves, others_found, settled_found}

-- a name has no kind
abbrev pub lacks_name : Front → Bool
lacks_name (front.Refused r) = r.rule.0 == unknown_name.0
lacks_name front.Memory = false

-- a function breaks nothing of itself but where some name has no kind, or a rule that it breaks
abbrev pub FindsOwnOf : Result (Unit {0}) Front → FunDecl → Names → Type 0
FindsOwnOf (Ok u) f names =
    (if lacks_kinds (fun_found f names) then [] else of_themselves (fun_found f names)) ≡ []
FindsOwnOf (Err e) f names = IsCause e (of_themselves (fun_found f names))

-- the same of functions
abbrev pub FindsOwn : Result (Unit {0}) Front → List FunDecl → Names → Type 0
FindsOwn (Ok u) fs names = settled_found fs names ≡ []
FindsOwn (Err e) fs names = IsCause e (functions_found fs names)

-- of all functions these are left
pub record AreLeft (left all : List FunDecl) (names : Names) : Type 0 where
  pub none : settled_found left names ≡ [] → settled_found all names ≡ []
  pub cause : (f : Front) → IsCause f (functions_found left names) → IsCause f (functions_found all names)

-- what is told of a refusal: what functions break of themselves, or the refusal if they break nothing
abbrev pub TellsFunctions : List FunDecl → Names → (fault told : Front) → Type 0
TellsFunctions fs names (front.Refused r) told =
    ((told ≡ front.Refused r) × (settled_found fs names ≡ []))
    ⊎ IsCause told (functions_found fs names)
TellsFunctions fs names front.Memory told = told ≡ front.Memory

-- ---- heads that aren't constant

-- where the first of these is that something isn't constant
abbrev pub LacksIn : Result (Option Place) Memory → List Found → Type 0
LacksIn (Ok (Some p)) fs = Contains (lacking fs) (inconstant p)
LacksIn (Ok None) fs = lacking fs ≡ []
LacksIn (Err e) fs = Unit {0}

-- of all that is broken this is left
pub record IsHeadLeft (left all : List Found) : Type 0 where
  pub none : lacking left ≡ [] → lacking all ≡ []
  pub there : (f : Found) → Contains (lacking left) f → Contains (lacking all) f

-- a refusal stays, unless a name has no kind there and some head isn't constant
abbrev pub TellsHeads : List Found → (fault told : Front) → Type 0
TellsHeads heads (front.Refused r) told =
    ((told ≡ front.Refused r)
    × (((r.rule.0 == unknown_name.0) ≡ false) ⊎ (lacking heads ≡ [])))
    ⊎ (((r.rule.0 == unknown_name.0) ≡ true) × IsCause told (lacking heads))
TellsHeads heads front.Memory told = told ≡ front.Memory

-- ---- an actor whose functions break nothing of themselves

-- a rule that it breaks
abbrev pub IsRefusedBehind : Front → Source → List Given → Spot → Type 0
IsRefusedBehind (front.Refused r) s gs owner = IsViolated s gs owner (found_of r)
IsRefusedBehind front.Memory s gs owner = Unit {0}

-- the source actor, or a rule that it breaks
abbrev pub IsCheckedBehind : Result Bound Front → Source → List Given → Spot → Type 0
IsCheckedBehind (Ok b) s gs owner = IsSource s gs owner (actor_of b)
IsCheckedBehind (Err f) s gs owner = IsRefusedBehind f s gs owner

-- the same, once a head is named that isn't constant
abbrev pub IsNamedBehind : Front → Source → List Given → Spot → Type 0
IsNamedBehind (front.Refused r) s gs owner =
    Contains (others_found s gs owner) (found_of r) ⊎ IsCycleAt s gs owner (found_of r)
IsNamedBehind front.Memory s gs owner = Unit {0}

-- what is told of a fault behind the variables, over these functions and names
abbrev pub TellsBehind : List FunDecl → Names → (fault told : Front) → Type 0
TellsBehind fs names fault told =
    (g : Front) × TellsHeads (heads_broken fs names) fault g × TellsFunctions fs names g told
