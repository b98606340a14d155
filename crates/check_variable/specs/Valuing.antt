-- What calls answer that seek the values of variables.
-- Trusted but for `came`, `said_of`, `Notes`, `Settles` and what stands under steps: part of what a promise means.
use Rattle.std.specs.Prelude.{◌≡◌, ℕ, Bool, true, false, not, ◌||◌, List, [], ◌∷◌, ◌++◌, Contains, map, option_map, Option, None, Some, if◌then◌else◌}
use Rattle.std.specs.declared.result.Result.{Result}
use Rattle.std.specs.declared.result.Result.TheVariants.{Ok, Err}
use Rattle.rvc_base.specs.Rules.{not_constant}
use Rattle.rvc_base.specs.declared.refusal.Front.{Front}
use Rattle.rvc_base.specs.declared.refusal.Front.TheVariants as front
use Rattle.rvc_base.specs.declared.refusal.Place.{Place}
use Rattle.cal_ast.specs.Places.{begins}
use Rattle.cal_model.specs.Actor.{Held}
use Rattle.cal_model.specs.Sound.{Each}
use Rattle.cal_model.specs.Value.{Shape, Value}
use Rattle.cal_model.specs.View.{value_view, var_view}
use Rattle.const_env.specs.declared.fault.KindFault.{KindFault}
use Rattle.const_env.specs.declared.fault.KindFault.TheVariants as fault
use Rattle.cal_check.specs.Actors.{first_valueless, said_or_all}
use Rattle.cal_check.specs.Violations.{Violation, said, violation}
use Rattle.cal_check.specs.Variables.{Come, Found, Given, Spot, VarDecl, Valued, found_in, is_none, param_broken, value_of}
use Rattle.cal_check.specs.Routines.{FunDecl}
use Rattle.check_functions.specs.Growing.{Growing, IsKept, kept_in}
use Rattle.check_functions.specs.Known.{all_known}
use Rattle.check_functions.specs.declared.known.KnownName.{KnownName}
use Rattle.check_variable.specs.Causes.{inconstant}
use Rattle.check_given.specs.Causes.{IsCause, IsSaid, SaysRule}
use Rattle.check_variable.specs.declared.starting.Started.{Started}
use Rattle.check_variable.specs.declared.starting.Started.TheVariants as started
use Rattle.check_variable.specs.declared.given.Constancy.{Constancy}
use Rattle.check_variable.specs.declared.given.Constancy.TheVariants as constancy
use Rattle.check_variable.specs.declared.given.Settled.{Settled}
use Rattle.check_variable.specs.declared.valued.Valued.{Valued as Kept}

-- ---- starts

abbrev pub came : Option Value → List Violation → Come
came v vs = record { value = v; breaks = vs }

-- A start that begins at an offset comes to its value, to none that is of use, to none since it isn't constant, or to
-- another rule that it breaks.
abbrev pub ComesTo : Result Started KindFault → Come → ℕ → Type 0
ComesTo (Ok (started.Value v)) c at = c ≡ came (Some (value_view v)) []
ComesTo (Ok started.Useless) c at = c ≡ came None []
ComesTo (Ok (started.NotConstant p)) c at = c ≡ came None (violation not_constant p)
ComesTo (Err (fault.Broken rule p)) c at = (c ≡ came None (violation rule p)) × IsSaid rule
ComesTo (Err fault.Memory) c at = Unit {0}

-- what is said of a start once a value is of no use
abbrev pub said_of : Bool → Come → Come
said_of useless c = came c.value (said useless c.breaks)

-- ---- parameters

-- where the start of a variable begins
abbrev pub start_place : VarDecl → Place
start_place x = record { file = x.file; offset = begins x.start }

-- what a start breaks of which this is known
abbrev pub Notes : Constancy → VarDecl → List Found → Type 0
Notes constancy.Constant x fs = fs ≡ []
Notes (constancy.Lacking p) x fs = fs ≡ inconstant p ∷ []

-- what a variable holds at first whose start comes to this, and what breaks a rule in it
abbrev pub Settles : Result Settled Front → VarDecl → List Given → Spot → Shape → Come → Type 0
Settles (Ok s) x gs owner t c = (value_of x gs t c.value ≡ option_map value_view s.value)
    × Notes s.constancy x (found_in x.file c.breaks) × (param_broken x gs owner t ≡ [])
Settles (Err f) x gs owner t c =
    IsCause f (found_in x.file c.breaks ++ param_broken x gs owner t) × SaysRule f

-- ---- variables

-- The first of these variables without a value has a start that begins there: those before it have values, and what
-- else has one stands behind it.
pub record IsFirst (p : Place) (xs : List VarDecl) (held : List Held) : Type 0 where
  pub before : List VarDecl
  pub lacking : VarDecl
  pub behind : List VarDecl
  pub parts : xs ≡ before ++ lacking ∷ behind
  pub place : p ≡ start_place lacking
  pub later : List (List ℕ)
  pub named : map (λ x. x.name) held ≡ map (λ x. x.name) before ++ later
  pub are_behind : Each (λ n. Contains (map (λ x. x.name) behind) n) later

-- Of variables that break nothing, either all have values, or the first without one begins there.
abbrev pub Lacks : Option Place → List VarDecl → Valued → Type 0
Lacks None xs vs = (vs.useless ≡ false) × (vs.whole ≡ true)
    × (map (λ x. x.name) vs.held ≡ map (λ x. x.name) xs)
Lacks (Some p) xs vs = (vs.useless ≡ true) × IsFirst p xs vs.held

-- what these variables come to that break no rule, but perhaps that some types and starts aren't constant
pub record IsValued (xs : List VarDecl) (v : Kept) (vs : Valued) : Type 0 where
  pub known : all_known v.known.items ≡ vs.known
  pub held : map var_view v.held.items ≡ vs.held
  -- exactly this is broken: that what stands at these places isn't constant
  pub breaks : vs.breaks ≡ map inconstant v.broken.items
  pub useless : v.useless ≡ vs.useless
  pub whole : v.whole ≡ vs.whole
  pub lacks : v.broken.items ≡ [] → Lacks v.lacking xs vs

-- what they come to, or a rule that they break and that is said whatever else is broken
abbrev pub Values : Result (Unit {0}) Front → List VarDecl → Kept → Valued → Type 0
Values (Ok u) xs v vs = IsValued xs v vs
Values (Err f) xs v vs = IsCause f vs.breaks × SaysRule f

-- what these come to behind others, whatever the others came to
abbrev pub Declares :
    Result (Unit {0}) Front → List VarDecl → (Valued → Valued) → (old new : Kept) → Type 0
Declares result more step old new =
    (xs : List VarDecl) (vs : Valued) → IsValued xs old vs → Values result (xs ++ more) new (step vs)

-- ---- what isn't constant, if nothing behind the variables is broken

abbrev pub valueless : List VarDecl → Spot → Valued → List Found
valueless xs owner vs =
    if vs.useless || not vs.whole then first_valueless xs vs.held owner else []

-- what is broken, or that the first variable without a value isn't constant
abbrev pub left_over : List VarDecl → Spot → Valued → List Found
left_over xs owner vs = said_or_all vs.breaks (valueless xs owner vs)

-- the first of these places
abbrev pub first_in : List Place → Option Place
first_in [] = None
first_in (p ∷ ps) = Some p

-- something at this place, or nothing
abbrev pub AreAt : Option Place → List Found → Type 0
AreAt None fs = fs ≡ []
AreAt (Some p) fs = Contains fs (inconstant p)

-- ---- steps

abbrev pub broken_in : Constancy → List Place
broken_in constancy.Constant = []
broken_in (constancy.Lacking p) = p ∷ []

abbrev pub lacking_at : VarDecl → Bool → Option Place
lacking_at x true = Some (start_place x)
lacking_at x false = None

abbrev pub first_of : Option Place → Option Place → Option Place
first_of None other = other
first_of (Some p) other = Some p

-- it is noted whether a start is constant, and whether its variable has this value
pub record IsNoted (k : Constancy) (v : Option Value) (x : VarDecl) (old new : Kept) : Type 0 where
  pub known : new.known.items ≡ old.known.items
  pub held : new.held.items ≡ old.held.items
  pub broken : new.broken.items ≡ old.broken.items ++ broken_in k
  pub lacking : new.lacking ≡ first_of old.lacking (lacking_at x (is_none v))
  pub useless : new.useless ≡ old.useless

-- a type that isn't constant is noted, unless an earlier value is of no use
pub record IsUntyped (p : Place) (old new : Kept) : Type 0 where
  pub known : new.known.items ≡ old.known.items
  pub held : new.held.items ≡ old.held.items
  pub broken : new.broken.items ≡ (if old.useless then old.broken.items else old.broken.items ++ p ∷ [])
  pub lacking : new.lacking ≡ old.lacking
  pub useless : new.useless ≡ old.useless
  pub whole : new.whole ≡ false

abbrev pub Untypes : Result (Unit {0}) Front → Place → (old new : Kept) → Type 0
Untypes (Ok u) p old new = IsUntyped p old new
Untypes (Err f) p old new = f ≡ front.Memory

-- a name became known if the variable has a type
abbrev pub grows_if : Bool → (old new : Kept) → Type 0
grows_if true old new = (x : KnownName) × (new.known.items ≡ old.known.items ++ x ∷ [])
grows_if false old new = new.known.items ≡ old.known.items

abbrev pub Grows : (old new : Kept) → Type 0
Grows old new = grows_if new.whole old new

-- what is kept of names is of those that are known, and of these functions
abbrev pub AreSeen : Growing → List FunDecl → Kept → Type 0
AreSeen names fs v = IsKept (kept_in names) fs (all_known v.known.items)
