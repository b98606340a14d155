-- An actor of its parts, and what is inside it.
-- Not trusted: no promise is read with it.
use Rattle.std.specs.Prelude.{◌≡◌, ℕ, List, [], map, Some, string_bytes}
use Rattle.std.specs.declared.result.Result.{Result}
use Rattle.std.specs.declared.result.Result.TheVariants.{Ok, Err}
use Rattle.rvc_base.specs.Rules.{priority_cycle}
use Rattle.rvc_base.specs.declared.refusal.Front.{Front}
use Rattle.rvc_base.specs.declared.refusal.Front.TheVariants as front
use Rattle.cal_ast.specs.Tree.{Tree}
use Rattle.cal_ast.specs.View.{actor_tree}
use Rattle.cal_imports.specs.declared.scope.Scope.{Scope as Resolved}
use Rattle.cal_model.specs.Actor.{Actor}
use Rattle.cal_model.specs.Kinding.{Names}
use Rattle.cal_model.specs.View.{actor_of, fun_view, proc_view, var_view}
use Rattle.cal_model.specs.declared.bound.Bound.{Bound}
use Rattle.cal_model.specs.declared.bound.BoundVar.{BoundVar}
use Rattle.std.specs.Prelude.{Vec}
use Rattle.std.specs.declared.alloc.Global.{Global}
use Rattle.const_env.specs.declared.fault.KindFault.{KindFault}
use Rattle.const_env.specs.declared.fault.KindFault.TheVariants as fault
use Rattle.cal_check.specs.Actors.{IsAboveItself, Source, actor_given, all_funs, all_valued, around_of, before_members, inside_found, kept_funs, kept_vars, members_of}
use Rattle.cal_check.specs.Schedules.{first_priority}
use Rattle.cal_check.specs.Variables.{Found, Given, Spot, found_in, seen}
use Rattle.check_member.specs.Parts.{members_tree}
use Rattle.check_build_actor.specs.Building.{ArePartsOf, around_bare, members_broken}
use Rattle.check_build_actor.specs.declared.whole.BareActor.{BareActor}
use Rattle.check_given.specs.Causes.{IsCause}
use Rattle.check_variable.specs.declared.header.Header.{Header}
use Rattle.check_actor.specs.Phases.{AreRoutinesOf, IsHeaderOf, routines_found}
use Rattle.check_actor.specs.Sifting.{IsInsideFault, SiftsInside}
use Rattle.check_actor.specs.Sources.{source_in}
use Rattle.check_actor.specs.declared.routines.Routines.{Routines}

abbrev pub placed : ℕ → KindFault → Front
placed file (fault.Broken rule at) =
    front.Refused (record { rule = rule; place = record { file = file; offset = at } })
placed file fault.Memory = front.Memory

-- ---- an actor that is built

-- an action is above itself, and the rule is that of cycles, at the first word `priority` of a file
abbrev pub IsCycleIn : Front → ℕ → Tree → Actor → Type 0
IsCycleIn (front.Refused r) file members actor = IsAboveItself actor
    × (first_priority members ≡ Some r.place.offset)
    × (r.rule ≡ priority_cycle) × (r.place.file ≡ file)
IsCycleIn front.Memory file members actor = Unit {0}

-- an actor of these parts that breaks no rule
pub record IsBuilt (found : Bound) (bare : BareActor) (scope : Resolved) (names : Names) : Type 0 where
  pub is : (gs : List Given) (owner : Spot)
      → ArePartsOf bare (actor_tree scope.actor) names (source_in scope) gs owner
      → actor_of found ≡ actor_given (source_in scope) gs owner
  pub fine : members_broken (members_tree scope.actor.members.items) (around_bare bare names)
      (actor_of found) scope.actor.at ≡ []
  pub ordered : IsAboveItself (actor_of found) → ⊥

-- what the members of an actor break
abbrev pub members_found_in : Resolved → List Given → Spot → List Found
members_found_in scope gs owner = found_in scope.file
    (members_broken (members_of (source_in scope).actor) (around_of (source_in scope) gs owner)
    (actor_given (source_in scope) gs owner) scope.actor.at)

-- an action of the actor that a source is stands above itself
abbrev pub IsCycleOf : Front → Source → List Given → Spot → Type 0
IsCycleOf f s gs owner = IsCycleIn f s.file (members_of s.actor) (actor_given s gs owner)

-- members of parts that break no rule but that something isn't constant, or another rule
abbrev pub SiftsMembers : Result (Unit {0}) Front → BareActor → Resolved → Names → Type 0
SiftsMembers r bare scope names = (gs : List Given) (owner : Spot)
    → ArePartsOf bare (actor_tree scope.actor) names (source_in scope) gs owner
    → SiftsInside r (members_found_in scope gs owner) (λ g. IsCycleOf g (source_in scope) gs owner)

-- what refuses parts
abbrev pub BreaksParts : Front → BareActor → Resolved → Names → Type 0
BreaksParts f bare scope names = (gs : List Given) (owner : Spot)
    → ArePartsOf bare (actor_tree scope.actor) names (source_in scope) gs owner
    → IsInsideFault f (members_found_in scope gs owner) (λ g. IsCycleOf g (source_in scope) gs owner)

abbrev pub BuildsActor : Result Bound Front → BareActor → Resolved → Names → Type 0
BuildsActor (Ok found) bare scope names = IsBuilt found bare scope names
BuildsActor (Err f) bare scope names = BreaksParts f bare scope names

-- ---- parts

-- the parts of an actor, without what it doesn't use
pub record AreKept (bare : BareActor) (held : Vec BoundVar Global) (header : Header)
    (routines : Routines) (s : Source) : Type 0 where
  pub class : string_bytes bare.class ≡ s.class
  pub ins : bare.ins.items ≡ header.ins.items
  pub outs : bare.outs.items ≡ header.outs.items
  pub procs : bare.procs ≡ routines.procs
  pub vars : map var_view bare.vars.items ≡ kept_vars (map var_view held.items) s
  pub funs : map fun_view bare.funs.items ≡ kept_funs (map fun_view routines.funs.items) s

-- what a header sees
abbrev pub header_names : Source → List Given → Spot → Names
header_names s gs owner = seen (all_funs s) (before_members s gs owner).known

-- the header, and the functions and procedures over the names that are seen inside
pub record ArePartsIn (header : Header) (routines : Routines) (names : Names) (s : Source)
    (gs : List Given) (owner : Spot) : Type 0 where
  pub inside : (around_of s gs owner).names ≡ names
  pub ports : IsHeaderOf header s (header_names s gs owner)
  pub heads : AreRoutinesOf routines s names

-- ---- what is inside

-- the actor that a source is, if nothing else is broken
pub record IsInside (found : Bound) (s : Source) (gs : List Given) (owner : Spot) : Type 0 where
  pub is : actor_of found ≡ actor_given s gs owner
  pub fine : inside_found s (around_of s gs owner) (actor_given s gs owner) ≡ []
  pub ordered : IsAboveItself (actor_given s gs owner) → ⊥

abbrev pub FindsInside : Result Bound Front → Source → List Given → Spot → Type 0
FindsInside (Ok found) s gs owner = IsInside found s gs owner
FindsInside (Err f) s gs owner =
    IsInsideFault f (inside_found s (around_of s gs owner) (actor_given s gs owner)) (λ g. IsCycleOf g s gs owner)

-- nothing is broken inside but that something isn't constant, or another rule
abbrev pub SiftsAll : Result (Unit {0}) Front → Source → List Given → Spot → Type 0
SiftsAll r s gs owner =
    SiftsInside r (inside_found s (around_of s gs owner) (actor_given s gs owner)) (λ g. IsCycleOf g s gs owner)

-- ---- what is inside an actor of these parts

-- these are the parts of the actor that a source is, without what it doesn't use
pub record AreBareParts
    (bare : BareActor) (held : Vec BoundVar Global) (header : Header) (routines : Routines)
    (scope : Resolved) (names : Names) (gs : List Given) (owner : Spot)
    : Type 0 where
  pub kept : AreKept bare held header routines (source_in scope)
  pub parts : ArePartsIn header routines names (source_in scope) gs owner
  pub values : (all_valued (source_in scope) gs owner).held ≡ map var_view held.items

-- the actor, if its functions and procedures break nothing
abbrev pub FindsKept : Result Bound Front → BareActor → Resolved → Names → Type 0
FindsKept r bare scope names = (held : Vec BoundVar Global) (header : Header)
    (routines : Routines) (gs : List Given) (owner : Spot)
    → AreBareParts bare held header routines scope names gs owner
    → routines_found (source_in scope) (map proc_view routines.procs) names ≡ []
    → FindsInside r (source_in scope) gs owner

-- nothing is broken but that something isn't constant, or another rule
abbrev pub SiftsParts : Result (Unit {0}) Front → BareActor → Resolved → Names → Type 0
SiftsParts r bare scope names = (held : Vec BoundVar Global) (header : Header)
    (routines : Routines) (gs : List Given) (owner : Spot)
    → AreBareParts bare held header routines scope names gs owner
    → SiftsAll r (source_in scope) gs owner

-- what is said of a fault that names a rule which is broken there
abbrev pub TellsFault : (fault told : Front) → BareActor → Resolved → Names → Type 0
TellsFault fault told bare scope names = (held : Vec BoundVar Global) (header : Header)
    (routines : Routines) (gs : List Given) (owner : Spot)
    → AreBareParts bare held header routines scope names gs owner
    → IsCause fault (inside_found (source_in scope) (around_of (source_in scope) gs owner)
    (actor_given (source_in scope) gs owner))
    → FindsInside (Err told) (source_in scope) gs owner
