-- What calls that put an actor together answer.
-- Trusted but for `heads_of`, `AreFine`, `FindsActions`, `FindsActionsOr`, `IsFineOrder`, `FindsOrder` and `whole_view`:
-- part of what a promise means.
use Rattle.std.specs.Prelude.{◌≡◌, ◌≤◌, ◌⊎◌, ℕ, Bool, false, true, List, [], ◌++◌, length, map, nat_le, Some, Vec, string_bytes}
use Rattle.std.specs.declared.alloc.Global.{Global}
use Rattle.std.specs.declared.result.Result.{Result}
use Rattle.std.specs.declared.result.Result.TheVariants.{Ok, Err}
use Rattle.rvc_base.specs.Chain.{IsAbove}
use Rattle.rvc_base.specs.Rules.{priority_cycle, too_many_actions}
use Rattle.cal_ast.specs.Tree.{Tree}
use Rattle.cal_model.specs.Actor.{Action, Actor}
use Rattle.cal_model.specs.Kinding.{Names}
use Rattle.cal_model.specs.Sound.{max_actions, max_states}
use Rattle.cal_model.specs.View.{fun_view, move_view, proc_view, var_view}
use Rattle.cal_model.specs.declared.bound.BoundAction.{BoundAction}
use Rattle.const_env.specs.declared.fault.KindFault.{KindFault}
use Rattle.const_env.specs.declared.fault.KindFault.TheVariants as fault
use Rattle.cal_check.specs.Violations.{Violation, all_fine, said, unless}
use Rattle.cal_check.specs.Variables.{Given, Spot}
use Rattle.cal_check.specs.Actions.{Around, or_none}
use Rattle.cal_check.specs.Schedules.{first_priority, moves_in, pairs_in, priorities_broken, schedule_broken, schedule_in, states_of}
use Rattle.cal_check.specs.Actors.{Source, actions_broken, actions_in, actions_of, all_funs, all_valued, around_of, funs_of, initialized_twice, kept_funs, kept_vars}
use Rattle.check_member.specs.Asking.{port_views}
use Rattle.check_member.specs.Parts.{action_views}
use Rattle.check_stmt.specs.Judging.{Refuses, is_passed}
use Rattle.check_build_actor.specs.declared.ordering.ActorOrder.{ActorOrder}
use Rattle.check_build_actor.specs.declared.whole.BareActor.{BareActor}

-- ---- what orders actions

-- an actor of these members, with these actions
pub record HasActions (actor : Actor) (acts : List Action) (members : Tree) : Type 0 where
  pub actions : actor.actions ≡ acts
  pub states : actor.states ≡ states_of (schedule_in members)

-- the states of an actor of these members, where its schedule leads, and which action is above which
pub record IsOrderOf (order : ActorOrder) (members : Tree) (actor : Actor) : Type 0 where
  pub states : map string_bytes order.states.items ≡ states_of (schedule_in members)
  pub moves : map move_view order.moves.items ≡ moves_in (schedule_in members) actor
  pub pairs : order.pairs.items ≡ pairs_in members actor

-- what the schedule and the priorities break, and too many states
abbrev pub order_broken : Tree → Actor → ℕ → List Violation
order_broken members actor at =
    schedule_broken (schedule_in members) actor
    ++ (priorities_broken members actor.actions
    ++ unless (nat_le (length actor.states) max_states) too_many_actions at)

-- an action is above itself, and the rule is that of cycles, at the first word `priority`
abbrev pub IsCycle : KindFault → Tree → Actor → Type 0
IsCycle (fault.Broken rule at) members actor =
    (rule ≡ priority_cycle) × (first_priority members ≡ Some at)
    × ((a : ℕ) × IsAbove (pairs_in members actor) a a)
IsCycle fault.Memory members actor = Unit {0}

-- ---- the whole

-- what the actions of an actor of these parts see, over these names
abbrev pub around_bare : BareActor → Names → Around
around_bare bare names = record {
  ins = port_views bare.ins.items;
  outs = port_views bare.outs.items;
  procs = map proc_view bare.procs;
  names = names;
}

-- these are the parts of the actor that a source is, but for its actions and what orders these
pub record ArePartsOf
    (bare : BareActor) (decl : Tree) (names : Names) (s : Source) (gs : List Given) (owner : Spot)
    : Type 0 where
  pub actor : s.actor ≡ decl
  pub class : s.class ≡ string_bytes bare.class
  pub around : around_of s gs owner ≡ around_bare bare names
  pub vars : kept_vars (all_valued s gs owner).held s ≡ map var_view bare.vars.items
  pub funs : kept_funs (or_none (all_fine (funs_of (all_funs s) names))) s
      ≡ map fun_view bare.funs.items

-- what actions break, more of them than one `initialize`, and too many
abbrev pub acts_broken : Tree → Around → ℕ → List Violation
acts_broken members around at =
    actions_broken (actions_in members) around
    ++ (initialized_twice false (actions_in members)
    ++ unless (nat_le (length (actions_in members)) max_actions) too_many_actions at)

-- all of this: what is inside an actor, but for its variables, its functions and its procedures
abbrev pub members_broken : Tree → Around → Actor → ℕ → List Violation
members_broken members around actor at =
    acts_broken members around at ++ order_broken members actor at

-- one of these rules is broken, or an action is above itself; running out of memory says nothing
abbrev pub BreaksMembers : KindFault → Tree → Around → Actor → ℕ → Type 0
BreaksMembers f members around actor at =
    Refuses f (members_broken members around actor at) ⊎ IsCycle f members actor

-- what is left of it where what isn't constant is passed over, or a rule that is said in any case
abbrev pub FindsOthers : Result (Unit {0}) KindFault → Tree → Around → Actor → ℕ → Type 0
FindsOthers (Ok u) members around actor at =
    said true (members_broken members around actor at) ≡ []
FindsOthers (Err f) members around actor at =
    Refuses f (said true (members_broken members around actor at)) ⊎ IsCycle f members actor

-- A rule that is broken, or an action above itself. It is said in any case, or nothing is broken but that something isn't
-- constant.
abbrev pub IsMembersFault : KindFault → Tree → Around → Actor → ℕ → Type 0
IsMembersFault f members around actor at = BreaksMembers f members around actor at
    × ((is_passed true f ≡ false) ⊎ (said true (members_broken members around actor at) ≡ []))

-- what the schedule and the priorities of an actor break, or an action is above itself
abbrev pub FindsOrderOf : Result (Unit {0}) KindFault → Tree → Actor → ℕ → Type 0
FindsOrderOf (Ok u) members actor at = order_broken members actor at ≡ []
FindsOrderOf (Err f) members actor at =
    Refuses f (order_broken members actor at) ⊎ IsCycle f members actor

-- what schedules and priorities see of actions: tags, and which are an `initialize`
abbrev pub heads_of : List Action → List (List (List ℕ) × Bool)
heads_of acts = map (λ a. (a.tag, a.initialize)) acts

-- ---- steps

-- actions that break no rule, or a rule that is broken
pub record AreFine (found : List BoundAction) (members : Tree) (around : Around) (at : ℕ)
    : Type 0 where
  pub is : action_views found ≡ actions_of (actions_in members) around
  pub few : length found ≤ max_actions
  pub fine : acts_broken members around at ≡ []

abbrev pub FindsActions : Result (Vec BoundAction Global) KindFault → Tree → Around → ℕ → Type 0
FindsActions (Ok found) members around at = AreFine found.items members around at
FindsActions (Err f) members around at = Refuses f (acts_broken members around at)

-- the same, with what is said if they break one
abbrev pub FindsActionsOr : Result (Vec BoundAction Global) KindFault → Tree → Around → ℕ → Type 0
FindsActionsOr (Ok found) members around at = AreFine found.items members around at
FindsActionsOr (Err f) members around at = (actor : Actor)
    → HasActions actor (actions_of (actions_in members) around) members
    → IsMembersFault f members around actor at

-- what orders these actions, or a rule that is broken
pub record IsFineOrder (order : ActorOrder) (acts : List Action) (members : Tree) (at : ℕ)
    : Type 0 where
  pub is : (actor : Actor) → HasActions actor acts members → IsOrderOf order members actor
  pub fine : (actor : Actor) → HasActions actor acts members → order_broken members actor at ≡ []
  pub without_cycle : (a : ℕ) → ¬ IsAbove order.pairs.items a a

abbrev pub FindsOrder : Result ActorOrder KindFault → List Action → Tree → ℕ → Type 0
FindsOrder (Ok order) acts members at = IsFineOrder order acts members at
FindsOrder (Err f) acts members at = (actor : Actor) → HasActions actor acts members
    → Refuses f (order_broken members actor at) ⊎ IsCycle f members actor

-- an actor of its parts, its actions and what orders these
abbrev pub whole_view : BareActor → List BoundAction → ActorOrder → Actor
whole_view bare acts order = record {
  class = string_bytes bare.class;
  ins = port_views bare.ins.items;
  outs = port_views bare.outs.items;
  vars = map var_view bare.vars.items;
  funs = map fun_view bare.funs.items;
  procs = map proc_view bare.procs;
  actions = action_views acts;
  states = map string_bytes order.states.items;
  moves = map move_view order.moves.items;
  pairs = map (λ p. (p.0, p.1)) order.pairs.items;
}
