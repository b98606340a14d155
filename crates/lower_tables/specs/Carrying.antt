-- Lowered actors with the tables of an actor, and what else they need in order to behave as it does.
-- Trusted: part of what a promise means.
use Rattle.std.specs.Prelude.{◌≡◌, ℕ, true, false, ℤ, List, [], ◌∷◌, length, take, Option, None, Some, slice_get}
use Rattle.rvc_base.specs.Storing.{InRange}
use Rattle.rvc_base.specs.Lawful.{tokens_on}
use Rattle.rvc_base.specs.Turns.{max_turns}
use Rattle.cal_ast.specs.Tree.{Tree}
use Rattle.code_ir.specs.declared.outcome.Outcome.{Outcome}
use Rattle.code_ir.specs.declared.outcome.Outcome.TheVariants as outcome
use Rattle.code_ir.specs.Running.{runs}
use Rattle.cal_model.specs.Value.{Value, Num, Truth, Items}
use Rattle.cal_model.specs.Env.{Env, Var}
use Rattle.cal_model.specs.Expression.{Calls, eval}
use Rattle.cal_model.specs.Outcome.{Out, Gives, Traps, Lacks, Clashes}
use Rattle.cal_model.specs.Actor.{Action, Actor}
use Rattle.cal_model.specs.ActorState.{IsActorState, AreTokensOf}
use Rattle.cal_model.specs.Call.{calls_of}
use Rattle.cal_model.specs.Eligible.{eligible, start_state}
use Rattle.cal_model.specs.Selection.{State, Guards, AreTrue, AreFalse, AreTrapping, IsEnabled, guards_say, has_its_tokens, kind_of_port, seen_by, start_of}
use Rattle.cal_model.specs.Firing.{Fired, body}
use Rattle.cal_model.specs.Sound.{scalars_of_vars}
use Rattle.lowered_actor.specs.Actor as coded
use Rattle.lowered_actor.specs.Laws.{AreCellsOf}
use Rattle.lowered_actor.specs.Meaning as lowered
use Rattle.lower_tables.specs.Tables.{IsSchedule, IsPriority, AreRatesOf, saved_from}

-- the lowered actor has the tables of the actor
pub record HasTables (actor : Actor) (l : coded.Actor) : Type 0 where
  pub schedule : IsSchedule actor l.fsm
  pub start : l.start ≡ start_state actor
  pub priority : IsPriority actor l.order
  pub actions : length l.actions ≡ length actor.actions
  pub rates : (a : ℕ) (action : coded.Action) → slice_get l.actions a ≡ Some action
      → AreRatesOf actor a action.needs action.gives
  pub kept : l.kept ≡ scalars_of_vars actor.vars
  pub saved : l.saved ≡ saved_from 0 actor.vars
  pub ins : l.ins ≡ length actor.ins
  pub outs : l.outs ≡ length actor.outs

-- ---- states and tokens

-- A state of the lowered actor stands for one of the actor: it is in the same state of the schedule, and its cells hold
-- the numbers of the variables.
pub record StandsFor (actor : Actor) (numbers : List Var → List ℤ) (x : lowered.ActorState) (y : State) : Type 0 where
  pub state : IsActorState actor y
  pub at : x.at ≡ y.at
  pub cells : x.cells ≡ numbers y.vars

-- there are as many numbers as state cells, and at first these hold those of the start
pub record HoldsNumbers (actor : Actor) (numbers : List Var → List ℤ) (l : coded.Actor) : Type 0 where
  pub count : (y : State) → IsActorState actor y → length (numbers y.vars) ≡ l.kept
  pub first : take l.kept l.first ≡ numbers (start_of actor).vars

-- the tokens that may come before a port: those of its type
abbrev pub MayCome : Actor → ℕ → ℤ → Type 0
MayCome actor port v = InRange (kind_of_port actor.ins port) v

-- an action that is eligible in a state and has its tokens there, and the same action as code
pub record IsReady (actor : Actor) (l : coded.Actor) (y : State) (u : List (List ℤ)) (a : ℕ)
    (act : Action) (action : coded.Action) : Type 0 where
  pub tokens : AreTokensOf actor u
  pub there : slice_get actor.actions a ≡ Some act
  pub coded_there : slice_get l.actions a ≡ Some action
  pub may_fire : eligible actor y.at a ≡ true
  pub has : has_its_tokens actor u a ≡ true

-- ---- guards

-- the guards of an action as code and those of the action say the same
abbrev pub GuardsAgree : lowered.Guards → Guards → Type 0
GuardsAgree lowered.AreTrue AreTrue = Unit {0}
GuardsAgree lowered.AreFalse AreFalse = Unit {0}
GuardsAgree (lowered.AreTrapping cause) (AreTrapping other) = cause ≡ other
GuardsAgree said others = ⊥

-- .. so it is for each action, in each state and over all tokens
abbrev pub GuardsAreAlike : Actor → (List Var → List ℤ) → coded.Actor → Type 0
GuardsAreAlike actor numbers l =
    (x : lowered.ActorState) (y : State) (u : List (List ℤ)) (a : ℕ) (act : Action)
    (action : coded.Action) → StandsFor actor numbers x y → IsReady actor l y u a act action
    → GuardsAgree
    (lowered.guards_say l.code (lowered.cells_of l x) (lowered.taken l (tokens_on u) a)
    action.guards)
    (guards_say act.guards (calls_of actor.funs) (seen_by actor y u act))

-- ---- bodies

-- The run of an action's firing ended as its locals, its body and its outputs do: it is done, and leaves the numbers of
-- the variables in the state cells and the tokens to send in theirs; or it traps by the same cause.
abbrev pub BodiesAgree : (List Var → List ℤ) → coded.Actor → coded.Action → Option lowered.End
    → Out Fired → Type 0
BodiesAgree numbers l action None out = ⊥
BodiesAgree numbers l action (Some end) (Gives fired left) =
    (end.outcome ≡ outcome.Done) × (take l.kept end.cells ≡ numbers fired.state.vars)
    × (lowered.sent_from action end.cells 0 l.outs ≡ fired.sent)
BodiesAgree numbers l action (Some end) (Traps cause) = end.outcome ≡ outcome.Trap cause
BodiesAgree numbers l action (Some end) Lacks = ⊥
BodiesAgree numbers l action (Some end) Clashes = ⊥

-- .. so it is for each action that is enabled, in each state and over all tokens
abbrev pub BodiesAreAlike : Actor → (List Var → List ℤ) → coded.Actor → Type 0
BodiesAreAlike actor numbers l =
    (x : lowered.ActorState) (y : State) (u : List (List ℤ)) (a : ℕ) (act : Action)
    (action : coded.Action) → StandsFor actor numbers x y → IsReady actor l y u a act action
    → IsEnabled actor y u a
    → BodiesAgree numbers l action
    (lowered.end_of l.code action.fire (lowered.cells_of l x) (lowered.taken l (tokens_on u) a))
    (body actor y u a)

-- ---- the same, said of runs

-- so a run of a guard ends if this is what the guard comes to: a guard is a truth value, or traps
abbrev pub IsSaid : Out Value → Outcome → Type 0
IsSaid (Gives (Truth true) left) o = o ≡ outcome.True
IsSaid (Gives (Truth false) left) o = o ≡ outcome.False
IsSaid (Gives (Num z) left) o = ⊥
IsSaid (Gives (Items vs) left) o = ⊥
IsSaid (Traps cause) o = o ≡ outcome.Trap cause
IsSaid Lacks o = ⊥
IsSaid Clashes o = ⊥

-- a run of a guard's code, from cells of a state and over these tokens, ends as the guard says
pub record GuardRuns (l : coded.Actor) (x : lowered.ActorState) (tokens : ℕ → List ℤ) (entry : ℕ)
    (says : Out Value) : Type 0 where
  pub cells : List ℤ
  pub are : AreCellsOf l x cells
  pub o : Outcome
  pub left : List ℤ
  pub ends : runs l.code entry cells tokens o left
  pub said : IsSaid says o

-- guard by guard
abbrev pub GuardsRun : coded.Actor → lowered.ActorState → (ℕ → List ℤ) → Calls → Env → List Tree
    → List ℕ → Type 0
GuardsRun l x tokens calls env [] [] = Unit {0}
GuardsRun l x tokens calls env (g ∷ guards) (entry ∷ entries) =
    GuardRuns l x tokens entry (eval g calls env max_turns)
    × GuardsRun l x tokens calls env guards entries
GuardsRun l x tokens calls env guards entries = ⊥

-- .. so it is for each action, in each state and over all tokens
abbrev pub GuardsRunAlike : Actor → (List Var → List ℤ) → coded.Actor → Type 0
GuardsRunAlike actor numbers l =
    (x : lowered.ActorState) (y : State) (u : List (List ℤ)) (a : ℕ) (act : Action)
    (action : coded.Action) → StandsFor actor numbers x y → IsReady actor l y u a act action
    → GuardsRun l x (lowered.taken l (tokens_on u) a) (calls_of actor.funs) (seen_by actor y u act)
    act.guards action.guards

-- a run of a firing's code, from cells of a state and over these tokens, ends as locals, body and outputs do
pub record BodyRuns (numbers : List Var → List ℤ) (l : coded.Actor) (x : lowered.ActorState)
    (tokens : ℕ → List ℤ) (action : coded.Action) (out : Out Fired) : Type 0 where
  pub cells : List ℤ
  pub are : AreCellsOf l x cells
  pub o : Outcome
  pub left : List ℤ
  pub ends : runs l.code action.fire cells tokens o left
  pub agrees : BodiesAgree numbers l action (Some (record { outcome = o; cells = left })) out

-- .. so it is for each action that is enabled, in each state and over all tokens
abbrev pub BodiesRunAlike : Actor → (List Var → List ℤ) → coded.Actor → Type 0
BodiesRunAlike actor numbers l =
    (x : lowered.ActorState) (y : State) (u : List (List ℤ)) (a : ℕ) (act : Action)
    (action : coded.Action) → StandsFor actor numbers x y → IsReady actor l y u a act action
    → IsEnabled actor y u a
    → BodyRuns numbers l x (lowered.taken l (tokens_on u) a) action (body actor y u a)
