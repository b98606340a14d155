-- Code of a firing of an action, and what it does.
-- Trusted: part of what a promise means.
use Rattle.std.specs.Prelude.{◌≡◌, ℕ, ◌+◌, ◌≤◌, ◌==◌, ℤ, true, List, [], ◌∷◌, ◌++◌, length, if◌then◌else◌, Some, slice_get}
use Rattle.cal_model.specs.Actor.{Action, Actor, Output, Port}
use Rattle.cal_model.specs.ActorState.{IsActorState, AreTokensOf}
use Rattle.cal_model.specs.Call.{calls_of}
use Rattle.cal_model.specs.Eligible.{eligible}
use Rattle.cal_model.specs.Firing.{Fired, body}
use Rattle.cal_model.specs.Outcome.{Out, Gives, Traps, Lacks, Clashes}
use Rattle.cal_model.specs.Selection.{State, has_its_tokens}
use Rattle.cal_model.specs.Statement.{runs_of}
use Rattle.code_ir.specs.declared.instr.Instr.{Instr}
use Rattle.code_ir.specs.declared.instr.Instr.TheVariants as op
use Rattle.code_ir.specs.declared.outcome.Outcome.{Outcome}
use Rattle.code_ir.specs.declared.outcome.Outcome.TheVariants as outcome
use Rattle.code_ir.specs.Code.{Code}
use Rattle.code_ir.specs.Running.{runs}
use Rattle.lower_base.specs.Calling.{Serves}
use Rattle.lower_base.specs.Names.{Name}
use Rattle.lower_base.specs.Placed.{StandsAt, World}
use Rattle.lower_base.specs.Routining.{world_of}
use Rattle.lower_stmt.specs.Acting.{ServesRuns}
use Rattle.lower_stmt.specs.Bodies.{IsExecutedCalling}
use Rattle.lower_stmt.specs.Procedures.{Routines}
use Rattle.action_lower.specs.LocalCode.{AreStarted}
use Rattle.action_lower.specs.Seats.{HoldVars, state_cells, taken, var_seats}
use Rattle.action_lower.specs.Sending.{AreOutputs, StandFrom}

-- ---- code

-- Code of a firing: that of the locals, of the body, which sees them, and of the outputs, which see what the body left;
-- and then the run is done.
pub record IsFiringCode (rs : Routines) (names : List Name) (ports : List Port) (act : Action)
    (firsts : List ℕ) (base n : ℕ) (code : List Instr) (m : ℕ) : Type 0 where
  pub behind : List Name
  pub a : List Instr
  pub b : List Instr
  pub c : List Instr
  pub k : ℕ
  pub j : ℕ
  pub is : code ≡ a ++ (b ++ (c ++ op.Done ∷ []))
  pub locals : AreStarted rs.functions names act.locals behind base n a k
  pub body : IsExecutedCalling rs behind act.body (base + length a) k b j
  pub outputs : AreOutputs rs.functions behind ports act.outputs firsts
      (base + length a + length b) j c m

-- ---- what it does

-- the first cell of what an action sends to a port, and 0 if it sends nothing there
abbrev pub first_on : List Output → List ℕ → ℕ → ℕ
first_on (o ∷ outs) (first ∷ firsts) port =
    if o.port == port then first else first_on outs firsts port
first_on outs firsts port = 0

-- the tokens for each port stand in cells, from the first on
abbrev pub HoldSent : List Output → List ℕ → List (List ℤ) → List ℤ → Type 0
HoldSent outs firsts sent cells = (port : ℕ) (us : List ℤ) → slice_get sent port ≡ Some us
    → StandFrom (first_on outs firsts port) us cells

-- How a run of a firing's code ends: if the action fires, it is done, with the state cells holding the variables of the
-- state that the firing leaves, and with the tokens that it sends in their cells; if it traps, by the same trap.
abbrev pub EndsAsFiring : Actor → Action → List ℕ → Out Fired → Outcome → List ℤ → Type 0
EndsAsFiring actor act firsts (Gives fired left) o last = (o ≡ outcome.Done)
    × HoldVars actor fired.state last × HoldSent act.outputs firsts fired.sent last
EndsAsFiring actor act firsts (Traps c) o last = o ≡ outcome.Trap c
EndsAsFiring actor act firsts Lacks o last = ⊥
EndsAsFiring actor act firsts Clashes o last = ⊥

-- A run from an entry, over the tokens that the action takes, ends as the locals, the body and the outputs of the action
-- do, and in no other way.
pub record Fires (actor : Actor) (a : ℕ) (act : Action) (firsts : List ℕ) (whole : Code) (entry : ℕ)
    (x : State) (u : List (List ℤ)) (cells : List ℤ) : Type 0 where
  pub outcome : Outcome
  pub last : List ℤ
  pub ends : runs whole entry cells (taken actor u a) outcome last
  pub as_body : EndsAsFiring actor act firsts (body actor x u a) outcome last
  pub only : (o : Outcome) (left : List ℤ) → runs whole entry cells (taken actor u a) o left
      → (o ≡ outcome) × (left ≡ last)

-- what is round the code of an action: all the code, the tokens that the action takes, and the routines' cells
abbrev pub round : Actor → ℕ → List (List ℤ) → Code → ℕ → ℕ → World
round actor a u whole low high = world_of whole (taken actor u a) (calls_of actor.funs) low high

-- the variables of an actor, as names
abbrev pub globals_of : Actor → List Name
globals_of actor = var_seats 0 actor.vars

-- code has routines of functions and procedures that do what those of the actor do
pub record HasRoutinesOf (actor : Actor) (a : ℕ) (rs : Routines) (whole : Code) (low high : ℕ)
    (u : List (List ℤ)) : Type 0 where
  pub functions : Serves (round actor a u whole low high) (globals_of actor) rs.functions
  pub procedures :
      ServesRuns (round actor a u whole low high) (runs_of actor.procs (calls_of actor.funs))
      (globals_of actor) rs.procedures

-- The instructions do what a firing of an action does, wherever they stand in code that has the routines, whose cells lie
-- behind the state cells and before those of the instructions: in each state of the actor in which the action is
-- eligible, whose variables the state cells hold, over tokens of its ports.
abbrev pub FiresAs : Actor → ℕ → Action → Routines → List ℕ → ℕ → ℕ → List Instr → ℕ → Type 0
FiresAs actor a act rs firsts base n code m =
    (whole : Code) (low high : ℕ) (x : State) (u : List (List ℤ)) (cells : List ℤ)
    → StandsAt whole.instrs base code → HasRoutinesOf actor a rs whole low high u
    → state_cells actor ≤ low → low ≤ high → high ≤ n → m ≤ length cells
    → IsActorState actor x → AreTokensOf actor u → eligible actor x.at a ≡ true
    → has_its_tokens actor u a ≡ true → HoldVars actor x cells
    → Fires actor a act firsts whole base x u cells
