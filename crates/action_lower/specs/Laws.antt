-- What holds of all actions, as statements.
-- Trusted: part of what a promise means.
use Rattle.std.specs.Prelude.{◌≡◌, ℕ, ◌+◌, ◌≤◌, true, ℤ, List, length, Some, slice_get}
use Rattle.rvc_base.specs.Storing.{IsSize}
use Rattle.cal_model.specs.Actor.{Action, Actor, Local, Output, Port}
use Rattle.cal_model.specs.ActorState.{IsActorState, AreTokensOf}
use Rattle.cal_model.specs.Selection.{State, has_its_tokens, kind_of_port, seen_by}
use Rattle.cal_model.specs.Sound.{IsSound}
use Rattle.code_ir.specs.declared.instr.Instr.{Instr}
use Rattle.code_ir.specs.Code.{Code}
use Rattle.lower_base.specs.Fitting.{Fits}
use Rattle.lower_base.specs.Held.{AreBelow, Holds}
use Rattle.lower_base.specs.Names.{Name}
use Rattle.lower_base.specs.Placed.{StandsAt}
use Rattle.lower_base.specs.Routining.{LocalsSized}
use Rattle.lower_stmt.specs.Calls.{HasRunRoutines}
use Rattle.lower_stmt.specs.Procedures.{Routines}
use Rattle.action_lower.specs.FiringCode.{FiresAs, IsFiringCode}
use Rattle.action_lower.specs.LocalCode.{AreStarted, StartsAs}
use Rattle.action_lower.specs.Sending.{AreOutputs, SendsAs}
use Rattle.action_lower.specs.Seats.{HoldVars, seen_seats, taken}

-- In each state of an actor, whose variables the state cells hold, and over tokens of its ports, the state cells and
-- the tokens that an action takes hold what each name means that its guards see.
abbrev pub SeenIsHeld : Type 0
SeenIsHeld = (actor : Actor) (x : State) (u : List (List ℤ)) (a : ℕ) (act : Action) (cells : List ℤ)
    → IsSound actor → slice_get actor.actions a ≡ Some act
    → IsActorState actor x → AreTokensOf actor u → has_its_tokens actor u a ≡ true
    → HoldVars actor x cells
    → Holds (seen_seats actor act) (taken actor u a) cells (seen_by actor x u act)

-- Code of outputs does what the outputs do.
abbrev pub OutputsAreSent : Type 0
OutputsAreSent = (rs : Routines) (names : List Name) (ports : List Port) (outs : List Output) (firsts : List ℕ)
    (base n m : ℕ) (code : List Instr)
    → AreOutputs rs.functions names ports outs firsts base n code m
    → SendsAs rs names ports outs firsts base n code m

-- Code of locals does what declaring them does.
abbrev pub LocalsAreStarted : Type 0
LocalsAreStarted = (rs : Routines) (names : List Name) (locals : List Local) (behind : List Name)
    (base n m : ℕ) (code : List Instr)
    → AreStarted rs.functions names locals behind base n code m
    → StartsAs rs names locals behind base n m code

-- Code of a firing does what the locals, the body and the outputs of the action do, in each state of a sound actor in
-- which the action is eligible, over tokens of its ports.
abbrev pub FiringsAreFired : Type 0
FiringsAreFired = (actor : Actor) (a : ℕ) (act : Action) (rs : Routines) (firsts : List ℕ)
    (base n m : ℕ) (code : List Instr) → IsSound actor → slice_get actor.actions a ≡ Some act
    → IsFiringCode rs (seen_seats actor act) actor.outs act firsts base n code m
    → FiresAs actor a act rs firsts base n code m

-- Code of locals fits where it stands, in code that has the routines: it needs no operand, and leaves none.
abbrev pub LocalsFit : Type 0
LocalsFit = (whole : Code) (callable limit : ℕ) (rs : Routines) (names : List Name)
    (locals : List Local) (behind : List Name) (base n m : ℕ) (code : List Instr)
    → HasRunRoutines whole callable limit rs → LocalsSized locals → AreBelow n names → m ≤ limit
    → StandsAt whole.instrs base code
    → AreStarted rs.functions names locals behind base n code m
    → Fits whole callable limit base 0 code 0 (base + length code) 0

-- .. and so does code of outputs to ports whose types have sizes that are allowed
abbrev pub OutputsFit : Type 0
OutputsFit = (whole : Code) (callable limit : ℕ) (rs : Routines) (names : List Name)
    (ports : List Port) (outs : List Output) (firsts : List ℕ) (base n m : ℕ) (code : List Instr)
    → HasRunRoutines whole callable limit rs → ((port : ℕ) → IsSize (kind_of_port ports port))
    → AreBelow n names → m ≤ limit → StandsAt whole.instrs base code
    → AreOutputs rs.functions names ports outs firsts base n code m
    → Fits whole callable limit base 0 code 0 (base + length code) 0
