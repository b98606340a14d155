-- Bodies that clear the cells behind the state cells before anything else. Then nothing depends on what these held, and
-- whether a body keeps the facts of guards and firings can be seen from each of its instructions alone.
-- Trusted: part of what a promise means.
use Rattle.std.specs.Prelude.{◌≡◌, ℕ, suc, ◌+◌, ◌<◌, ◌≤◌, Bool, true, false, if◌then◌else◌, List, [], ◌∷◌, Some, All, drop, slice_get}
use Rattle.code_ir.specs.declared.instr.Instr.{Instr}
use Rattle.code_ir.specs.declared.instr.Instr.TheVariants as op
use Rattle.code_ir.specs.declared.instr.Routine.{Routine}
use Rattle.code_ir.specs.Typing.{goes_on, target}
use Rattle.lowered_actor.specs.Actor.{Action, Actor, number_on}
use Rattle.lower_scratch.specs.declared.body.Last.{Last}
use Rattle.lower_scratch.specs.declared.body.Last.TheVariants as last
use Rattle.lower_scratch.specs.Fitting.{MayStand, last_of}
use Rattle.lower_scratch.specs.Rows.{called, reads}

-- ---- where a body ends

-- it ends a guard, a firing or a routine
abbrev pub ends_body : Instr → Bool
ends_body op.Answer = true
ends_body op.Done = true
ends_body op.Return = true
ends_body instr = false

-- so many instructions, up to the first that ends a body
abbrev pub body_size : List Instr → ℕ
body_size [] = 0
body_size (i ∷ is) = if ends_body i then 1 else suc (body_size is)

-- the place behind the body that begins at a place
abbrev pub stop_of : List Instr → ℕ → ℕ
stop_of instrs begin = begin + body_size (drop begin instrs)

-- ---- one instruction

-- An instruction stands at a place of a body: it writes only where that is allowed, reads no token behind those that are
-- taken and no cell but those below a limit, ends the body as it must or stays in it, and calls a routine that may be
-- called.
pub record Stands (actor : Actor) (limit : ℕ) (firing : Bool) (needs : List ℕ) (end : Last)
    (callable begin stop p : ℕ) (instr : Instr) : Type 0 where
  pub may : MayStand actor firing needs end instr
  pub reads : (c : ℕ) → reads instr c ≡ true → c < limit
  pub next : goes_on instr ≡ true → p + 1 < stop
  pub jump : (t : ℕ) → target instr ≡ Some t → (begin ≤ t) × (t < stop)
  pub calls : (r : ℕ) → called instr ≡ Some r → r < callable

-- .. whatever stands there
abbrev pub StandsAt : Actor → ℕ → Bool → List ℕ → Last → (callable begin stop p : ℕ) → Type 0
StandsAt actor limit firing needs end callable begin stop p = (instr : Instr)
    → slice_get actor.code.instrs p ≡ Some instr
    → Stands actor limit firing needs end callable begin stop p instr

-- .. so it is from a place up to another one
abbrev pub StandUpTo : Actor → ℕ → Bool → List ℕ → Last → (callable begin stop to : ℕ) → Type 0
StandUpTo actor limit firing needs end callable begin stop to = (p : ℕ) → begin ≤ p → p < to
    → StandsAt actor limit firing needs end callable begin stop p

-- ---- whole bodies

-- the instructions of a body stand: one that is part of a firing or of a guard, takes so many tokens from each port, ends
-- so, and calls routines whose numbers are below one
pub record BodyStands (actor : Actor) (limit : ℕ) (firing : Bool) (needs : List ℕ) (end : Last)
    (callable begin : ℕ) : Type 0 where
  pub some : begin < stop_of actor.code.instrs begin
  pub each : StandUpTo actor limit firing needs end callable begin (stop_of actor.code.instrs begin)
      (stop_of actor.code.instrs begin)

-- .. the body of a routine, which takes no tokens and calls only those with smaller numbers
pub record RoutineStands (actor : Actor) (limit : ℕ) (firing : Bool) (r : ℕ) : Type 0 where
  pub routine : Routine
  pub there : slice_get actor.code.routines r ≡ Some routine
  pub body : BodyStands actor limit firing [] last.Return r routine.start

-- .. and so do those of the routines before a number
abbrev pub RoutinesStand : Actor → ℕ → Bool → ℕ → Type 0
RoutinesStand actor limit firing callable = (r : ℕ) → r < callable
    → RoutineStands actor limit firing r

-- the first instruction of a body clears all cells from the state cells up to a limit
pub record Clears (actor : Actor) (entry limit : ℕ) : Type 0 where
  pub count : ℕ
  pub there : slice_get actor.code.instrs entry ≡ Some (op.Zero actor.kept count)
  pub up_to : limit ≡ actor.kept + count

-- A guard or a firing clears the cells behind the state cells up to a limit, its instructions stand, and so do those of
-- the routines that it may call.
pub record EntryStands (actor : Actor) (firing : Bool) (needs : List ℕ) (entry limit : ℕ) : Type 0 where
  pub clears : Clears actor entry limit
  pub callable : ℕ
  pub routines : RoutinesStand actor limit firing callable
  pub body : BodyStands actor limit firing needs (last_of firing) callable entry

-- a guard does, up to some limit
pub record GuardStands (actor : Actor) (action : Action) (entry : ℕ) : Type 0 where
  pub limit : ℕ
  pub stands : EntryStands actor false action.needs entry limit

-- the cells of the tokens to send are among those below a limit
abbrev pub SendsBelow : Actor → Action → ℕ → Type 0
SendsBelow actor action limit = (port k : ℕ) → port < actor.outs
    → k < number_on action.gives port → number_on action.sends port + k < limit

-- a firing does, and the tokens to send are in those cells or in state cells
pub record FiringStands (actor : Actor) (action : Action) : Type 0 where
  pub limit : ℕ
  pub stands : EntryStands actor true action.needs action.fire limit
  pub sends : SendsBelow actor action limit

pub record ActionStands (actor : Actor) (action : Action) : Type 0 where
  pub guards : All (GuardStands actor action) action.guards
  pub firing : FiringStands actor action

-- all guards and firings do
abbrev pub AllStand : Actor → Type 0
AllStand actor = All (ActionStands actor) actor.actions
