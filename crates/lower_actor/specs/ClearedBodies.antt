-- Code of guards and firings that begins by clearing the cells behind the state cells, in a draft.
-- Not trusted: no promise is read with it.
use Rattle.std.specs.Prelude.{◌≡◌, ℕ, ◌+◌, ◌<◌, ◌≤◌, Bool, true, false, ◌&&◌, ◌||◌, if◌then◌else◌, List, [], ◌∷◌, ◌++◌, length, nat_le, nat_lt, Some, slice_get}
use Rattle.cal_model.specs.Actor.{Action, Actor}
use Rattle.cal_model.specs.Rates.{given_on}
use Rattle.code_ir.specs.declared.instr.Instr.{Instr}
use Rattle.code_ir.specs.declared.instr.Instr.TheVariants as op
use Rattle.code_ir.specs.declared.instr.Routine.{Routine}
use Rattle.code_ir.specs.Code.{Code}
use Rattle.code_ir.specs.Typing.{CallsSmaller, NamesCells, target}
use Rattle.lower_base.specs.declared.draft.Draft.{Draft}
use Rattle.lower_base.specs.Allowing.{Allowed, AreAllowed}
use Rattle.lower_base.specs.Callees.{Function}
use Rattle.lower_base.specs.Fitting.{IsInner}
use Rattle.lower_base.specs.Placed.{StandsAt}
use Rattle.lowered_actor.specs.declared.parts.ActionCode.{ActionCode}
use Rattle.lowered_actor.specs.declared.parts.StateCell.{StateCell}
use Rattle.lowered_actor.specs.Actor.{number_on}
use Rattle.lowered_actor.specs.Straight.{is_saved}
use Rattle.action_lower.specs.FiringCode.{first_on}
use Rattle.action_lower.specs.Seats.{state_cells}
use Rattle.lower_tables.specs.Tables.{needs_of, saved_from}
use Rattle.lower_actor.specs.Coded.{AreSends}
use Rattle.lower_actor.specs.Drafted.{GoesOn}

-- ---- what may be written and read

-- a guard may write the cells behind so many state cells, and a firing also those that are saved; both may read so many
-- tokens of each port
abbrev pub bounds_at : ℕ → List StateCell → List ℕ → Bool → Allowed
bounds_at kept saved needs firing = record {
  cells = λ c. nat_le kept c || (firing && is_saved saved c);
  tokens = λ p k. nat_lt k (number_on needs p);
}

-- .. of an action of an actor
abbrev pub bounds_of : Actor → ℕ → Bool → Allowed
bounds_of actor a firing =
    bounds_at (state_cells actor) (saved_from 0 actor.vars) (needs_of actor a) firing

-- a firing may call all routines, and a guard those of functions, which are the first ones
abbrev pub callable_in : Code → List Function → Bool → ℕ
callable_in whole fs firing = if firing then length whole.routines else length fs

-- The instructions of a routine, up to its return, write and read only what is allowed.
pub record IsAllowedAt (a : Allowed) (whole : Code) (r : ℕ) : Type 0 where
  pub routine : Routine
  pub there : slice_get whole.routines r ≡ Some routine
  pub body : List Instr
  pub stands : StandsAt whole.instrs routine.start (body ++ op.Return ∷ [])
  pub allowed : AreAllowed a body

-- ---- bodies

-- An instruction of a body doesn't end it, names no cell from a limit on, jumps only inside the body or to its last
-- instruction, and calls only routines before one.
pub record StaysIn (limit callable begin end : ℕ) (i : Instr) : Type 0 where
  pub cells : NamesCells limit i
  pub calls : CallsSmaller callable i
  pub inner : IsInner i
  pub inside : (t : ℕ) → target i ≡ Some t → (begin ≤ t) × (t ≤ end)

-- .. so it is with each of these, which stand from a place on
abbrev pub StayIn : (limit callable begin : ℕ) → List Instr → Type 0
StayIn limit callable begin code = (j : ℕ) (i : Instr) → slice_get code j ≡ Some i
    → StaysIn limit callable begin (begin + length code) i

-- At an entry stands an instruction that clears the cells from the state cells up to a limit, and others behind it, up
-- to the last one. They name no cell from the limit on, and write and read only what a guard, or a firing, may.
pub record IsClearedBody (whole : Code) (bounds : Allowed) (callable kept entry limit : ℕ) (last : Instr) : Type 0 where
  pub count : ℕ
  pub rest : List Instr
  pub limit_is : limit ≡ kept + count
  pub stands : StandsAt whole.instrs entry ((op.Zero kept count ∷ rest) ++ last ∷ [])
  pub stay : StayIn limit callable entry (op.Zero kept count ∷ rest)
  pub allowed : AreAllowed bounds rest

-- .. whatever is written behind a draft; and the limit is not below one
pub record ClearedFrom (actor : Actor) (a : ℕ) (fs : List Function) (firing : Bool)
    (low entry limit : ℕ) (last : Instr) (draft : Draft) : Type 0 where
  pub below : low ≤ limit
  pub body : (whole : Code) (more : List Instr) → GoesOn draft whole more
      → IsClearedBody whole (bounds_of actor a firing) (callable_in whole fs firing)
      (state_cells actor) entry limit last

-- guards of an action begin so, each with a limit of its own
abbrev pub ClearedGuards : Actor → ℕ → List Function → ℕ → List ℕ → Draft → Type 0
ClearedGuards actor a fs low entries draft = (k entry : ℕ) → slice_get entries k ≡ Some entry
    → (limit : ℕ) × ClearedFrom actor a fs false low entry limit op.Answer draft

-- .. a firing of it, and what it sends stands in cells below the limit
pub record ClearedFiring (actor : Actor) (a : ℕ) (fs : List Function) (low entry : ℕ)
    (firsts : List ℕ) (draft : Draft) : Type 0 where
  pub limit : ℕ
  pub from : ClearedFrom actor a fs true low entry limit op.Done draft
  pub sends : (act : Action) (port : ℕ) → slice_get actor.actions a ≡ Some act
      → first_on act.outputs firsts port + given_on port act.outputs ≤ limit

-- .. the guards and the firing of an action
pub record ClearedAction (actor : Actor) (a : ℕ) (fs : List Function) (low : ℕ) (coded : ActionCode)
    (draft : Draft) : Type 0 where
  pub guards : ClearedGuards actor a fs low coded.guards.items draft
  pub firsts : List ℕ
  pub firing : ClearedFiring actor a fs low coded.fire firsts draft
  pub sends : AreSends actor a firsts coded.sends.items

-- .. if that is wanted
abbrev pub ClearsAction : Bool → Actor → ℕ → List Function → ℕ → ActionCode → Draft → Type 0
ClearsAction clear actor a fs low coded draft = clear ≡ true
    → ClearedAction actor a fs low coded draft

abbrev pub ClearsActions : Bool → Actor → List Function → ℕ → List ActionCode → Draft → Type 0
ClearsActions clear actor fs low actions draft = (a : ℕ) (coded : ActionCode)
    → slice_get actions a ≡ Some coded → ClearsAction clear actor a fs low coded draft

-- The instructions of a routine stay in it, up to a return: they name no cell from a limit on, and call only routines
-- before it.
pub record IsRoutineBody (whole : Code) (limit r : ℕ) : Type 0 where
  pub routine : Routine
  pub there : slice_get whole.routines r ≡ Some routine
  pub rest : List Instr
  pub stands : StandsAt whole.instrs routine.start (rest ++ op.Return ∷ [])
  pub stay : StayIn limit r routine.start rest

-- .. those of all routines of a draft
abbrev pub AreRoutineBodies : Draft → ℕ → Type 0
AreRoutineBodies draft limit = (whole : Code) (more : List Instr) → GoesOn draft whole more
    → (r : ℕ) → r < length whole.routines → IsRoutineBody whole limit r
