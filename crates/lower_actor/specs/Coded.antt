-- Actions whose code stands in a draft.
-- Not trusted: no promise is read with it.
use Rattle.std.specs.Prelude.{◌≡◌, ℕ, ◌+◌, ◌≤◌, ℤ, true, List, [], ◌∷◌, ◌++◌, length, map, Some, slice_get}
use Rattle.std.specs.List.{range_with_len}
use Rattle.cal_model.specs.Actor.{Action, Actor}
use Rattle.cal_model.specs.ActorState.{IsActorState, AreTokensOf}
use Rattle.cal_model.specs.Eligible.{eligible}
use Rattle.cal_model.specs.Rates.{given_on}
use Rattle.cal_model.specs.Selection.{State, has_its_tokens}
use Rattle.code_ir.specs.declared.instr.Instr.{Instr}
use Rattle.code_ir.specs.Code.{Code}
use Rattle.lower_base.specs.declared.draft.Draft.{Draft}
use Rattle.lowered_actor.specs.declared.parts.ActionCode.{ActionCode}
use Rattle.lowered_actor.specs.declared.parts.Parts.{Parts}
use Rattle.lowered_actor.specs.Actor as coded
use Rattle.lowered_actor.specs.Facts.{IsLowered}
use Rattle.action_lower.specs.declared.firing.Firing.{Firing}
use Rattle.action_lower.specs.FiringCode.{Fires, first_on}
use Rattle.action_lower.specs.Guarding.{AreGuardsOf}
use Rattle.action_lower.specs.Seats.{HoldVars}
use Rattle.lower_tables.specs.Tables.{AreRatesOf}
use Rattle.lower_actor.specs.Drafted.{GoesOn, starts}
use Rattle.lower_actor.specs.Fitting.{AreBodies}

-- a draft begins with all that there was before, has the same routines, and has as many cells or more
pub record IsMore (old new : Draft) : Type 0 where
  pub code : List Instr
  pub is : new.instrs.items ≡ old.instrs.items ++ code
  pub routines : new.routines.items ≡ old.routines.items
  pub cells : old.cells ≤ new.cells

-- Whatever instructions are written behind the draft, a run from this entry does what the firing of an action does: in each state of
-- the actor in which it is eligible, whose variables the state cells hold, over tokens of its ports.
abbrev pub FiresFrom : Actor → ℕ → ℕ → List ℕ → Draft → Type 0
FiresFrom actor a entry firsts draft =
    (act : Action) (whole : Code) (more : List Instr) (x : State) (u : List (List ℤ))
    (cells : List ℤ)
    → slice_get actor.actions a ≡ Some act → GoesOn draft whole more
    → draft.cells ≤ length cells
    → IsActorState actor x → AreTokensOf actor u → eligible actor x.at a ≡ true
    → has_its_tokens actor u a ≡ true → HoldVars actor x cells
    → Fires actor a act firsts whole entry x u cells

-- .. and runs from these entries answer as the guards of the action: in each such state, over tokens of its ports
abbrev pub AnswersFrom : Actor → ℕ → List ℕ → Draft → Type 0
AnswersFrom actor a entries draft =
    (act : Action) (whole : Code) (more : List Instr) (x : State) (u : List (List ℤ))
    (cells : List ℤ)
    → slice_get actor.actions a ≡ Some act → GoesOn draft whole more
    → draft.cells ≤ length cells
    → IsActorState actor x → AreTokensOf actor u → has_its_tokens actor u a ≡ true
    → HoldVars actor x cells → AreGuardsOf actor a act whole x u cells act.guards entries

-- the cells of what an action sends to each port are there
abbrev pub SendsInside : Actor → ℕ → List ℕ → Draft → Type 0
SendsInside actor a firsts draft = (act : Action) (port : ℕ) → slice_get actor.actions a ≡ Some act
    → first_on act.outputs firsts port + given_on port act.outputs ≤ draft.cells

-- for each output port the first cell of what an action sends there
abbrev pub AreSends : Actor → ℕ → List ℕ → List ℕ → Type 0
AreSends actor a firsts sends = (act : Action) → slice_get actor.actions a ≡ Some act
    → sends ≡ map (first_on act.outputs firsts) (range_with_len 0 (length actor.outs))

-- an action as code has the rates of the action, and its code stands in the draft
pub record IsCodedAction (actor : Actor) (a : ℕ) (coded : ActionCode) (draft : Draft) : Type 0 where
  pub rates : AreRatesOf actor a coded.needs.items coded.gives.items
  pub guards : AnswersFrom actor a coded.guards.items draft
  pub firsts : List ℕ
  pub fires : FiresFrom actor a coded.fire firsts draft
  pub sends : AreSends actor a firsts coded.sends.items
  pub inside : SendsInside actor a firsts draft

-- .. so it is with the first n actions
pub record AreCodedActions (actor : Actor) (n : ℕ) (actions : List ActionCode) (draft : Draft) : Type 0 where
  pub count : length actions ≡ n
  pub each : (a : ℕ) (coded : ActionCode) → slice_get actions a ≡ Some coded
      → IsCodedAction actor a coded draft

-- code has the instructions, the routines and the cells of a draft
pub record IsCodeOf (draft : Draft) (code : Code) : Type 0 where
  pub instrs : code.instrs ≡ draft.instrs.items
  pub routines : code.routines ≡ draft.routines.items
  pub cells : code.cells ≡ draft.cells

-- a lowered actor is that of these parts, and keeps the facts
pub record IsMadeOf (parts : Parts) (l : coded.Actor) : Type 0 where
  pub same : l ≡ coded.actor_of parts
  pub facts : IsLowered l

-- ---- bodies

-- the entries of an action, in the order in which its bodies stand
abbrev pub entries_of : ActionCode → List ℕ
entries_of coded = coded.guards.items ++ coded.fire ∷ []

abbrev pub all_entries : List ActionCode → List ℕ
all_entries [] = []
all_entries (coded ∷ actions) = entries_of coded ++ all_entries actions

-- Bodies with these entries were added to a draft: whatever is written behind, if bodies stand there, these stand before
-- them. The bodies of routines stand before all of them.
abbrev pub AddsBodies : List ℕ → Draft → Draft → Type 0
AddsBodies entries old new = (whole : Code) (more : List Instr) (number : ℕ) (rest : List ℕ)
    → GoesOn new whole more → new.cells ≤ whole.cells → length whole.routines ≤ number
    → AreBodies whole (length new.instrs.items) (number + length entries) rest
    → AreBodies whole (length old.instrs.items) number (entries ++ rest)

-- Code of a firing of an action was added to a draft: it fires from its entry, is one body, and leaves what it sends in
-- cells that are there.
pub record PutsFiring (actor : Actor) (a : ℕ) (f : Firing) (old new : Draft) : Type 0 where
  pub fires : FiresFrom actor a f.entry f.firsts.items new
  pub bodies : AddsBodies (f.entry ∷ []) old new
  pub inside : SendsInside actor a f.firsts.items new

-- the code of a draft is that of its routines and of the bodies of these actions
abbrev pub AreBodiesOf : List ActionCode → Draft → Type 0
AreBodiesOf actions draft = (whole : Code) → whole.instrs ≡ draft.instrs.items
    → whole.routines ≡ draft.routines.items → whole.cells ≡ draft.cells
    → AreBodies whole 0 0 (starts draft ++ all_entries actions)
