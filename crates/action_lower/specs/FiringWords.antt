-- The words of the contracts of calls that lower firings.
-- Trusted: part of what a promise means.
use Rattle.std.specs.Prelude.{◌≡◌, ℕ, ◌+◌, List, [], ◌∷◌, ◌++◌, length, map, Option, None, Some, slice_get}
use Rattle.cal_model.specs.declared.bound.Bound.{Bound}
use Rattle.cal_model.specs.declared.bound.BoundAction.{BoundAction}
use Rattle.cal_model.specs.declared.bound.Port.{Port as BoundPort}
use Rattle.cal_model.specs.Actor.{Action, Actor, Local, Port}
use Rattle.cal_model.specs.View.{action_view, actor_of, local_view, port_view}
use Rattle.code_ir.specs.declared.instr.Instr.{Instr}
use Rattle.code_ir.specs.declared.instr.Instr.TheVariants as op
use Rattle.lower_base.specs.declared.callees.Callee.{Callee}
use Rattle.lower_base.specs.declared.draft.Draft.{Draft}
use Rattle.lower_base.specs.declared.fault.LowerFault.{LowerFault}
use Rattle.lower_base.specs.declared.names.Named.{Named}
use Rattle.lower_base.specs.Growing.{◌or_else◌}
use Rattle.lower_base.specs.Lowered.{Adds}
use Rattle.lower_base.specs.Names.{Name, names_view}
use Rattle.lower_stmt.specs.Bodies.{IsExecutedCalling}
use Rattle.lower_stmt.specs.ListStarting.{local_of}
use Rattle.lower_stmt.specs.declared.callees.ProcCallee.{ProcCallee}
use Rattle.lower_stmt.specs.Procedures.{Routines, routines_of}
use Rattle.lower_stmt.specs.StmtGrowing.{left_out_all}
use Rattle.lower_stmt.specs.StmtWords.{body_of}
use Rattle.action_lower.specs.FiringCode.{FiresAs, IsFiringCode}
use Rattle.action_lower.specs.LocalCode.{left_out_locals}
use Rattle.action_lower.specs.Seats.{seen_seats}
use Rattle.action_lower.specs.SendWords.{IsSendFault, left_out_outputs}
use Rattle.action_lower.specs.Sending.{AreOutputs}
use Rattle.action_lower.specs.declared.firing.Firing.{Firing}

-- ---- what is left out

-- the names that are seen behind locals; which cells they have doesn't matter here
abbrev pub behind_locals : List Name → List Local → List Name
behind_locals names [] = names
behind_locals names (x ∷ xs) = behind_locals (local_of x.name x.shape 0 ∷ names) xs

-- the place of the first part of the body and of the outputs for which no code is made
abbrev pub left_out_behind : Routines → List Name → BoundAction → Option ℕ
left_out_behind rs names act = left_out_all rs names (body_of act.body.items)
    or_else left_out_outputs rs.functions names act.outputs.items

-- .. of the locals, and of what is behind them
abbrev pub left_out_firing : Routines → List Name → BoundAction → Option ℕ
left_out_firing rs names act =
    left_out_locals rs.functions names (map local_view act.locals.items)
    or_else left_out_behind rs (behind_locals names (map local_view act.locals.items)) act

-- .. of the action at a place
abbrev pub left_out_of : Routines → Bound → ℕ → Option ℕ
left_out_of rs b a = elim (slice_get b.actions.items a) [
  | None ↦ None
  | Some act ↦ left_out_firing rs (seen_seats (actor_of b) (action_view act)) act
]

-- ---- what a call does

-- code of a body and of outputs over names, and the end
pub record IsBehindCode (rs : Routines) (names : List Name) (ports : List Port) (act : Action)
    (firsts : List ℕ) (base n : ℕ) (code : List Instr) (m : ℕ) : Type 0 where
  pub b : List Instr
  pub c : List Instr
  pub j : ℕ
  pub is : code ≡ b ++ (c ++ op.Done ∷ [])
  pub body : IsExecutedCalling rs names act.body base n b j
  pub outputs : AreOutputs rs.functions names ports act.outputs firsts (base + length b) j c m

-- the code of a firing of an action was added to a draft, from an entry on, with the first cell of each output
abbrev pub AddsFiring : Routines → Actor → ℕ → ℕ → List ℕ → Draft → Draft → Type 0
AddsFiring rs actor a entry firsts old new = (entry ≡ length old.instrs.items)
    × ((act : Action) → slice_get actor.actions a ≡ Some act
    → Adds (IsFiringCode rs (seen_seats actor act) actor.outs act firsts) old new)

-- .. code was added that does what the firing does
abbrev pub AddsFired : Routines → Actor → ℕ → List ℕ → Draft → Draft → Type 0
AddsFired rs actor a firsts old new = (act : Action) → slice_get actor.actions a ≡ Some act
    → Adds (FiresAs actor a act rs firsts) old new

-- ---- over names, routines and actions as the code has them

abbrev pub AddsFiringOver : List Callee → List ProcCallee → Bound → ℕ → Firing → Draft → Draft → Type 0
AddsFiringOver callees procedures b a f old new =
    AddsFiring (routines_of callees procedures) (actor_of b) a f.entry f.firsts.items old new

abbrev pub AddsFiredOver : List Callee → List ProcCallee → Bound → ℕ → Firing → Draft → Draft → Type 0
AddsFiredOver callees procedures b a f old new =
    AddsFired (routines_of callees procedures) (actor_of b) a f.firsts.items old new

-- why the firing of an action isn't lowered
abbrev pub IsFiringFaultAt : List Callee → List ProcCallee → Bound → ℕ → Draft → LowerFault → Type 0
IsFiringFaultAt callees procedures b a draft fault =
    IsSendFault (left_out_of (routines_of callees procedures) b a) draft fault

-- code of a firing was added, over the names that its patterns and the actor's variables have
abbrev pub AddsFiringCode : List Callee → List ProcCallee → List Named → List BoundPort
    → BoundAction → List ℕ → Draft → Draft → Type 0
AddsFiringCode callees procedures names ports act firsts old new =
    Adds (IsFiringCode (routines_of callees procedures) (names_view names) (map port_view ports)
    (action_view act) firsts) old new

-- no part of it is left out
abbrev pub IsWholeFiring : List Callee → List ProcCallee → List Named → BoundAction → Type 0
IsWholeFiring callees procedures names act =
    left_out_firing (routines_of callees procedures) (names_view names) act ≡ None

-- why it isn't lowered
abbrev pub IsFiringFault : List Callee → List ProcCallee → List Named → BoundAction → Draft → LowerFault → Type 0
IsFiringFault callees procedures names act draft fault =
    IsSendFault (left_out_firing (routines_of callees procedures) (names_view names) act) draft
    fault

-- .. and the same of what is behind the locals
abbrev pub AddsBehind : List Callee → List ProcCallee → List Named → List BoundPort → BoundAction
    → List ℕ → Draft → Draft → Type 0
AddsBehind callees procedures names ports act firsts old new =
    Adds (IsBehindCode (routines_of callees procedures) (names_view names) (map port_view ports)
    (action_view act) firsts) old new

abbrev pub IsWholeBehind : List Callee → List ProcCallee → List Named → BoundAction → Type 0
IsWholeBehind callees procedures names act =
    left_out_behind (routines_of callees procedures) (names_view names) act ≡ None

abbrev pub IsBehindFault : List Callee → List ProcCallee → List Named → BoundAction → Draft → LowerFault → Type 0
IsBehindFault callees procedures names act draft fault =
    IsSendFault (left_out_behind (routines_of callees procedures) (names_view names) act) draft
    fault
