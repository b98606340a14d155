-- The words of the contracts of calls that lower guards.
-- Trusted: part of what a promise means.
use Rattle.std.specs.Prelude.{◌≡◌, ℕ, ◌-◌, ◌≤◌, List, [], ◌∷◌, ◌++◌, length, map, Option, None, Some, slice_get}
use Rattle.cal_ast.specs.declared.expr.Expr.{Expr}
use Rattle.cal_ast.specs.Tree.{Tree}
use Rattle.cal_ast.specs.View.{expr_tree}
use Rattle.cal_model.specs.declared.bound.Bound.{Bound}
use Rattle.cal_model.specs.Actor.{Action, Actor}
use Rattle.cal_model.specs.View.{actor_of}
use Rattle.code_ir.specs.declared.instr.Instr.{Instr}
use Rattle.code_ir.specs.declared.instr.Instr.TheVariants as op
use Rattle.code_ir.specs.Code.{Code}
use Rattle.lower_base.specs.declared.callees.Callee.{Callee}
use Rattle.lower_base.specs.declared.draft.Draft.{Draft}
use Rattle.lower_base.specs.declared.fault.LowerFault.{LowerFault}
use Rattle.lower_base.specs.declared.names.Named.{Named}
use Rattle.lower_base.specs.Callees.{Function, functions_view}
use Rattle.lower_base.specs.Growing.{IsFault, left_out_in, ◌or_else◌}
use Rattle.lower_base.specs.Lowered.{Adds}
use Rattle.lower_base.specs.Names.{Name, names_view}
use Rattle.action_lower.specs.Guarding.{AnswerAs, AreGuards, IsGuardCode}
use Rattle.action_lower.specs.Seats.{seen_seats, state_cells}

-- the place of the first part of guards for which no code is made
abbrev pub left_out_guards : List Function → List Name → List Tree → Option ℕ
left_out_guards fs names [] = None
left_out_guards fs names (g ∷ guards) =
    left_out_in fs names g or_else left_out_guards fs names guards

-- .. of the guards of an action
abbrev pub left_out_action : List Function → Actor → ℕ → Option ℕ
left_out_action fs actor a = elim (slice_get actor.actions a)
    [ None ↦ None | Some act ↦ left_out_guards fs (seen_seats actor act) act.guards ]

-- the code of a guard was added to a draft, and begins at its entry
abbrev pub AddsGuard : Option ℕ → List Function → List Name → Tree → ℕ → Draft → Draft → Type 0
AddsGuard clears fs names g entry old new = (entry ≡ length old.instrs.items)
    × Adds (IsGuardCode clears fs names g) old new

-- the code of an action's guards was added to a draft, with these entries
abbrev pub AddsGuards : Option ℕ → List Function → Actor → ℕ → List ℕ → Draft → Draft → Type 0
AddsGuards clears fs actor a entries old new = (act : Action)
    → slice_get actor.actions a ≡ Some act
    → Adds (AreGuards clears fs (seen_seats actor act) act.guards entries) old new

-- cells are cleared behind the state cells, if they are
abbrev pub ClearsBehind : Actor → Option ℕ → Type 0
ClearsBehind actor clears = (kept : ℕ) → clears ≡ Some kept → kept ≡ state_cells actor

-- .. and there are so many cells
abbrev pub ClearsWithin : Draft → Option ℕ → Type 0
ClearsWithin draft clears = (kept : ℕ) → clears ≡ Some kept → kept ≤ draft.cells

-- the instruction at a place clears all cells from kept on, up to a number of cells
abbrev pub SetsZero : List Instr → List Instr → ℕ → ℕ → ℕ → Type 0
SetsZero old new place kept cells = (before rest : List Instr) (i : Instr) → old ≡ before ++ i ∷ rest
    → place ≡ length before → new ≡ before ++ op.Zero kept (cells - kept) ∷ rest

-- whatever is written behind the draft, the code at these entries answers as the guards of the action
abbrev pub AnswerAsGuards : List Function → Actor → ℕ → List ℕ → Draft → Draft → Type 0
AnswerAsGuards fs actor a entries old new = (act : Action) (code : Code) (more : List Instr)
    → slice_get actor.actions a ≡ Some act → code.instrs ≡ new.instrs.items ++ more
    → AnswerAs actor a act fs code old.cells new.cells entries

-- ---- over names, functions and guards as the code has them

-- the code of a guard was added, which begins at its entry
abbrev pub AddsGuardOver : Option ℕ → List Callee → List Named → Expr → ℕ → Draft → Draft → Type 0
AddsGuardOver clears callees names guard entry old new =
    AddsGuard clears (functions_view callees) (names_view names) (expr_tree guard) entry old new

-- .. wherever it begins
abbrev pub AddsGuardCode : Option ℕ → List Callee → List Named → Expr → Draft → Draft → Type 0
AddsGuardCode clears callees names guard old new =
    Adds (IsGuardCode clears (functions_view callees) (names_view names) (expr_tree guard)) old new

-- .. of guards, with these entries
abbrev pub AddsGuardsOver : Option ℕ → List Callee → List Named → List Expr → List ℕ → Draft → Draft → Type 0
AddsGuardsOver clears callees names guards entries old new =
    Adds (AreGuards clears (functions_view callees) (names_view names) (map expr_tree guards)
    entries) old new

-- no part of them is left out
abbrev pub AreWholeGuards : List Callee → List Named → List Expr → Type 0
AreWholeGuards callees names guards =
    left_out_guards (functions_view callees) (names_view names) (map expr_tree guards) ≡ None

-- why they aren't lowered
abbrev pub IsGuardsFault : List Callee → List Named → List Expr → Draft → LowerFault → Type 0
IsGuardsFault callees names guards draft fault =
    IsFault (left_out_guards (functions_view callees) (names_view names) (map expr_tree guards))
    draft fault

-- .. the guards of an action
abbrev pub IsWholeAction : List Callee → Bound → ℕ → Type 0
IsWholeAction callees b a = left_out_action (functions_view callees) (actor_of b) a ≡ None

abbrev pub IsActionFault : List Callee → Bound → ℕ → Draft → LowerFault → Type 0
IsActionFault callees b a draft fault =
    IsFault (left_out_action (functions_view callees) (actor_of b) a) draft fault
