-- The words of the contracts of calls that lower outputs.
-- Trusted: part of what a promise means.
use Rattle.std.specs.Prelude.{◌≡◌, ℕ, ◌+◌, ◌*◌, ◌<◌, ◌≤◌, ◌^◌, ◌⊎◌, List, [], ◌∷◌, map, length, Option, None, Some}
use Rattle.rvc_base.specs.declared.scalar.Scalar.{Scalar}
use Rattle.cal_ast.specs.declared.expr.Expr.{Expr}
use Rattle.cal_ast.specs.Tree.{Tree, listed}
use Rattle.cal_ast.specs.View.{expr_tree}
use Rattle.cal_model.specs.declared.bound.BoundOutput.{BoundOutput}
use Rattle.cal_model.specs.Actor.{Output, Port}
use Rattle.cal_model.specs.Sound.{max_rate}
use Rattle.cal_model.specs.Value.{Shape}
use Rattle.lower_base.specs.declared.draft.Draft.{Draft}
use Rattle.lower_base.specs.declared.fault.LowerFault.{LowerFault}
use Rattle.lower_base.specs.declared.fault.LowerFault.TheVariants.{Memory, NotLowered, TooLong, TooManyCells}
use Rattle.lower_base.specs.Callees.{Function}
use Rattle.lower_base.specs.Growing.{left_out_in, ◌or_else◌}
use Rattle.lower_base.specs.Lowered.{Adds}
use Rattle.lower_base.specs.Names.{Name}
use Rattle.lower_base.specs.Parted.{sized}
use Rattle.expr_lower.specs.LeftOut.{left_out_fills}
use Rattle.lower_stmt.specs.Procedures.{Procedure}
use Rattle.action_lower.specs.declared.turns.Area.{Area}
use Rattle.action_lower.specs.Sending.{AreOutputs, IsListOutput, IsOutputCode, IsRepeated, IsSentList, SendsAs, items_of_any}

-- ---- what is left out

-- the place of the first part of values for which no code is made
abbrev pub left_out_values : List Function → List Name → List Tree → Option ℕ
left_out_values fs names [] = None
left_out_values fs names (e ∷ es) = left_out_in fs names e or_else left_out_values fs names es

-- .. of a repeated output, whose values are lists
abbrev pub left_out_repeated : List Function → List Name → ℕ → List Expr → Option ℕ
left_out_repeated fs names times es =
    left_out_fills fs names (items_of_any times) (listed (map expr_tree es))

-- .. of an output
abbrev pub left_out_output : List Function → List Name → BoundOutput → Option ℕ
left_out_output fs names o = elim o.repeat [
  | None ↦ left_out_values fs names (map expr_tree o.values.items)
  | Some times ↦ left_out_repeated fs names times o.values.items
]

-- .. of outputs
abbrev pub left_out_outputs : List Function → List Name → List BoundOutput → Option ℕ
left_out_outputs fs names [] = None
left_out_outputs fs names (o ∷ others) = left_out_output fs names o or_else left_out_outputs fs names others

-- ---- what a call does

-- the code of an output was added to a draft, with this first cell
abbrev pub AddsOutput : List Function → List Name → List Port → Output → ℕ → Draft → Draft → Type 0
AddsOutput fs names ports o first old new = (first ≡ old.cells)
    × (Adds (IsOutputCode fs names ports o) old new ⊎ Adds (IsListOutput fs names ports o) old new)

-- .. of a list that is sent, and of lists that are sent in turn
abbrev pub AddsSentList : List Function → List Name → Tree → Shape → Scalar → ℕ → Draft → Draft → Type 0
AddsSentList fs names e t kind first old new = (first ≡ old.cells)
    × Adds (IsSentList fs names e t kind) old new

abbrev pub AddsRepeated : List Function → List Name → Scalar → ℕ → List Tree → ℕ → Draft → Draft → Type 0
AddsRepeated fs names kind times es first old new = (first ≡ old.cells)
    × Adds (IsRepeated fs names kind times es) old new

-- code was added to a draft that sends what outputs send, with the first cell of each
abbrev pub AddsOutputs : List Function → List Name → List Port → List Output → List ℕ → Draft → Draft → Type 0
AddsOutputs fs names ports outs firsts old new = Adds (AreOutputs fs names ports outs firsts) old new

-- .. whatever procedures there are
abbrev pub AddsSent : List Function → List Name → List Port → List Output → List ℕ → Draft → Draft → Type 0
AddsSent fs names ports outs firsts old new = (ps : List Procedure)
    → Adds (SendsAs (record { functions = fs; procedures = ps }) names ports outs firsts) old new

-- so many cells were added to a draft, and nothing else changed
pub record HasTaken (count first : ℕ) (old new : Draft) : Type 0 where
  pub is : first ≡ old.cells
  pub instrs : new.instrs.items ≡ old.instrs.items
  pub routines : new.routines.items ≡ old.routines.items
  pub cells : new.cells ≡ old.cells + count

-- why outputs aren't lowered: the place is that of the first part that is left out, and the draft has too many
-- instructions for a jump to name their places, or too many cells for those of one output more
abbrev pub IsSendFault : Option ℕ → Draft → LowerFault → Type 0
IsSendFault left draft Memory = Unit {0}
IsSendFault left draft TooLong = 2 ^ 32 ≤ length draft.instrs.items
IsSendFault left draft TooManyCells = 2 ^ 32 ≤ draft.cells + max_rate
IsSendFault left draft (NotLowered at) = left ≡ Some at

-- ---- cells of lists

-- cells for what lists of a type send, and behind them as many for the lists, from a cell on
pub record IsArea (first count : ℕ) (t : Shape) (a : Area) : Type 0 where
  pub tokens : a.tokens ≡ first
  pub lists : a.lists ≡ count
  pub each : sized t ≡ Some a.each
  pub rows : a.rows ≡ first + count * a.each
  pub end : a.end ≡ first + count * a.each + count * a.each
  pub less : a.end < 2 ^ 32

-- .. were taken, and nothing else changed
pub record HasArea (count : ℕ) (t : Shape) (old new : Draft) (a : Area) : Type 0 where
  pub is : IsArea old.cells count t a
  pub instrs : new.instrs.items ≡ old.instrs.items
  pub routines : new.routines.items ≡ old.routines.items
  pub cells : new.cells ≡ a.end
