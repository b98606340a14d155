-- The words of the contracts of calls that lower outputs, over names, functions and outputs as the code has them.
-- Trusted: part of what a promise means.
use Rattle.std.specs.Prelude.{◌≡◌, ℕ, List, map, None}
use Rattle.rvc_base.specs.declared.scalar.Scalar.{Scalar}
use Rattle.cal_ast.specs.declared.expr.Expr.{Expr}
use Rattle.cal_ast.specs.View.{expr_tree}
use Rattle.cal_model.specs.declared.bound.Port.{Port}
use Rattle.cal_model.specs.declared.bound.BoundOutput.{BoundOutput}
use Rattle.cal_model.specs.declared.kind.Shape.{Shape}
use Rattle.cal_model.specs.View.{output_view, port_view, shape_view}
use Rattle.lower_base.specs.declared.callees.Callee.{Callee}
use Rattle.lower_base.specs.declared.draft.Draft.{Draft}
use Rattle.lower_base.specs.declared.fault.LowerFault.{LowerFault}
use Rattle.lower_base.specs.declared.names.Named.{Named}
use Rattle.lower_base.specs.Callees.{functions_view}
use Rattle.lower_base.specs.Growing.{IsFault}
use Rattle.lower_base.specs.Lowered.{Adds}
use Rattle.lower_base.specs.Names.{names_view}
use Rattle.lower_base.specs.PartView.{places_of}
use Rattle.expr_lower.specs.LeftOut.{left_out_fill, left_out_fills}
use Rattle.action_lower.specs.Sending.{AreStored, IsStored}
use Rattle.action_lower.specs.SendWords.{AddsOutput, AddsOutputs, AddsRepeated, AddsSent, AddsSentList, IsSendFault}
use Rattle.action_lower.specs.SendWords.{left_out_output, left_out_outputs, left_out_repeated, left_out_values}

-- ---- outputs

-- code of outputs was added to a draft, with the first cell of each
abbrev pub AddsOutputsOver : List Callee → List Named → List Port → List BoundOutput → List ℕ → Draft → Draft → Type 0
AddsOutputsOver callees names ports outputs firsts old new =
    AddsOutputs (functions_view callees) (names_view names) (map port_view ports)
    (map output_view outputs) firsts old new

-- .. that sends what they send
abbrev pub AddsSentOver : List Callee → List Named → List Port → List BoundOutput → List ℕ → Draft → Draft → Type 0
AddsSentOver callees names ports outputs firsts old new =
    AddsSent (functions_view callees) (names_view names) (map port_view ports)
    (map output_view outputs) firsts old new

-- no part of them is left out
abbrev pub AreWholeOutputs : List Callee → List Named → List BoundOutput → Type 0
AreWholeOutputs callees names outputs =
    left_out_outputs (functions_view callees) (names_view names) outputs ≡ None

-- why they aren't lowered
abbrev pub IsOutputsFault : List Callee → List Named → List BoundOutput → Draft → LowerFault → Type 0
IsOutputsFault callees names outputs draft fault =
    IsSendFault (left_out_outputs (functions_view callees) (names_view names) outputs) draft fault

-- .. and the same of one output
abbrev pub AddsOutputOver : List Callee → List Named → List Port → BoundOutput → ℕ → Draft → Draft → Type 0
AddsOutputOver callees names ports output first old new =
    AddsOutput (functions_view callees) (names_view names) (map port_view ports)
    (output_view output) first old new

abbrev pub IsWholeOutput : List Callee → List Named → BoundOutput → Type 0
IsWholeOutput callees names output =
    left_out_output (functions_view callees) (names_view names) output ≡ None

abbrev pub IsOutputFault : List Callee → List Named → BoundOutput → Draft → LowerFault → Type 0
IsOutputFault callees names output draft fault =
    IsSendFault (left_out_output (functions_view callees) (names_view names) output) draft fault

-- ---- the values of one

-- of lists that are sent so many items each
abbrev pub AreWholeRepeated : List Callee → List Named → ℕ → List Expr → Type 0
AreWholeRepeated callees names times values =
    left_out_repeated (functions_view callees) (names_view names) times values ≡ None

abbrev pub IsRepeatedFault : List Callee → List Named → ℕ → List Expr → Draft → LowerFault → Type 0
IsRepeatedFault callees names times values draft fault =
    IsSendFault (left_out_repeated (functions_view callees) (names_view names) times values) draft
    fault

-- .. that take turns
abbrev pub AddsListsOver : List Callee → List Named → Scalar → ℕ → List Expr → ℕ → Draft → Draft → Type 0
AddsListsOver callees names kind times values first old new =
    AddsRepeated (functions_view callees) (names_view names) kind times (map expr_tree values)
    first old new

abbrev pub AreWholeLists : List Callee → List Named → Shape → List Expr → Type 0
AreWholeLists callees names shape values =
    left_out_fills (functions_view callees) (names_view names) (shape_view shape)
    (places_of values) ≡ None

abbrev pub IsListsFault : List Callee → List Named → Shape → List Expr → Draft → LowerFault → Type 0
IsListsFault callees names shape values draft fault =
    IsFault (left_out_fills (functions_view callees) (names_view names) (shape_view shape)
    (places_of values)) draft fault

-- .. of one list
abbrev pub AddsListOver : List Callee → List Named → Expr → Shape → Scalar → ℕ → Draft → Draft → Type 0
AddsListOver callees names value shape kind first old new =
    AddsSentList (functions_view callees) (names_view names) (expr_tree value) (shape_view shape)
    kind first old new

abbrev pub IsWholeList : List Callee → List Named → Shape → Expr → Type 0
IsWholeList callees names shape value =
    left_out_fill (functions_view callees) (names_view names) (shape_view shape) (expr_tree value)
    ≡ None

abbrev pub IsListFault : List Callee → List Named → Shape → Expr → Draft → LowerFault → Type 0
IsListFault callees names shape value draft fault =
    IsFault (left_out_fill (functions_view callees) (names_view names) (shape_view shape)
    (expr_tree value)) draft fault

-- .. of single values, each of which goes into the next cell
abbrev pub AddsValuesOver : List Callee → List Named → Scalar → List Expr → ℕ → Draft → Draft → Type 0
AddsValuesOver callees names kind values cell old new =
    Adds (AreStored (functions_view callees) (names_view names) kind (map expr_tree values) cell)
    old new

abbrev pub AreWholeValues : List Callee → List Named → List Expr → Type 0
AreWholeValues callees names values =
    left_out_values (functions_view callees) (names_view names) (map expr_tree values) ≡ None

abbrev pub IsValuesFault : List Callee → List Named → List Expr → Draft → LowerFault → Type 0
IsValuesFault callees names values draft fault =
    IsFault (left_out_values (functions_view callees) (names_view names) (map expr_tree values))
    draft fault

abbrev pub AddsValueOver : List Callee → List Named → Scalar → Expr → ℕ → Draft → Draft → Type 0
AddsValueOver callees names kind value cell old new =
    Adds (IsStored (functions_view callees) (names_view names) kind (expr_tree value) cell) old new
