-- A row of operands that isn't grouped.
use Rattle.std.proofs.Common.{◌<◌, ℕ, List, [], ◌∷◌, length, Some, Err, sym, ap, ◌∙◌, arith}
use Rattle.cal_ast.specs.Tree.{Tree}
use Rattle.fnl_read.specs.Closing.{end_expr, end_sequence}
use Rattle.fnl_expr.specs.Operations.{Pending}
use Rattle.fnl_read.specs.States.{State, Fault}
use Rattle.fnl_expr.specs.Operations.{grouped}
use Rattle.fnl_expr.specs.Answers.{Makes}
use Rattle.fnl_read.specs.Stepped.{Stepped}
use Rattle.fnl_expr.specs.Views.{tall_tree}
use Rattle.fnl_read.specs.declared.reader.Reader.{Reader}
use Rattle.fnl_expr.specs.declared.stop.Stop.{Stop}
use Rattle.fnl_expr.specs.declared.stop.Stop.TheVariants as stops

pub ungrouped : (A : Type 0) → (ws : List Pending) (t : Tree) (there at : ℕ) (s : State) (now : Reader) (stop : Stop) → 0 < length ws
    → Makes tall_tree (grouped there ws t) there (Err stop) → Stepped {A = A} (end_sequence ws (Some t) there at s) now (Err stop)
ungrouped A [] t there at s now stop some h = absurd (omega arith)
ungrouped A (w ∷ ws) t there at s now (stops.Broken rule place) some h =
    ap (λ g. end_expr g there at s) h.0 ∙ ap (λ r. Fault r there) (sym h.1) ∙ ap (λ p. Fault rule p) (sym h.2)
ungrouped A (w ∷ ws) t there at s now stops.Memory some h = h
