-- Which statements are left out.
-- Trusted: part of what a promise means.
use Rattle.std.specs.Prelude.{ℕ, nat_eq, if◌then◌else◌, List, ◌∷◌, Option, None, Some}
use Rattle.cal_ast.specs.Tree as tree
use Rattle.cal_ast.specs.Tree.{Tree}
use Rattle.cal_model.specs.Value.{Shape}
use Rattle.lower_base.specs.declared.names.ItemList.{ItemList}
use Rattle.lower_stmt.specs.declared.targets.ListCells.{ListCells}
use Rattle.lower_base.specs.Callees.{Function}
use Rattle.lower_base.specs.Starting.{left_out_start}
use Rattle.lower_stmt.specs.Procedures.{Routines, procedure_for}
use Rattle.lower_stmt.specs.Targets.{cell_named, cells_named}
use Rattle.lower_base.specs.Growing.{left_out_args, left_out_in, ◌or_else◌}
use Rattle.lower_base.specs.Listed.{list_named}
use Rattle.lower_base.specs.Names.{local, Name}
use Rattle.lower_base.specs.Meant.{single_meant}
use Rattle.expr_lower.specs.LeftOut.{left_out_fill}
use Rattle.expr_lower.specs.ShapeMeant.{shape_meant}
use Rattle.lower_stmt.specs.ListStarting.{left_out_list_start, local_of}
use Rattle.lower_stmt.specs.Targets.{part_in, whole_cells_in}
use Rattle.lower_base.specs.Parted.{Part, number_of, part_named}

-- a list of single values is stored whole from the name of another one of as many ..
abbrev pub left_out_copy : ListCells → Option ItemList → ℕ → Option ℕ
left_out_copy c None at = Some at
left_out_copy c (Some l) at = if nat_eq l.size c.size then None else Some at

-- the places of an item, or items that are written
abbrev pub left_out_each : List Function → List Name → Tree → Option ℕ
left_out_each fs names (tree.cons place places) =
    left_out_in fs names place or_else left_out_each fs names places
left_out_each fs names other = None

abbrev pub left_out_items : List Function → List Name → ListCells → Tree → ℕ → Option ℕ
left_out_items fs names c items at =
    if nat_eq (number_of items) c.size then left_out_each fs names items else Some at

-- any other list, which is filled apart
abbrev pub left_out_part : List Function → List Name → Option Part → Tree → ℕ → Option ℕ
left_out_part fs names None value at = Some at
left_out_part fs names (Some p) value at = elim (whole_cells_in p)
    [ None ↦ Some at | Some c ↦ left_out_fill fs names p.shape value ]

abbrev pub left_out_filled : List Function → List Name → List ℕ → Tree → ℕ → Option ℕ
left_out_filled fs names text value at =
    left_out_part fs names (part_named names (tree.variable text 0)) value at

-- .. or from as many items that are written
abbrev pub left_out_whole : List Function → List Name → ListCells → List ℕ → Tree → ℕ → Option ℕ
left_out_whole fs names c text (tree.list items list) at = left_out_items fs names c items at
left_out_whole fs names c text (tree.variable from place) at =
    left_out_copy c (list_named names (tree.variable from place)) at
left_out_whole fs names c text other at = left_out_filled fs names text other at

abbrev pub left_out_list : List Function → List Name → List ℕ → Tree → ℕ → Option ℕ
left_out_list fs names text value at = elim (cells_named names text) [
  | None ↦ left_out_filled fs names text value at
  | Some c ↦ left_out_whole fs names c text value at
]

-- an assignment to a part of a list, be it a single value or a list: the places, and then the value
abbrev pub left_out_put : List Function → List Name → Option Shape → Tree → Tree → ℕ → Option ℕ
left_out_put fs names None places value at = Some at
left_out_put fs names (Some t) places value at =
    left_out_each fs names places or_else left_out_fill fs names t value

abbrev pub left_out_chosen : List Function → List Name → Option Part → Tree → Tree → ℕ → Option ℕ
left_out_chosen fs names None places value at = Some at
left_out_chosen fs names (Some p) places value at = elim (whole_cells_in p)
    [ None ↦ Some at | Some c ↦ left_out_put fs names (part_in p.shape places) places value at ]

abbrev pub left_out_deep : List Function → List Name → List ℕ → Tree → Tree → ℕ → Option ℕ
left_out_deep fs names text places value at =
    left_out_chosen fs names (part_named names (tree.variable text 0)) places value at

-- an assignment to the whole variable, to one item of a list of single values, or to any other part
abbrev pub left_out_set : List Function → List Name → List ℕ → Tree → Tree → ℕ → Option ℕ
left_out_set fs names text tree.nil value at =
    elim (cell_named names text) [
      | None ↦ left_out_list fs names text value at
      | Some c ↦ left_out_in fs names value
    ]
left_out_set fs names text (tree.cons spot tree.nil) value at =
    elim (cells_named names text) [
      | None ↦ left_out_deep fs names text (tree.cons spot tree.nil) value at
      | Some c ↦ left_out_in fs names spot or_else left_out_in fs
          names value
    ]
left_out_set fs names text places value at = left_out_deep fs names text places value at

-- the variables of a block, and what sees them all
abbrev pub left_out_vars : Routines → List Name → Tree → (List Name → Option ℕ) → Option ℕ
left_out_vars rs names tree.nil body = body names
left_out_vars rs names (tree.cons (tree.var shape (tree.ident text place) start changes at) vars) body =
    elim (single_meant shape) [
      | None ↦ elim (shape_meant shape) [
        | None ↦ Some at
        | Some t ↦ left_out_list_start rs.functions names t start
            or_else left_out_vars rs (local_of text t 0 ∷ names) vars body
      ]
      | Some t ↦ left_out_start rs.functions names start or_else left_out_vars rs (local text t 0 ∷ names) vars body
    ]
left_out_vars rs names other body = Some 0

abbrev mutual
  -- The place of the first part of a statement for which no code is made: an assignment to what isn't a variable of
  -- single values, such a list whole or a part of one, each in cells, a call of what is none of these
  -- procedures or that has not as many arguments, a `foreach` whose type isn't seen to be one of single values, or a
  -- variable of a block whose type isn't seen; or such a part of an expression. Of a `while` the body comes first, as in
  -- its code. Which cell a local has doesn't matter here.
  pub left_out_stmt : Routines → List Name → Tree → Option ℕ
  left_out_stmt rs names (tree.assign (tree.ident text place) places value at) =
      left_out_set rs.functions names text places value at
  left_out_stmt rs names (tree.call_stmt (tree.ident text place) args at) =
      elim (procedure_for text (number_of args) rs.procedures)
      [ None ↦ Some at | Some p ↦ left_out_args rs.functions names args ]
  left_out_stmt rs names (tree.if_stmt test first other at) =
      left_out_in rs.functions names test or_else (left_out_all rs names first or_else left_out_all rs names other)
  left_out_stmt rs names (tree.while_stmt test body at) =
      left_out_all rs names body or_else left_out_in rs.functions names test
  left_out_stmt rs names (tree.foreach_stmt shape (tree.ident text place) from to body at) =
      elim (single_meant shape) [
        | None ↦ Some at
        | Some t ↦ left_out_in rs.functions names from
            or_else (left_out_in rs.functions names to or_else left_out_all rs
            (local text t 0 ∷ names) body)
      ]
  left_out_stmt rs names (tree.block vars body at) =
      left_out_vars rs names vars (λ inner. left_out_all rs inner body)
  left_out_stmt rs names other = Some 0

  -- .. of statements; those of an `else` may be absent
  pub left_out_all : Routines → List Name → Tree → Option ℕ
  left_out_all rs names tree.nil = None
  left_out_all rs names (tree.cons s rest) = left_out_stmt rs names s or_else left_out_all rs names rest
  left_out_all rs names tree.absent = None
  left_out_all rs names (tree.present body) = left_out_all rs names body
  left_out_all rs names other = Some 0
