-- Cells of names that may be assigned.
-- Trusted: part of what a promise means.
use Rattle.std.specs.Prelude.{ℕ, List, Option, None, Some, if◌then◌else◌}
use Rattle.rvc_base.specs.declared.scalar.Scalar.{Scalar}
use Rattle.cal_ast.specs.Tree as tree
use Rattle.cal_ast.specs.Tree.{Tree}
use Rattle.cal_model.specs.Value.{Shape, Single, Many}
use Rattle.lower_base.specs.declared.names.ItemList.{ItemList}
use Rattle.lower_base.specs.declared.names.OneCell.{OneCell}
use Rattle.lower_base.specs.declared.names.Seat.{Seat}
use Rattle.lower_base.specs.declared.names.Seat.TheVariants.{Cell, Tokens}
use Rattle.lower_base.specs.Listed.{list_named}
use Rattle.lower_base.specs.Names.{Name, named}
use Rattle.lower_base.specs.Growing.{first_cell}
use Rattle.lower_base.specs.Parted.{Part, alike, part_named}
pub use Rattle.expr_lower.specs.ListStarting.{leaf_of}
use Rattle.lower_stmt.specs.declared.targets.ListCells.{ListCells}

-- the cell of a single value
abbrev pub cell_of : Seat → Shape → Option OneCell
cell_of (Cell c) (Single t) = Some (record { cell = c; kind = t })
cell_of (Cell c) (Many n items) = None
cell_of (Tokens port first step) shape = None

-- the cell of the single value that a text names, if it names one
abbrev pub cell_named : List Name → List ℕ → Option OneCell
cell_named names text = elim (named text names) [ None ↦ None | Some x ↦ cell_of x.seat x.shape ]

-- the cells of a list, if it stands in cells
abbrev pub cells_of : ItemList → Option ListCells
cells_of l =
    elim l.seat [
      | Cell c ↦ Some (record { cell = c; size = l.size; kind = l.kind })
      | Tokens port
          first step ↦ None
    ]

-- the cells of the list of single values that a text names, if it names one
abbrev pub cells_named : List Name → List ℕ → Option ListCells
cells_named names text =
    elim (list_named names (tree.variable text 0)) [ None ↦ None | Some l ↦ cells_of l ]

-- ---- parts of lists in lists

-- the type of the part that so many indexes choose, if there are lists for all of them
abbrev pub part_in : Shape → Tree → Option Shape
part_in shape tree.nil = Some shape
part_in (Many n items) (tree.cons place places) = part_in items places
part_in shape other = None

-- the cells of so many single values of a type, if they stand in cells
abbrev pub cells_at : Seat → ℕ → Scalar → Option ListCells
cells_at (Cell c) size t = Some (record { cell = c; size = size; kind = t })
cells_at (Tokens port first step) size t = None

-- the cells of a whole list at any depth, if it stands in cells
abbrev pub whole_cells_in : Part → Option ListCells
whole_cells_in p = cells_at p.seat p.size (leaf_of p.shape)

-- the first cell of a list that is assigned to a part, if it is that of a name, in cells, with as many items at each
-- depth
abbrev pub source_in : Shape → Option Part → Option ℕ
source_in t None = None
source_in t (Some p) = if alike t p.shape then first_cell p.seat else None

abbrev pub source_of : List Name → Shape → Tree → Option ℕ
source_of names (Many n items) (tree.variable text at) =
    source_in (Many n items) (part_named names (tree.variable text at))
source_of names t other = None
