-- Names of lists of single values.
-- Trusted: part of what a promise means.
use Rattle.std.specs.Prelude.{List, Option, None, Some}
use Rattle.rvc_base.specs.declared.scalar.Scalar.{Scalar}
use Rattle.cal_ast.specs.Tree as tree
use Rattle.cal_ast.specs.Tree.{Tree}
use Rattle.cal_model.specs.Value.{Shape, Single, Many}
use Rattle.lower_base.specs.declared.names.ItemList.{ItemList}
use Rattle.lower_base.specs.declared.names.Seat.{Seat}
use Rattle.lower_base.specs.Names.{Name, named}

-- the type of single values that a type is, if it is one
abbrev pub single_of : Shape → Option Scalar
single_of (Single t) = Some t
single_of (Many size items) = None

-- where the items of a list stand, if it is one of single values
abbrev pub items_in : Seat → Shape → Option ItemList
items_in seat (Single t) = None
items_in seat (Many size items) = elim (single_of items)
    [ None ↦ None | Some t ↦ Some (record { seat = seat; size = size; kind = t }) ]

abbrev pub items_of : Name → Option ItemList
items_of x = items_in x.seat x.shape

-- the list of single values that a tree names, if it names one
abbrev pub list_named : List Name → Tree → Option ItemList
list_named names (tree.variable text at) =
    elim (named text names) [ None ↦ None | Some x ↦ items_of x ]
list_named names other = None
