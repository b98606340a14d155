-- Parts of named lists that chains of indexes give.
-- Trusted: part of what a promise means.
use Rattle.std.specs.Prelude.{◌≢◌, ℕ, suc, ◌*◌, ◌^◌, ◌&&◌, Bool, true, false, nat_eq, nat_lt, if◌then◌else◌, List, Option, None, Some}
use Rattle.cal_ast.specs.Tree as tree
use Rattle.cal_ast.specs.Tree.{Tree}
use Rattle.cal_model.specs.Value.{Shape, Single, Many}
use Rattle.lower_base.specs.declared.names.ItemList.{ItemList}
use Rattle.lower_base.specs.declared.names.Seat.{Seat}
use Rattle.lower_base.specs.declared.parts.Rows.{Rows}
use Rattle.lower_base.specs.Names.{Name, named}

-- how many numbers a type has, if 32 bits hold this number and that of each part of it
abbrev pub sized : Shape → Option ℕ
sized (Single t) = Some 1
sized (Many n items) = elim (sized items) [
  | None ↦ None
  | Some k ↦ if nat_lt (n * k) (2 ^ 32) then Some (n * k) else None
]

-- a part of a list: where the whole list stands, how many numbers that has, and the type of the part
pub record Part : Type 0 where
  pub seat : Seat
  pub size : ℕ
  pub shape : Shape

abbrev pub part_at : Seat → Shape → ℕ → Part
part_at seat shape n = record { seat = seat; size = n; shape = shape }

-- a whole list
abbrev pub whole_in : Seat → Shape → Option Part
whole_in seat (Single t) = None
whole_in seat (Many n items) = elim (sized (Many n items))
    [ None ↦ None | Some k ↦ Some (part_at seat (Many n items) k) ]

abbrev pub whole_of : Name → Option Part
whole_of x = whole_in x.seat x.shape

-- an item of a part, if that is a list
abbrev pub item_in : Seat → ℕ → Shape → Option Part
item_in seat size (Single t) = None
item_in seat size (Many n items) = Some (part_at seat items size)

abbrev pub item_of : Part → Option Part
item_of p = item_in p.seat p.size p.shape

-- the part that a chain of indexes on a name gives, whatever the indexes are
abbrev pub part_named : List Name → Tree → Option Part
part_named names (tree.variable text at) =
    elim (named text names) [ None ↦ None | Some x ↦ whole_of x ]
part_named names (tree.index base place at) =
    elim (part_named names base) [ None ↦ None | Some p ↦ item_of p ]
part_named names other = None

abbrev pub IsPart : List Name → Tree → Type 0
IsPart names e = part_named names e ≢ None

-- how many items a list has, and how many numbers each of them
abbrev pub rows_in : Shape → Option Rows
rows_in (Single t) = None
rows_in (Many n items) = elim (sized items)
    [ None ↦ None | Some k ↦ Some (record { count = n; each = k }) ]

-- .. of the part that a chain of indexes gives
abbrev pub rows_named : List Name → Tree → Option Rows
rows_named names e = elim (part_named names e) [ None ↦ None | Some p ↦ rows_in p.shape ]

-- the whole list as one of single values, if a part of it is a single value
abbrev pub singles_in : Seat → ℕ → Shape → Option ItemList
singles_in seat size (Single t) = Some (record { seat = seat; size = size; kind = t })
singles_in seat size (Many n items) = None

-- the single values among which a chain of indexes chooses, if it chooses one
abbrev pub deep_named : List Name → Tree → Option ItemList
deep_named names e =
    elim (part_named names e) [ None ↦ None | Some p ↦ singles_in p.seat p.size p.shape ]

-- ---- places of an item, one index for each list

-- how many there are
abbrev pub number_of : Tree → ℕ
number_of (tree.cons place places) = suc (number_of places)
number_of other = 0

-- ---- types that differ in the sizes of their numbers alone

-- two types are of lists of as many items at each depth
abbrev pub alike : Shape → Shape → Bool
alike (Single t) (Single u) = true
alike (Many n items) (Many m others) = nat_eq n m && alike items others
alike t u = false
