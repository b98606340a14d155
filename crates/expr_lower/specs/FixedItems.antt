-- Items of named lists at places that are written out.
-- Not trusted: no promise is read with it.
use Rattle.std.specs.Prelude.{◌≡◌, ℕ, ◌+◌, ◌*◌, ℤ, pos, nat_lt, if◌then◌else◌, List, Option, None, Some}
use Rattle.cal_ast.specs.Tree as tree
use Rattle.cal_ast.specs.Tree.{Tree}
use Rattle.code_ir.specs.declared.instr.Instr.{Instr}
use Rattle.code_ir.specs.declared.instr.Instr.TheVariants as op
use Rattle.lower_base.specs.declared.names.ItemList.{ItemList}
use Rattle.lower_base.specs.declared.names.Seat.{Seat}
use Rattle.lower_base.specs.declared.names.Seat.TheVariants.{Cell, Tokens}
use Rattle.lower_base.specs.declared.parts.Rows.{Rows}
use Rattle.lower_base.specs.Bounds.{bound_of}
use Rattle.lower_base.specs.Names.{Name}
use Rattle.lower_base.specs.Parted.{deep_named, rows_named}

-- the offset of an item in the whole list, if the place is one of the list that it is an item of
abbrev pub step_to : Option ℤ → Rows → Option ℕ → Option ℕ
step_to (Some (pos i)) r (Some k) =
    if nat_lt i r.count then Some (k + i * r.each) else None
step_to place r k = None

-- the offset of the part that a chain of indexes gives, if each of these is written out and one of its list
abbrev pub fixed_offset : List Name → Tree → Option ℕ
fixed_offset names (tree.variable text at) = Some 0
fixed_offset names (tree.index base place at) = elim (rows_named names base)
    [ None ↦ None | Some r ↦ step_to (bound_of place) r (fixed_offset names base) ]
fixed_offset names other = None

-- the instruction that pushes a number of what stands at a seat
abbrev pub number_instr : Seat → ℕ → Instr
number_instr (Cell c) k = op.Load (c + k)
number_instr (Tokens port first step) k = op.Token port (first + k * step)

-- the instruction pushes the single value at such places
pub record IsFixed (names : List Name) (e : Tree) (i : Instr) : Type 0 where
  pub list : ItemList
  pub offset : ℕ
  pub deep : deep_named names e ≡ Some list
  pub at : fixed_offset names e ≡ Some offset
  pub is : i ≡ number_instr list.seat offset
