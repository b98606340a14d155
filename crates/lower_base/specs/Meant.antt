-- Types of single values as they are written.
-- Trusted: part of what a promise means.
use Rattle.std.specs.Prelude.{ℕ, ℤ, pos, negsuc, Option, None, Some}
use Rattle.rvc_base.specs.declared.scalar.Scalar.{Scalar}
use Rattle.cal_ast.specs.Tree as tree
use Rattle.cal_ast.specs.Tree.{Tree}
use Rattle.cal_model.specs.Value.{Shape}
use Rattle.cal_model.specs.Expression.{Given, type_named}
use Rattle.lower_base.specs.Bounds.{bound_of}
use Rattle.lower_base.specs.Listed.{single_of}

-- the size that a number is, if it isn't below 0
abbrev pub size_of : Option ℤ → Option (Option ℕ)
size_of None = None
size_of (Some (pos n)) = Some (Some n)
size_of (Some (negsuc n)) = None

-- the size that is written by literals and `-` alone
abbrev pub literal_size : Tree → Option (Option ℕ)
literal_size e = size_of (bound_of e)

abbrev pub size_of_arg : Tree → Option (Option ℕ)
size_of_arg (tree.value_arg name value) = literal_size value
size_of_arg other = None

-- the size of bits that is written: none, or a number
abbrev pub size_written : Tree → Option (Option ℕ)
size_written tree.nil = Some None
size_written (tree.cons arg tree.nil) = size_of_arg arg
size_written other = None

-- a type that is given a size alone
abbrev pub only_size : Option ℕ → Given
only_size size = record { items = None; size = size }

-- the type of single values that a type is, if there is one
abbrev pub single_in : Option Shape → Option Scalar
single_in None = None
single_in (Some t) = single_of t

-- the type of single values that a type expression means whatever names mean, if it is seen to mean one
abbrev pub single_meant : Tree → Option Scalar
single_meant (tree.type_of (tree.ident name place) args at) =
    elim (size_written args) [
      | None ↦ None
      | Some size ↦ single_in (type_named name (only_size size))
    ]
single_meant other = None
