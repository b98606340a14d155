-- Names with their types and the cells or tokens where their values stand.
-- Trusted but for `IsSingle`: part of what a promise means.
use Rattle.std.specs.Prelude.{ℕ, List, [], ◌∷◌, map, if◌then◌else◌, Option, None, Some, string_bytes}
use Rattle.std.specs.Str.{bytes_eq}
use Rattle.cal_model.specs.Value.{Shape, Single, Many}
use Rattle.cal_model.specs.View.{shape_view}
use Rattle.rvc_base.specs.declared.scalar.Scalar.{Scalar}
use Rattle.lower_base.specs.declared.names.Named.{Named}
use Rattle.lower_base.specs.declared.names.Seat.{Seat}
use Rattle.lower_base.specs.declared.names.Seat.TheVariants.{Cell}

pub record Name : Type 0 where
  pub text : List ℕ
  pub shape : Shape
  pub seat : Seat

abbrev pub name_view : Named → Name
name_view x = record { text = string_bytes x.name; shape = shape_view x.shape; seat = x.seat }

abbrev pub names_view : List Named → List Name
names_view names = map name_view names

-- a name inside others, with its value in the cells from one on
abbrev pub local_of : List ℕ → Shape → ℕ → Name
local_of text t c = record { text = text; shape = t; seat = Cell c }

-- .. with a single value in a cell
abbrev pub local : List ℕ → Scalar → ℕ → Name
local text t c = record { text = text; shape = Single t; seat = Cell c }

-- the name that a text means among these, of which the first hides the others
abbrev pub named : List ℕ → List Name → Option Name
named text [] = None
named text (x ∷ xs) = if bytes_eq x.text text then Some x else named text xs

-- the type of the name that a text means, if it means one
abbrev pub shape_named : List Name → List ℕ → Option Shape
shape_named names text = elim (named text names) [ None ↦ None | Some x ↦ Some x.shape ]

-- a type of single values
abbrev pub IsSingle : Shape → Type 0
IsSingle (Single t) = Unit {0}
IsSingle (Many n items) = ⊥
