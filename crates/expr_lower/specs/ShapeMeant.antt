-- Types as they are written.
-- Trusted: part of what a promise means.
use Rattle.std.specs.Prelude.{ℕ, ◌*◌, ◌&&◌, codes, if◌then◌else◌, nat_le, Option, None, Some}
use Rattle.std.specs.Str.{bytes_eq}
use Rattle.cal_ast.specs.Tree as tree
use Rattle.cal_ast.specs.Tree.{Tree}
use Rattle.cal_model.specs.Value.{Shape, Single, Many, max_list_scalars}
use Rattle.lower_base.specs.Parted.{sized}
use Rattle.lower_base.specs.Meant.{literal_size, single_meant, size_of_arg}

-- so many items of so many numbers each, if a list may have as many
abbrev pub list_of_each : ℕ → Shape → ℕ → Option Shape
list_of_each n items each =
    if (nat_le 1 n && nat_le n max_list_scalars) && nat_le (n * each) max_list_scalars
    then Some (Many n items) else None

-- .. of a type
abbrev pub list_sized : ℕ → Shape → Option Shape
list_sized n items =
    elim (sized items) [ None ↦ None | Some each ↦ list_of_each n items each ]

-- .. if both are seen
abbrev pub many_meant : Option (Option ℕ) → Option Shape → Option Shape
many_meant None items = None
many_meant (Some None) items = None
many_meant (Some (Some n)) None = None
many_meant (Some (Some n)) (Some items) = list_sized n items

abbrev mutual
  -- the type that a type expression means whatever names mean, if it is seen to mean one that is allowed
  pub shape_meant : Tree → Option Shape
  shape_meant (tree.type_of (tree.ident name place) args at) =
      elim (single_meant (tree.type_of (tree.ident name place) args at)) [
        | Some t ↦ Some (Single t)
        | None ↦ if bytes_eq name (codes "List") then items_of_type args else None
      ]
  shape_meant other = None

  -- the list of which these are the arguments: the type of its items and how many they are, in either order
  pub items_of_type : Tree → Option Shape
  items_of_type (tree.cons (tree.shape_arg name shape) (tree.cons arg tree.nil)) =
      many_meant (size_of_arg arg) (shape_meant shape)
  items_of_type (tree.cons (tree.value_arg name value)
      (tree.cons (tree.shape_arg other shape) tree.nil)) =
      many_meant (literal_size value) (shape_meant shape)
  items_of_type other = None
