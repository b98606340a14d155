-- Which lists are left out.
-- Trusted: part of what a promise means.
use Rattle.std.specs.Prelude.{ℕ, if◌then◌else◌, List, Option, None, Some}
use Rattle.cal_ast.specs.Tree as tree
use Rattle.cal_ast.specs.Tree.{Tree}
use Rattle.cal_model.specs.Value.{Shape}
use Rattle.lower_base.specs.Callees.{Function}
use Rattle.lower_base.specs.Growing.{◌or_else◌, first_cell, left_out_apart, left_out_in, left_out_places, where_one}
use Rattle.lower_base.specs.ItemsSeen.{items_seen}
pub use Rattle.lower_base.specs.Growing.{first_cell, left_out_element, left_out_fill, left_out_fills, left_out_gens, left_out_made, left_out_many, left_out_whole}
use Rattle.lower_base.specs.Names.{Name}
use Rattle.lower_base.specs.Parted.{alike, part_named}

-- a single value, where one is meant
abbrev pub left_out_single : List Function → List Name → Shape → Tree → ℕ → Option ℕ
left_out_single fs names t e at = where_one t at (left_out_in fs names e)

-- an item of a list that is filled apart
abbrev pub left_out_item_apart : List Function → List Name → Shape → Tree → Tree → ℕ → Option ℕ
left_out_item_apart fs names t base place at =
    left_out_apart (items_seen names base 0) t at (λ list. left_out_fill fs names list base)
    (left_out_in fs names place)

-- an index, where a list is meant: a part that a chain of indexes gives of a list in cells, with as many items at each
-- depth, or an item of a list that is filled apart
abbrev pub left_out_part : List Function → List Name → Shape → Tree → Tree → ℕ → Option ℕ
left_out_part fs names t base place at = elim (part_named names (tree.index base place at)) [
  | Some p ↦ if alike t p.shape then elim (first_cell p.seat)
      [ None ↦ Some at | Some c ↦ left_out_places fs names base or_else left_out_in fs names place ] else Some at
  | None ↦ left_out_item_apart fs names t base place at
]
