-- Parts of lists as contracts see them.
-- Not trusted: no promise is read with it.
use Rattle.std.specs.Prelude.{List, map}
use Rattle.cal_ast.specs.Tree.{Tree, listed}
use Rattle.cal_ast.specs.View.{expr_tree}
use Rattle.cal_ast.specs.declared.expr.Expr.{Expr}
use Rattle.cal_model.specs.View.{shape_view}
use Rattle.lower_base.specs.declared.parts.Part.{Part as DeclaredPart}
use Rattle.lower_base.specs.Parted.{Part, part_at}

abbrev pub part_view : DeclaredPart → Part
part_view p = part_at p.seat (shape_view p.shape.now) p.size

abbrev pub places_of : List Expr → Tree
places_of places = listed (map expr_tree places)
