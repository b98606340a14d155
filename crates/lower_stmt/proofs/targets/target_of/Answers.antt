use Rattle.std.proofs.Common.{◌≡◌, ◌∙◌, Some, rules, sym}
use Rattle.cal_ast.specs.Tree as tree
use Rattle.cal_model.specs.View.{shape_view}
use Rattle.lower_base.specs.Parted.{part_named}
use Rattle.lower_base.specs.PartView.{part_view, places_of}
use Rattle.lower_base.specs.Seen.{seen}
use Rattle.lower_stmt.specs.Targets.{part_in}
use Rattle.lower_stmt.proofs.AddingStmts.{part_has_size}
use Rattle.lower_stmt.proofs.targets.target_of.Goals as goal

pub unreachable-requires : goal.unreachable-requires
unreachable-requires c =
    let whole : part_named (seen c.args.scope.now) (tree.variable c.args.text.now 0) ≡ Some (part_view c.in_ok-list.list) = search rules in
    let part : part_in (shape_view c.in_ok-list.list.shape.now) (places_of c.args.places.now) ≡ Some (shape_view c.in_ok-part.part.now) = search rules in
    part_has_size (seen c.args.scope.now) c.args.text.now (places_of c.args.places.now) (part_view c.in_ok-list.list) (shape_view c.in_ok-part.part.now) whole part (sym c.scalars.ensures ∙ c.in_default.is)
