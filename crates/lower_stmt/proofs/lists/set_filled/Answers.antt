use Rattle.std.proofs.Common.{◌≡◌, Some, rules, string_bytes, sym}
use Rattle.std.proofs.lemmas.Result.{on_ok_weaker}
use Rattle.cal_ast.specs.View.{expr_tree}
use Rattle.cal_ast.specs.Tree as tree
use Rattle.cal_model.specs.View.{shape_view}
use Rattle.lower_base.specs.Parted.{part_named}
use Rattle.lower_base.specs.PartView.{part_view}
use Rattle.lower_stmt.specs.StmtSeen.{called, seen}
use Rattle.lower_stmt.specs.Targets.{source_of}
use Rattle.lower_stmt.proofs.AddingStmts.{filled_adds, filled_room, whole_adds, whole_none}
use Rattle.lower_stmt.proofs.lists.set_filled.Goals as goal

pub returns-clause-ok : goal.returns-clause-ok
returns-clause-ok c =
    let found : part_named (seen c.args.scope.now) (tree.variable (string_bytes c.args.name.now.text) 0) ≡ Some (part_view c.in-Some.whole) = search rules in
    on_ok_weaker c.put-2.result
    (filled_adds (seen c.args.scope.now) (string_bytes c.args.name.now.text) (expr_tree c.args.value.now) c.args.name.now.at c.args.at c.in_ok-first.first (part_view c.in-Some.whole) c.in-Some-whole_cells.to
    c.args.draft.now c.take_row.new.draft c.fill.new.draft c.put-2.new.draft
    found (sym c.in-Some-whole_cells.ensures) c.in_ok-first.ensures.taken c.in_ok-fill.ensures.ok)
    c.put-2.ensures.added

pub fill-requires : goal.fill-requires
fill-requires c =
    let found : part_named (seen c.args.scope.now) (tree.variable (string_bytes c.args.name.now.text) 0) ≡ Some (part_view c.in-Some.whole) = search rules in
    record {
      cells = filled_room (seen c.args.scope.now) (string_bytes c.args.name.now.text) c.in_ok-first.first (part_view c.in-Some.whole) c.in-Some-whole_cells.to c.args.draft.now c.take_row.new.draft
          found (sym c.in-Some-whole_cells.ensures) c.in_ok-first.ensures.taken;
    }

pub returns-in-Some-source_of-clause-ok : goal.returns-in-Some-source_of-clause-ok
returns-in-Some-source_of-clause-ok c =
    let found : part_named (seen c.args.scope.now) (tree.variable (string_bytes c.args.name.now.text) 0) ≡ Some (part_view c.in-Some.whole) = search rules in
    let source : source_of (seen c.args.scope.now) (shape_view c.in-Some.whole.shape.now) (expr_tree c.args.value.now) ≡ Some c.in-Some-source_of.from = search rules in
    on_ok_weaker c.put.result
    (whole_adds (seen c.args.scope.now) (string_bytes c.args.name.now.text) (expr_tree c.args.value.now) c.args.name.now.at c.args.at c.in-Some-source_of.from (part_view c.in-Some.whole) c.in-Some-whole_cells.to c.args.draft.now c.put.new.draft
    found (sym c.in-Some-whole_cells.ensures) source)
    c.put.ensures.added

pub returns-in-Some-source_of-clause-whole : goal.returns-in-Some-source_of-clause-whole
returns-in-Some-source_of-clause-whole c =
    let found : part_named (seen c.args.scope.now) (tree.variable (string_bytes c.args.name.now.text) 0) ≡ Some (part_view c.in-Some.whole) = search rules in
    let source : source_of (seen c.args.scope.now) (shape_view c.in-Some.whole.shape.now) (expr_tree c.args.value.now) ≡ Some c.in-Some-source_of.from = search rules in
    on_ok_weaker c.put.result
    (λ p. whole_none (called c.args.scope.now).functions (seen c.args.scope.now) (string_bytes c.args.name.now.text) (expr_tree c.args.value.now) c.args.at c.in-Some-source_of.from (part_view c.in-Some.whole) c.in-Some-whole_cells.to
    found (sym c.in-Some-whole_cells.ensures) source)
    c.put.ensures.added
