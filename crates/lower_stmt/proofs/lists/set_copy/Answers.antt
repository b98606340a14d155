use Rattle.std.proofs.Common.{◌≡◌, Some, rules, string_bytes}
use Rattle.std.proofs.lemmas.Result.{on_ok_weaker}
use Rattle.cal_ast.specs.View.{expr_tree}
use Rattle.lower_stmt.specs.StmtSeen.{seen}
use Rattle.lower_stmt.specs.Targets.{cells_named}
use Rattle.lower_base.specs.Listed.{list_named}
use Rattle.lower_stmt.proofs.AddingStmts.{list_adds}
use Rattle.lower_stmt.proofs.lists.set_copy.Goals as goal

pub returns-clause-ok : goal.returns-clause-ok
returns-clause-ok c =
    let to : cells_named (seen c.args.scope.now) (string_bytes c.args.name.now.text) ≡ Some c.args.to = c.requires.cells in
    let from : list_named (seen c.args.scope.now) (expr_tree c.args.value.now) ≡ Some c.in-Some.from = search rules in
    on_ok_weaker c.copy.result
    (list_adds (seen c.args.scope.now) (string_bytes c.args.name.now.text) (expr_tree c.args.value.now) c.args.name.now.at c.args.at c.args.to c.in-Some.from c.args.draft.now c.copy.new.draft to from (search rules))
    c.copy.ensures.added
