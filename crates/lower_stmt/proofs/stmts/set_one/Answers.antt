use Rattle.std.proofs.Common.{◌≡◌, Some, rules, string_bytes}
use Rattle.std.proofs.lemmas.Result.{on_ok_weaker}
use Rattle.cal_ast.specs.View.{expr_tree}
use Rattle.lower_stmt.specs.StmtSeen.{seen}
use Rattle.lower_stmt.specs.Targets.{cell_named}
use Rattle.lower_stmt.proofs.AddingStmts.{set_adds}
use Rattle.lower_stmt.proofs.stmts.set_one.Goals as goal

pub returns-clause-ok : goal.returns-clause-ok
returns-clause-ok c =
    let found : cell_named (seen c.args.scope.now) (string_bytes c.args.name.now.text) ≡ Some c.in-Some.to = search rules in
    on_ok_weaker c.put.result
    (set_adds (seen c.args.scope.now) (string_bytes c.args.name.now.text) (expr_tree c.args.value.now) c.args.name.now.at c.args.at c.in-Some.to c.args.draft.now c.lower.new.draft c.put.new.draft found c.in_ok-lower.ensures.ok)
    c.put.ensures.added
