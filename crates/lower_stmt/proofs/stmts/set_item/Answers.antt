use Rattle.std.proofs.Common.{◌≡◌, ◌∷◌, [], map, ap, None, Some, rules, string_bytes, subst, sym}
use Rattle.std.specs.Prelude.{IfErr, OnOk}
use Rattle.std.proofs.lemmas.Result.{on_ok_weaker}
use Rattle.cal_ast.specs.Tree as tree
use Rattle.cal_ast.specs.Tree.{listed}
use Rattle.cal_ast.specs.View.{expr_tree}
use Rattle.lower_base.specs.Growing.{IsFault}
use Rattle.lower_base.specs.Lowered.{Adds}
use Rattle.lower_stmt.specs.Stating.{IsStmt}
use Rattle.lower_stmt.specs.StmtSeen.{called, seen}
use Rattle.lower_stmt.specs.Targets.{cells_named}
use Rattle.lower_stmt.proofs.AddingStmts.{item_adds, one_place}
use Rattle.lower_stmt.proofs.stmts.set_item.Goals as goal

pub returns-clause-ok : goal.returns-clause-ok
returns-clause-ok c =
    let found : cells_named (seen c.args.scope.now) (string_bytes c.args.name.now.text) ≡ Some c.in-Some.to = search rules in
    let opened : map expr_tree c.args.places.now ≡ expr_tree c.args.place.now ∷ [] = ap (map expr_tree) c.requires.one in
    on_ok_weaker c.put.result
    (λ p. subst (λ ts. Adds (IsStmt (called c.args.scope.now) (seen c.args.scope.now) (tree.assign (tree.ident (string_bytes c.args.name.now.text) c.args.name.now.at) (listed ts) (expr_tree c.args.value.now) c.args.at)) c.args.draft.now c.put.new.draft) (sym opened)
    (item_adds (seen c.args.scope.now) (string_bytes c.args.name.now.text) (expr_tree c.args.place.now) (expr_tree c.args.value.now) c.args.name.now.at c.args.at c.in-Some.to c.args.draft.now c.lower.new.draft c.lower-2.new.draft c.put.new.draft found c.in_ok-lower.ensures.ok c.in_ok-lower-2.ensures.ok p))
    c.put.ensures.added

pub returns-in_default-clause-whole : goal.returns-in_default-clause-whole
returns-in_default-clause-whole c =
    let none : cells_named (seen c.args.scope.now) (string_bytes c.args.name.now.text) ≡ None = search rules in
    subst (λ o. OnOk c.set_part.result (o ≡ None))
    (sym (one_place (called c.args.scope.now).functions (seen c.args.scope.now) (string_bytes c.args.name.now.text) (expr_tree c.args.place.now) (expr_tree c.args.value.now) c.args.at (map expr_tree c.args.places.now) (ap (map expr_tree) c.requires.one) none))
    c.set_part.ensures.whole

pub returns-in_default-clause-fault : goal.returns-in_default-clause-fault
returns-in_default-clause-fault c =
    let none : cells_named (seen c.args.scope.now) (string_bytes c.args.name.now.text) ≡ None = search rules in
    subst (λ o. IfErr c.set_part.result (IsFault o c.set_part.new.draft))
    (sym (one_place (called c.args.scope.now).functions (seen c.args.scope.now) (string_bytes c.args.name.now.text) (expr_tree c.args.place.now) (expr_tree c.args.value.now) c.args.at (map expr_tree c.args.places.now) (ap (map expr_tree) c.requires.one) none))
    c.set_part.ensures.fault
