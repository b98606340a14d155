use Rattle.std.proofs.Common.{◌≡◌, map, arith, string_bytes, sym, subst, None}
use Rattle.std.specs.Prelude.{IfErr, OnOk}
use Rattle.std.proofs.lemmas.List.{length-map}
use Rattle.cal_ast.specs.View.{expr_tree}
use Rattle.lower_base.specs.Growing.{IsFault}
use Rattle.lower_stmt.specs.StmtSeen.{called, seen}
use Rattle.lower_stmt.proofs.AddingStmts.{many_places}
use Rattle.lower_stmt.proofs.stmts.set.Goals as goal

pub returns-in_default-clause-fault : goal.returns-in_default-clause-fault
returns-in_default-clause-fault c =
    let same = length-map c.args.places.now expr_tree in
    let many = c.in_default.len_at_least in
    subst (λ o. IfErr c.set_part.result (IsFault o c.set_part.new.draft)) (sym (many_places (called c.args.scope.now).functions (seen c.args.scope.now) (string_bytes c.args.name.now.text) (expr_tree c.args.value.now) c.args.at (map expr_tree c.args.places.now) (omega (arith, same, many)))) c.set_part.ensures.fault

pub returns-in_default-clause-whole : goal.returns-in_default-clause-whole
returns-in_default-clause-whole c =
    let same = length-map c.args.places.now expr_tree in
    let many = c.in_default.len_at_least in
    subst (λ o. OnOk c.set_part.result (o ≡ None)) (sym (many_places (called c.args.scope.now).functions (seen c.args.scope.now) (string_bytes c.args.name.now.text) (expr_tree c.args.value.now) c.args.at (map expr_tree c.args.places.now) (omega (arith, same, many)))) c.set_part.ensures.whole
