use Rattle.std.proofs.Common.{◌≡◌, None, Some, rules, string_bytes, subst, sym}
use Rattle.std.specs.Prelude.{OnOk}
use Rattle.std.proofs.lemmas.Result.{on_ok_weaker}
use Rattle.lower_base.specs.Parted.{number_of}
use Rattle.lower_base.specs.PartView.{places_of}
use Rattle.lower_stmt.specs.Procedures.{procedure_for, procedure_view}
use Rattle.lower_stmt.specs.StmtSeen.{called, seen}
use Rattle.lower_stmt.proofs.AddingStmts.{run_adds, run_open}
use Rattle.lower_stmt.proofs.stmts.call.Goals as goal

pub returns-clause-ok : goal.returns-clause-ok
returns-clause-ok c =
    let found : procedure_for (string_bytes c.args.name.now.text) (number_of (places_of c.args.args.now)) (called c.args.scope.now).procedures ≡ Some (procedure_view c.in-Some.callee.now) = search rules in
    on_ok_weaker c.put_run.result
    (run_adds (seen c.args.scope.now) (string_bytes c.args.name.now.text) (places_of c.args.args.now) c.args.name.now.at c.args.at (procedure_view c.in-Some.callee.now) c.args.draft.now c.lower_args.new.draft c.put_run.new.draft found c.in_ok-lower_args.ensures.ok)
    c.put_run.ensures.added

pub returns-clause-whole : goal.returns-clause-whole
returns-clause-whole c =
    let found : procedure_for (string_bytes c.args.name.now.text) (number_of (places_of c.args.args.now)) (called c.args.scope.now).procedures ≡ Some (procedure_view c.in-Some.callee.now) = search rules in
    subst (λ o. OnOk c.put_run.result (o ≡ None))
    (sym (run_open (called c.args.scope.now) (seen c.args.scope.now) (string_bytes c.args.name.now.text) (places_of c.args.args.now) c.args.name.now.at c.args.at (procedure_view c.in-Some.callee.now) found)) (search rules)
