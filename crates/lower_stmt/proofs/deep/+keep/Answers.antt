use Rattle.std.proofs.Common.{◌≡◌, ◌∷◌, map, subst, sym, rules, length}
use Rattle.std.proofs.lemmas.Result.{on_ok_weaker}
use Rattle.cal_ast.specs.Tree.{listed}
use Rattle.cal_ast.specs.View.{expr_tree}
use Rattle.lower_base.specs.Lowered.{Adds}
use Rattle.lower_stmt.specs.StmtSeen.{called, seen}
use Rattle.lower_stmt.specs.Stating.{IsKept}
use Rattle.lower_base.proofs.Adding.{no_items}
use Rattle.lower_stmt.proofs.AddingStmts.{kept_adds, kept_none}
use Rattle.lower_stmt.proofs.deep.+keep.Goals as goal

pub returns-in_default-clause-ok : goal.returns-in_default-clause-ok
returns-in_default-clause-ok t c =
    let none : length c.args.places.now ≡ 0 = search rules in
    subst (λ xs. Adds (IsKept (called c.args.scope.now).functions (seen c.args.scope.now) c.args.cell (listed (map expr_tree xs))) c.args.draft.now c.args.draft.now) (sym (no_items c.args.places.now none))
    (kept_none (seen c.args.scope.now) c.args.cell c.args.draft.now)

pub returns-clause-ok : goal.returns-clause-ok
returns-clause-ok t c =
    let opened : map expr_tree c.args.places.now ≡ expr_tree c.in-Some.first.now ∷ map expr_tree c.in-Some.rest.now = search rules in
    on_ok_weaker c.keep.result
    (λ h. subst (λ xs. Adds (IsKept (called c.args.scope.now).functions (seen c.args.scope.now) c.args.cell (listed xs)) c.args.draft.now c.keep.new.draft) (sym opened)
    (kept_adds (seen c.args.scope.now) (expr_tree c.in-Some.first.now) (listed (map expr_tree c.in-Some.rest.now)) c.args.cell c.args.draft.now c.lower.new.draft c.put.new.draft c.keep.new.draft c.in_ok-lower.ensures.ok c.in_ok-put.ensures.added h))
    c.keep.ensures.ok
