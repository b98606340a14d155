use Rattle.std.proofs.Common.{◌≡◌, List, rules, subst}
use Rattle.cal_ast.specs.View.{expr_tree}
use Rattle.cal_model.specs.View.{shape_view}
use Rattle.lower_base.specs.Callees.{Function, functions_view}
use Rattle.lower_base.specs.Lowered.{Adds}
use Rattle.lower_base.specs.Names.{Name, names_view}
use Rattle.lower_base.specs.Seen.{called, seen}
use Rattle.expr_lower.specs.Filling.{IsFill}
use Rattle.action_lower.proofs.OutputCode.{sent-list}
use Rattle.action_lower.proofs.outputs.put_list.Goals as goal

pub returns-clause-code : goal.returns-clause-code
returns-clause-code c =
    let fs : List Function = functions_view c.args.callees.now in
    let names : List Name = names_view c.args.names.now in
    let there : seen c.outermost.result ≡ names = search rules in
    let filled : Adds (IsFill fs names (expr_tree c.args.value.now) (shape_view c.args.shape.now) c.in_ok-row.row.first) c.take_list.new.draft c.fill.new.draft =
    subst (λ gs. Adds (IsFill gs names (expr_tree c.args.value.now) (shape_view c.args.shape.now) c.in_ok-row.row.first) c.take_list.new.draft c.fill.new.draft) c.outermost.ensures.callees
    (subst (λ ns. Adds (IsFill (called c.outermost.result) ns (expr_tree c.args.value.now) (shape_view c.args.shape.now) c.in_ok-row.row.first) c.take_list.new.draft c.fill.new.draft) there c.in_ok-fill.ensures.ok) in
    (c.in_ok-row.ensures.taken.is, sent-list fs names (expr_tree c.args.value.now) (shape_view c.args.shape.now) c.args.kind c.in_ok-row.row c.args.draft.now c.take_list.new.draft c.fill.new.draft c.put.new.draft c.in_ok-row.ensures.taken filled c.in_ok-put.ensures.added)
