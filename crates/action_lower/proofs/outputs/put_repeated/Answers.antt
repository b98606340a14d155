use Rattle.std.proofs.Common.{◌≡◌, ◌∷◌, [], ◌∙◌, List, map, refl, subst, sym}
use Rattle.std.proofs.lemmas.Result.{IfOk-weaker}
use Rattle.cal_ast.specs.View.{expr_tree}
use Rattle.cal_ast.specs.declared.expr.Expr.{Expr}
use Rattle.cal_model.specs.View.{port_view, shape_view}
use Rattle.lower_base.specs.Callees.{Function, functions_view}
use Rattle.lower_base.specs.Lowered.{Adds}
use Rattle.lower_base.specs.Names.{Name, names_view}
use Rattle.action_lower.specs.Sending.{IsRepeated}
use Rattle.action_lower.proofs.OutputCode.{none-is, none-repeated, one-is, one-repeated, repeated-added}
use Rattle.action_lower.proofs.outputs.put_repeated.Goals as goal

pub returns-in-len1-clause-code : goal.returns-in-len1-clause-code
returns-in-len1-clause-code c =
    let fs : List Function = functions_view c.args.callees.now in
    let names : List Name = names_view c.args.names.now in
    let e : Expr = c.value-item.result in
    let values : c.args.output.now.values.items ≡ e ∷ [] = sym c.as_slice.ensures.value ∙ one-is c.as_slice.result.now e c.in-len1.len_at_least c.in-len1.len_below c.value-item.is in
    IfOk-weaker c.put_list.result _ _
    (λ first h. repeated-added fs names (map port_view c.args.ports.now) c.args.output.now c.args.times c.kind_on-kind.result first c.args.draft.now c.put_list.new.draft c.requires.repeated c.kind_on-kind.ensures h.0
    (subst (λ es. Adds (IsRepeated fs names c.kind_on-kind.result c.args.times (map expr_tree es)) c.args.draft.now c.put_list.new.draft) (sym values)
    (one-repeated fs names (expr_tree e) c.args.times (shape_view c.in_ok-shape.shape) c.kind_on-kind.result c.args.draft.now c.put_list.new.draft c.in_ok-shape.ensures h.1)))
    c.put_list.ensures.code

pub returns-in-empty-clause-code : goal.returns-in-empty-clause-code
returns-in-empty-clause-code c =
    let fs : List Function = functions_view c.args.callees.now in
    let names : List Name = names_view c.args.names.now in
    let values : c.args.output.now.values.items ≡ [] = sym c.as_slice.ensures.value ∙ none-is c.as_slice.result.now c.in-empty.len_below in
    repeated-added fs names (map port_view c.args.ports.now) c.args.output.now c.args.times c.kind_on-kind.result c.args.draft.now.cells c.args.draft.now c.args.draft.now c.requires.repeated c.kind_on-kind.ensures refl
    (subst (λ es. Adds (IsRepeated fs names c.kind_on-kind.result c.args.times (map expr_tree es)) c.args.draft.now c.args.draft.now) (sym values)
    (none-repeated fs names c.args.times c.kind_on-kind.result c.args.draft.now))
