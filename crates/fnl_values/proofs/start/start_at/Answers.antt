use Rattle.std.proofs.Common.{◌≡◌, [], Err, sym, ap, subst, ◌∙◌, rules}
use Rattle.std.specs.Prelude.{Some}
use Rattle.cal_ast.specs.Tree.{present}
use Rattle.cal_ast.specs.View.{expr_tree}
use Rattle.cal_check.specs.Constants.{early_kind}
use Rattle.cal_check.specs.Variables.{come}
use Rattle.cal_model.specs.Kinding.{Fine}
use Rattle.cal_model.specs.Value.{HasKind, kind_of_type, stored}
use Rattle.cal_model.specs.View.{shape_view, value_view}
use Rattle.cal_model.proofs.KindValues.{stored-has-kind}
use Rattle.const_env.specs.Held.{names_in}
use Rattle.fnl_values.proofs.Starts.{start_fault, start_gives}
use Rattle.fnl_values.specs.Judging.{Starts}
use Rattle.fnl_values.proofs.start.start_at.Goals as goal

pub returns-in_err-value-clause-starts : goal.returns-in_err-value-clause-starts
returns-in_err-value-clause-starts c =
    let early : early_kind (kind_of_type (shape_view c.args.t.now)) (expr_tree c.args.e.now) (names_in c.args.env.now) ≡ Fine (kind_of_type (shape_view c.args.t.now)) =
    subst (λ k. early_kind k (expr_tree c.args.e.now) (names_in c.args.env.now) ≡ Fine k) c.requires.kind c.in_ok-early_kind.ensures in
    let same : c.from_residual-in_err-value.result ≡ Err c.in_err-value.field-0.0 = search rules in
    subst (λ r. Starts r (come (shape_view c.args.t.now) (present (expr_tree c.args.e.now)) (names_in c.args.env.now))) (sym same)
    (start_fault c.constants_are_values.ensures c.args.env.now (shape_view c.args.t.now) (expr_tree c.args.e.now) c.in_err-value.field-0.0 c.requires.steady early c.in_err-value.ensures)

pub returns-clause-starts : goal.returns-clause-starts
returns-clause-starts c =
    let early : early_kind (kind_of_type (shape_view c.args.t.now)) (expr_tree c.args.e.now) (names_in c.args.env.now) ≡ Fine (kind_of_type (shape_view c.args.t.now)) =
    subst (λ k. early_kind k (expr_tree c.args.e.now) (names_in c.args.env.now) ≡ Fine k) c.requires.kind c.in_ok-early_kind.ensures in
    let kept : value_view c.in_ok-kept.kept ≡ stored (shape_view c.args.t.now) (value_view c.in_ok-value.value) = search rules in
    (start_gives c.constants_are_values.ensures c.args.env.now (shape_view c.args.t.now) (expr_tree c.args.e.now) (value_view c.in_ok-value.value) c.requires.steady early c.in_ok-value.ensures).0
    ∙ ap (λ v. record { value = Some v; breaks = [] }) (sym kept)

pub returns-clause-kind : goal.returns-clause-kind
returns-clause-kind c =
    let early : early_kind (kind_of_type (shape_view c.args.t.now)) (expr_tree c.args.e.now) (names_in c.args.env.now) ≡ Fine (kind_of_type (shape_view c.args.t.now)) =
    subst (λ k. early_kind k (expr_tree c.args.e.now) (names_in c.args.env.now) ≡ Fine k) c.requires.kind c.in_ok-early_kind.ensures in
    let kept : value_view c.in_ok-kept.kept ≡ stored (shape_view c.args.t.now) (value_view c.in_ok-value.value) = search rules in
    subst (HasKind (kind_of_type (shape_view c.args.t.now))) (sym kept)
    (stored-has-kind (shape_view c.args.t.now) (value_view c.in_ok-value.value) c.requires.allowed
    (start_gives c.constants_are_values.ensures c.args.env.now (shape_view c.args.t.now) (expr_tree c.args.e.now) (value_view c.in_ok-value.value) c.requires.steady early c.in_ok-value.ensures).1)
