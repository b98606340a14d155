use Rattle.std.proofs.Common.{◌≡◌, true, sym, ap, subst, ◌∙◌, rules}
use Rattle.cal_check.specs.Constants.{has_kind}
use Rattle.cal_model.specs.Value.{HasKind, kind_of_type, stored}
use Rattle.cal_model.specs.View.{kind_view, shape_view, value_view}
use Rattle.check_values.proofs.Kept.{kept_has_kind}
use Rattle.check_given.proofs.kept.given_stored.Goals as goal

pub returns-in-Ok-clause-kind : goal.returns-in-Ok-clause-kind
returns-in-Ok-clause-kind c =
    let test : has_kind (kind_view c.args.k.now) (value_view c.args.given.now.value) ≡ true = search rules in
    let is : value_view c.in-Ok.value ≡ stored (shape_view c.args.t.now) (value_view c.args.given.now.value) = search rules in
    let fits : has_kind (kind_of_type (shape_view c.args.t.now)) (value_view c.args.given.now.value) ≡ true = ap (λ k. has_kind k (value_view c.args.given.now.value)) (sym c.requires.kind) ∙ test in
    subst (HasKind (kind_of_type (shape_view c.args.t.now))) (sym is) (kept_has_kind (value_view c.args.given.now.value) (shape_view c.args.t.now) c.requires.allowed fits)
