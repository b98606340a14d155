use Rattle.std.proofs.Common.{sym, subst}
use Rattle.cal_model.specs.Value.{HasKind, kind_of_type}
use Rattle.cal_model.specs.View.{shape_view}
use Rattle.cal_model.proofs.KindValues.{zero-has-kind}
use Rattle.fnl_values.proofs.start.start.Goals as goal

pub returns-in_ok-zero_of-in-None-clause-kind : goal.returns-in_ok-zero_of-in-None-clause-kind
returns-in_ok-zero_of-in-None-clause-kind c =
    subst (HasKind (kind_of_type (shape_view c.args.t.now))) (sym c.in_ok-zero_of-in-None.ensures) (zero-has-kind (shape_view c.args.t.now) c.requires.allowed)
