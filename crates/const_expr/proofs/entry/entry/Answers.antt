use Rattle.std.proofs.Common.{ap, sym, arith, ◌∙◌}
use Rattle.cal_model.specs.Outcome.{needed}
use Rattle.cal_model.specs.Value.{stored}
use Rattle.cal_model.specs.View.{shape_view, value_view}
use Rattle.const_expr.proofs.Entries.{entered_end, entered_next, not_as_many}
use Rattle.const_env.proofs.Tested.{sized_at}
use Rattle.const_expr.proofs.entry.entry.Goals as goal

pub returns-then-formals-args : goal.returns-then-formals-args
returns-then-formals-args c = λ left. ap (λ o. needed o left) (not_as_many c.args.formals.now c.args.args.now c.if-formals-args.true)

pub stored-requires : goal.stored-requires
stored-requires c = sized_at c.args.formals.now c.loop-place.place c.index-formals-place.result c.requires (omega arith)

pub loop-place-preserved : goal.loop-place-preserved
loop-place-preserved c =
    entered_next c.args.formals.now c.args.args.now c.loop-place.kept.items c.push.new.self.items c.loop-place.place c.index-formals-place.result c.index-args-place.result c.in_ok-value.value
    (omega arith) (omega arith) c.loop-place.invariant c.in_ok-push.ensures.items c.index-formals-place.is c.index-args-place.is
    (c.in_ok-value.ensures ∙ ap (λ y. stored (shape_view y.shape) (value_view c.index-args-place.result)) (sym c.index-formals-place.is))

pub returns : goal.returns
returns c = λ left. ap (λ o. needed o left) (entered_end c.args.formals.now c.args.args.now c.loop-place.kept.items c.loop-place.place (omega arith) (omega arith) c.loop-place.invariant)
