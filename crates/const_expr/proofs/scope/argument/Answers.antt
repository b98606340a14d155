use Rattle.std.proofs.Common.{rules, ◌-◌, arith, ap}
use Rattle.cal_model.specs.Env.{find}
use Rattle.const_expr.proofs.Entries.{argument_before, argument_here, frame_front}
use Rattle.const_expr.proofs.scope.argument.Goals as goal

pub backwards-init : goal.backwards-init
backwards-init c = (omega (arith, c.min-place.ensures), omega (arith, c.min-place.ensures), ap (find c.args.name.now) (frame_front c.min-place.result c.args.formals.now c.args.arguments.now c.min-place.ensures))

pub returns-then-eq : goal.returns-then-eq
returns-then-eq c =
    argument_here c.args.name.now c.args.formals.now c.args.arguments.now (c.backwards.place - 1) c.backwards.place c.index-formals-place.result c.index-arguments-place.result _
    (omega arith) (omega arith) c.index-formals-place.is c.index-arguments-place.is (omega arith) c.backwards.invariant.2 (search rules)

pub backwards-preserved : goal.backwards-preserved
backwards-preserved c = (
  omega arith,
  omega arith,
  argument_before c.args.name.now c.args.formals.now c.args.arguments.now (c.backwards.place - 1) c.backwards.place c.index-formals-place.result _
      (omega arith) (omega arith) c.index-formals-place.is (omega arith) c.backwards.invariant.2 (search rules),
)
