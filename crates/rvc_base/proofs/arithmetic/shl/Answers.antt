use Rattle.rvc_base.specs.Computing.{computed_of}
use Rattle.rvc_base.proofs.Shifts.{shifted}
use Rattle.rvc_base.proofs.arithmetic.shl.Goals as goal

pub returns-then-b-from-2 : goal.returns-then-b-from-2
returns-then-b-from-2 c =
    shifted c.args.a c.args.b (computed_of c.mul.result) c.from-2.result c.ranges.a c.ranges.b c.mul.ensures c.if-b-lt0.false c.if-b-from-2.true c.from-2.ensures
