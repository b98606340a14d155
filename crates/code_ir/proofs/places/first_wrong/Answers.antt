use Rattle.std.proofs.Common.{rules, ◌<◌, length, arith}
use Rattle.code_ir.proofs.Lists.{take-at}
use Rattle.code_ir.proofs.Tables.{distinct-more}
use Rattle.code_ir.proofs.places.first_wrong.Goals as goal

pub loop-k-preserved : goal.loop-k-preserved
loop-k-preserved c =
    let inside : c.loop-k.k < length c.args.places.now = omega arith in
    rw (take-at c.args.places.now c.loop-k.k 0 inside) (distinct-more _ _ _ c.loop-k.invariant (omega arith) (search rules))
