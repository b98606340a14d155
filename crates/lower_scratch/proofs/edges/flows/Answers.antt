use Rattle.std.proofs.Common.{◌≤◌, Bool, List, length, subst}
use Rattle.lower_scratch.proofs.Looping.{flows-all}
use Rattle.lower_scratch.proofs.edges.flows.Goals as goal

pub returns : goal.returns
returns c = λ done.
    flows-all c.args.kept c.args.body.now c.args.instr.now c.args.from c.args.to c.loop-k.k
    (subst (λ (row : List Bool). length row ≤ c.loop-k.k) c.row_at-row.ensures c.loop-k-test.false) c.loop-k.invariant
