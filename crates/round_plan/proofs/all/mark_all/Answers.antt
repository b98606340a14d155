use Rattle.std.proofs.Common.{true, false, length, arith}
use Rattle.std.proofs.lemmas.List.FromFn.{fill_by_all}
use Rattle.round_plan.proofs.all.mark_all.Goals as goal

pub returns : goal.returns
returns c =
    fill_by_all (λ _. true) c.loop-k.picked (length c.args.picked.now) false (omega arith) (λ k within. c.loop-k.invariant k (omega arith))
