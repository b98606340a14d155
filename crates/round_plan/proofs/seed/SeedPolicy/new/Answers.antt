use Rattle.std.proofs.Common.{sym}
use Rattle.round_plan.proofs.Sequence.{number_at-zero}
use Rattle.round_plan.proofs.seed.SeedPolicy.new.Goals as goal

pub invariant_of-result : goal.invariant_of-result
invariant_of-result c = sym (number_at-zero c.args.seed)
