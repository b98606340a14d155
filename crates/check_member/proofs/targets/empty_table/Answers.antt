use Rattle.std.proofs.Common.{arith}
use Rattle.check_member.proofs.Departing.{tells-none}
use Rattle.check_member.proofs.targets.empty_table.Goals as goal

pub returns : goal.returns
returns c = tells-none c.args.states c.args.columns c.loop-place.table.items (omega (arith, c.loop-place.invariant.size, c.loop-place.auto._place-end, c.loop-place-test.false)) c.loop-place.invariant.none
