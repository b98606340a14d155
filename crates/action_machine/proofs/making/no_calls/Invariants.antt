use Rattle.std.proofs.Common.{◌≡◌, length}
use Rattle.action_machine.proofs.making.no_calls.Given as goal

abbrev pub invariant-loop-k : goal.invariant-loop-k
invariant-loop-k l = length l.frames.items ≡ l._k
