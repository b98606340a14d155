use Rattle.std.proofs.Common.{take}
use Rattle.std.specs.Prelude.{All}
use Rattle.balanced_rates.specs.Balance.{IsAmong}
use Rattle.balanced_rates.proofs.vector.are_among.Given as goal

abbrev pub invariant-loop-link : goal.invariant-loop-link
invariant-loop-link l = All (IsAmong l.leaves) (take l.link-index l.links)
