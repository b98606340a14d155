use Rattle.std.proofs.Common.{◌≡◌, length, false}
use Rattle.std.specs.List.{All}
use Rattle.test_parts.proofs.boards.doublings.Given as goal

abbrev pub invariant-loop-number : goal.invariant-loop-number
invariant-loop-number l = (length l.pieces.items ≡ l.number) × All (λ d. d.worked ≡ false) l.pieces.items
