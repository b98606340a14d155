use Rattle.std.proofs.Common.{◌≡◌, None}
use Rattle.claim_board.specs.Seen.{IsPassOf}
use Rattle.test_parts.proofs.boards.hold_turns.Given as goal

abbrev pub invariant-loop-place : goal.invariant-loop-place
invariant-loop-place g l = IsPassOf l.board l.pass × (l.pass.held ≡ None)
