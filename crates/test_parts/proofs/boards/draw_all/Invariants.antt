use Rattle.std.proofs.Common.{◌≡◌, None}
use Rattle.claim_board.specs.Seen.{IsPassOf}
use Rattle.test_parts.proofs.boards.draw_all.Given as goal

abbrev pub invariant-loop : goal.invariant-loop
invariant-loop l = IsPassOf l.board l.pass × (l.pass.held ≡ None)
