use Rattle.std.proofs.Common.{◌≡◌, ◌≤◌, ◌∙◌, List, length, ap, subst, arith}
use Rattle.claim_board.specs.Pieces.{IsWorked}
use Rattle.claim_board.specs.Seen.{AtEachPlace}
use Rattle.claimed_bursts.proofs.Closing.{lent_ended}
use Rattle.claimed_bursts.proofs.working.work_all.Goals as goal

pub returns-in-Ok-clause-worked : goal.returns-in-Ok-clause-worked
returns-in-Ok-clause-worked g c =
    let put = c.in-Ok.ensures.put in
    let len : length c.work_part.new.rights ≡ c.in-Ok.passes.len = omega (arith, c.work_part.auto.rights, c.as_mut_slice.ensures.len) in
    let count : length c.in-Ok.passes.items ≡ c.args.crew.count = c.in-Ok.ensures.passes.1 in
    let same : length c.as_mut_slice.result.now ≡ length c.in-Ok.passes.items = ap (λ l. length l) c.as_mut_slice.ensures.value in
    let some : 1 ≤ c.in-Ok.passes.len = omega (arith, c.as_mut_slice.ensures.len, same, count, c.requires.some) in
    record {
      places = c.close.ensures.places ∙ ap (λ (l : List g.row.P.Denot). length l) put;
      each = subst (λ (l : List g.row.P.Denot). AtEachPlace (IsWorked g.P.Piece.state g.P.Piece.marked g.P.Piece.gives l) c.close.result.items) put
          (c.close.ensures.ended (lent_ended c.in-Ok.board c.in-Ok.passes.items c.work_part.new.rights c.in-Ok.passes.len len some c.work_part.ensures.ended));
    }
