use Rattle.std.proofs.Common.{◌≡◌, ◌+◌, ◌-◌, ◌<◌, ◌≤◌, [], ◌∷◌, ◌++◌, ◌∙◌, length, ap, arith}
use Rattle.std.proofs.lemmas.Option.{slice_get_within}
use Rattle.claim_board.specs.Seen.{PassSeen}
use Rattle.claimed_bursts.proofs.Drawing.{goes_on, next_of, rises}
use Rattle.claimed_bursts.proofs.source.draw_pieces.Goals as goal

pub loop-place-smaller : goal.loop-place-smaller
loop-place-smaller g c =
    let put = c.args.board.now.put in
    let old = c.loop-place.pass.drawn in
    let new = c.give_back.new.pass.drawn in
    let place = c.in-Some.place in
    let drawn : new ≡ old ++ place ∷ [] = ap (λ (p : PassSeen g.row.P.Denot). p.drawn) c.give_back.ensures ∙ ap (λ (p : PassSeen g.row.P.Denot). p.drawn) c.in-Some.ensures.some in
    let next : next_of new ≡ place + 1 = ap next_of drawn ∙ goes_on old place in
    let low : next_of old ≤ place = rises old place c.in-Some.ensures.rises in
    let there : place < length put = slice_get_within put place c.in-Some.piece c.in-Some.ensures.piece in
    let falls : length put - next_of new < length put - next_of old = omega (arith, next, low, there) in
    falls
