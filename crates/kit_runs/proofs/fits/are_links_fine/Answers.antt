use Rattle.std.proofs.Common.{◌≡◌, ◌≤◌, true, length, map, arith, rules}
use Rattle.std.specs.Prelude.{Some, slice_get}
use Rattle.std.specs.Arc.{arc_value}
use Rattle.kit_runs.specs.Fits.{IsLinkFine}
use Rattle.kit_runs.proofs.Picked.{first_all, first_more}
use Rattle.kit_runs.proofs.fits.are_links_fine.Goals as goal

pub loop-l-preserved : goal.loop-l-preserved
loop-l-preserved c =
    let yes : c.is_link_fine.result ≡ true = search rules in
    let at : slice_get c.args.wiring.now.links.items c.loop-l.l ≡ Some c.link_at.result.now = search rules in
    first_more c.args.wiring.now.links.items (IsLinkFine (map arc_value c.args.actors.now) c.args.wiring.now) c.loop-l.l c.link_at.result.now at c.loop-l.invariant (c.is_link_fine.ensures yes)

pub returns : goal.returns
returns c =
    let all : length c.args.wiring.now.links.items ≤ c.loop-l.l = search (rules, arith) in
    λ yes. first_all c.args.wiring.now.links.items (IsLinkFine (map arc_value c.args.actors.now) c.args.wiring.now) c.loop-l.l all c.loop-l.invariant
