use Rattle.std.proofs.Common.{map, drop, length, subst, ◌-◌}
use Rattle.std.proofs.lemmas.Option.{slice_get-get_or}
use Rattle.net_state.specs.Moving.{EachGains, arriving}
use Rattle.net_state.proofs.Coming.{can_carry_next, carried_next, next_place}
use Rattle.net_state.proofs.carrying.carry_all.Goals as goal

pub follow-requires : goal.follow-requires
follow-requires g c =
    let next = next_place (length c.args.links.now) c.loop-k.k c.loop-k-test.true in
    can_carry_next (map g.A.Firing.cell c.args.cells.now) (map g.A.Firing.cell c.loop-k.cells) c.args.links.now (length c.args.links.now - 1 - c.loop-k.k) _
    (slice_get-get_or c.args.links.now (length c.args.links.now - 1 - c.loop-k.k) _ next.0) c.requires.can_carry c.requires.apart
    (subst (λ n. EachGains (arriving (map g.A.Firing.cell c.args.cells.now) (drop n c.args.links.now)) (map g.A.Firing.cell c.args.cells.now) (map g.A.Firing.cell c.loop-k.cells)) next.1 c.loop-k.invariant)

pub loop-k-preserved : goal.loop-k-preserved
loop-k-preserved g c =
    let next = next_place (length c.args.links.now) c.loop-k.k c.loop-k-test.true in
    subst (λ n. EachGains (arriving (map g.A.Firing.cell c.args.cells.now) (drop n c.args.links.now)) (map g.A.Firing.cell c.args.cells.now) (map g.A.Firing.cell c.follow.new.cells)) next.2
    (carried_next (map g.A.Firing.cell c.args.cells.now) (map g.A.Firing.cell c.loop-k.cells) c.args.links.now (length c.args.links.now - 1 - c.loop-k.k) _
    (slice_get-get_or c.args.links.now (length c.args.links.now - 1 - c.loop-k.k) _ next.0) c.requires.can_carry c.requires.apart
    (subst (λ n. EachGains (arriving (map g.A.Firing.cell c.args.cells.now) (drop n c.args.links.now)) (map g.A.Firing.cell c.args.cells.now) (map g.A.Firing.cell c.loop-k.cells)) next.1 c.loop-k.invariant)
    (map g.A.Firing.cell c.follow.new.cells) c.follow.ensures.gains)
