use Rattle.std.proofs.Common.{◌≡◌, ap, sym, subst, ◌∙◌, length, map, vec_items}
use Rattle.std.proofs.lemmas.List.{length-map}
use Rattle.net_state.specs.Claiming.{whole}
use Rattle.net_state.specs.Held.{held_of, seen}
use Rattle.net_state.specs.Sharing.{AreFresh, EachBursts, IsPart, WorkEach, share_of}
use Rattle.net_state.proofs.Shared.{leave_all, whole_part}
use Rattle.net_state.proofs.network.NetState.burst_each.Goals as goal

pub burst_cells-made-requires-clause-part : goal.burst_cells-made-requires-clause-part
burst_cells-made-requires-clause-part g c κs within =
    let old = map g.A.Firing.cell c.self.inside.cells.items in
    let as_many : length c.args.marks.now ≡ length old = c.requires.as_many ∙ (ap (λ h. length h.cells) (sym c.self.view_is) ∙ sym (length-map c.self.inside.cells.items g.A.Firing.cell)) in
    let part : IsPart c.args.shares (whole c.args.shares) c.args.marks.now (map vec_items c.self.inside.rooms.items) old =
    whole_part c.args.shares c.args.marks.now old c.self.inside.links.items c.self.inside.capacities.items c.self.inside.waited.items (map vec_items c.self.inside.rooms.items) c.self.invariant.0 c.self.invariant.1
    (subst (λ h. AreFresh c.args.shares.burst (map g.A.Firing.cell h.cells)) (sym c.self.view_is) c.requires.fresh) as_many c.requires.picks in
    subst (λ rs. IsPart c.args.shares (whole c.args.shares) c.args.marks.now (map vec_items rs) old) (sym c.deref.ensures.value) part

pub invariant_of-self : goal.invariant_of-self
invariant_of-self g c =
    let old = map g.A.Firing.cell c.self.inside.cells.items in
    let new = map g.A.Firing.cell c.burst_cells-made.new.cells.items in
    let rows = map vec_items c.self.inside.rooms.items in
    let each : EachBursts (share_of c.args.shares) 0 0 c.args.marks.now rows old c.burst_cells-made.result new =
    subst (λ rs. EachBursts (share_of c.args.shares) 0 0 c.args.marks.now (map vec_items rs) old c.burst_cells-made.result new) c.deref.ensures.value c.burst_cells-made.ensures.each in
    let leave = leave_all c.args.shares c.args.marks.now old new c.self.inside.links.items c.self.inside.capacities.items c.self.inside.waited.items rows c.burst_cells-made.result c.self.invariant.0 c.self.invariant.1 each in
    (leave.at_work.working, leave.at_work.rooms)

pub returns : goal.returns
returns g c =
    let old = map g.A.Firing.cell c.self.inside.cells.items in
    let new = map g.A.Firing.cell c.burst_cells-made.new.cells.items in
    let rows = map vec_items c.self.inside.rooms.items in
    let each : EachBursts (share_of c.args.shares) 0 0 c.args.marks.now rows old c.burst_cells-made.result new =
    subst (λ rs. EachBursts (share_of c.args.shares) 0 0 c.args.marks.now (map vec_items rs) old c.burst_cells-made.result new) c.deref.ensures.value c.burst_cells-made.ensures.each in
    let leave = leave_all c.args.shares c.args.marks.now old new c.self.inside.links.items c.self.inside.capacities.items c.self.inside.waited.items rows c.burst_cells-made.result c.self.invariant.0 c.self.invariant.1 each in
    record {
      work = subst (λ h. WorkEach (share_of c.args.shares) 0 0 c.args.marks.now (seen g.A.Firing.cell h) c.burst_cells-made.result (held_of new c.self.inside.links.items c.self.inside.capacities.items c.self.inside.waited.items)) c.self.view_is leave.work;
      few = c.burst_cells-made.ensures.few;
      arrived = c.burst_cells-made.ensures.arrived;
    }
