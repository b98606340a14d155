use Rattle.std.proofs.Common.{rules, ◌≡◌, ◌∙◌, length, map, sym, subst}
use Rattle.net_state.specs.Held.{HoldFew, capacity_of}
use Rattle.network_runner.specs.Making.{AreOutletsOf, AreReadersOf, CountNothing}
use Rattle.network_runner.proofs.Begun.{begins, can_work, goes, parts_fit}
use Rattle.network_runner.proofs.runner.Runner.new.Goals as goal

pub new-requires-2 : goal.new-requires-2
new-requires-2 g c = record { can_work = can_work g.A.Firing.cell c.args.cells.items c.args.wiring c.args.plan c.requires.can_run }

pub invariant_of-result : goal.invariant_of-result
invariant_of-result g c =
    let outlets_are : AreOutletsOf c.args.wiring.outs.items c.args.wiring.open_outs.items c.in_ok-outlets.outlets.items = search rules in
    let readers_are : AreReadersOf c.args.wiring.ins.items c.args.wiring.open_ins.items c.args.wiring.links.items c.in_ok-readers.readers.items = search rules in
    let counts_are : CountNothing (length c.args.wiring.links.items) (length c.args.wiring.outs.items) c.in_ok-counts.counts = search rules in
    let came_is : length c.in_ok-came.came.items ≡ length c.args.wiring.links.items = search rules in
    let writers_are : length c.in_ok-writers.writers.items ≡ length c.args.wiring.outs.items = search rules in
    let count_is : c.len-count.result ≡ length c.args.cells.items = search rules in
    let marks_are : length c.in_ok-marks.marks.items ≡ length c.args.cells.items = search rules in
    let copied : c.in_ok-copy.copy.items ≡ c.args.wiring.links.items = search rules in
    let few : HoldFew (map capacity_of c.args.wiring.links.items) =
    subst (λ ls. HoldFew (map capacity_of ls)) (sym c.in_ok-copy.ensures.same ∙ copied) c.in_ok-copy.ensures.few in (
      parts_fit g.A.Firing.cell c.args.cells.items c.args.wiring c.args.plan c.requires.can_run c.in_ok-net.net c.in_ok-outlets.outlets.items c.in_ok-readers.readers.items (g.P.Policy.kind c.args.policy) c.in_ok-trace.trace c.in_ok-writers.writers.items c.in_ok-counts.counts
          c.in_ok-net.ensures.cells c.in_ok-net.ensures.links c.in_ok-net.ensures.capacities outlets_are readers_are counts_are
          (length c.in_ok-came.came.items) (length c.in_ok-writers.writers.items) c.len-count.result came_is writers_are count_is c.in_ok-copy.copy.items copied,
      λ going. goes g.A.Firing.cell c.args.cells.items c.args.wiring c.args.plan c.requires.can_run c.in_ok-net.net c.in_ok-outlets.outlets.items c.in_ok-readers.readers.items (g.P.Policy.kind c.args.policy) c.in_ok-trace.trace c.in_ok-writers.writers.items c.in_ok-counts.counts
          c.in_ok-net.ensures.cells c.in_ok-net.ensures.links c.in_ok-net.ensures.capacities outlets_are readers_are counts_are
          (length c.in_ok-marks.marks.items) (g.P.Policy.rounds c.args.policy) (g.P.Policy.instances c.args.policy) marks_are c.requires.not_asked (subst HoldFew (sym c.in_ok-net.ensures.capacities) few),
    )

pub returns : goal.returns
returns g c =
    let outlets_are : AreOutletsOf c.args.wiring.outs.items c.args.wiring.open_outs.items c.in_ok-outlets.outlets.items = search rules in
    let readers_are : AreReadersOf c.args.wiring.ins.items c.args.wiring.open_ins.items c.args.wiring.links.items c.in_ok-readers.readers.items = search rules in
    let counts_are : CountNothing (length c.args.wiring.links.items) (length c.args.wiring.outs.items) c.in_ok-counts.counts = search rules in
    record {
      begins = begins g.A.Firing.cell c.args.cells.items c.args.wiring c.args.plan c.requires.can_run c.in_ok-net.net c.in_ok-outlets.outlets.items c.in_ok-readers.readers.items (g.P.Policy.kind c.args.policy) c.in_ok-trace.trace c.in_ok-writers.writers.items c.in_ok-counts.counts
          c.in_ok-net.ensures.cells c.in_ok-net.ensures.links c.in_ok-net.ensures.capacities outlets_are readers_are counts_are
          c.in_ok-net.ensures.states c.in_ok-net.ensures.lawful c.in_ok-trace.ensures c.in_ok-writers.ensures.empty;
    }
