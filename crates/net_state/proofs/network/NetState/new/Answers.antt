use Rattle.std.proofs.Common.{map, take, drop, length, arith, sym, subst, rules, ◌≡◌, ◌++◌}
use Rattle.net_state.specs.Beginning.{AreLawfulCells}
use Rattle.net_state.specs.Standing.{StandAtStart}
use Rattle.net_state.specs.Held.{capacity_of}
use Rattle.net_state.proofs.Readied.{lawful_net}
use Rattle.net_state.proofs.Slices.{written_back}
use Rattle.net_state.proofs.Starting.{start_stands}
use Rattle.net_state.proofs.network.NetState.new.Goals as goal

pub returns-clause-states : goal.returns-clause-states
returns-clause-states g c =
    let same : c.in_ok-capacities.capacities.items ≡ map capacity_of c.args.links.items = search rules in
    let waited : take c.in_ok-waited.waited.len (c.lay_out.new.waited ++ drop (length c.lay_out.new.waited) c.in_ok-waited.waited.items) ≡ c.lay_out.new.waited =
    written_back c.in_ok-waited.waited.items c.lay_out.new.waited c.in_ok-waited.waited.len (omega (arith, c.lay_out.auto.waited, c.deref_mut.ensures.len)) in
    rw waited
    (subst (λ ns. StandAtStart (record { cells = map g.A.Firing.cell c.args.cells.items; links = c.args.links.items; capacities = ns; waited = c.lay_out.new.waited })) (sym same)
    (start_stands (map g.A.Firing.cell c.args.cells.items) c.args.links.items c.lay_out.new.waited c.requires.can_work))

pub returns-clause-lawful : goal.returns-clause-lawful
returns-clause-lawful g c =
    let lawful : AreLawfulCells (map g.A.Firing.cell c.args.cells.items) = search rules in
    lawful_net (map g.A.Firing.cell c.args.cells.items) c.args.links.items lawful
