use Rattle.std.proofs.Common.{arith, map, refl}
use Rattle.std.specs.Prelude.{vec_items}
use Rattle.std.proofs.lemmas.Option.{slice_get-get_or}
use Rattle.net_state.proofs.Kept.{any_link, place_of_writer}
use Rattle.net_state.proofs.Grown.{grown_fits, grown_rooms, grown_states, grown_working}
use Rattle.net_state.proofs.growing.grow_link.Goals as goal

pub fix_rooms-requires-clause-fits : goal.fix_rooms-requires-clause-fits
fix_rooms-requires-clause-fits g c = λ l low.
    grown_fits (map g.A.Firing.cell c.args.cells.now) c.args.links.now c.args.capacities.now c.args.waited.now c.requires.working c.args.l c.args.limit c.doubled-capacity.result c.requires.queues
    (omega (arith, c.doubled-capacity.ensures, c.requires.below)) (omega (arith, c.doubled-capacity.ensures)) (omega (arith, c.ranges.limit.fits)) l _ (slice_get-get_or c.args.links.now l any_link low)

pub fix_rooms-requires-clause-places : goal.fix_rooms-requires-clause-places
fix_rooms-requires-clause-places g c = λ l link at.
    place_of_writer (map g.A.Firing.cell c.args.cells.now) (map vec_items c.args.rooms.now) c.requires.rooms.rows c.requires.rooms.widths link.from (c.requires.working.fits l link at).writer

pub returns : goal.returns
returns g c = record {
  doubled = c.doubled-capacity.ensures;
  capacities = refl;
  states = grown_states (map g.A.Firing.cell c.args.cells.now) c.args.links.now c.args.capacities.now c.args.waited.now c.requires.working c.args.l c.args.limit c.doubled-capacity.result c.requires.queues
      (omega (arith, c.doubled-capacity.ensures, c.requires.below)) (omega (arith, c.doubled-capacity.ensures)) (omega (arith, c.ranges.limit.fits));
  working = grown_working (map g.A.Firing.cell c.args.cells.now) c.args.links.now c.args.capacities.now c.args.waited.now c.requires.working c.args.l c.args.limit c.doubled-capacity.result c.requires.queues
      (omega (arith, c.doubled-capacity.ensures, c.requires.below)) (omega (arith, c.doubled-capacity.ensures)) (omega (arith, c.ranges.limit.fits));
  rooms = grown_rooms (map g.A.Firing.cell c.args.cells.now) c.args.links.now c.args.capacities.now c.args.waited.now c.requires.working c.args.l c.args.limit c.doubled-capacity.result c.requires.queues
      (omega (arith, c.doubled-capacity.ensures, c.requires.below)) (omega (arith, c.doubled-capacity.ensures)) (omega (arith, c.ranges.limit.fits))
      (map vec_items c.args.rooms.now) (map vec_items c.fix_rooms.new.table) c.requires.rooms c.fix_rooms.ensures.shape c.fix_rooms.ensures.rooms;
}
