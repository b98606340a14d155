use Rattle.std.proofs.Common.{map, length, subst, sym, ap, ◌∙◌, ◌≤◌}
use Rattle.std.specs.Prelude.{vec_items, slice_index_or}
use Rattle.std.proofs.lemmas.List.{length-map}
use Rattle.std.proofs.lemmas.Option.{slice_get-get_or}
use Rattle.net_state.specs.Held.{HoldFew, IsWorking, capacity_of}
use Rattle.net_state.proofs.Kept.{any_link, place_of_writer}
use Rattle.net_state.proofs.Starting.{start_working, readers_at_start, rooms_at_start, fits_at_start}
use Rattle.net_state.proofs.delivering.lay_out.Goals as goal

pub count_waiting-requires-clause-readers : goal.count_waiting-requires-clause-readers
count_waiting-requires-clause-readers g c = readers_at_start (map g.A.Firing.cell c.args.cells.now) c.args.links.now c.requires.can

pub fix_rooms-requires-clause-each_holds : goal.fix_rooms-requires-clause-each_holds
fix_rooms-requires-clause-each_holds g c = ap (λ ns. length ns) c.requires.capacities ∙ length-map c.args.links.now capacity_of

pub fix_rooms-requires-clause-fits : goal.fix_rooms-requires-clause-fits
fix_rooms-requires-clause-fits g c = λ l low.
    subst (λ ns. slice_index_or c.count_waiting.new.waited l 0 ≤ slice_index_or ns l 0) (sym c.requires.capacities)
    (fits_at_start (map g.A.Firing.cell c.args.cells.now) c.args.links.now c.count_waiting.new.waited c.requires.can c.count_waiting.ensures l _
    (slice_get-get_or c.args.links.now l any_link low))

pub fix_rooms-requires-clause-places : goal.fix_rooms-requires-clause-places
fix_rooms-requires-clause-places g c = λ l link at.
    place_of_writer (map g.A.Firing.cell c.args.cells.now) (map vec_items c.args.rooms.now) c.requires.widths.rows c.requires.widths.widths link.from (c.requires.can.joined l link at).writer

pub returns : goal.returns
returns g c = record {
  counted = c.count_waiting.ensures;
  working = subst (λ ns. IsWorking (map g.A.Firing.cell c.args.cells.now) c.args.links.now ns c.count_waiting.new.waited) (sym c.requires.capacities)
      (start_working (map g.A.Firing.cell c.args.cells.now) c.args.links.now c.count_waiting.new.waited c.requires.can c.count_waiting.ensures
      (subst HoldFew c.requires.capacities c.requires.few));
  rooms = rooms_at_start (map g.A.Firing.cell c.args.cells.now) c.args.links.now c.args.capacities.now c.count_waiting.new.waited (map vec_items c.args.rooms.now) (map vec_items c.fix_rooms.new.table)
      c.requires.widths c.fix_rooms.ensures.shape c.fix_rooms.ensures.rooms;
}
