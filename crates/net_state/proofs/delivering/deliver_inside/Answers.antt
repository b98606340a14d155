use Rattle.std.proofs.Common.{map}
use Rattle.std.specs.Prelude.{vec_items}
use Rattle.std.proofs.lemmas.Option.{slice_get-get_or}
use Rattle.net_state.specs.Moving.{arriving}
use Rattle.net_state.proofs.Kept.{can_carry_of, leads_inside, marks_of_delivery, moved_same, moved_working, moved_rooms, readers_there, places_there, rooms_fit}
use Rattle.net_state.proofs.Moved.{moved_all_out}
use Rattle.net_state.proofs.Kept.{any_link}
use Rattle.net_state.proofs.delivering.deliver_inside.Goals as goal

pub carry_all-requires-clause-can_carry : goal.carry_all-requires-clause-can_carry
carry_all-requires-clause-can_carry g c = λ l link at. can_carry_of _ _ _ link (c.requires.working.fits l link at)

pub count_waiting-requires-clause-readers : goal.count_waiting-requires-clause-readers
count_waiting-requires-clause-readers g c =
    readers_there (map g.A.Firing.cell c.args.cells.now) (map g.A.Firing.cell c.carry_all.new.cells) (map g.A.Firing.cell c.clear_all.new.cells)
    c.args.links.now c.args.capacities.now c.args.waited.now c.args.waited.now c.requires.working c.carry_all.ensures.gains c.clear_all.ensures

pub fix_rooms-requires-clause-fits : goal.fix_rooms-requires-clause-fits
fix_rooms-requires-clause-fits g c = λ l low.
    rooms_fit (map g.A.Firing.cell c.args.cells.now) (map g.A.Firing.cell c.carry_all.new.cells) (map g.A.Firing.cell c.clear_all.new.cells)
    c.args.links.now c.args.capacities.now c.args.waited.now c.count_waiting.new.waited c.requires.working c.carry_all.ensures.gains c.clear_all.ensures
    c.count_waiting.ensures l _ (slice_get-get_or c.args.links.now l any_link low)

pub fix_rooms-requires-clause-places : goal.fix_rooms-requires-clause-places
fix_rooms-requires-clause-places g c =
    places_there (map g.A.Firing.cell c.args.cells.now) (map g.A.Firing.cell c.carry_all.new.cells) (map g.A.Firing.cell c.clear_all.new.cells)
    c.args.links.now c.args.capacities.now c.args.waited.now c.args.waited.now c.requires.working c.carry_all.ensures.gains c.clear_all.ensures
    (map vec_items c.args.rooms.now) c.requires.rooms

pub returns : goal.returns
returns g c =
    let old = map g.A.Firing.cell c.args.cells.now in
    let mid = map g.A.Firing.cell c.carry_all.new.cells in
    let new = map g.A.Firing.cell c.clear_all.new.cells in
    let same = moved_same old mid new c.args.links.now c.args.capacities.now c.args.waited.now c.count_waiting.new.waited c.requires.working
    c.carry_all.ensures.gains c.clear_all.ensures c.count_waiting.ensures in
    let working = moved_working old mid new c.args.links.now c.args.capacities.now c.args.waited.now c.count_waiting.new.waited c.requires.working
    c.carry_all.ensures.gains c.clear_all.ensures c.count_waiting.ensures in
    record {
      states = λ net s that. leads_inside old mid new c.args.links.now c.args.capacities.now c.args.waited.now c.count_waiting.new.waited c.requires.working
          c.carry_all.ensures.gains c.clear_all.ensures c.count_waiting.ensures net s that;
      same_actors = same;
      same_marks = marks_of_delivery (arriving old c.args.links.now) old mid new c.carry_all.ensures.gains c.clear_all.ensures;
      all_out = moved_all_out mid new c.clear_all.ensures;
      counted = c.count_waiting.ensures;
      working = working;
      rooms = moved_rooms old new c.args.links.now c.args.capacities.now c.args.waited.now c.count_waiting.new.waited (map vec_items c.args.rooms.now) (map vec_items c.fix_rooms.new.table)
          same c.requires.rooms c.fix_rooms.ensures.shape c.fix_rooms.ensures.rooms;
    }
