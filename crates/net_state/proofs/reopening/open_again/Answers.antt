use Rattle.std.proofs.Common.{◌≡◌, ℕ, ◌≤◌, arith, length, map, subst}
use Rattle.std.specs.Prelude.{vec_items}
use Rattle.std.proofs.lemmas.Option.{slice_get-get_or}
use Rattle.net_state.specs.Reopening.{IsReopening}
use Rattle.net_state.proofs.Kept.{any_link, place_of_writer}
use Rattle.net_state.proofs.Noted.{reopened_fits, reopened_rooms, reopened_states, reopened_working, reopening_none}
use Rattle.net_state.proofs.reopening.open_again.Goals as goal

all_done : (l n : ℕ) → l ≤ n → n ≤ l → l ≡ n
all_done l n most high = omega (arith, most, high)

pub loop-l-init : goal.loop-l-init
loop-l-init g c = reopening_none c.args.noted.now c.args.capacities.now c.args.waited.now

pub fix_rooms-requires-clause-fits : goal.fix_rooms-requires-clause-fits
fix_rooms-requires-clause-fits g c = λ l low.
    reopened_fits (map g.A.Firing.cell c.args.cells.now) c.args.links.now c.args.capacities.now c.args.waited.now c.requires.working c.requires.rest c.args.noted.now c.loop-l.waited
    (subst (λ n. IsReopening n c.args.noted.now c.args.capacities.now c.args.waited.now c.loop-l.waited) (all_done c.loop-l.l (length c.args.links.now) (omega (arith, c.loop-l.auto.l-end)) c.loop-l-test.false) c.loop-l.invariant)
    l _ (slice_get-get_or c.args.links.now l any_link low)

pub fix_rooms-requires-clause-places : goal.fix_rooms-requires-clause-places
fix_rooms-requires-clause-places g c = λ l link at.
    place_of_writer (map g.A.Firing.cell c.args.cells.now) (map vec_items c.args.rooms.now) c.requires.rooms.rows c.requires.rooms.widths link.from (c.requires.working.fits l link at).writer

pub returns : goal.returns
returns g c =
    let all : IsReopening (length c.args.links.now) c.args.noted.now c.args.capacities.now c.args.waited.now c.loop-l.waited =
    subst (λ n. IsReopening n c.args.noted.now c.args.capacities.now c.args.waited.now c.loop-l.waited) (all_done c.loop-l.l (length c.args.links.now) (omega (arith, c.loop-l.auto.l-end)) c.loop-l-test.false) c.loop-l.invariant in
    record {
      states = reopened_states (map g.A.Firing.cell c.args.cells.now) c.args.links.now c.args.capacities.now c.args.waited.now c.requires.working c.requires.rest c.args.noted.now c.loop-l.waited all;
      working = reopened_working (map g.A.Firing.cell c.args.cells.now) c.args.links.now c.args.capacities.now c.args.waited.now c.requires.working c.requires.rest c.args.noted.now c.loop-l.waited all;
      rooms = reopened_rooms (map g.A.Firing.cell c.args.cells.now) c.args.links.now c.args.capacities.now c.args.waited.now c.requires.working c.requires.rest c.args.noted.now c.loop-l.waited all
          (map vec_items c.args.rooms.now) (map vec_items c.fix_rooms.new.table) c.requires.rooms c.fix_rooms.ensures.shape c.fix_rooms.ensures.rooms;
    }
