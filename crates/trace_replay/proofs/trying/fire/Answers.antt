use Rattle.std.proofs.Common.{◌≡◌, ◌<◌, ◌≤◌, arith, length, map}
use Rattle.std.proofs.lemmas.List.{length-map}
use Rattle.net_state.specs.Held.{seen}
use Rattle.trace_replay.proofs.Tried.{beyond_fails, may_work, none_is_fails, room_fails, still_work, trap_fails}
use Rattle.trace_replay.proofs.trying.fire.Goals as goal

pub returns-then-inst-count-clause-fails : goal.returns-then-inst-count-clause-fails
returns-then-inst-count-clause-fails g c =
    let count : length (map g.A.Firing.cell c.args.state.now.cells) ≡ length c.args.state.now.cells = length-map c.args.state.now.cells g.A.Firing.cell in
    let high : length (map g.A.Firing.cell c.args.state.now.cells) ≤ c.args.inst = omega (arith, count, c.requires.count, c.if-inst-count.true) in
    beyond_fails (seen g.A.Firing.cell c.args.state.now) c.args.inst c.args.action high

pub try_fire-requires : goal.try_fire-requires
try_fire-requires g c =
    let count : length (map g.A.Firing.cell c.args.state.now.cells) ≡ length c.args.state.now.cells = length-map c.args.state.now.cells g.A.Firing.cell in
    let low : c.args.inst < length (map g.A.Firing.cell c.args.state.now.cells) = omega (arith, count, c.requires.count, c.if-inst-count.false) in
    record { may = may_work (map g.A.Firing.cell c.args.state.now.cells) c.args.inst low c.requires.work }

pub returns-in-Fired : goal.returns-in-Fired
returns-in-Fired g c = record {
  fires = λ net opened s stands. c.in-Fired.ensures.tries.states net opened s stands;
  fails = tt;
  still_work = still_work (seen g.A.Firing.cell c.args.state.now) (seen g.A.Firing.cell c.try_fire.new.self) c.args.inst c.args.action c.requires.work c.in-Fired.ensures.tries;
  same_actors = c.try_fire.ensures.same_actors;
  fewer = c.try_fire.ensures.fewer;
  links = c.try_fire.ensures.links;
  capacities = c.try_fire.ensures.capacities;
  waited = c.try_fire.ensures.waited;
}

pub returns-in-Trap : goal.returns-in-Trap
returns-in-Trap g c = record {
  fires = tt;
  fails = trap_fails (seen g.A.Firing.cell c.args.state.now) (seen g.A.Firing.cell c.try_fire.new.self) c.args.inst c.args.action c.in-Trap.field-0 c.in-Trap.ensures.tries;
  still_work = tt;
  same_actors = tt;
  fewer = c.try_fire.ensures.fewer;
  links = c.try_fire.ensures.links;
  capacities = c.try_fire.ensures.capacities;
  waited = c.try_fire.ensures.waited;
}

pub returns-in-NotExposed : goal.returns-in-NotExposed
returns-in-NotExposed g c = record {
  fires = tt;
  fails = none_is_fails (seen g.A.Firing.cell c.args.state.now) (seen g.A.Firing.cell c.try_fire.new.self) c.args.inst c.args.action c.in-NotExposed.ensures.tries;
  still_work = tt;
  same_actors = tt;
  fewer = c.try_fire.ensures.fewer;
  links = c.try_fire.ensures.links;
  capacities = c.try_fire.ensures.capacities;
  waited = c.try_fire.ensures.waited;
}

pub returns-in-NoRoom : goal.returns-in-NoRoom
returns-in-NoRoom g c = record {
  fires = tt;
  fails = room_fails (seen g.A.Firing.cell c.args.state.now) (seen g.A.Firing.cell c.try_fire.new.self) c.args.inst c.args.action c.in-NoRoom.port c.in-NoRoom.ensures.tries;
  still_work = tt;
  same_actors = tt;
  fewer = c.try_fire.ensures.fewer;
  links = c.try_fire.ensures.links;
  capacities = c.try_fire.ensures.capacities;
  waited = c.try_fire.ensures.waited;
}
