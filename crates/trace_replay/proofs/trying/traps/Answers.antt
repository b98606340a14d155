use Rattle.std.proofs.Common.{◌≡◌, ◌<◌, ◌≤◌, arith, length, map}
use Rattle.std.proofs.lemmas.List.{length-map}
use Rattle.net_state.specs.Held.{seen}
use Rattle.trace_replay.proofs.Tried.{beyond_no_trap, fired_no_trap, may_work, none_no_trap, room_no_trap, traps_other, traps_so}
use Rattle.trace_replay.proofs.trying.traps.Goals as goal

pub returns-then-inst-count-clause-no : goal.returns-then-inst-count-clause-no
returns-then-inst-count-clause-no g c =
    let count : length (map g.A.Firing.cell c.args.state.now.cells) ≡ length c.args.state.now.cells = length-map c.args.state.now.cells g.A.Firing.cell in
    let high : length (map g.A.Firing.cell c.args.state.now.cells) ≤ c.args.inst = omega (arith, count, c.requires.count, c.if-inst-count.true) in
    λ none. beyond_no_trap (seen g.A.Firing.cell c.args.state.now) c.args.inst c.args.action c.args.trap high

pub try_fire-requires : goal.try_fire-requires
try_fire-requires g c =
    let count : length (map g.A.Firing.cell c.args.state.now.cells) ≡ length c.args.state.now.cells = length-map c.args.state.now.cells g.A.Firing.cell in
    let low : c.args.inst < length (map g.A.Firing.cell c.args.state.now.cells) = omega (arith, count, c.requires.count, c.if-inst-count.false) in
    record { may = may_work (map g.A.Firing.cell c.args.state.now.cells) c.args.inst low c.requires.work }

pub returns-in-Trap : goal.returns-in-Trap
returns-in-Trap g c = record {
  yes = λ same. traps_so (seen g.A.Firing.cell c.args.state.now) (seen g.A.Firing.cell c.try_fire.new.self) c.args.inst c.args.action c.in-Trap.cause c.args.trap c.in-Trap.ensures.tries
      (c.is_trap.ensures.yes same);
  no = λ differ. traps_other (seen g.A.Firing.cell c.args.state.now) (seen g.A.Firing.cell c.try_fire.new.self) c.args.inst c.args.action c.in-Trap.cause c.args.trap c.in-Trap.ensures.tries
      (c.is_trap.ensures.no differ);
}

pub returns-in-Fired-clause-no : goal.returns-in-Fired-clause-no
returns-in-Fired-clause-no g c = λ none. fired_no_trap (seen g.A.Firing.cell c.args.state.now) (seen g.A.Firing.cell c.try_fire.new.self) c.args.inst c.args.action c.args.trap c.in-Fired.ensures.tries

pub returns-in-NotExposed-clause-no : goal.returns-in-NotExposed-clause-no
returns-in-NotExposed-clause-no g c = λ none. none_no_trap (seen g.A.Firing.cell c.args.state.now) (seen g.A.Firing.cell c.try_fire.new.self) c.args.inst c.args.action c.args.trap c.in-NotExposed.ensures.tries

pub returns-in-NoRoom-clause-no : goal.returns-in-NoRoom-clause-no
returns-in-NoRoom-clause-no g c = λ none. room_no_trap (seen g.A.Firing.cell c.args.state.now) (seen g.A.Firing.cell c.try_fire.new.self) c.args.inst c.args.action c.in-NoRoom.port c.args.trap c.in-NoRoom.ensures.tries
