use Rattle.std.proofs.Common.{◌≡◌, ◌≤◌, length, arith}
use Rattle.net_state.specs.Held.{seen}
use Rattle.net_state.proofs.Stacked.{none_of}
use Rattle.trace_replay.proofs.Stacks.{puts_nothing, puts_stack}
use Rattle.trace_replay.proofs.holding.put_back_one.Goals as goal

pub put_back_all-requires : goal.put_back_all-requires
put_back_all-requires g c =
    let some : 1 ≤ length c.args.stack.now.tokens = omega (arith, c.len-count.ensures.len, c.if-count-eq0.false) in
    record { input = c.requires.input some; room = c.requires.room some }

pub returns-then-count-eq0 : goal.returns-then-count-eq0
returns-then-count-eq0 g c =
    let none : length c.args.stack.now.tokens ≡ 0 = omega (arith, c.len-count.ensures.len, c.if-count-eq0.true) in
    record {
      puts = puts_nothing c.args.link.0 c.args.stack.now.tokens (seen g.A.Firing.cell c.args.state.now) none;
      count = omega (arith, none);
      emptied = none_of c.args.stack.now.tokens none;
      as_much = Rattle.std.proofs.Common.refl;
    }

pub returns-clause-puts : goal.returns-clause-puts
returns-clause-puts g c =
    let some : 1 ≤ length c.args.stack.now.tokens = omega (arith, c.len-count.ensures.len, c.if-count-eq0.false) in
    puts_stack c.args.link.0 c.args.stack.now.tokens (seen g.A.Firing.cell c.args.state.now) (seen g.A.Firing.cell c.put_back_all.new.self) (c.requires.input some)
    c.put_back_all.ensures.puts_back c.put_back_all.ensures.elsewhere
    (record {
      actors = c.put_back_all.ensures.same_actors;
      marks = c.put_back_all.ensures.same_marks;
      links = c.put_back_all.ensures.links;
      capacities = c.put_back_all.ensures.capacities;
      waited = c.put_back_all.ensures.waited;
    })
