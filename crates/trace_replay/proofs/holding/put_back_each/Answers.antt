use Rattle.std.proofs.Common.{◌≡◌, ◌+◌, ◌≤◌, ℕ, suc, length, subst, arith}
use Rattle.std.specs.Prelude.{Some, slice_get, slice_index_or, slice_set}
use Rattle.std.proofs.lemmas.Option.{slice_get-get_or}
use Rattle.token_ring.specs.Queue.{Queue}
use Rattle.net_state.specs.Held.{seen}
use Rattle.trace_replay.proofs.Stacks.{IsPuttingEach, put_counts, put_empty, puts_each, putting_input, putting_more, putting_room, putting_starts}
use Rattle.trace_replay.proofs.holding.put_back_each.Goals as goal

pub loop-l-init : goal.loop-l-init
loop-l-init g c = putting_starts (seen g.A.Firing.cell c.args.state.now) c.args.stacks.now c.args.put.now

pub put_back_one-requires : goal.put_back_one-requires
put_back_one-requires g c =
    let stack : Queue = slice_index_or c.loop-l.stacks c.loop-l.l c.index-stacks-l.result in
    let at : slice_get c.loop-l.stacks c.loop-l.l ≡ Some stack = slice_get-get_or c.loop-l.stacks c.loop-l.l c.index-stacks-l.result (omega (arith, c.loop-l-test.true, c.loop-l.auto.stacks)) in
    record {
      input = putting_input c.loop-l.l (seen g.A.Firing.cell c.args.state.now) (seen g.A.Firing.cell c.loop-l.state) c.args.stacks.now c.loop-l.stacks c.loop-l.put stack c.loop-l.invariant c.requires.fit at;
      room = putting_room c.loop-l.l (seen g.A.Firing.cell c.args.state.now) (seen g.A.Firing.cell c.loop-l.state) c.args.stacks.now c.loop-l.stacks c.loop-l.put stack c.loop-l.invariant c.requires.fit at;
    }

pub loop-l-preserved : goal.loop-l-preserved
loop-l-preserved g c =
    let stack : Queue = slice_index_or c.loop-l.stacks c.loop-l.l c.index-stacks-l.result in
    let at : slice_get c.loop-l.stacks c.loop-l.l ≡ Some stack = slice_get-get_or c.loop-l.stacks c.loop-l.l c.index-stacks-l.result (omega (arith, c.loop-l-test.true, c.loop-l.auto.stacks)) in
    let next : suc c.loop-l.l ≡ c.loop-l.l + 1 = omega arith in
    let stacks_new = slice_set c.loop-l.stacks c.loop-l.l c.put_back_one.new.stack in
    let put_new = slice_set c.loop-l.put c.loop-l.l c.put_back_one.result in
    subst (λ n. IsPuttingEach n (seen g.A.Firing.cell c.args.state.now) (seen g.A.Firing.cell c.put_back_one.new.state) c.args.stacks.now stacks_new put_new) next
    (putting_more c.loop-l.l (seen g.A.Firing.cell c.args.state.now) (seen g.A.Firing.cell c.loop-l.state) c.args.stacks.now c.loop-l.stacks c.loop-l.put stack c.loop-l.invariant c.requires.fit at
    (seen g.A.Firing.cell c.put_back_one.new.state) c.put_back_one.new.stack c.put_back_one.result (omega (arith, c.loop-l-test.true, c.loop-l.auto.put, c.loop-l.auto.stacks, c.requires.as_many)) c.put_back_one.ensures.puts c.put_back_one.ensures.count c.put_back_one.ensures.emptied c.put_back_one.ensures.as_much)

all_put : (k n : ℕ) → k ≤ n → n ≤ k → k ≡ n
all_put k n most high = omega (arith, most, high)

pub returns : goal.returns
returns g c =
    let all : c.loop-l.l ≡ length c.args.stacks.now = all_put c.loop-l.l (length c.args.stacks.now) (omega (arith, c.loop-l.auto.l-end)) (omega (arith, c.loop-l-test.false)) in
    let old = seen g.A.Firing.cell c.args.state.now in
    let now = seen g.A.Firing.cell c.loop-l.state in
    let put_long : length c.loop-l.put ≡ length c.args.stacks.now = omega (arith, c.loop-l.auto.put, c.requires.as_many) in
    record {
      puts = puts_each c.loop-l.l old now c.args.stacks.now c.loop-l.stacks c.loop-l.put c.loop-l.invariant all c.loop-l.auto.stacks put_long;
      emptied = put_empty c.loop-l.l old now c.args.stacks.now c.loop-l.stacks c.loop-l.put c.loop-l.invariant all c.loop-l.auto.stacks put_long;
      as_much = c.loop-l.invariant.rooms;
      put = put_counts c.loop-l.l old now c.args.stacks.now c.loop-l.stacks c.loop-l.put c.loop-l.invariant all c.loop-l.auto.stacks put_long;
    }
