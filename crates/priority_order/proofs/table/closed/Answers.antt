use Rattle.std.proofs.Common.{◌≡◌, ◌*◌, length, drop, subst, arith}
use Rattle.std.proofs.lemmas.List.{take_at}
use Rattle.priority_order.proofs.ClosedTables.{ClosedBelow, closed_none, closed_more, closed_all}
use Rattle.priority_order.proofs.table.closed.Goals as goal

pub loop-through-init : goal.loop-through-init
loop-through-init c = record {
  size = c.in_ok-table.ensures.size;
  chains = closed_none c.args.pairs.now c.args.n c.in_ok-table.table.items c.in_ok-table.ensures.pairs;
}

pub loop-through-preserved : goal.loop-through-preserved
loop-through-preserved c =
    let new = c.widen.new.table in
    let before = c.loop-through.table.items in
    let width : length new ≡ c.loop-through.table.len = omega (arith, c.widen.auto.table, c.deref_mut.ensures.len, c.loop-through.table.ok.0) in
    let size : length new ≡ c.args.n * c.args.n = omega (arith, c.loop-through.table.ok.0, c.loop-through.invariant.size) in
    let next = rw c.deref_mut.ensures.value at c.widen.ensures in
    record {
      size = rw (take_at new (drop (length new) before) c.loop-through.table.len width) size;
      chains = rw (take_at new (drop (length new) before) c.loop-through.table.len width) (closed_more c.args.pairs.now c.args.n c.loop-through.through before new c.loop-through-test.true c.loop-through.invariant.chains next);
    }

pub returns : goal.returns
returns c =
    let end : c.loop-through.through ≡ c.args.n = omega arith in
    let closed : ClosedBelow c.args.pairs.now c.args.n c.args.n c.loop-through.table.items =
    subst (λ k. ClosedBelow c.args.pairs.now c.args.n k c.loop-through.table.items) end c.loop-through.invariant.chains in
    record {
      size = c.loop-through.invariant.size;
      chains = closed_all c.args.pairs.now c.args.n c.loop-through.table.items c.requires closed;
    }
