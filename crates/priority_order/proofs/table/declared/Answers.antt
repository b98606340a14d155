use Rattle.std.proofs.Common.{true, get_or, take, ◌∙◌, arith}
use Rattle.std.proofs.lemmas.List.{length-set, take_all}
use Rattle.priority_order.proofs.Cells.{Marks, marks_more, place_in}
use Rattle.priority_order.proofs.table.declared.Goals as goal

pub index_mut-requires : goal.index_mut-requires
index_mut-requires c =
    let pair = get_or c.args.pairs.now c.loop-above.above-index (0, 0) in
    let in_range = c.requires c.loop-above.above-index (0, 0) c.loop-above-test.true in
    omega (arith, c.place-at.ensures, place_in c.args.n pair.0 pair.1 in_range.0 in_range.1, c.loop-above.invariant.size, c.loop-above.table.ok.0)

pub loop-above-preserved : goal.loop-above-preserved
loop-above-preserved c =
    let pairs = c.args.pairs.now in
    let i = c.loop-above.above-index in
    let cells = c.loop-above.table.items in
    let in_range = c.requires i (0, 0) c.loop-above-test.true in
    record {
      size = length-set cells c.place-at.result true ∙ c.loop-above.invariant.size;
      marks = rw c.place-at.ensures (marks_more pairs i c.args.n cells c.loop-above-test.true c.loop-above.invariant.size in_range.0 in_range.1 c.loop-above.invariant.marks);
    }

pub returns-clause-pairs : goal.returns-clause-pairs
returns-clause-pairs c =
    let marks : Marks (take c.loop-above.above-index c.args.pairs.now) c.args.n c.loop-above.table.items = c.loop-above.invariant.marks in
    rw (take_all c.loop-above.above-index c.args.pairs.now c.loop-above-test.false) at marks
