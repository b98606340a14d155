use Rattle.std.proofs.Common.{◌+◌, ◌≤◌, ◌<◌, length, map, vec_items, true, false, subst, sym, refl, ◌∙◌, arith}
use Rattle.std.proofs.lemmas.List.{length-map}
use Rattle.net_state.specs.Made.{joined}
use Rattle.net_state.specs.Sharing.{share_of}
use Rattle.net_state.proofs.Alone.{IsAlone, alone_all, alone_few_all, alone_none, mark_at, part_among, part_few, part_may, part_more, part_row, part_stays, row_at}
use Rattle.net_state.proofs.sharing.burst_alone.Goals as goal
use Rattle.net_state.proofs.sharing.burst_alone.Goals.{then-marks-i, else-marks-i}

pub loop-i-init : goal.loop-i-init
loop-i-init g c = subst (λ m. IsAlone (share_of c.args.shares) c.args.part.cell c.args.part.before c.args.marks.now (map vec_items c.args.rooms.now) (map g.A.Firing.cell c.args.cells.now) 0 c.args.part.before m (map g.A.Firing.cell c.args.cells.now)) (sym c.none_made-made.ensures)
    (alone_none (share_of c.args.shares) c.args.part.cell c.args.part.before c.args.marks.now (map vec_items c.args.rooms.now) (map g.A.Firing.cell c.args.cells.now))

pub split_budget-limit-requires-clause-some : goal.split_budget-limit-requires-clause-some
split_budget-limit-requires-clause-some g c =
    let old = map g.A.Firing.cell c.args.cells.now in
    let low : c.loop-i.i < length old = omega (arith, c.loop-i-test.true, length-map c.args.cells.now g.A.Firing.cell) in
    let low_mark : c.loop-i.i < length c.args.marks.now = omega (arith, low, c.requires.part.marked) in
    let among : c.loop-i.k < c.args.shares.picks = part_among c.args.shares c.requires.shares c.args.part c.args.marks.now (map vec_items c.args.rooms.now) old c.requires.part c.loop-i.i c.loop-i.k c.loop-i.made (map g.A.Firing.cell c.loop-i.cells) c.loop-i.invariant low
    (mark_at c.args.marks.now c.loop-i.i _ true low_mark c.if-marks-i.true) in
    omega (arith, among)

pub split_budget-limit-requires-clause-among : goal.split_budget-limit-requires-clause-among
split_budget-limit-requires-clause-among g c =
    let old = map g.A.Firing.cell c.args.cells.now in
    let low : c.loop-i.i < length old = omega (arith, c.loop-i-test.true, length-map c.args.cells.now g.A.Firing.cell) in
    let low_mark : c.loop-i.i < length c.args.marks.now = omega (arith, low, c.requires.part.marked) in
    part_among c.args.shares c.requires.shares c.args.part c.args.marks.now (map vec_items c.args.rooms.now) old c.requires.part c.loop-i.i c.loop-i.k c.loop-i.made (map g.A.Firing.cell c.loop-i.cells) c.loop-i.invariant low
    (mark_at c.args.marks.now c.loop-i.i _ true low_mark c.if-marks-i.true)

pub burst_cell-one-requires-clause-may : goal.burst_cell-one-requires-clause-may
burst_cell-one-requires-clause-may g c =
    let old = map g.A.Firing.cell c.args.cells.now in
    let low : c.loop-i.i < length old = omega (arith, c.loop-i-test.true, length-map c.args.cells.now g.A.Firing.cell) in
    let low_mark : c.loop-i.i < length c.args.marks.now = omega (arith, low, c.requires.part.marked) in
    let low_row : c.loop-i.i < length c.args.rooms.now = omega (arith, low, c.requires.part.roomy, length-map c.args.rooms.now vec_items) in
    part_may c.args.shares c.requires.shares c.args.part c.args.marks.now (map vec_items c.args.rooms.now) old c.requires.part c.loop-i.i c.loop-i.k c.loop-i.made (map g.A.Firing.cell c.loop-i.cells) c.loop-i.invariant low
    (mark_at c.args.marks.now c.loop-i.i _ true low_mark c.if-marks-i.true) c.deref.result.now (row_at vec_items c.args.rooms.now c.loop-i.i c.index-rooms-i.result c.deref.result.now low_row c.index-rooms-i.is c.deref.ensures.value)
    c.split_budget-limit.result c.split_budget-limit.ensures.allowed

pub burst_cell-one-requires-clause-rooms : goal.burst_cell-one-requires-clause-rooms
burst_cell-one-requires-clause-rooms g c =
    let old = map g.A.Firing.cell c.args.cells.now in
    let low : c.loop-i.i < length old = omega (arith, c.loop-i-test.true, length-map c.args.cells.now g.A.Firing.cell) in
    let low_mark : c.loop-i.i < length c.args.marks.now = omega (arith, low, c.requires.part.marked) in
    let low_row : c.loop-i.i < length c.args.rooms.now = omega (arith, low, c.requires.part.roomy, length-map c.args.rooms.now vec_items) in
    part_row c.args.shares c.requires.shares c.args.part c.args.marks.now (map vec_items c.args.rooms.now) old c.requires.part c.loop-i.i c.loop-i.k c.loop-i.made (map g.A.Firing.cell c.loop-i.cells) c.loop-i.invariant low
    (mark_at c.args.marks.now c.loop-i.i _ true low_mark c.if-marks-i.true) c.deref.result.now (row_at vec_items c.args.rooms.now c.loop-i.i c.index-rooms-i.result c.deref.result.now low_row c.index-rooms-i.is c.deref.ensures.value)
    c.split_budget-limit.result c.split_budget-limit.ensures.allowed

pub joined-made-requires : goal.joined-made-requires
joined-made-requires g c =
    let old = map g.A.Firing.cell c.args.cells.now in
    let low : c.loop-i.i < length old = omega (arith, c.loop-i-test.true, length-map c.args.cells.now g.A.Firing.cell) in
    let low_mark : c.loop-i.i < length c.args.marks.now = omega (arith, low, c.requires.part.marked) in
    let low_row : c.loop-i.i < length c.args.rooms.now = omega (arith, low, c.requires.part.roomy, length-map c.args.rooms.now vec_items) in
    record {
      few = part_few c.args.shares c.requires.shares c.args.part c.args.marks.now (map vec_items c.args.rooms.now) old c.requires.part c.loop-i.i c.loop-i.k c.loop-i.made (map g.A.Firing.cell c.loop-i.cells) c.loop-i.invariant low
          (mark_at c.args.marks.now c.loop-i.i _ true low_mark c.if-marks-i.true) c.deref.result.now (row_at vec_items c.args.rooms.now c.loop-i.i c.index-rooms-i.result c.deref.result.now low_row c.index-rooms-i.is c.deref.ensures.value)
          c.split_budget-limit.result c.split_budget-limit.ensures.allowed _ c.burst_cell-one.result (map g.A.Firing.cell c.burst_cell-one.new.cells) c.burst_cell-one.ensures;
    }

pub overflow_add-k : goal.overflow_add-k
overflow_add-k g c =
    let old = map g.A.Firing.cell c.args.cells.now in
    let low : c.loop-i.i < length old = omega (arith, c.loop-i-test.true, length-map c.args.cells.now g.A.Firing.cell) in
    let low_mark : c.loop-i.i < length c.args.marks.now = omega (arith, low, c.requires.part.marked) in
    let among : c.loop-i.k < c.args.shares.picks = part_among c.args.shares c.requires.shares c.args.part c.args.marks.now (map vec_items c.args.rooms.now) old c.requires.part c.loop-i.i c.loop-i.k c.loop-i.made (map g.A.Firing.cell c.loop-i.cells) c.loop-i.invariant low
    (mark_at c.args.marks.now c.loop-i.i _ true low_mark c.if-marks-i.true) in
    omega (arith, among, c.requires.shares.few)

pub loop-i-preserved : goal.loop-i-preserved
loop-i-preserved g c =
    let old = map g.A.Firing.cell c.args.cells.now in
    let now = map g.A.Firing.cell c.loop-i.cells in
    let rows = map vec_items c.args.rooms.now in
    let low : c.loop-i.i < length old = omega (arith, c.loop-i-test.true, length-map c.args.cells.now g.A.Firing.cell) in
    let low_mark : c.loop-i.i < length c.args.marks.now = omega (arith, low, c.requires.part.marked) in
    let low_row : c.loop-i.i < length c.args.rooms.now = omega (arith, low, c.requires.part.roomy, length-map c.args.rooms.now vec_items) in
    elim c.if-marks-i.branch [
      | then-marks-i w ↦
          let next = part_more c.args.shares c.requires.shares c.args.part c.args.marks.now rows old c.requires.part c.loop-i.i c.loop-i.k c.loop-i.made now c.loop-i.invariant low
          (mark_at c.args.marks.now c.loop-i.i _ true low_mark w.if-marks-i.true) w.deref.result.now (row_at vec_items c.args.rooms.now c.loop-i.i w.index-rooms-i.result w.deref.result.now low_row w.index-rooms-i.is w.deref.ensures.value)
          w.split_budget-limit.result w.split_budget-limit.ensures.allowed _ w.burst_cell-one.result (map g.A.Firing.cell w.burst_cell-one.new.cells) w.burst_cell-one.ensures refl w.split_budget-limit.ensures.least in
          subst (λ cs. IsAlone (share_of c.args.shares) c.args.part.cell c.args.part.before c.args.marks.now rows old (c.loop-i.i + 1) c.if-marks-i.k c.if-marks-i.made (map g.A.Firing.cell cs)) (sym w.cells-is)
          (subst (λ m. IsAlone (share_of c.args.shares) c.args.part.cell c.args.part.before c.args.marks.now rows old (c.loop-i.i + 1) c.if-marks-i.k m (map g.A.Firing.cell w.burst_cell-one.new.cells)) (sym (w.made-is ∙ w.joined-made.ensures))
          (subst (λ n. IsAlone (share_of c.args.shares) c.args.part.cell c.args.part.before c.args.marks.now rows old (c.loop-i.i + 1) n (joined c.loop-i.made w.burst_cell-one.result) (map g.A.Firing.cell w.burst_cell-one.new.cells)) (sym w.k-is) next))
      | else-marks-i w ↦
          let next = part_stays c.args.shares c.requires.shares c.args.part c.args.marks.now rows old c.requires.part c.loop-i.i c.loop-i.k c.loop-i.made now c.loop-i.invariant low
          (mark_at c.args.marks.now c.loop-i.i _ false low_mark w.if-marks-i.false) in
          subst (λ cs. IsAlone (share_of c.args.shares) c.args.part.cell c.args.part.before c.args.marks.now rows old (c.loop-i.i + 1) c.if-marks-i.k c.if-marks-i.made (map g.A.Firing.cell cs)) (sym w.cells-is)
          (subst (λ m. IsAlone (share_of c.args.shares) c.args.part.cell c.args.part.before c.args.marks.now rows old (c.loop-i.i + 1) c.if-marks-i.k m now) (sym w.made-is)
          (subst (λ n. IsAlone (share_of c.args.shares) c.args.part.cell c.args.part.before c.args.marks.now rows old (c.loop-i.i + 1) n c.loop-i.made now) (sym w.k-is) next))
    ]

pub returns : goal.returns
returns g c =
    let old = map g.A.Firing.cell c.args.cells.now in
    let all : length old ≤ c.loop-i.i = omega (arith, c.loop-i-test.false, length-map c.args.cells.now g.A.Firing.cell) in
    record {
      each = alone_all (share_of c.args.shares) c.args.part.cell c.args.part.before c.args.marks.now (map vec_items c.args.rooms.now) old c.loop-i.i c.loop-i.k c.loop-i.made (map g.A.Firing.cell c.loop-i.cells) c.loop-i.invariant c.requires.part.marked c.requires.part.roomy all;
      few = alone_few_all (share_of c.args.shares) c.args.part.cell c.args.part.before c.args.marks.now (map vec_items c.args.rooms.now) old c.loop-i.i c.loop-i.k c.loop-i.made (map g.A.Firing.cell c.loop-i.cells) c.loop-i.invariant c.requires.part.marked all;
    }
