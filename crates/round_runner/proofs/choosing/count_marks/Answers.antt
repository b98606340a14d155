use Rattle.std.proofs.Common.{suc, ◌≡◌, ◌<◌, ◌+◌, ◌≤◌, true, false, length, take, ap, sym, ◌∙◌, arith}
use Rattle.net_model.specs.Paced.{count_picked}
use Rattle.round_runner.proofs.Marks.{few_marked, take_all}
use Rattle.round_runner.proofs.UpTo.{at_mark, picked_among, picked_before, picked_more, picked_same}
use Rattle.round_runner.proofs.choosing.count_marks.Goals as goal
use Rattle.round_runner.proofs.choosing.count_marks.Goals.{then-marks-k, else-marks-k}

pub overflow_add-count : goal.overflow_add-count
overflow_add-count c =
    let low : c.loop-k.k < length c.args.marks.now = c.loop-k-test.true in
    let among : picked_before c.args.marks.now c.loop-k.k < count_picked c.args.marks.now = picked_among c.args.marks.now c.loop-k.k (at_mark c.args.marks.now c.loop-k.k _ true low c.if-marks-k.true) in
    let few : count_picked c.args.marks.now ≤ length c.args.marks.now = few_marked c.args.marks.now in
    omega (arith, among, few, c.loop-k.invariant, c.requires.few)

pub loop-k-preserved : goal.loop-k-preserved
loop-k-preserved c =
    let low : c.loop-k.k < length c.args.marks.now = c.loop-k-test.true in
    let e : suc c.loop-k.k ≡ c.loop-k.k + 1 = omega arith in
    elim c.if-marks-k.branch [
      | then-marks-k w ↦
          let more : picked_before c.args.marks.now (suc c.loop-k.k) ≡ picked_before c.args.marks.now c.loop-k.k + 1 = picked_more c.args.marks.now c.loop-k.k (at_mark c.args.marks.now c.loop-k.k _ true low w.if-marks-k.true) in
          w.count-is ∙ (ap (λ n. n + 1) c.loop-k.invariant ∙ (sym more ∙ ap (picked_before c.args.marks.now) e))
      | else-marks-k w ↦
          let more : picked_before c.args.marks.now (suc c.loop-k.k) ≡ picked_before c.args.marks.now c.loop-k.k = picked_same c.args.marks.now c.loop-k.k (at_mark c.args.marks.now c.loop-k.k _ false low w.if-marks-k.false) in
          w.count-is ∙ (c.loop-k.invariant ∙ (sym more ∙ ap (picked_before c.args.marks.now) e))
    ]

pub returns-clause-count : goal.returns-clause-count
returns-clause-count c =
    c.loop-k.invariant ∙ ap count_picked (take_all c.args.marks.now c.loop-k.k (omega (arith, c.loop-k-test.false)))

pub returns-clause-most : goal.returns-clause-most
returns-clause-most c =
    let all : take c.loop-k.k c.args.marks.now ≡ c.args.marks.now = take_all c.args.marks.now c.loop-k.k (omega (arith, c.loop-k-test.false)) in
    let count : c.loop-k.count ≡ count_picked c.args.marks.now = c.loop-k.invariant ∙ ap count_picked all in
    let few : count_picked c.args.marks.now ≤ length c.args.marks.now = few_marked c.args.marks.now in
    omega (arith, count, few)
