use Rattle.std.proofs.Common.{◌≡◌, ◌+◌, length, take, true, false, sym, ap, refl, ◌∙◌, arith}
use Rattle.net_model.specs.Paced.{count_picked}
use Rattle.net_state.proofs.Alone.{mark_at, marks_all, marks_more, marks_same}
use Rattle.net_state.proofs.sharing.place_behind.Goals as goal
use Rattle.net_state.proofs.sharing.place_behind.Goals.{then-marks-k, else-marks-k}

pub loop-k-init : goal.loop-k-init
loop-k-init c = (refl, omega arith)

pub returns-then-seen-picks-clause-picks : goal.returns-then-seen-picks-clause-picks
returns-then-seen-picks-clause-picks c = sym c.loop-k.invariant.0 ∙ c.if-seen-picks.true

pub overflow_add-seen : goal.overflow_add-seen
overflow_add-seen c = omega (arith, c.loop-k.invariant.1, c.if-seen-picks.false, c.ranges.picks.fits)

pub loop-k-preserved : goal.loop-k-preserved
loop-k-preserved c = elim c.if-marks-k.branch [
  | then-marks-k w ↦ (
    w.seen-is ∙ (ap (λ n. n + 1) c.loop-k.invariant.0 ∙ sym (marks_more c.args.marks.now c.loop-k.k (mark_at c.args.marks.now c.loop-k.k _ true c.loop-k-test.true w.if-marks-k.true))),
    omega (arith, w.seen-is, c.loop-k.invariant.1, c.if-seen-picks.false),
  )
  | else-marks-k w ↦ (
    w.seen-is ∙ (c.loop-k.invariant.0 ∙ sym (marks_same c.args.marks.now c.loop-k.k (mark_at c.args.marks.now c.loop-k.k _ false c.loop-k-test.true w.if-marks-k.false))),
    omega (arith, w.seen-is, c.loop-k.invariant.1),
  )
]

pub returns-clause-picks : goal.returns-clause-picks
returns-clause-picks c =
    let all : count_picked (take c.loop-k.k c.args.marks.now) ≡ count_picked c.args.marks.now = marks_all c.args.marks.now c.loop-k.k (omega (arith, c.loop-k-test.false)) in
    let e : count_picked c.args.marks.now ≡ c.args.picks = omega (arith, all, c.loop-k.invariant.0, c.loop-k.invariant.1, c.requires.there) in
    marks_all c.args.marks.now (length c.args.marks.now) (omega arith) ∙ e
