use Rattle.std.proofs.Common.{suc, ◌≡◌, ◌+◌, true, false, take, sym, subst, arith}
use Rattle.net_model.specs.Paced.{none_of}
use Rattle.round_runner.proofs.Marks.{none_more, some_marked}
use Rattle.round_runner.proofs.UpTo.{at_mark}
use Rattle.round_runner.proofs.choosing.picks_none.Goals as goal

pub returns-then-marks-k : goal.returns-then-marks-k
returns-then-marks-k c = sym (some_marked c.args.marks.now c.loop-k.k (at_mark c.args.marks.now c.loop-k.k _ true c.loop-k-test.true c.if-marks-k.true))

pub loop-k-preserved : goal.loop-k-preserved
loop-k-preserved c =
    subst (λ n. none_of (take n c.args.marks.now) ≡ true) (let e : suc c.loop-k.k ≡ c.loop-k.k + 1 = omega arith in e)
    (none_more c.args.marks.now c.loop-k.k c.loop-k.invariant (at_mark c.args.marks.now c.loop-k.k _ false c.loop-k-test.true c.if-marks-k.false))
