use Rattle.cmd_certify.proofs.Leaves.{verdict}
use Rattle.cmd_certify.proofs.judging.judge_leaves.Goals as goal

pub returns : goal.returns
returns c =
    verdict c.args.found.now c.as_slice.result.now c.as_slice-places.result.now c.in_ok-all.all.items c.as_slice-2.result.now c.as_slice-3.result.now
    c.count_certified.result c.status_of_leaves.result c.as_slice.ensures.value c.as_slice-places.ensures.value c.as_slice-2.ensures.value c.as_slice-3.ensures.value
    c.in_ok-all.ensures.judged c.in_ok-all.ensures.many c.requires.within c.count_certified.ensures c.status_of_leaves.ensures
