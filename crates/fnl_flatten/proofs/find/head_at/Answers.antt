use Rattle.fnl_flatten.proofs.Lookups.{few_ends}
use Rattle.fnl_flatten.proofs.find.head_at.Goals as goal

pub returns-clause-few : goal.returns-clause-few
returns-clause-few c = few_ends c.args.heads.now c.args.leaf c.nth_head.result c.nth_head.ensures c.requires.each_head
