use Rattle.cmd_gen.proofs.Numerals.{not_parsed, parsed}
use Rattle.cmd_gen.proofs.making.instances_of.Goals as goal

pub unreachable-requires : goal.unreachable-requires
unreachable-requires c = not_parsed c.args.top.now c.in-Err.ensures.value.0 c.requires

pub returns-clause-number : goal.returns-clause-number
returns-clause-number c = (parsed c.args.top.now c.in-Ok.number c.in-Ok.ensures.value.0 c.requires).0

pub returns-clause-some : goal.returns-clause-some
returns-clause-some c = (parsed c.args.top.now c.in-Ok.number c.in-Ok.ensures.value.0 c.requires).1
