use Rattle.check_actor.proofs.own.said_behind.Goals as goal

pub returns : goal.returns
returns c = (c.heads_first.result, c.heads_first.ensures, c.functions_first.ensures)
