use Rattle.check_actor.proofs.heading.header_told.Goals as goal

pub returns-in-Err : goal.returns-in-Err
returns-in-Err c = (c.in-Err.fault, c.said_first.ensures, c.in-Err.ensures)
