use Rattle.priority_order.specs.Ranking.{Above}
use Rattle.priority_order.proofs.Lines.{line_distinct}
use Rattle.priority_order.proofs.order.Order.line.Goals as goal

pub returns-clause-each : goal.returns-clause-each
returns-clause-each c = rw (← c.self.view_is, c.as_slice.ensures.value) c.self.invariant.lined.each

pub returns-clause-once : goal.returns-clause-once
returns-clause-once c =
    let inside = c.self.inside in
    rw c.as_slice.ensures.value (line_distinct inside.count (Above inside.count inside.cells.items) inside.line.items c.self.invariant.lined.next)

pub returns-clause-least : goal.returns-clause-least
returns-clause-least c = rw (← c.self.view_is, c.as_slice.ensures.value) c.self.invariant.lined
