use Rattle.std.proofs.Common.{subst}
use Rattle.lowered_actor.specs.Facts.{IsLowered}
use Rattle.actor_cell.specs.View.{core_of}
use Rattle.actor_cell.specs.Core.{Core}
use Rattle.actor_cell.proofs.Asking.{unexposed-still, asked-still}
use Rattle.actor_cell.proofs.cell.Cell.ask.Goals as goal

pub returns-then-not-is_exposed-clause-asked : goal.returns-then-not-is_exposed-clause-asked
returns-then-not-is_exposed-clause-asked c =
    let core : Core = record (core_of c.self.inside) { cells = c.is_exposed.new.cells } in
    unexposed-still core c.deref-4.result.now c.deref-4.ensures c.deref-3.result.now c.deref-3.ensures.value c.self.inside.cells c.args.a c.is_exposed.result
    c.is_exposed.ensures.exposed c.if-not-is_exposed.true c.is_exposed.ensures.keeps

pub returns-clause-asked : goal.returns-clause-asked
returns-clause-asked c =
    let core : Core = record (core_of c.self.inside) { cells = c.readiness.new.cells } in
    asked-still core c.deref-4.result.now c.deref-5.result.now c.deref-4.ensures c.deref-5.ensures c.deref-3.result.now c.deref-3.ensures.value
    c.self.inside.cells c.is_exposed.new.cells (subst IsLowered c.deref.ensures c.code-code.ensures.facts) c.self.invariant.state
    c.runs_are_the_meaning.ensures.asked c.runs_are_the_meaning.ensures.firings c.has_one_end.ensures.ends c.args.a c.is_exposed.result
    c.is_exposed.ensures.exposed c.if-not-is_exposed.false c.is_exposed.ensures.keeps c.readiness.result c.readiness.ensures.says c.readiness.ensures.keeps
