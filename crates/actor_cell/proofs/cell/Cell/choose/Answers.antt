use Rattle.lowered_actor.specs.Meaning.{choice}
use Rattle.guard_select.specs.Selecting.{chosen_of}
use Rattle.actor_cell.proofs.Asking.{still}
use Rattle.actor_cell.proofs.cell.Cell.choose.Goals as goal

pub returns-clause-choice : goal.returns-clause-choice
returns-clause-choice c = still choice c.deref-2.result.now c.self.inside.code.value c.deref-2.ensures c.deref.result.now c.self.inside.inboxes.items c.deref.ensures.value
    c.self.inside.state c.self.inside.cells c.select.new.cells (chosen_of c.select.result) c.select.ensures.choice c.select.ensures.keeps
