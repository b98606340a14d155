use Rattle.std.proofs.Common.{length}
use Rattle.network_runner.proofs.Parted.{going_still, parts_still}
use Rattle.network_runner.proofs.runner.Runner.note.Goals as goal

pub invariant_of-self : goal.invariant_of-self
invariant_of-self g c = (
  parts_still c.self.inside.net c.self.inside.ins.items c.self.inside.open_ins.items c.self.inside.outlets.items c.self.inside.readers.items (g.P.Policy.kind c.self.inside.policy) c.self.inside.plan c.self.inside.idle c.self.inside.trace c.note_round.new.trace
      c.self.inside.writers.items c.self.inside.writers.items c.self.inside.counts c.self.inside.ended c.self.inside.ended c.self.inside.links.items (length c.self.inside.came.items) (length c.self.inside.writers.items) c.self.inside.cells
      c.self.invariant.0,
  λ going. going_still c.self.inside.net c.self.inside.ins.items c.self.inside.open_ins.items c.self.inside.outlets.items c.self.inside.readers.items (g.P.Policy.kind c.self.inside.policy) c.self.inside.plan c.self.inside.idle c.self.inside.trace c.note_round.new.trace
      c.self.inside.writers.items c.self.inside.writers.items c.self.inside.counts c.self.inside.ended c.self.inside.ended g.A.Firing.cell (length c.self.inside.marks.items) (g.P.Policy.rounds c.self.inside.policy) (g.P.Policy.instances c.self.inside.policy)
      (c.self.invariant.1 going),
)
