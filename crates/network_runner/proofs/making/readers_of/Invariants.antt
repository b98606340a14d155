use Rattle.std.specs.Prelude.{take}
use Rattle.network_runner.specs.Making.{AreReadersOf}
use Rattle.network_runner.proofs.making.readers_of.Given as goal

abbrev pub invariant-loop-l : goal.invariant-loop-l
invariant-loop-l l = AreReadersOf l.ins l.open_ins (take l.l l.links) l.readers.items
