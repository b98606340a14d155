use Rattle.std.proofs.Common.{ℕ, ◌<◌, map}
use Rattle.std.specs.Prelude.{slice_get}
use Rattle.net_model.specs.TableActor.{row_of, takes_of}
use Rattle.net_model.proofs.firing.tests.TableCell.selected.Given as goal

abbrev pub invariant-loop-a : goal.invariant-loop-a
invariant-loop-a l = (b : ℕ) → b < l.a → l.waiting < takes_of (slice_get (map row_of l.self.rows) b)
