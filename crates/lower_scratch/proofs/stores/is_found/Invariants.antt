use Rattle.std.proofs.Common.{◌≡◌, drop}
use Rattle.lowered_actor.specs.Straight.{is_saved}
use Rattle.lower_scratch.proofs.stores.is_found.Given as goal

abbrev pub invariant-loop-one : goal.invariant-loop-one
invariant-loop-one l = is_saved l.saved l.cell ≡ is_saved (drop l.one-index l.saved) l.cell
