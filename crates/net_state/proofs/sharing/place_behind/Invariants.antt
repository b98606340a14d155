use Rattle.std.specs.Prelude.{◌≡◌, ◌≤◌, take}
use Rattle.net_model.specs.Paced.{count_picked}
use Rattle.net_state.proofs.sharing.place_behind.Given as goal

abbrev pub invariant-loop-k : goal.invariant-loop-k
invariant-loop-k l = (l.seen ≡ count_picked (take l.k l.marks)) × (l.seen ≤ l.picks)
