use Rattle.net_state.specs.Reopening.{IsReopening}
use Rattle.net_state.proofs.reopening.open_again.Given as goal

abbrev pub invariant-loop-l : goal.invariant-loop-l
invariant-loop-l g l = IsReopening l.l l.noted l.capacities l.initial.waited l.waited
