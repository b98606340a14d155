use Rattle.net_state.specs.Held.{seen}
use Rattle.net_state.proofs.Surveying.{IsSurvey}
use Rattle.net_state.proofs.network.NetState.survey.Given as goal

abbrev pub invariant-loop-k : goal.invariant-loop-k
invariant-loop-k g l = IsSurvey l.k l.found (seen g.A.Firing.cell l.initial.self) (seen g.A.Firing.cell l.self)
