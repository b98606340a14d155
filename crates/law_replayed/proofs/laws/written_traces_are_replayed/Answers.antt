use Rattle.law_replayed.proofs.Again.{are_replayed}
use Rattle.law_replayed.proofs.laws.written_traces_are_replayed.Goals as goal

pub returns : goal.returns
returns c = are_replayed c.written_texts_are_traces.ensures.not_refused
