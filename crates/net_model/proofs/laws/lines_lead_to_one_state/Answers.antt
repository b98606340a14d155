use Rattle.net_model.proofs.Lines.{plays_to_one}
use Rattle.net_model.proofs.laws.lines_lead_to_one_state.Goals as goal

pub returns : goal.returns
returns g c = plays_to_one
