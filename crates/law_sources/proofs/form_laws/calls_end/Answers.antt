use Rattle.law_sources.proofs.Ends as ends
use Rattle.law_sources.proofs.form_laws.calls_end.Goals as goal

pub returns : goal.returns
returns c = ends.calls_end
