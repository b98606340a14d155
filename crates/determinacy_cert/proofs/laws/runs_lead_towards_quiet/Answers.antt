use Rattle.determinacy_cert.proofs.Theorems.{firings_are_prefixes, sent_are_prefixes}
use Rattle.determinacy_cert.proofs.laws.runs_lead_towards_quiet.Goals as goal

pub returns-clause-firings : goal.returns-clause-firings
returns-clause-firings g c = firings_are_prefixes

pub returns-clause-sent : goal.returns-clause-sent
returns-clause-sent g c = sent_are_prefixes
